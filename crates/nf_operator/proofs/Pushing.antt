-- An answer of a row's state is one of its operator.
use Rattle.std.proofs.Common.{◌≡◌, ℕ, List, ◌∷◌, sym, subst}
use Rattle.std.specs.Prelude.{Result, Ok, Err, MatchResult, IfOk}
use Rattle.std.specs.Global.{Vec}
use Rattle.nf_value.specs.declared.value.Value.{Value}
use Rattle.nf_bag.specs.declared.fault.OpFault.{OpFault}
use Rattle.nf_opstream.specs.Push.{Push}
use Rattle.nf_opstream.specs.Operator.{Operator, AreFine}
use Rattle.nf_opstream.specs.Promise.{emits_of, HasEmitted, HasEnded, PushRefused, CloseRefused}
use Rattle.nf_operator.specs.Kept.{Goes}

-- a push, and what the state keeps after it
pub goes : {A P : Type 0} (op row : Operator) → op ≡ row → (p : List Push) (x : Push) (r : Result (Vec (ℕ × Value)) OpFault)
    → MatchResult r (λ es. HasEmitted row p x (emits_of es.items)) (PushRefused row p x) → IfOk r (λ es. A) → (A → P) → Goes op p x r P
goes op row is p x (Ok es) h k f = (subst (λ o. HasEmitted o p x (emits_of es.items)) (sym is) h, f k)
goes op row is p x (Err e) h k f = subst (λ o. PushRefused o p x e) (sym is) h

-- a push of an operator that keeps nothing
pub goes_alone : (op row : Operator) → op ≡ row → (p : List Push) (x : Push) (r : Result (Vec (ℕ × Value)) OpFault)
    → MatchResult r (λ es. HasEmitted row p x (emits_of es.items)) (PushRefused row p x) → Goes op p x r ((op ≡ row) × AreFine row (x ∷ p))
goes_alone op row is p x (Ok es) h = (subst (λ o. HasEmitted o p x (emits_of es.items)) (sym is) h, (is, h.fine))
goes_alone op row is p x (Err e) h = subst (λ o. PushRefused o p x e) (sym is) h

pub ends : (op row : Operator) → op ≡ row → (p : List Push) (r : Result (Vec (ℕ × Value)) OpFault)
    → MatchResult r (λ es. HasEnded row p (emits_of es.items)) (CloseRefused row p) → MatchResult r (λ es. HasEnded op p (emits_of es.items)) (CloseRefused op p)
ends op row is p (Ok es) h = subst (λ o. HasEnded o p (emits_of es.items)) (sym is) h
ends op row is p (Err e) h = subst (λ o. CloseRefused o p e) (sym is) h
