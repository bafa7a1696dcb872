-- What an operator gives meets the promises of a push and a close.
use Rattle.std.proofs.Common.{◌≡◌, ℕ, List, [], ◌∷◌, ap, sym, ◌∙◌, subst}
use Rattle.std.specs.Prelude.{Option, Some, None, Result, Ok, Err, MatchResult, IfSome}
use Rattle.nf_value.specs.Plain.{Plain}
use Rattle.nf_value.specs.declared.value.Value.{Value}
use Rattle.nf_bag.specs.declared.fault.OpFault.{OpFault}
use Rattle.nf_opstream.specs.Push.{Push}
use Rattle.nf_opstream.specs.Fault.{Fault, fault_of}
use Rattle.nf_opstream.specs.Operator.{Operator, AreFine, IsOperator}
use Rattle.nf_opstream.specs.Promise.{emits_of, IsFault, HasEmitted, HasFaulted, HasEnded, HasBroken, PushRefused, CloseRefused}
use Rattle.nf_opstream.specs.Alone.{judged}
use Rattle.nf_opstream.specs.Rows.{pass_row}

-- what the laws of the operators say of any of them
abbrev pub Emits : Type 0
Emits = (op : Operator) → IsOperator op → (p : List Push) → AreFine op p → (x : Push) → (es : List (ℕ × Plain)) → op.gives p x ≡ Ok es → HasEmitted op p x es

abbrev pub Faults : Type 0
Faults = (op : Operator) → IsOperator op → (p : List Push) → AreFine op p → (x : Push) → (f : Fault) → op.gives p x ≡ Err f → HasFaulted op p x f

abbrev pub Ends : Type 0
Ends = (op : Operator) → IsOperator op → (p : List Push) → AreFine op p → (es : List (ℕ × Plain)) → op.ends p ≡ Ok es → HasEnded op p es

abbrev pub Breaks : Type 0
Breaks = (op : Operator) → IsOperator op → (p : List Push) → AreFine op p → (f : Fault) → op.ends p ≡ Err f → HasBroken op p f

-- an answer is this value, to the first output, or that it is too deep
abbrev pub IsDue : {T : Type 0} → (T → List (ℕ × Value)) → Result T OpFault → Result (List (ℕ × Plain)) Fault → Type 0
IsDue items r due = MatchResult r (λ t. due ≡ Ok (emits_of (items t))) (IsFault due)

refused : (op : Operator) → IsOperator op → Faults → (p : List Push) → AreFine op p → (x : Push) (f : Option Fault) → IfSome f (λ g. op.gives p x ≡ Err g) → IfSome f (HasFaulted op p x)
refused op law faults p fine x None h = tt
refused op law faults p fine x (Some g) h = faults op law p fine x g h

-- the answer of a push
pub answered : {T : Type 0} (items : T → List (ℕ × Value)) (op : Operator) → IsOperator op → Emits → Faults → (p : List Push) → AreFine op p → (x : Push) (r : Result T OpFault)
    → IsDue items r (op.gives p x) → MatchResult r (λ t. HasEmitted op p x (emits_of (items t))) (PushRefused op p x)
answered items op law emits faults p fine x (Ok t) h = emits op law p fine x (emits_of (items t)) h
answered items op law emits faults p fine x (Err f) h = refused op law faults p fine x (fault_of f) h

broken : (op : Operator) → IsOperator op → Breaks → (p : List Push) → AreFine op p → (f : Option Fault) → IfSome f (λ g. op.ends p ≡ Err g) → IfSome f (HasBroken op p)
broken op law breaks p fine None h = tt
broken op law breaks p fine (Some g) h = breaks op law p fine g h

-- the answer of a close
pub ended : {T : Type 0} (items : T → List (ℕ × Value)) (op : Operator) → IsOperator op → Ends → Breaks → (p : List Push) → AreFine op p → (r : Result T OpFault) → IsDue items r (op.ends p)
    → MatchResult r (λ t. HasEnded op p (emits_of (items t))) (CloseRefused op p)
ended items op law ends breaks p fine (Ok t) h = ends op law p fine (emits_of (items t)) h
ended items op law ends breaks p fine (Err f) h = broken op law breaks p fine (fault_of f) h

-- a close that emits these
pub ends_with : (op : Operator) → IsOperator op → Ends → (p : List Push) → AreFine op p → (es : List (ℕ × Value)) (vs : List (ℕ × Plain)) → emits_of es ≡ vs → op.ends p ≡ Ok vs → HasEnded op p (emits_of es)
ends_with op law ends p fine es vs same e = ends op law p fine (emits_of es) (e ∙ ap Ok (sym same))

-- the same for an equal answer
pub due_alike : {T : Type 0} (items : T → List (ℕ × Value)) {given due : Result (List (ℕ × Plain)) Fault} → given ≡ due → (r : Result T OpFault) → IsDue items r given → IsDue items r due
due_alike items e r h = subst (λ d. IsDue items r d) e h

deep : (x : Push) (f : Option Fault) → IfSome f (HasFaulted pass_row [] x) → IfSome f (λ g. judged ((0, x.item) ∷ []) ≡ Err g)
deep x None h = tt
deep x (Some g) h = h.gives

-- what `view` gives for its first item
pub passed : {T : Type 0} (items : T → List (ℕ × Value)) (x : Push) (r : Result T OpFault) → MatchResult r (λ t. HasEmitted pass_row [] x (emits_of (items t))) (PushRefused pass_row [] x) → IsDue items r (judged ((0, x.item) ∷ []))
passed items x (Ok t) h = h.gives
passed items x (Err f) h = deep x (fault_of f) h
