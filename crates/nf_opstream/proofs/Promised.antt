-- What an operator gives meets the promises of a push and a close.
use Rattle.std.proofs.Common.{◌≡◌, ℕ, List, [], ◌∷◌, ap, sym, ◌∙◌, ◌++◌, subst}
use Rattle.std.specs.Prelude.{Option, Some, None, Result, Ok, Err, is_ok, IfOk, MatchResult, IfSome}
use Rattle.nf_value.specs.Plain.{Plain}
use Rattle.nf_value.specs.declared.value.Value.{Value}
use Rattle.nf_bag.specs.Bag.{IsSubBag}
use Rattle.nf_bag.specs.declared.fault.OpFault.{OpFault}
use Rattle.nf_opstream.specs.Push.{Push}
use Rattle.nf_opstream.specs.Fault.{Fault, fault_of}
use Rattle.nf_opstream.specs.Operator.{Operator, AreFine, IsOperator, emitted, to_out, oks}
use Rattle.nf_opstream.specs.Promise.{emits_of, IsFault, HasEmitted, HasFaulted, HasEnded, HasBroken, PushRefused, CloseRefused}
use Rattle.nf_opstream.specs.Alone.{judged}
use Rattle.nf_opstream.proofs.Pushes.{input_itself}

fine_push : (op : Operator) (p : List Push) (x : Push) (es : List (ℕ × Plain)) → AreFine op p → op.gives p x ≡ Ok es → AreFine op (x ∷ p)
fine_push op p x es fine e = (ap is_ok e, fine)

pub has_emitted : (op : Operator) → IsOperator op → (p : List Push) → AreFine op p → (x : Push) (es : List (ℕ × Plain)) → op.gives p x ≡ Ok es → HasEmitted op p x es
has_emitted op law p fine x es e = record {
  gives = e;
  fine = fine_push op p x es fine e;
  within = λ q out w. subst (λ r. IsSubBag (emitted op p out ++ to_out out (oks r)) (op.items q out)) e (law.sound (x ∷ p) q out (fine_push op p x es fine e) w);
}

pub has_faulted : (op : Operator) → IsOperator op → (p : List Push) → AreFine op p → (x : Push) (f : Fault) → op.gives p x ≡ Err f → HasFaulted op p x f
has_faulted op law p fine x f h = record { gives = h; due = λ q w. law.push_fault p q x f fine h w }

refused_by : (op : Operator) → IsOperator op → (p : List Push) → AreFine op p → (x : Push) (f : Option Fault) → IfSome f (λ g. op.gives p x ≡ Err g) → IfSome f (HasFaulted op p x)
refused_by op law p fine x None h = tt
refused_by op law p fine x (Some g) h = has_faulted op law p fine x g h

-- the answer of a push
pub answered : {T : Type 0} (items : T → List (ℕ × Value)) (op : Operator) → IsOperator op → (p : List Push) → AreFine op p → (x : Push) (r : Result T OpFault)
    → MatchResult r (λ t. op.gives p x ≡ Ok (emits_of (items t))) (IsFault (op.gives p x)) → MatchResult r (λ t. HasEmitted op p x (emits_of (items t))) (PushRefused op p x)
answered items op law p fine x (Ok t) h = has_emitted op law p fine x (emits_of (items t)) h
answered items op law p fine x (Err f) h = refused_by op law p fine x (fault_of f) h

pub has_ended : (op : Operator) → IsOperator op → (p : List Push) → AreFine op p → (es : List (ℕ × Plain)) → op.ends p ≡ Ok es → HasEnded op p es
has_ended op law p fine es e = record {
  ends = e;
  whole = λ out. law.whole p p es out fine e (input_itself p);
  faultless = law.faultless p p es fine e (input_itself p);
}

pub has_broken : (op : Operator) → IsOperator op → (p : List Push) → AreFine op p → (f : Fault) → op.ends p ≡ Err f → HasBroken op p f
has_broken op law p fine f h = record { ends = h; due = law.close_fault p p f fine h (input_itself p) }

broken_by : (op : Operator) → IsOperator op → (p : List Push) → AreFine op p → (f : Option Fault) → IfSome f (λ g. op.ends p ≡ Err g) → IfSome f (HasBroken op p)
broken_by op law p fine None h = tt
broken_by op law p fine (Some g) h = has_broken op law p fine g h

-- the answer of a close
pub ended : {T : Type 0} (items : T → List (ℕ × Value)) (op : Operator) → IsOperator op → (p : List Push) → AreFine op p → (r : Result T OpFault)
    → MatchResult r (λ t. op.ends p ≡ Ok (emits_of (items t))) (IsFault (op.ends p)) → MatchResult r (λ t. HasEnded op p (emits_of (items t))) (CloseRefused op p)
ended items op law p fine (Ok t) h = has_ended op law p fine (emits_of (items t)) h
ended items op law p fine (Err f) h = broken_by op law p fine (fault_of f) h

-- a push that emits nothing
pub gives_silent : (op : Operator) → IsOperator op → (p : List Push) → AreFine op p → (x : Push) (es : List (ℕ × Value)) → es ≡ [] → op.gives p x ≡ Ok [] → HasEmitted op p x (emits_of es)
gives_silent op law p fine x es none e = has_emitted op law p fine x (emits_of es) (e ∙ ap (λ z. Ok (emits_of z)) (sym none))

-- a close that emits nothing
pub ends_silent : (op : Operator) → IsOperator op → (p : List Push) → AreFine op p → (es : List (ℕ × Value)) → es ≡ [] → op.ends p ≡ Ok [] → HasEnded op p (emits_of es)
ends_silent op law p fine es none e = has_ended op law p fine (emits_of es) (e ∙ ap (λ z. Ok (emits_of z)) (sym none))

-- the same for equal values that are judged
pub judged_alike : {T : Type 0} (items : T → List (ℕ × Value)) {given due : List (ℕ × Plain)} → given ≡ due → (r : Result T OpFault)
    → MatchResult r (λ t. judged given ≡ Ok (emits_of (items t))) (IsFault (judged given)) → MatchResult r (λ t. judged due ≡ Ok (emits_of (items t))) (IsFault (judged due))
judged_alike items e r h = subst (λ es. MatchResult r (λ t. judged es ≡ Ok (emits_of (items t))) (IsFault (judged es))) e h

-- the same for an equal answer
pub due_alike : {T : Type 0} (items : T → List (ℕ × Value)) {given due : Result (List (ℕ × Plain)) Fault} → given ≡ due → (r : Result T OpFault)
    → MatchResult r (λ t. given ≡ Ok (emits_of (items t))) (IsFault given) → MatchResult r (λ t. due ≡ Ok (emits_of (items t))) (IsFault due)
due_alike items e r h = subst (λ d. MatchResult r (λ t. d ≡ Ok (emits_of (items t))) (IsFault d)) e h

-- after a push that had no fault all pushes are fine
pub fine_after : {T : Type 0} (items : T → List (ℕ × Value)) (op : Operator) (p : List Push) (x : Push) (r : Result T OpFault) → MatchResult r (λ t. HasEmitted op p x (emits_of (items t))) (PushRefused op p x) → IfOk r (λ t. AreFine op (x ∷ p))
fine_after items op p x (Ok t) h = h.fine
fine_after items op p x (Err f) h = tt
