-- The clauses of `push` and `close` of an operator's state.
use Rattle.std.specs.Prelude.{◌≡◌, ℕ, List, [], ◌∷◌, ◌++◌, map, Result, Ok, Err, IfSome}
use Rattle.std.specs.List.{Contains}
use Rattle.nf_value.specs.Plain.{Plain}
use Rattle.nf_value.specs.View.{plain_of}
use Rattle.nf_value.specs.declared.value.Value.{Value}
use Rattle.nf_bag.specs.Bag.{IsSubBag, IsSameBag}
use Rattle.nf_bag.specs.declared.fault.OpFault.{OpFault}
use Rattle.nf_opstream.specs.Push.{Push, IsWithin}
use Rattle.nf_opstream.specs.Fault.{Fault, fault_of}
use Rattle.nf_opstream.specs.Operator.{Operator, to_out, emitted, AreFine}

abbrev pub emit_of : (ℕ × Value) → (ℕ × Plain)
emit_of e = (e.0, plain_of e.1)

abbrev pub emits_of : List (ℕ × Value) → List (ℕ × Plain)
emits_of es = map emit_of es

-- the code's fault is the one that is due; Mem is always allowed
abbrev pub IsFault : Result (List (ℕ × Plain)) Fault → OpFault → Type 0
IsFault due f = IfSome (fault_of f) (λ g. due ≡ Err g)

-- a push gave these emits: they are what the operator gives, and all emits so far are among the items of every input that contains these pushes
pub record HasEmitted (op : Operator) (p : List Push) (x : Push) (es : List (ℕ × Plain)) : Type 0 where
  pub gives : op.gives p x ≡ Ok es
  pub fine : AreFine op (x ∷ p)
  pub within : (q : List Push) (out : ℕ) → IsWithin (x ∷ p) q → IsSubBag (emitted op p out ++ to_out out es) (op.items q out)

-- a push gave this fault: it is what the operator gives, and a fault of every input that contains these pushes
pub record HasFaulted (op : Operator) (p : List Push) (x : Push) (f : Fault) : Type 0 where
  pub gives : op.gives p x ≡ Err f
  pub due : (q : List Push) → IsWithin (x ∷ p) q → Contains (op.faults q) f

-- the close gave these emits: all emits together are the items of the input, which has no fault
pub record HasEnded (op : Operator) (p : List Push) (es : List (ℕ × Plain)) : Type 0 where
  pub ends : op.ends p ≡ Ok es
  pub whole : (out : ℕ) → IsSameBag (emitted op p out ++ to_out out es) (op.items p out)
  pub faultless : op.faults p ≡ []

-- the close gave this fault: it is a fault of the input
pub record HasBroken (op : Operator) (p : List Push) (f : Fault) : Type 0 where
  pub ends : op.ends p ≡ Err f
  pub due : Contains (op.faults p) f

-- the same of the code's fault; Mem promises nothing
abbrev pub PushRefused : Operator → List Push → Push → OpFault → Type 0
PushRefused op p x f = IfSome (fault_of f) (HasFaulted op p x)

abbrev pub CloseRefused : Operator → List Push → OpFault → Type 0
CloseRefused op p f = IfSome (fault_of f) (HasBroken op p)
