-- What a push gives, and the state that it leaves.
use Rattle.std.proofs.Common.{ℕ, List}
use Rattle.std.specs.Prelude.{Result, Ok, Err, MatchResult, OnOk}
use Rattle.std.specs.Global.{Vec}
use Rattle.nf_value.specs.declared.value.Value.{Value}
use Rattle.nf_bag.specs.declared.fault.OpFault.{OpFault}
use Rattle.nf_opstream.specs.Push.{Push}
use Rattle.nf_opstream.specs.Operator.{Operator}
use Rattle.nf_opstream.specs.Promise.{emits_of, HasEmitted, PushRefused}
use Rattle.nf_operator.specs.Kept.{Goes, GoesOnBy}
use Rattle.nf_operator.specs.Row.{operator_of}
use Rattle.nf_operator.specs.State.{IsKept, IsNext}
use Rattle.nf_operator.specs.declared.state.OpState.{OpState}

pub emitted : (op : Operator) (p : List Push) (x : Push) (r : Result (Vec (ℕ × Value)) OpFault) (left : Type 0) → Goes op p x r left → MatchResult r (λ es. HasEmitted op p x (emits_of es.items)) (PushRefused op p x)
emitted op p x (Ok es) left h = h.0
emitted op p x (Err f) left h = h

pub next : (s t : OpState) (x : Push) (r : Result (Vec (ℕ × Value)) OpFault) → GoesOnBy IsKept s.kept x r t.kept → OnOk r (IsNext s x t)
next s t x (Ok es) h = λ row opts p after. record { kept = (h (operator_of row opts) p after.kept).1 }
next s t x (Err f) h = tt
