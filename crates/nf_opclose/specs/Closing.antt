-- Operators that answer when their input ends.
use Rattle.std.specs.Prelude.{ℕ, List, [], ◌∷◌, ◌++◌, Result, Ok}
use Rattle.std.specs.List.{flat_map}
use Rattle.nf_value.specs.Plain.{Plain}
use Rattle.nf_opstream.specs.Push.{Push}
use Rattle.nf_opstream.specs.Fault.{Fault}
use Rattle.nf_opstream.specs.Operator.{Operator, to_out, oks, errs}
use Rattle.nf_opstream.specs.Alone.{judged}

-- the operator whose answer to a push depends on that push alone, and whose close depends on the whole input
abbrev pub closing : (Push → Result (List (ℕ × Plain)) Fault) → (List Push → Result (List (ℕ × Plain)) Fault) → Operator
closing f g = record {
  items = λ q out. flat_map (λ x. to_out out (oks (f x))) q ++ to_out out (oks (g q));
  faults = λ q. flat_map (λ x. errs (f x)) q ++ errs (g q);
  gives = λ p x. f x;
  ends = g;
}

-- emits nothing for a push
abbrev pub silent : Push → Result (List (ℕ × Plain)) Fault
silent x = Ok []

-- this value to the first output, if it isn't too deep
abbrev pub single : Plain → Result (List (ℕ × Plain)) Fault
single v = judged ((0, v) ∷ [])
