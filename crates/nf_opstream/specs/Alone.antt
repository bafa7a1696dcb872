-- Operators that look at each item by itself.
use Rattle.std.specs.Prelude.{ℕ, List, [], ◌∷◌, map, filter, Bool, nat_lt, Result, Ok, Err}
use Rattle.std.specs.List.{flat_map}
use Rattle.nf_value.specs.Plain.{Plain}
use Rattle.nf_value.specs.Depth.{depth_of}
use Rattle.nf_opstream.specs.Push.{Push}
use Rattle.nf_opstream.specs.Fault.{Fault, too_deep}
use Rattle.nf_opstream.specs.Operator.{Operator, to_out, oks, errs}

-- no deeper value is emitted
abbrev pub is_too_deep : Plain → Bool
is_too_deep v = nat_lt 64 (depth_of v)

abbrev judged_by : List (ℕ × Plain) → List Plain → Result (List (ℕ × Plain)) Fault
judged_by es [] = Ok es
judged_by es (v ∷ vs) = Err (too_deep v)

-- all of these, or a fault with the first that is too deep
abbrev pub judged : List (ℕ × Plain) → Result (List (ℕ × Plain)) Fault
judged es = judged_by es (filter is_too_deep (map (λ e. e.1) es))

-- the operator whose answer to a push depends on that push alone
abbrev pub each : (Push → Result (List (ℕ × Plain)) Fault) → Operator
each f = record {
  items = λ q out. flat_map (λ x. to_out out (oks (f x))) q;
  faults = λ q. flat_map (λ x. errs (f x)) q;
  gives = λ p x. f x;
  ends = λ p. Ok [];
}

-- the operator that emits these values of each push
abbrev pub alone : (Push → List (ℕ × Plain)) → Operator
alone f = each (λ x. judged (f x))
