use Rattle.std.proofs.Common.{◌≡◌, ◌≤◌, ℕ, List, length}
use Rattle.std.specs.Prelude.{Option}
use Rattle.nf_value.specs.Plain.{Plain}
use Rattle.nf_placed.specs.Scope.{function_in}
use Rattle.nf_eval.specs.Evaluation.{functions_of}
use Rattle.nf_eval.specs.Functions.{definitions_in, depths}
use Rattle.nf_eval.proofs.functions.function_named.Given as goal

abbrev pub invariant-loop-left : goal.invariant-loop-left
invariant-loop-left l = record {
  shorter : length l.left ≤ length l.functions;
  lighter : depths l.left ≤ depths l.functions;
  same : (patterns : List (List ℕ)) (titles : List (List ℕ)) (answer : ℕ → List Plain → Option Plain) → function_in l.name (functions_of (definitions_in l.left) patterns titles answer) ≡ function_in l.name (functions_of (definitions_in l.functions) patterns titles answer);
}

abbrev pub decreases-loop-left : goal.decreases-loop-left
decreases-loop-left l = length l.left
