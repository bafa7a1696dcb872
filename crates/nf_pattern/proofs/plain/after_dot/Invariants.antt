use Rattle.std.proofs.Common.{◌≡◌, ℕ, List, length}
use Rattle.nf_pattern.specs.Glob.{takes_dotted}
use Rattle.nf_pattern.specs.Parts.{characters}
use Rattle.nf_pattern.proofs.plain.after_dot.Given as goal

abbrev pub invariant-loop-symbol : goal.invariant-loop-symbol
invariant-loop-symbol l = (cs : List ℕ) → takes_dotted (characters l.initial.left) cs ≡ takes_dotted (characters l.left) cs

abbrev pub decreases-loop-symbol : goal.decreases-loop-symbol
decreases-loop-symbol l = length (characters l.left)
