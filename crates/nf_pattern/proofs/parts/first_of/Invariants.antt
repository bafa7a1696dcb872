use Rattle.std.proofs.Common.{◌≡◌}
use Rattle.nf_pattern.specs.Parts.{characters}
use Rattle.nf_pattern.proofs.parts.first_of.Given as goal

abbrev pub invariant-loop-left : goal.invariant-loop-left
invariant-loop-left l = characters l.initial.left ≡ characters l.left
