use Rattle.std.proofs.Common.{take}
use Rattle.nf_known.specs.Patterns.{HasTexts}
use Rattle.nf_meaning.specs.Functions as spec
use Rattle.nf_library.specs.Stages.{defined_by}
use Rattle.nf_library.proofs.order.names_of.Given as goal

abbrev pub invariant-loop-one : goal.invariant-loop-one
invariant-loop-one l = HasTexts l.names.keys (spec.names_of (defined_by (take l.one-index l.all)))
