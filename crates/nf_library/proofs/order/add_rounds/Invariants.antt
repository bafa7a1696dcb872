use Rattle.std.proofs.Common.{◌≡◌, length}
use Rattle.nf_eval.specs.Memory.{patterns_of}
use Rattle.nf_library.specs.Stages.{IsStage, defined_by}
use Rattle.nf_library.proofs.order.add_rounds.Given as goal

abbrev pub invariant-rounds : goal.invariant-rounds
invariant-rounds l =
    IsStage (defined_by l.fn.left.items) l.names.keys l.placed.keys (defined_by l.left.items) l.library × (patterns_of l.library ≡ patterns_of l.initial.library)

abbrev pub decreases-rounds : goal.decreases-rounds
decreases-rounds l = length l.left.items
