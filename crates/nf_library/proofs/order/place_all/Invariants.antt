use Rattle.std.proofs.Common.{◌≡◌, drop}
use Rattle.nf_eval.specs.Memory.{definitions_of, patterns_of}
use Rattle.nf_known.specs.Patterns.{HasTexts}
use Rattle.nf_meaning.specs.Functions.{names_of}
use Rattle.nf_library.specs.Stages.{added, defined_by}
use Rattle.nf_library.proofs.order.place_all.Given as goal

abbrev pub invariant-loop-one : goal.invariant-loop-one
invariant-loop-one l =
    (added (defined_by (drop l.one-index l.ready)) (definitions_of l.library) ≡ added (defined_by l.ready) (definitions_of l.initial.library))
    × (HasTexts l.initial.placed.keys (names_of (definitions_of l.initial.library)) → HasTexts l.placed.keys (names_of (definitions_of l.library)))
    × (patterns_of l.library ≡ patterns_of l.initial.library)
