use Rattle.std.proofs.Common.{◌≡◌, ◌++◌, not}
use Rattle.std.specs.List.{filter}
use Rattle.nf_library.specs.Calls.{is_ready}
use Rattle.nf_library.specs.Stages.{defined_by}
use Rattle.nf_library.proofs.order.part_all.Given as goal

abbrev pub invariant-loop-one : goal.invariant-loop-one
invariant-loop-one l =
    (defined_by l.ready.items ++ filter (is_ready l.names.keys l.placed.keys) (defined_by l.one-iterator.rest.items)
    ≡ defined_by l.initial.ready.items ++ filter (is_ready l.names.keys l.placed.keys) (defined_by l.fn.all.items))
    × (defined_by l.rest.items ++ filter (λ d. not (is_ready l.names.keys l.placed.keys d)) (defined_by l.one-iterator.rest.items)
    ≡ defined_by l.initial.rest.items ++ filter (λ d. not (is_ready l.names.keys l.placed.keys d)) (defined_by l.fn.all.items))
