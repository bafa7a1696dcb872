use Rattle.std.proofs.Common.{◌≡◌, map, replicate}
use Rattle.nf_value.specs.Plain.{null}
use Rattle.nf_value.specs.View.{plain_of}
use Rattle.nf_placed.proofs.blocks.nulls.Given as goal

abbrev pub invariant-loop : goal.invariant-loop
invariant-loop l = map plain_of l.values.items ≡ replicate l.counter null
