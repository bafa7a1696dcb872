use Rattle.std.proofs.Common.{◌∙◌}
use Rattle.nf_builtins.proofs.Entries.{values_done}
use Rattle.nf_builtins.proofs.maps.values_in.Goals as goal

pub returns : goal.returns
returns c = values_done c.of.result c.items-value-items.result.now c.args.pairs.now c.loop-value.value-index (c.of.ensures ∙ c.loop-value.invariant) c.loop-value-test.false c.items-value-items.ensures.items
