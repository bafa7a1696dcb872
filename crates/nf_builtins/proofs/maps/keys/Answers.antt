use Rattle.std.proofs.Common.{◌∙◌}
use Rattle.nf_builtins.proofs.Entries.{keys_done}
use Rattle.nf_builtins.proofs.maps.keys.Goals as goal

pub returns : goal.returns
returns c = keys_done c.of.result c.items-key-items.result.now c.args.pairs.now c.loop-key.key-index (c.of.ensures ∙ c.loop-key.invariant) c.loop-key-test.false c.items-key-items.ensures.items
