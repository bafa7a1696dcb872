use Rattle.std.proofs.Common.{◌∙◌, rules}
use Rattle.nf_opjoin.proofs.Splitting.{key_taken, rest_taken}
use Rattle.nf_opjoin.proofs.keyed.split_list.Goals as goal

pub returns : goal.returns
returns c = (
  key_taken c.into_items-items.result.items c.args.list c.args.place c.remove-key.result c.into_items-items.ensures (search rules) c.remove-key.ensures.value,
  c.of-2.ensures ∙ rest_taken c.into_items-items.result.items c.remove-key.new.self.items c.args.list c.args.place c.into_items-items.ensures c.remove-key.ensures.items,
)
