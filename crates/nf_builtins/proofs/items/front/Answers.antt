use Rattle.std.proofs.Common.{◌∙◌, rules}
use Rattle.nf_builtins.proofs.Values.{front_of}
use Rattle.nf_builtins.proofs.items.front.Goals as goal

pub returns : goal.returns
returns c = front_of c.items-items.result.now c.args.list.now c.of.result c.args.count c.min-count.result c.items-items.ensures (search rules) (c.of.ensures ∙ c.in_ok-copies.ensures)
