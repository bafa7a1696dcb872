use Rattle.nf_builtins.proofs.Values.{reversed_of}
use Rattle.nf_builtins.proofs.items.reversed.Goals as goal

pub returns : goal.returns
returns c = reversed_of c.items.result.now c.in_ok-items.items.items c.reverse.new.self.items c.args.list.now c.of.result c.items.ensures c.in_ok-items.ensures c.reverse.ensures.items c.of.ensures
