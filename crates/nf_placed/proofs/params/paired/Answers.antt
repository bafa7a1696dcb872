use Rattle.nf_value.specs.View.{pair_of}
use Rattle.std.proofs.Common.{map}
use Rattle.nf_placed.proofs.Naming.{all_named}
use Rattle.nf_placed.proofs.params.paired.Goals as goal

pub returns : goal.returns
returns c = all_named (map pair_of c.loop-i.pairs.items) _ c.args.names.now c.args.args.now c.loop-i.i c.loop-i-test.false c.loop-i.invariant
