use Rattle.std.proofs.Common.{rules}
use Rattle.nf_pairs.proofs.Putting.{put_before, put_here, put_later}
use Rattle.nf_pairs.proofs.put.place_of.Goals as goal

pub returns-in-Less-clause-place : goal.returns-in-Less-clause-place
returns-in-Less-clause-place c = put_before c.args.pairs.now c.loop-i.i c.index-pairs-i.result c.args.key.now c.loop-i-test.true c.index-pairs-i.is (search rules) c.loop-i.invariant

pub returns-in-Equal-clause-place : goal.returns-in-Equal-clause-place
returns-in-Equal-clause-place c = put_here c.args.pairs.now c.loop-i.i c.index-pairs-i.result c.args.key.now c.loop-i-test.true c.index-pairs-i.is (search rules) c.loop-i.invariant

pub loop-i-preserved : goal.loop-i-preserved
loop-i-preserved c = put_later c.args.pairs.now c.loop-i.i c.index-pairs-i.result c.args.key.now c.loop-i-test.true c.index-pairs-i.is (search rules) c.loop-i.invariant
