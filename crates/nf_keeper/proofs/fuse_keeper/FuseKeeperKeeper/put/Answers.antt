use Rattle.std.proofs.Common.{ap}
use Rattle.nf_keeper.specs.FuseKeeper.{inner_of}
use Rattle.nf_keeper.proofs.Images.{failed_put}
use Rattle.nf_keeper.proofs.fuse_keeper.FuseKeeperKeeper.put.Goals as goal

pub returns-then-self-eq0-clause-content : goal.returns-then-self-eq0-clause-content
returns-then-self-eq0-clause-content g c = rw (ap inner_of c.fail.ensures.counted) (failed_put _ _ c.args.key.now.0 c.args.bytes.now _ c.put_front.ensures.content)
