use Rattle.std.proofs.Common.{◌+◌, ◌*◌, vec_len}
use Rattle.nf_pool.proofs.fork.+fn-fork-join+arg3+fork.Given as goal

abbrev pub decreases-join+arg3 : goal.decreases-join+arg3
decreases-join+arg3 g l = 2 * vec_len l.lanes + 1

abbrev pub decreases-fork : goal.decreases-fork
decreases-fork g l = 2 * vec_len l.lanes
