use Rattle.std.proofs.Common.{rules}
use Rattle.nf_taken.proofs.Things.{a_channel}
use Rattle.nf_taken.proofs.taken.Taken.and_port.Goals as goal

pub returns-clause-taken : goal.returns-clause-taken
returns-clause-taken c = λ n bags t k is stands. a_channel n bags c.args.self t is _ c.args.port k (search rules) stands
