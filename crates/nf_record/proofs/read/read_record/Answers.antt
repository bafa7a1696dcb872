use Rattle.std.proofs.Common.{arith}
use Rattle.nf_record.proofs.Exact.{read_exactly}
use Rattle.nf_record.proofs.read.read_record.Goals as goal

pub returns-clause-exact : goal.returns-clause-exact
returns-clause-exact c = read_exactly c.codes_read_back.ensures c.only_codes_are_read.ensures c.args.bytes.now _ (omega arith) c.in_ok-found.ensures
