use Rattle.std.proofs.Common.{arith}
use Rattle.nf_codec.proofs.Exact.{IsDecoded, decoded, if_ok, every_code}
use Rattle.nf_codec.proofs.read.decode.Goals as goal

pub returns-clause-code : goal.returns-clause-code
returns-clause-code c = if_ok (IsDecoded c.args.bytes.now) _ c.read_value.result (λ q h. h.0) (decoded c.args.bytes.now c.read_value.result (omega arith) c.read_value.ensures)

pub returns-clause-whole : goal.returns-clause-whole
returns-clause-whole c = if_ok (IsDecoded c.args.bytes.now) _ c.read_value.result (λ q h. h.1) (decoded c.args.bytes.now c.read_value.result (omega arith) c.read_value.ensures)

pub returns-clause-depth : goal.returns-clause-depth
returns-clause-depth c = if_ok (IsDecoded c.args.bytes.now) _ c.read_value.result (λ q h. h.2) (decoded c.args.bytes.now c.read_value.result (omega arith) c.read_value.ensures)

pub returns-clause-every : goal.returns-clause-every
returns-clause-every c = every_code c.args.bytes.now c.read_value.result c.read_value.ensures
