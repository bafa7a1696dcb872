use Rattle.std.proofs.Common.{arith}
use Rattle.nf_codec.specs.Reading.{read}
use Rattle.nf_record.proofs.Missing.{not_whole}
use Rattle.nf_record.proofs.read.whole_value.Goals as goal

pub returns-else-len-bytes : goal.returns-else-len-bytes
returns-else-len-bytes c = not_whole c.args.bytes.now (read 64 c.args.bytes.now) _ c.in-Ok.ensures.reads (λ e. omega (arith, e))
