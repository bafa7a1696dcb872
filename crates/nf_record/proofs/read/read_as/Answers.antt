use Rattle.nf_record.proofs.Missing.{none_read, value_read}
use Rattle.nf_record.proofs.read.read_as.Goals as goal

pub returns-in_default : goal.returns-in_default
returns-in_default c = none_read c.args.bytes.now _ c.in_default.is c.in_ok-value.ensures

pub returns : goal.returns
returns c = value_read c.args.bytes.now _ c.in-Some.value _ c.in-Some.is c.in_ok-value.ensures c.record_from.ensures
