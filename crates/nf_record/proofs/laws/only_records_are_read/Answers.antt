use Rattle.nf_record.proofs.Exact.{record_only}
use Rattle.nf_record.proofs.laws.only_records_are_read.Goals as goal

pub returns : goal.returns
returns c = record_only c.only_codes_are_read.ensures
