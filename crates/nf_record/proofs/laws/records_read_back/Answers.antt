use Rattle.nf_record.proofs.Back.{record_read}
use Rattle.nf_record.proofs.laws.records_read_back.Goals as goal

pub returns : goal.returns
returns c = record_read c.codes_read_back.ensures
