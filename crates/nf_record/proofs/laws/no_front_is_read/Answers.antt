use Rattle.nf_record.proofs.Fronts.{no_front_read}
use Rattle.nf_record.proofs.laws.no_front_is_read.Goals as goal

pub returns : goal.returns
returns c = no_front_read c.no_front_is_a_record.ensures c.only_records_are_read.ensures
