use Rattle.nf_record.proofs.Answering.{own_found}
use Rattle.nf_record.proofs.laws.own_record_is_found.Goals as goal

pub returns : goal.returns
returns c = own_found c.records_read_back.ensures
