use Rattle.nf_record.proofs.Answering.{found_answered}
use Rattle.nf_record.proofs.laws.found_is_answer.Goals as goal

pub returns : goal.returns
returns c = found_answered c.records_read_back.ensures c.only_records_are_read.ensures
