use Rattle.nf_record.proofs.Fronts.{no_front}
use Rattle.nf_record.proofs.laws.no_front_is_a_record.Goals as goal

pub returns : goal.returns
returns c = no_front c.codes_differ.ensures
