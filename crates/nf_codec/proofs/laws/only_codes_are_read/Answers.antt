use Rattle.nf_codec.proofs.Exact.{only_codes}
use Rattle.nf_codec.proofs.laws.only_codes_are_read.Goals as goal

pub returns : goal.returns
returns c = only_codes
