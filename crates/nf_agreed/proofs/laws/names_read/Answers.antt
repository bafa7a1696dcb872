use Rattle.nf_agreed.proofs.Setting.{read_fits}
use Rattle.nf_agreed.proofs.laws.names_read.Goals as goal

pub returns : goal.returns
returns c n t o x fit is = read_fits n t o x fit is
