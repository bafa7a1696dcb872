use Rattle.nf_published.proofs.Meant.{as_meant}
use Rattle.nf_published.proofs.laws.published_as_meant.Goals as goal

pub returns : goal.returns
returns c = as_meant
