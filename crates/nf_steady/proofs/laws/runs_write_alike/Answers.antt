use Rattle.nf_steady.proofs.Over.{write_alike}
use Rattle.nf_steady.proofs.laws.runs_write_alike.Goals as goal

pub returns : goal.returns
returns c = write_alike c.well_made.ensures
