use Rattle.nf_steady.proofs.Stops.{goes_so}
use Rattle.nf_steady.proofs.laws.goes_as_in_the_world.Goals as goal

pub returns : goal.returns
returns c = λ w F n b h r over run comes good. goes_so c.well_made.ensures w F n b h over run good r comes
