use Rattle.nf_steady.proofs.Over.{writes_so}
use Rattle.nf_steady.proofs.laws.writes_as_in_the_world.Goals as goal

pub returns : goal.returns
returns c = λ w F n b h report targets over run ends. writes_so c.well_made.ensures w F n b h over run report targets ends
