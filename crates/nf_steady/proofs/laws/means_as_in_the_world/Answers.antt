use Rattle.nf_steady.proofs.Over.{means_so}
use Rattle.nf_steady.proofs.Parts.{parts_mean}
use Rattle.nf_steady.proofs.laws.means_as_in_the_world.Goals as goal

pub returns-clause-histories : goal.returns-clause-histories
returns-clause-histories g c = means_so c.well_made.ensures

pub returns-clause-parts : goal.returns-clause-parts
returns-clause-parts g c = λ w F n b z run plan over well. parts_mean F n b z run plan c.well_made.ensures w over well
