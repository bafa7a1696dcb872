use Rattle.nf_meaning.proofs.SameScript.{same_fault, same_wants, same_paths}
use Rattle.nf_meaning.proofs.laws.text_alone.Goals as goal

pub returns-clause-fault : goal.returns-clause-fault
returns-clause-fault c g found o = same_fault g found o

pub returns-clause-wants : goal.returns-clause-wants
returns-clause-wants c g found o = same_wants g found o

pub returns-clause-paths : goal.returns-clause-paths
returns-clause-paths c g found o = same_paths g found o
