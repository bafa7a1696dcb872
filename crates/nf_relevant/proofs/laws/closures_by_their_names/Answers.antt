use Rattle.nf_relevant.proofs.Same.{apply_same, branch_same, labels_same}
use Rattle.nf_relevant.proofs.laws.closures_by_their_names.Goals as goal

pub returns-clause-applied : goal.returns-clause-applied
returns-clause-applied c among d other vs h x = apply_same among d other vs h x

pub returns-clause-branched : goal.returns-clause-branched
returns-clause-branched c among d other vs h x = branch_same among d other vs h x

pub returns-clause-labelled : goal.returns-clause-labelled
returns-clause-labelled c among d other vs h x = labels_same among d other vs h x
