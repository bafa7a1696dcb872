use Rattle.nf_owed.proofs.Contents.{copied_alike, rest_alike, true_alike}
use Rattle.nf_owed.proofs.laws.copies_alike.Goals as goal

pub returns-clause-copied : goal.returns-clause-copied
returns-clause-copied c = copied_alike

pub returns-clause-others : goal.returns-clause-others
returns-clause-others c = rest_alike

pub returns-clause-refused : goal.returns-clause-refused
returns-clause-refused c = true_alike
