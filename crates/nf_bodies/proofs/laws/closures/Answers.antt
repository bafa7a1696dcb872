use Rattle.nf_bodies.proofs.Answering.{applied_answers, branch_answers, multi_map_answers}
use Rattle.nf_bodies.proofs.laws.closures.Goals as goal

pub returns-clause-applied : goal.returns-clause-applied
returns-clause-applied c n r t stored closing a h g = applied_answers n r t stored closing a h g

pub returns-clause-branch : goal.returns-clause-branch
returns-clause-branch c n t stored closing first more h labels g = branch_answers n t stored closing first more h labels g

pub returns-clause-multi_map : goal.returns-clause-multi_map
returns-clause-multi_map c n t stored closing first more h labels g = multi_map_answers n t stored closing first more h labels g
