use Rattle.nf_meaning.proofs.SameScript.{paths_distinct, made_by_paths, each_once}
use Rattle.nf_meaning.proofs.laws.calls_are_apart.Goals as goal

pub returns-clause-apart : goal.returns-clause-apart
returns-clause-apart c g paths plain e = paths_distinct g paths plain e

pub returns-clause-tasks : goal.returns-clause-tasks
returns-clause-tasks c g m paths plain e f = made_by_paths g m paths plain e f

pub returns-clause-once : goal.returns-clause-once
returns-clause-once c g m plain e = each_once g m plain e
