use Rattle.nf_follows.proofs.Growth.{extends_same, extends_one, extends_again, runs_first, bags_first}
use Rattle.nf_follows.proofs.laws.plans_extend.Goals as goal

pub returns-clause-same : goal.returns-clause-same
returns-clause-same c b = extends_same b

pub returns-clause-one : goal.returns-clause-one
returns-clause-one c old new node info adds = extends_one old new node info adds

pub returns-clause-again : goal.returns-clause-again
returns-clause-again c one two three f g = extends_again one two three f g

pub returns-clause-runs : goal.returns-clause-runs
returns-clause-runs c x old new e runs = runs_first x old new e runs

pub returns-clause-bags : goal.returns-clause-bags
returns-clause-bags c x old new e i l = bags_first c.added_later.ensures x old new e i l
