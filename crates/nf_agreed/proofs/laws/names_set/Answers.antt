use Rattle.nf_agreed.proofs.Setting.{set_bound, set_kept}
use Rattle.nf_agreed.proofs.laws.names_set.Goals as goal

pub returns-clause-bound : goal.returns-clause-bound
returns-clause-bound c n s t o x here h = set_bound n s t o x here h

pub returns-clause-kept : goal.returns-clause-kept
returns-clause-kept c n s o x plain h = set_kept n s o x plain h
