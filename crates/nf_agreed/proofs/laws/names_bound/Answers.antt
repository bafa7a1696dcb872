use Rattle.nf_agreed.proofs.Assigning.{defined_fits, assigned_fits, called_fits, left_fits}
use Rattle.nf_agreed.proofs.laws.names_bound.Goals as goal

pub returns-clause-defined : goal.returns-clause-defined
returns-clause-defined c n s t o x here h = defined_fits n s t o x here h

pub returns-clause-assigned : goal.returns-clause-assigned
returns-clause-assigned c n s t o x here h = assigned_fits n s t o x here h

pub returns-clause-called : goal.returns-clause-called
returns-clause-called c n s os o x here h = called_fits n s os o x here h

pub returns-clause-left : goal.returns-clause-left
returns-clause-left c o p x y before h = left_fits o p x y before h
