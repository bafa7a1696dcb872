use Rattle.nf_agreed.proofs.Operators.{first_of_value, last_of_value}
use Rattle.nf_agreed.proofs.laws.no_arrival.Goals as goal

pub returns-clause-first : goal.returns-clause-first
returns-clause-first c r p k gs d is h none = first_of_value r p k gs d is h none

pub returns-clause-last : goal.returns-clause-last
returns-clause-last c r p k gs d is h none = last_of_value r p k gs d is h none
