use Rattle.nf_agreed.proofs.Arms.{scope_left, scope_right}
use Rattle.nf_agreed.proofs.laws.either_arm.Goals as goal

pub returns-clause-first : goal.returns-clause-first
returns-clause-first c a b x same h = scope_left a b x same h

pub returns-clause-second : goal.returns-clause-second
returns-clause-second c a b x same h = scope_right a b x same h
