use Rattle.nf_ends.proofs.Telling.{same_kind, same_place}
use Rattle.nf_ends.proofs.laws.lines_tell_ends.Goals as goal

pub returns-clause-kind : goal.returns-clause-kind
returns-clause-kind c = same_kind

pub returns-clause-place : goal.returns-clause-place
returns-clause-place c = same_place
