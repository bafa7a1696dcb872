use Rattle.std.proofs.Common.{refl, rules}
use Rattle.nf_taken.proofs.Things.{nothing_is}
use Rattle.nf_taken.proofs.taken.Taken.nothing.Goals as goal

pub returns-clause-taken : goal.returns-clause-taken
returns-clause-taken c = λ n bags. nothing_is n bags _ (search rules) refl refl refl refl (search rules) (search rules) (search rules)
