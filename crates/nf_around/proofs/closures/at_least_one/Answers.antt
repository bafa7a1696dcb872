use Rattle.std.proofs.Common.{refl, arith}
use Rattle.nf_around.proofs.Taken.{some_in}
use Rattle.nf_around.proofs.closures.at_least_one.Goals as goal

pub returns-in-len1-up : goal.returns-in-len1-up
returns-in-len1-up c = record { some = some_in c.args.labels.now (omega (arith, c.in-len1-up.len_at_least)); same = refl }
