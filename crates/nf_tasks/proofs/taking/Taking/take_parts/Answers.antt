use Rattle.std.proofs.Common.{◌<◌, length, arith}
use Rattle.std.proofs.lemmas.Bool.Decides.{nat_tests}
use Rattle.nf_tasks.proofs.Takings.{unequal}
use Rattle.nf_tasks.proofs.taking.Taking.take_parts.Goals as goal

pub returns-then-items-parts : goal.returns-then-items-parts
returns-then-items-parts c =
    let more : length c.args.parts.now < length c.args.items.now = grind (arith, nat_tests) in
    unequal c.args.parts.now c.args.items.now (λ e. omega arith)
