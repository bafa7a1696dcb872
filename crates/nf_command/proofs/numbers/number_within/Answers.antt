use Rattle.std.proofs.Common.{◌∙◌, arith}
use Rattle.nf_command.proofs.Parsed.{judged_within, not_within}
use Rattle.nf_command.proofs.numbers.number_within.Goals as goal

pub returns-in-Some-clause-number : goal.returns-in-Some-clause-number
returns-in-Some-clause-number c = c.kept.ensures.number ∙ judged_within c.args.low c.args.high c.in-Some.number c.args.word.now c.in-Some.ensures

pub returns-in-None-clause-number : goal.returns-in-None-clause-number
returns-in-None-clause-number c = not_within c.args.low c.args.high c.args.word.now (omega arith) c.in-None.ensures
