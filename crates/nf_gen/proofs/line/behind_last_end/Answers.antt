use Rattle.nf_gen.proofs.LastLine.{behind_some, behind_none}
use Rattle.nf_gen.proofs.line.behind_last_end.Goals as goal

pub returns-in-Some : goal.returns-in-Some
returns-in-Some c = behind_some c.args.text.now c.in-Some.field-0-0.now c.in-Some.last.now c.in-Some.ensures.cases

pub returns-in-None : goal.returns-in-None
returns-in-None c = behind_none c.args.text.now c.in-None.ensures.cases
