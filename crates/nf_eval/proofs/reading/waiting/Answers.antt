use Rattle.nf_eval.proofs.Chaining.{safe_waits}
use Rattle.nf_eval.proofs.reading.waiting.Goals as goal

pub returns-in-Safe : goal.returns-in-Safe
returns-in-Safe c t env h = safe_waits t env c.args.place c.args.subject c.in-Safe.value c.in-Safe.at c.in-Safe.name c.safe_callee.result c.alone-in-Safe.result c.in-Safe.is c.alone-in-Safe.ensures c.safe_callee.ensures h
