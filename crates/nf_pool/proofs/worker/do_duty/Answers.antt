use Rattle.nf_pool.proofs.Works.{works_still}
use Rattle.nf_pool.proofs.Duties.{duty_items, duty_task}
use Rattle.nf_pool.proofs.worker.do_duty.Goals as goal

pub returns-in-Items-clause-works : goal.returns-in-Items-clause-works
returns-in-Items-clause-works g c = works_still _ c.requires.few

pub returns-in-Again-clause-works : goal.returns-in-Again-clause-works
returns-in-Again-clause-works g c = works_still _ c.requires.few

pub returns-in-Over-clause-works : goal.returns-in-Over-clause-works
returns-in-Over-clause-works g c = works_still _ c.requires.few

pub answer_items-requires-clause-items : goal.answer_items-requires-clause-items
answer_items-requires-clause-items g c = duty_items g.J.Fixed.facts c.args.duty c.in-Items.items c.in-Items.is c.requires.duty

pub do_task-requires-clause-task : goal.do_task-requires-clause-task
do_task-requires-clause-task g c = duty_task g.J.Fixed.facts c.args.duty c.in-Task.ticket c.in-Task.is c.requires.duty
