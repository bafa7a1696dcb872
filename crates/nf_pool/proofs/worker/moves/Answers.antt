use Rattle.nf_pool.proofs.Works.{work_item, work_task}
use Rattle.nf_pool.proofs.worker.moves.Goals as goal

pub items_of-requires-clause-first : goal.items_of-requires-clause-first
items_of-requires-clause-first g c = work_item g.J.Fixed.facts c.step.result c.in-Item.ticket c.in-Item.is c.step.ensures.work

pub returns-in-Task : goal.returns-in-Task
returns-in-Task g c = work_task g.J.Fixed.facts c.step.result c.in-Task.ticket c.in-Task.is c.step.ensures.work
