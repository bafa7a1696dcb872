use Rattle.nf_bodies.proofs.Answering.{tasks_alike}
use Rattle.nf_bodies.proofs.laws.tasks.Goals as goal

pub returns : goal.returns
returns c n s called h = tasks_alike n s called h
