use Rattle.nf_cli.proofs.top.run_work.Goals as goal

pub returns-in-Ok-planned-clause-doable : goal.returns-in-Ok-planned-clause-doable
returns-in-Ok-planned-clause-doable g c = (c.in-Ok-planned.ensures.plans.made, c.in-Ok-planned.ensures.plans.is_made)
