use Rattle.nf_lowering.proofs.state.Lowering.into_plan.Goals as goal

pub finish-requires : goal.finish-requires
finish-requires c = c.requires.plan

pub returns : goal.returns
returns c = record { graph = c.finish.ensures.graph; infos = c.finish.ensures.infos; views = c.finish.ensures.views; wants = c.finish.ensures.wants }
