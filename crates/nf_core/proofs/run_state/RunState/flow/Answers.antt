use Rattle.nf_core.proofs.run_state.RunState.flow.Goals as goal

pub returns : goal.returns
returns g c = c.self.view_is
