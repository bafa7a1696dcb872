use Rattle.std.proofs.Common.{◌∙◌}
use Rattle.nf_locked.proofs.Entering.{tells_ready}
use Rattle.nf_locked.proofs.locked.Locked.is_ready.Goals as goal

pub returns : goal.returns
returns g c = tells_ready c.args.self.now c.flow.result.now c.ready.result c.is_some.result (c.flow.ensures ∙ c.self.view_is) c.ready.ensures c.is_some.ensures
