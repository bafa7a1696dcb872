use Rattle.std.proofs.Common.{◌∙◌}
use Rattle.nf_lowering.proofs.state.Lowering.is_called.Goals as goal

pub returns-clause-walk : goal.returns-clause-walk
returns-clause-walk c braces x s h = c.contains.ensures ∙ h.called c.args.name.now
