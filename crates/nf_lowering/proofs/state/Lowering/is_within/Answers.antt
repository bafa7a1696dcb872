use Rattle.std.proofs.Common.{◌∙◌, ap}
use Rattle.nf_builtins.specs.Natives.{is_among}
use Rattle.nf_lowering.proofs.state.Lowering.is_within.Goals as goal

pub returns-clause-walk : goal.returns-clause-walk
returns-clause-walk c braces x s h = c.has_name.ensures ∙ ap (is_among c.args.name.now) h.within
