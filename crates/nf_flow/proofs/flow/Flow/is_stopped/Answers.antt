use Rattle.std.proofs.Common.{◌∙◌}
use Rattle.nf_flow.proofs.Running.{told_stopped}
use Rattle.nf_flow.proofs.flow.Flow.is_stopped.Goals as goal

pub returns : goal.returns
returns c = let f = c.self.inside in c.is_stopped.ensures ∙ told_stopped f.graph f.parts f.log c.args.self.now c.self.view_is c.self.invariant
