use Rattle.std.proofs.Common.{◌∙◌, ap}
use Rattle.nf_job.specs.JobText.{old_text, inputs_text}
use Rattle.nf_job.proofs.Names.{old_here}
use Rattle.nf_job.proofs.job.old_job.Goals as goal

pub returns : goal.returns
unfolding old_text
returns c = old_here _ _ c.if-parts-ne1.false (c.of.ensures ∙ (c.in_ok-text.ensures ∙ ap inputs_text c.in_ok-items.ensures.items))
