use Rattle.std.proofs.Common.{◌∙◌, ap, pos, [], ◌∷◌, ◌++◌}
use Rattle.nf_value.specs.Plain.{int}
use Rattle.nf_job.specs.JobText.{job_text, inputs_text}
use Rattle.nf_job.proofs.job.new_text.Goals as goal

pub returns-clause-text : goal.returns-clause-text
unfolding job_text
returns-clause-text c = c.in_ok-text.ensures ∙ ap inputs_text (c.in_ok-push_number.ensures.items ∙ ap (λ w. w ++ int (pos c.args.parts.now.attempt) ∷ []) c.in_ok-items.ensures.items)
