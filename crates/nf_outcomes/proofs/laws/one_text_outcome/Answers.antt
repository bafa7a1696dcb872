use Rattle.nf_outcomes.proofs.Ends.{one_text_outcome}
use Rattle.nf_outcomes.proofs.laws.one_text_outcome.Goals as goal

pub returns : goal.returns
returns c = one_text_outcome (record { one_list = c.one_list.ensures; one_break = c.one_break.ensures; never_both = c.never_both.ensures; one_end = c.one_outcome.ensures })
