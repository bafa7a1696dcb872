use Rattle.std.proofs.Common.{arith}
use Rattle.nf_slips.proofs.Bodies.{none_labelled}
use Rattle.nf_slips.proofs.forms.tell_no_labels.Goals as goal

pub returns-in-len1-up : goal.returns-in-len1-up
returns-in-len1-up c = none_labelled c.args.stmts.now c.first-item.result (omega (arith, c.in-len1-up.len_at_least)) c.first-item.is c.tell_no_label.ensures
