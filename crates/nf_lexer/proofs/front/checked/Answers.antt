use Rattle.std.proofs.Common.{sym, ◌∙◌}
use Rattle.nf_lexer.specs.View.{part_view}
use Rattle.nf_lexer.proofs.Runs.{checked_good, run_bad}
use Rattle.nf_lexer.proofs.front.checked.Goals as goal

pub returns-in-Ok : goal.returns-in-Ok
returns-in-Ok c = sym (checked_good c.args.place c.args.bytes.now (part_view c.args.part) c.args.change c.in-Ok.ensures.cases.1)

pub returns-in-Err : goal.returns-in-Err
returns-in-Err c = c.bad_byte.ensures ∙ run_bad c.args.place c.further.result c.args.bytes.now (part_view c.args.part) c.args.change c.valid_up_to.result _ c.in-Err.ensures.cases.0 c.further.ensures c.valid_up_to.ensures c.in-Err.ensures.valid_len
