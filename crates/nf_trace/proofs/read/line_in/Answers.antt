use Rattle.nf_trace.proofs.Lines.{line_in_text, no_text}
use Rattle.nf_trace.proofs.read.line_in.Goals as goal

pub returns-in-Ok : goal.returns-in-Ok
returns-in-Ok c = line_in_text c.args.last.now c.args.bytes.now c.in-Ok.text.now c.line_after.result c.in-Ok.ensures.cases.0 c.in-Ok.ensures.cases.1 c.line_after.ensures

pub returns-in-Err : goal.returns-in-Err
returns-in-Err c = no_text c.args.last.now c.args.bytes.now c.in-Err.ensures.cases.0
