use Rattle.std.proofs.Common.{◌≡◌, ◌∷◌, rules}
use Rattle.nf_trace.specs.Reading.{between_line_ends, after_first, reading}
use Rattle.nf_trace.proofs.Lines.{same_due, trace_split, no_first}
use Rattle.nf_trace.proofs.read.read_trace.Goals as goal

pub returns-in-Some : goal.returns-in-Some
returns-in-Some c =
    let parts : between_line_ends c.args.bytes.now ≡ c.in-Some.first.now ∷ between_line_ends c.in-Some.rest.now = search rules in
    same_due (after_first c.in-Some.first.now (between_line_ends c.in-Some.rest.now)) (reading c.args.bytes.now) c.after_first.result (trace_split c.args.bytes.now c.in-Some.first.now c.in-Some.rest.now parts) c.after_first.ensures

pub returns-in-None : goal.returns-in-None
returns-in-None c = no_first c.args.bytes.now c.in-None.ensures.parts
