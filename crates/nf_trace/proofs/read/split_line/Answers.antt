use Rattle.std.proofs.Common.{◌+◌, ◌∷◌, take, Some, None, sym, ◌∙◌, ap}
use Rattle.nf_trace.specs.Reading.{between_line_ends}
use Rattle.nf_trace.proofs.Splits.{line_split, tail_is}
use Rattle.nf_trace.proofs.read.split_line.Goals as goal

pub returns-in-None-clause-parts : goal.returns-in-None-clause-parts
returns-in-None-clause-parts c = line_split c.args.bytes.now None c.in-None.ensures

pub returns-in-Some-clause-parts : goal.returns-in-Some-clause-parts
returns-in-Some-clause-parts c =
    (line_split c.args.bytes.now (Some c.in-Some.end) c.in-Some.ensures).1
    ∙ ap (λ l. take c.in-Some.end c.args.bytes.now ∷ between_line_ends l) (sym (tail_is c.args.bytes.now (c.in-Some.end + 1)))
