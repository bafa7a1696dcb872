use Rattle.std.proofs.Common.{◌≡◌, ◌∷◌, sym, ◌∙◌, rules}
use Rattle.nf_trace.specs.Reading.{columns}
use Rattle.nf_trace.proofs.Lines.{more_columns}
use Rattle.nf_trace.proofs.read.line_after.Goals as goal

pub returns-then-is_some : goal.returns-then-is_some
returns-then-is_some c =
    let first : columns c.args.text.now ≡ c.in-Some.task_id.now ∷ columns c.in-Some.rest.now = search rules in
    let second : columns c.in-Some.rest.now ≡ c.in-Some-split_column.hash.now ∷ columns c.in-Some-split_column.rest.now = search rules in
    let third : columns c.in-Some-split_column.rest.now ≡ c.in-Some-split_column-2.name.now ∷ columns c.in-Some-split_column-2.rest.now = search rules in
    let fourth : columns c.in-Some-split_column-2.rest.now ≡ c.in-Some-split_column-3.status.now ∷ columns c.in-Some-split_column-3.exit.now = search rules in
    more_columns c.args.last.now c.args.text.now c.in-Some.task_id.now c.in-Some.rest.now c.in-Some-split_column.hash.now c.in-Some-split_column.rest.now c.in-Some-split_column-2.name.now c.in-Some-split_column-2.rest.now c.in-Some-split_column-3.status.now c.in-Some-split_column-3.exit.now c.split_column-5.result first second third fourth c.split_column-5.ensures (sym c.is_some.ensures ∙ c.if-is_some.true)
