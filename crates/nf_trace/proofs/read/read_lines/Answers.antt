use Rattle.std.proofs.Common.{◌≡◌, ◌∷◌, ◌++◌, List, [], length, Some, None, sym, ◌∙◌, ap, subst, rules}
use Rattle.nf_trace.specs.declared.line.TraceLine.{TraceLine}
use Rattle.nf_trace.specs.Reading.{between_line_ends, line_in, last_number}
use Rattle.nf_trace.proofs.Lines.{IsReadTo, read_line, read_no_line}
use Rattle.nf_trace.proofs.read.read_lines.Goals as goal

pub returns-in-None : goal.returns-in-None
returns-in-None c =
    let parts : between_line_ends c.loop-text.rest.now ≡ c.in-Some.text.now ∷ between_line_ends c.in-Some.after.now = search rules in
    let last : c.last_number.result.now ≡ last_number c.loop-text.lines.items = c.last_number.ensures ∙ ap last_number c.deref.ensures.value in
    let count : length c.loop-text.lines.items ≡ c.len.result = search rules in
    read_no_line c.args.bytes.now c.loop-text.rest.now c.in-Some.text.now c.in-Some.after.now c.loop-text.lines.items c.len.result parts (sym c.in-None.is ∙ c.in_ok-line.ensures ∙ ap (λ l. line_in l c.in-Some.text.now) last) count c.loop-text.invariant

pub loop-text-preserved : goal.loop-text-preserved
loop-text-preserved c =
    let parts : between_line_ends c.loop-text.rest.now ≡ c.in-Some.text.now ∷ between_line_ends c.in-Some.after.now = search rules in
    let last : c.last_number.result.now ≡ last_number c.loop-text.lines.items = c.last_number.ensures ∙ ap last_number c.deref.ensures.value in
    subst (λ (ls : List TraceLine). IsReadTo c.args.bytes.now ls c.in-Some.after.now) (sym c.in_ok-push-in-Some-2.ensures.items)
    (read_line c.args.bytes.now c.loop-text.rest.now c.in-Some.text.now c.in-Some.after.now c.loop-text.lines.items c.in-Some-2.line parts (sym c.in-Some-2.is ∙ c.in_ok-line.ensures ∙ ap (λ l. line_in l c.in-Some.text.now) last) c.loop-text.invariant)
