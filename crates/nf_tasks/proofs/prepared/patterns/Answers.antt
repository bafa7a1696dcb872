use Rattle.std.proofs.Common.{◌≡◌, Ok, Err, map, sym, subst, rules}
use Rattle.nf_tasks.specs.Judged.{added, Answers}
use Rattle.nf_tasks.specs.Meaning.{parts_in, parts_patterns, patterns_in}
use Rattle.nf_tasks.specs.Memory.{program, output_of, shape_of}
use Rattle.nf_tasks.specs.Prepared.{texts_of}
use Rattle.nf_tasks.proofs.Adding.{adds_refused, texts_of-append}
use Rattle.nf_tasks.proofs.Walks.{grow_fault, grow_step}
use Rattle.nf_tasks.proofs.prepared.patterns.Goals as goal

pub loop-output-preserved : goal.loop-output-preserved
loop-output-preserved g c =
    let n = program (g.N.Natives.titles c.args.natives.now) (g.N.Natives.answer c.args.natives.now) in
    let seen = c.args.seen.now in
    grow_step (λ xs. texts_of (patterns_in (map (output_of n) xs)) seen) (λ x. texts_of (parts_patterns x.place (parts_in (shape_of n x.shape))) seen) (λ x xs. texts_of-append (parts_patterns x.place (parts_in (shape_of n x.shape))) (patterns_in (map (output_of n) xs)) seen)
    c.args.outputs.now c.loop-output.output-index c.output-item.result c.loop-output.texts.items c.push_patterns.new.texts.items _ c.loop-output-test.true c.output-item.is
    c.in_ok-push_patterns.ensures c.loop-output.invariant

pub returns-in_err-push_patterns : goal.returns-in_err-push_patterns
returns-in_err-push_patterns g c =
    let n = program (g.N.Natives.titles c.args.natives.now) (g.N.Natives.answer c.args.natives.now) in
    let seen = c.args.seen.now in
    let e = c.in_err-push_patterns.field-0.0 in
    let err : c.from_residual.result ≡ Err e = search rules in
    let due = texts_of (patterns_in (map (output_of n) c.args.outputs.now)) seen in
    let x = c.output-item.result in
    subst (Answers due) (sym err) (adds_refused c.loop-output.texts.items c.push_patterns.new.texts.items (texts_of (parts_patterns x.place (parts_in (shape_of n x.shape))) seen) due e
    (λ f h. grow_fault (λ xs. texts_of (patterns_in (map (output_of n) xs)) seen) (λ x. texts_of (parts_patterns x.place (parts_in (shape_of n x.shape))) seen) (λ x xs. texts_of-append (parts_patterns x.place (parts_in (shape_of n x.shape))) (patterns_in (map (output_of n) xs)) seen)
    c.args.outputs.now c.loop-output.output-index x c.loop-output.texts.items f due c.loop-output-test.true c.output-item.is h c.loop-output.invariant) c.in_err-push_patterns.ensures)
