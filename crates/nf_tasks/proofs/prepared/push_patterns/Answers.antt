use Rattle.std.proofs.Common.{◌≡◌, Err, map, ap, sym, subst, ◌∙◌, rules}
use Rattle.nf_tasks.specs.Judged.{Adds}
use Rattle.nf_tasks.specs.Meaning.{part_patterns, parts_patterns}
use Rattle.nf_tasks.specs.Meaning.{parts_in as meant_parts}
use Rattle.nf_tasks.specs.Memory.{program, part_of, shape_of}
use Rattle.nf_tasks.specs.Prepared.{texts_of}
use Rattle.nf_tasks.proofs.Adding.{adds_refused_by, fault_due, texts_of-append}
use Rattle.nf_tasks.proofs.Walks.{grow_fault, grow_step}
use Rattle.nf_tasks.proofs.prepared.push_patterns.Goals as goal

pub loop-part-preserved : goal.loop-part-preserved
loop-part-preserved g c =
    let n = program (g.N.Natives.titles c.args.natives.now) (g.N.Natives.answer c.args.natives.now) in
    let p = c.args.output.now.place in
    let seen = c.args.seen.now in
    grow_step (λ xs. texts_of (parts_patterns p (map (part_of n) xs)) seen) (λ x. texts_of (part_patterns p (part_of n x)) seen) (λ x xs. texts_of-append (part_patterns p (part_of n x)) (parts_patterns p (map (part_of n) xs)) seen)
    c.parts_in-part-items.result.now c.loop-part.part-index c.part-item.result c.loop-part.texts.items c.push_pattern.new.texts.items _ c.loop-part-test.true c.part-item.is c.in_ok-push_pattern.ensures c.loop-part.invariant

pub returns-in_err-push_pattern : goal.returns-in_err-push_pattern
returns-in_err-push_pattern g c =
    let n = program (g.N.Natives.titles c.args.natives.now) (g.N.Natives.answer c.args.natives.now) in
    let p = c.args.output.now.place in
    let seen = c.args.seen.now in
    let items = c.parts_in-part-items.result.now in
    let x = c.part-item.result in
    let e = c.in_err-push_pattern.field-0.0 in
    let err : c.from_residual.result ≡ Err e = search rules in
    let due = texts_of (parts_patterns p (meant_parts (shape_of n c.args.output.now.shape))) seen in
    subst (Adds c.args.texts.now.items due c.push_pattern.new.texts.items) (sym err)
    (adds_refused_by c.loop-part.texts.items c.push_pattern.new.texts.items c.args.texts.now.items c.push_pattern.new.texts.items (texts_of (part_patterns p (part_of n x)) seen) due e
    (λ f h. sym (ap (λ ps. texts_of (parts_patterns p ps) seen) (c.parts_in-part-items.ensures.meant n))
    ∙ fault_due c.args.texts.now.items (texts_of (parts_patterns p (map (part_of n) items)) seen) f
    (grow_fault (λ xs. texts_of (parts_patterns p (map (part_of n) xs)) seen) (λ y. texts_of (part_patterns p (part_of n y)) seen)
    (λ y ys. texts_of-append (part_patterns p (part_of n y)) (parts_patterns p (map (part_of n) ys)) seen)
    items c.loop-part.part-index x c.loop-part.texts.items f _ c.loop-part-test.true c.part-item.is h c.loop-part.invariant))
    c.in_err-push_pattern.ensures)
