use Rattle.std.proofs.Common.{◌++◌, map, refl, ap, sym, ◌∙◌, append-nil}
use Rattle.nf_tasks.specs.Meaning.{part_options, parts_options}
use Rattle.nf_tasks.specs.Memory.{part_of}
use Rattle.nf_tasks.proofs.Walks.{joins, ends}
use Rattle.nf_tasks.proofs.failure.push_options.Goals as goal

pub loop-part-preserved : goal.loop-part-preserved
loop-part-preserved c = λ n.
    joins (λ xs. parts_options c.args.output.now.optional (map (part_of n) xs)) (λ x. part_options c.args.output.now.optional (part_of n x)) (λ x xs. refl) c.parts_in-part-items.result.now c.loop-part.part-index c.part-item.result _ _ _ c.loop-part-test.true c.part-item.is
    (c.in_ok-push_option.ensures n) (c.loop-part.invariant n)

pub returns : goal.returns
returns c = λ n.
    sym (append-nil c.loop-part.options.items)
    ∙ ends (λ xs. c.loop-part.options.items ++ parts_options c.args.output.now.optional (map (part_of n) xs)) c.parts_in-part-items.result.now c.loop-part.part-index _ c.loop-part-test.false (c.loop-part.invariant n)
    ∙ ap (λ ps. c.args.options.now.items ++ parts_options c.args.output.now.optional ps) (c.parts_in-part-items.ensures.meant n)
