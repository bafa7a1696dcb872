use Rattle.std.proofs.Common.{◌≡◌, Ok, map, option_map, refl, ap, ◌∙◌}
use Rattle.std.proofs.lemmas.List.{map_push}
use Rattle.nf_value.specs.View.{plain_of}
use Rattle.nf_tasks.specs.Judged.{Judged}
use Rattle.nf_tasks.specs.Meaning.{parts_in}
use Rattle.nf_tasks.specs.Memory.{program, output_of, shape_of}
use Rattle.nf_tasks.specs.Emission.{given, left_after, output_value, values_of}
use Rattle.nf_tasks.proofs.Walks.{walk_step}
use Rattle.nf_tasks.proofs.emission.values_of.Goals as goal

pub loop-output-preserved : goal.loop-output-preserved
loop-output-preserved g c =
    let n = program (g.N.Natives.titles c.args.natives.now) (g.N.Natives.answer c.args.natives.now) in
    let q = given c.args.giving.now in
    let left = c.loop-output.left.now in
    walk_step (λ xs s. values_of q (map (output_of n) xs) s) (λ x s. output_value q (output_of n x) s) (λ x s. left_after (parts_in (shape_of n x.shape)) s) (λ x xs s. refl)
    c.args.outputs.now c.loop-output.output-index c.output-item.result left _ _ _ (option_map plain_of c.in_ok-value.value) _ c.loop-output-test.true c.output-item.is c.in_ok-value.ensures
    (ap (map (option_map plain_of)) c.in_ok-push.ensures.items ∙ map_push (option_map plain_of) c.loop-output.values.items c.in_ok-value.value)
    (c.left_after-left.ensures n ∙ ap (λ ps. left_after ps left) (c.parts_in.ensures.meant n)) c.loop-output.invariant
