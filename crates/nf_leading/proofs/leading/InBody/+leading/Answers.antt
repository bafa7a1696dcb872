use Rattle.std.proofs.Common.{rules, ◌∙◌, ◌*◌, ◌<◌, true, refl, ap, arith}
use Rattle.nf_ast.specs.View.{view}
use Rattle.nf_fronts.specs.Fronts.{tree_of}
use Rattle.nf_fronts.specs.Lasts.{maybe_tree}
use Rattle.nf_meaning.specs.Expressions.{leading, leads_in}
use Rattle.nf_leading.specs.Bodies.{leading_of}
use Rattle.nf_leading.proofs.Arms.{alone_arm, both_arm, or_alike, name_arm, other_arm}
use Rattle.nf_leading.proofs.Sizes.{part_smaller, size}
use Rattle.nf_leading.proofs.leading.InBody.+leading.Goals as goal

pub leading-returns-in-Name : goal.leading-returns-in-Name
leading-returns-in-Name g t c a s h =
    name_arm (leads_in a s) (tree_of c.args.front) _ _ c.in-Name.name.now c.name_leads.result c.call_leads.result c.in-Name.ensures (c.name_leads.ensures a s h ∙ ap (λ n. (leads_in a s).name n) c.as_str.ensures) (c.call_leads.ensures a s h ∙ ap (λ n. (leads_in a s).call n) c.as_str-in-Name.ensures) refl

pub leading-returns-in-Property : goal.leading-returns-in-Property
leading-returns-in-Property g t c a s h =
    both_arm (leads_in a s) (tree_of c.args.front) (leading_of c.both.result) _ c.leading.result.alone c.in-Property.ensures refl (ap (λ x. x.alone) (c.leading.ensures a s h)) c.both.ensures

pub leading-returns-in-List : goal.leading-returns-in-List
leading-returns-in-List g t c a s h =
    alone_arm (leads_in a s) (tree_of c.args.front) (leading_of c.uncalled.result) _ c.any_leads.result c.in-List.ensures refl (c.any_leads.ensures a s h) c.uncalled.ensures

pub leading-returns-in-Index : goal.leading-returns-in-Index
leading-returns-in-Index g t c a s h =
    alone_arm (leads_in a s) (tree_of c.args.front) (leading_of c.uncalled-in-Index.result) _ c.leading-in-Index.result.alone c.in-Index.ensures refl (ap (λ x. x.alone) (c.leading-in-Index.ensures a s h)) c.uncalled-in-Index.ensures

pub leading-returns-in-Call : goal.leading-returns-in-Call
leading-returns-in-Call g t c a s h =
    both_arm (leads_in a s) (tree_of c.args.front) (leading_of c.both-in-Call.result) _ c.leading-in-Call.result.called c.in-Call.ensures refl (ap (λ x. x.called) (c.leading-in-Call.ensures a s h)) c.both-in-Call.ensures

pub leading-returns-in-With : goal.leading-returns-in-With
leading-returns-in-With g t c a s h =
    both_arm (leads_in a s) (tree_of c.args.front) (leading_of c.both-in-With.result) _ c.leading-in-With.result.called c.in-With.ensures refl (ap (λ x. x.called) (c.leading-in-With.ensures a s h)) c.both-in-With.ensures

pub leading-returns-in-Pipe : goal.leading-returns-in-Pipe
leading-returns-in-Pipe g t c a s h =
    alone_arm (leads_in a s) (tree_of c.args.front) (leading_of c.uncalled-in-Pipe.result) _ true c.in-Pipe.ensures refl refl c.uncalled-in-Pipe.ensures

pub leading-returns-in-Conditional : goal.leading-returns-in-Conditional
leading-returns-in-Conditional g t c a s h =
    alone_arm (leads_in a s) (tree_of c.args.front) (leading_of c.uncalled-in-Conditional.result) _ c.either.result c.in-Conditional.ensures refl
    (c.either.ensures ∙ or_alike c.leading-in-Conditional.result.alone (leading (leads_in a s) (tree_of c.in-Conditional.yes)).alone c.maybe_leads.result (leading (leads_in a s) (maybe_tree c.in-Conditional.no)).alone
    (ap (λ x. x.alone) (c.leading-in-Conditional.ensures a s h)) (c.maybe_leads.ensures a s h)) c.uncalled-in-Conditional.ensures

pub leading-returns-in-Other : goal.leading-returns-in-Other
leading-returns-in-Other g t c a s h = other_arm (leads_in a s) (tree_of c.args.front) (leading_of c.uncalled-in-Other.result) c.in-Other.ensures c.uncalled-in-Other.ensures

pub any_leads-leading-requires : goal.any_leads-leading-requires
any_leads-leading-requires g t c κs within =
    let small = part_smaller c.args.exprs.now c.loop-expr.expr-index c.expr-item.result c.loop-expr-test.true c.expr-item.is in
    let falls : 2 * size (view c.expr-item.result) < t = omega (arith, small, c.decreases) in (falls, search rules)
