use Rattle.std.proofs.Common.{◌≡◌, ◌+◌, ◌*◌, drop}
use Rattle.nf_ast.specs.View.{views}
use Rattle.nf_fronts.specs.Fronts.{tree_of}
use Rattle.nf_fronts.specs.Lasts.{maybe_tree}
use Rattle.nf_meaning.specs.Expressions.{leading, leads_in}
use Rattle.nf_meaning.specs.Walk.{Around, Scope}
use Rattle.nf_leading.specs.Bodies.{IsBody}
use Rattle.nf_leading.proofs.Sizes.{size}
use Rattle.nf_leading.proofs.leading.InBody.+leading.Given as goal

abbrev pub decreases-leading : goal.decreases-leading
decreases-leading g l = 2 * size (tree_of l.front)

abbrev pub decreases-maybe_leads : goal.decreases-maybe_leads
decreases-maybe_leads g l = 2 * size (maybe_tree l.front) + 1

abbrev pub decreases-any_leads : goal.decreases-any_leads
decreases-any_leads g l = 2 * size (views l.exprs.now) + 1

abbrev pub invariant-any_leads-loop-expr : goal.invariant-any_leads-loop-expr
invariant-any_leads-loop-expr g l = (a : Around) (s : Scope) → IsBody g.N.Natives.titles l.self a s
    → (leading (leads_in a s) (views (drop l.expr-index l.exprs))).alone ≡ (leading (leads_in a s) (views l.exprs)).alone
