use Rattle.std.proofs.Common.{◌≡◌, ◌∙◌, sym, ap, Some, rules, arith}
use Rattle.nf_ast.specs.declared.expr.Expr.{the_lemmas}
use Rattle.nf_ast.specs.declared.operators.BranchOperator.{BranchOperator}
use Rattle.nf_ast.specs.View.{BranchTree, view, view_branch}
use Rattle.nf_fronts.proofs.Conditionals.{closed_by, one_more}
use Rattle.nf_fronts.proofs.turns.arms.Goals as goal
use Rattle.nf_fronts.proofs.turns.arms.Goals.{in-Then, in-Elvis, in-Else+else-open-eq0}

pub loop-at-preserved : goal.loop-at-preserved
loop-at-preserved c =
    let xs = c.args.rest.now in
    let i = c.loop-at.at in
    let x = c.index-rest-at.result in
    let k = c.loop-at.open in
    let is : view_branch x ≡ record { place = x.place; operator = x.operator; expr = view x.expr } = search (rules, the_lemmas) in
    let more = λ (o : BranchOperator) (h : x.operator ≡ o). one_more xs i x k o c.loop-at-test.true c.index-rest-at.is (ap (λ (b : BranchTree). b.operator) is ∙ h) c.loop-at.invariant.0 in
    elim c.match-branch.branch [
      | in-Then w ↦ (more _ w.in-Then.is ∙ ap Some (omega (arith, w.open-is)), omega (arith, w.open-is, c.loop-at.invariant.1))
      | in-Elvis w ↦ (more _ w.in-Elvis.is ∙ ap Some (sym w.open-is), omega (arith, w.open-is, c.loop-at.invariant.1))
      | in-Else+else-open-eq0 w ↦ (more _ w.in-Else.is ∙ closed_by k w.if-open-eq0.false ∙ ap Some (sym w.open-is), omega (arith, w.open-is, c.loop-at.invariant.1))
    ]
