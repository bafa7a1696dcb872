use Rattle.std.proofs.Common.{◌≡◌, ◌∙◌, Err, ap₂, [], subst, true, rules}
use Rattle.nf_ast.specs.Tree as tree
use Rattle.nf_ast.specs.View.{names, view_closure, view_stmts}
use Rattle.nf_bodies.specs.Means.{GivesAs}
use Rattle.nf_eval.specs.Memory.{closing}
use Rattle.nf_meaning.specs.Walk.{env_with}
use Rattle.nf_around.specs.Processes.{code_at}
use Rattle.nf_around.proofs.InProcess.{formula_wrong, formula_right}
use Rattle.nf_around.proofs.processes.ProcessFormulas.made.Goals as goal

pub returns-in_err-check : goal.returns-in_err-check
returns-in_err-check g c a h =
    let seen = c.args.self.now.seen.now in
    let p = c.args.place in
    let body = view_stmts c.args.body.items in
    let is : view_closure c.new-code.result ≡ code_at p seen body = c.new-code.ensures ∙ ap₂ (λ ps b. tree.closure p (tree.params (names ps)) b) c.in_ok-params.ensures c.statements.ensures in
    let err : c.from_residual-in_err-check.result ≡ Err c.in_err-check.field-0.0 = search rules in
    rw err (formula_wrong a seen p body c.in_err-check.field-0.0 (c.in_err-check.ensures a p body h is))

pub returns : goal.returns
returns g c a h =
    let seen = c.args.self.now.seen.now in
    let p = c.args.place in
    let body = view_stmts c.args.body.items in
    let is : view_closure c.new-code.result ≡ code_at p seen body = c.new-code.ensures ∙ ap₂ (λ ps b. tree.closure p (tree.params (names ps)) b) c.in_ok-params.ensures c.statements.ensures in
    let stored = c.in_ok-captured.field-0 in
    formula_right a seen p body c.in_ok-check.field-0 stored (c.in_ok-check.ensures a p body h is) (subst (λ t. GivesAs a.given.program stored (closing t (env_with a [] true))) is (c.in_ok-captured.ensures a h))
