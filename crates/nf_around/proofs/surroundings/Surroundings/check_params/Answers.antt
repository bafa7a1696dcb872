use Rattle.std.proofs.Common.{◌≡◌, ◌∙◌, ap, ap₂}
use Rattle.nf_ast.specs.Tree as tree
use Rattle.nf_ast.specs.View.{view_closure, view_stmts}
use Rattle.nf_around.specs.Labels.{params_in}
use Rattle.nf_around.proofs.Labelled.{params_judged}
use Rattle.nf_around.proofs.surroundings.Surroundings.check_params.Goals as goal

pub returns : goal.returns
returns g c a s h =
    let is : view_closure c.new-alone.result ≡ tree.closure c.args.closure.now.place (params_in c.args.closure.now.params) tree.empty =
    c.new-alone.ensures ∙ ap₂ (λ ps b. tree.closure c.args.closure.now.place ps b) c.in_ok-params.ensures (c.statements.ensures ∙ ap view_stmts c.new.ensures.items) in
    params_judged a s c.args.closure.now (view_closure c.new-alone.result) c.check_closure.result is (c.check_closure.ensures a s h)
