use Rattle.std.proofs.Common.{◌≡◌, map, sym, ap, ◌∙◌, rules}
use Rattle.nf_ast.specs.Tops.{view_workflow_body}
use Rattle.nf_ast.specs.View.{trees, view_stmt}
use Rattle.nf_slips.specs.Definitions.{taken_by}
use Rattle.nf_order.specs.Accepted.{taken_with}
use Rattle.nf_order.proofs.Entering.{none_taken}
use Rattle.nf_order.proofs.workflows.taken.Goals as goal

pub returns-in-Statements : goal.returns-in-Statements
returns-in-Statements c =
    let gs = c.args.args.now in
    let ts = map view_stmt c.in-Statements.field-0.items in
    let is : view_workflow_body c.args.workflow.now ≡ trees ts = search rules in
    c.new.ensures.items ∙ sym (ap (λ b. taken_with (taken_by b) gs) is ∙ ap (λ ns. taken_with ns gs) (none_taken ts))
