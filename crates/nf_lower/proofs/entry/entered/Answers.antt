use Rattle.std.proofs.Common.{◌≡◌, Err, Ok, rules}
use Rattle.nf_ast.specs.Tops.{view_workflow_body}
use Rattle.nf_meaning.specs.Script.{first_take, take_in, workflow_walk}
use Rattle.nf_walked.specs.Around.{Knows}
use Rattle.nf_walked.specs.Forms.{outputs}
use Rattle.nf_walked.proofs.Checks.{checked}
use Rattle.nf_walked.proofs.Joins.{fails_first, then_due}
use Rattle.nf_lower.proofs.entry.entered.Goals as goal

pub returns-in_err-check_entry : goal.returns-in_err-check_entry
returns-in_err-check_entry g c =
    let K = Knows g.N.Natives.titles g.N.Natives.answer c.args.walker.now in
    let b = view_workflow_body c.args.body.now in
    let e = c.in_err-check_entry.field-0.0 in
    let err : c.from_residual.result ≡ Err e = search rules in
    rw err (fails_first outputs (λ u. workflow_walk b) c.requires.lowering (checked K (first_take (take_in b)) c.args.state.now (Err e) c.requires.lowering c.in_err-check_entry.ensures))

pub returns : goal.returns
returns g c =
    let K = Knows g.N.Natives.titles g.N.Natives.answer c.args.walker.now in
    let b = view_workflow_body c.args.body.now in
    then_due c.requires.lowering (checked K (first_take (take_in b)) c.args.state.now (Ok c.in_ok-check_entry.field-0) c.requires.lowering c.in_ok-check_entry.ensures) c.workflow.ensures
