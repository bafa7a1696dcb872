use Rattle.std.proofs.Common.{List, [], ◌++◌, length, refl, ap, ◌∙◌}
use Rattle.std.proofs.lemmas.Result.{IfOk-from_err}
use Rattle.nf_ast.specs.Tops.{view_workflow_body}
use Rattle.nf_kinds.specs.declared.fault.Broken.{Broken}
use Rattle.nf_order.proofs.Entering.{entry_broken}
use Rattle.nf_order.proofs.accepted.from_entry.Goals as goal

pub returns-in_err-unknown : goal.returns-in_err-unknown
returns-in_err-unknown c = IfOk-from_err c.from_residual.result _ c.from_residual.ensures.0

pub returns-in_err-run : goal.returns-in_err-run
returns-in_err-run c = IfOk-from_err c.from_residual-in_err-run.result _ c.from_residual-in_err-run.ensures.0

pub returns : goal.returns
returns c =
    c.in_ok-run.ensures.broken
    ∙ ap (λ (fs : List Broken). c.args.broken.now.items ++ fs)
    (entry_broken c.args.tops.now c.deref.result.now [] (length c.args.tops.now) (view_workflow_body c.args.body.now) [] refl (c.deref.ensures.value ∙ c.in_ok-unknown.ensures) refl refl)
