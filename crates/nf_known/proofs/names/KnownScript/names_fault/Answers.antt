use Rattle.std.proofs.Common.{◌≡◌, ◌∙◌, ap}
use Rattle.std.proofs.lemmas.Result.{IfOk-weaker}
use Rattle.nf_ast.specs.View.{view}
use Rattle.nf_names_used.specs.Uses.{uses, no_names}
use Rattle.nf_known.specs.Known.{wrong_with_uses}
use Rattle.nf_known.specs.Reading.{reading_of}
use Rattle.nf_known.proofs.names.KnownScript.names_fault.Goals as goal

pub returns : goal.returns
returns g c =
    let same : c.deref.result.now ≡ uses (view c.args.expr.now) no_names = c.deref.ensures.value ∙ c.in_ok-uses.ensures in
    IfOk-weaker c.uses_fault.result _ _ (λ o h q asked. h q asked ∙ ap (wrong_with_uses q (reading_of c.args.reading)) same) c.uses_fault.ensures
