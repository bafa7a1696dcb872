use Rattle.std.proofs.Common.{Result, IfErr, sym, subst}
use Rattle.nf_ast.specs.Tops.{view_script}
use Rattle.nf_host.specs.Faults.{Rose}
use Rattle.nf_ends.specs.declared.end.End.{End}
use Rattle.nf_ends.specs.declared.end.End.TheVariants as end
use Rattle.nf_request.specs.Held.{OnHostFault}
use Rattle.nf_asked.specs.declared.answer.Asked.{Asked}
use Rattle.nf_asked.specs.Answers.{AnswersRun}
use Rattle.nf_asked.specs.Steps.{IsRunOf}
use Rattle.nf_asked.proofs.Refusals.{order_blames}
use Rattle.nf_asked.proofs.Leading.{err_is, params_fail, order_fails, memory_fails, run_goes}
use Rattle.nf_asked.proofs.run.run_of.Goals as goal

pub returns-in_err-params-clause-answers : goal.returns-in_err-params-clause-answers
returns-in_err-params-clause-answers g c =
    let told = g.H.Host.files c.args.host.now in
    let t = view_script c.args.script in
    let e = c.in_err-params.field-0.0 in
    subst (AnswersRun told c.args.command t) (sym (err_is c.from_residual.result e c.from_residual.ensures.1))
    (params_fail told c.args.command t e c.in_err-params.ensures.gives)

pub returns-in_err-script-clause-cause : goal.returns-in_err-script-clause-cause
returns-in_err-script-clause-cause g c =
    let rose = Rose (g.H.Host.faults c.args.host.now) (g.H.Host.faults c.params_for.new.host) in
    let e = c.in_err-script.field-0.0 in
    subst (λ (r : Result Asked End). IfErr r (λ v. OnHostFault v rose)) (sym (err_is c.from_residual-in_err-script.result e c.from_residual-in_err-script.ensures.1))
    (order_blames (view_script c.args.script) rose e c.in_err-script.ensures.refused)

pub returns-in_err-script-clause-answers : goal.returns-in_err-script-clause-answers
returns-in_err-script-clause-answers g c =
    let told = g.H.Host.files c.args.host.now in
    let t = view_script c.args.script in
    let e = c.in_err-script.field-0.0 in
    subst (AnswersRun told c.args.command t) (sym (err_is c.from_residual-in_err-script.result e c.from_residual-in_err-script.ensures.1))
    (order_fails told c.args.command t c.in_ok-params.params e c.in_ok-params.ensures.gives c.in_err-script.ensures.refused)

pub returns-in_err-request-clause-cause : goal.returns-in_err-request-clause-cause
returns-in_err-request-clause-cause g c =
    let rose = Rose (g.H.Host.faults c.args.host.now) (g.H.Host.faults c.params_for.new.host) in
    subst (λ (r : Result Asked End). IfErr r (λ v. OnHostFault v rose)) (sym (err_is c.from_residual-in_err-request.result end.Mem c.from_residual-in_err-request.ensures.1)) tt

pub returns-in_err-request-clause-answers : goal.returns-in_err-request-clause-answers
returns-in_err-request-clause-answers g c =
    let told = g.H.Host.files c.args.host.now in
    let t = view_script c.args.script in
    subst (AnswersRun told c.args.command t) (sym (err_is c.from_residual-in_err-request.result end.Mem c.from_residual-in_err-request.ensures.1)) (memory_fails told c.args.command t)

pub returns-clause-answers : goal.returns-clause-answers
returns-clause-answers g c =
    run_goes (g.H.Host.files c.args.host.now) c.args.command c.args.script c.in_ok-params.params c.in_ok-request.request c.in_ok-params.ensures.gives
    c.in_ok-script.ensures.ordered (subst (λ s. IsRunOf c.args.command s c.in_ok-params.params c.in_ok-request.request) c.in_ok-script.ensures.script c.in_ok-request.ensures)
