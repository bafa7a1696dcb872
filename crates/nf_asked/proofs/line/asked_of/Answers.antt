use Rattle.std.proofs.Common.{ℕ, List, Option, Result, Ok, Err, IfErr, sym, subst}
use Rattle.nf_ast.specs.Tops.{view_script}
use Rattle.nf_host.specs.Faults.{Rose}
use Rattle.nf_host.specs.Files.{Files}
use Rattle.nf_ends.specs.declared.end.End.{End}
use Rattle.nf_request.specs.Held.{OnHostFault}
use Rattle.nf_request.specs.Steps.{GivesTree}
use Rattle.nf_asked.specs.declared.answer.Asked.{Asked}
use Rattle.nf_asked.specs.Answers.{AnswersFor, AnswersTree}
use Rattle.nf_asked.proofs.Refusals.{tree_blames, later_blames}
use Rattle.nf_asked.proofs.Leading.{err_is, text_fails, tree_fails, tree_answers}
use Rattle.nf_asked.proofs.line.asked_of.Goals as goal

pub returns-in_err-text-clause-answers : goal.returns-in_err-text-clause-answers
returns-in_err-text-clause-answers g c =
    let told = g.H.Host.files c.args.host.now in
    let e = c.in_err-text.field-0.0 in
    let s = c.in_err-text.ensures.gives in
    subst (AnswersFor told c.args.command) (sym (err_is c.from_residual.result e c.from_residual.ensures.1)) (text_fails told c.args.command s.0 e s.1 s.2)

pub returns-in_err-script-clause-cause : goal.returns-in_err-script-clause-cause
returns-in_err-script-clause-cause g c =
    let rose = Rose (g.H.Host.faults c.args.host.now) (g.H.Host.faults c.script_text.new.host) in
    let e = c.in_err-script.field-0.0 in
    subst (λ (r : Result Asked End). IfErr r (λ v. OnHostFault v rose)) (sym (err_is c.from_residual-in_err-script.result e c.from_residual-in_err-script.ensures.1))
    (tree_blames c.items.result.now rose e c.in_err-script.ensures)

pub returns-in_err-script-clause-answers : goal.returns-in_err-script-clause-answers
returns-in_err-script-clause-answers g c =
    let told = g.H.Host.files c.args.host.now in
    let e = c.in_err-script.field-0.0 in
    let s = c.in_ok-text.ensures.gives in
    let lacks : GivesTree c.in_ok-text.text (Err e) = subst (λ (t : List ℕ). GivesTree t (Err e)) c.items.ensures c.in_err-script.ensures in
    subst (AnswersFor told c.args.command) (sym (err_is c.from_residual-in_err-script.result e c.from_residual-in_err-script.ensures.1))
    (tree_fails told c.args.command s.0 c.in_ok-text.text e s.1 s.2 lacks)

pub returns-clause-cause : goal.returns-clause-cause
returns-clause-cause g c =
    later_blames (g.H.Host.faults c.args.host.now) (g.H.Host.faults c.script_text.new.host) (g.H.Host.faults c.asked_of_script.new.host) c.asked_of_script.result c.in_ok-text.ensures.later c.asked_of_script.ensures.cause

pub returns-clause-answers : goal.returns-clause-answers
returns-clause-answers g c =
    let told = g.H.Host.files c.args.host.now in
    let command = c.args.command in
    let script = c.in_ok-script.script in
    let r = c.asked_of_script.result in
    let s = c.in_ok-text.ensures.gives in
    let only = subst (λ (t : List ℕ). GivesTree t (Ok script)) c.items.ensures c.in_ok-script.ensures in
    let answers : AnswersTree told command (view_script script) r =
    subst (λ (f : Option Files). AnswersTree f command (view_script script) r) c.in_ok-text.ensures.files c.asked_of_script.ensures.answers in
    tree_answers told command s.0 c.in_ok-text.text (view_script script) r s.1 s.2 only answers
