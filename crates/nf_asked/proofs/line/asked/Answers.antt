use Rattle.std.proofs.Common.{Result, IfErr, map, string_bytes, sym, subst}
use Rattle.nf_host.specs.Faults.{Rose}
use Rattle.nf_ends.specs.declared.end.End.{End}
use Rattle.nf_request.specs.Held.{OnHostFault}
use Rattle.nf_asked.specs.declared.answer.Asked.{Asked}
use Rattle.nf_asked.proofs.Refusals.{misuse_blames}
use Rattle.nf_asked.proofs.Leading.{err_is, AnswersWords, command_answers, misuse_answers}
use Rattle.nf_asked.proofs.line.asked.Goals as goal

pub returns-in_err-command-clause-cause : goal.returns-in_err-command-clause-cause
returns-in_err-command-clause-cause g c =
    let rose = Rose (g.H.Host.faults c.args.host.now) (g.H.Host.faults c.args.host.now) in
    let e = c.in_err-command.field-0.0 in
    subst (λ (r : Result Asked End). IfErr r (λ v. OnHostFault v rose)) (sym (err_is c.from_residual.result e c.from_residual.ensures.1))
    (misuse_blames (map string_bytes c.args.words.now) rose e c.in_err-command.ensures)

pub returns-in_err-command-clause-answers : goal.returns-in_err-command-clause-answers
returns-in_err-command-clause-answers g c =
    let words = map string_bytes c.args.words.now in
    let told = g.H.Host.files c.args.host.now in
    let e = c.in_err-command.field-0.0 in
    subst (AnswersWords words told) (sym (err_is c.from_residual.result e c.from_residual.ensures.1)) (misuse_answers words told e c.in_err-command.ensures)

pub returns-clause-answers : goal.returns-clause-answers
returns-clause-answers g c =
    command_answers (map string_bytes c.args.words.now) (g.H.Host.files c.args.host.now) c.in_ok-command.command c.asked_of.result c.in_ok-command.ensures c.asked_of.ensures.answers
