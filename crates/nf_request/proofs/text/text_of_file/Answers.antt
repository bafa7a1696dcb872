use Rattle.std.proofs.Common.{ℕ, List, Result, IfErr, sym, subst}
use Rattle.nf_host.specs.Faults.{Rose}
use Rattle.nf_host.specs.declared.whole.Whole.{Whole}
use Rattle.nf_ends.specs.Causes.{end_of_host}
use Rattle.nf_ends.specs.declared.end.End.{End}
use Rattle.nf_request.specs.Held.{OnHostFault}
use Rattle.nf_request.proofs.Refused.{err_is, host_blamed}
use Rattle.nf_request.proofs.Texts.{SomeText, host_text, absent_text, bytes_text, too_long_text}
use Rattle.nf_request.proofs.text.text_of_file.Goals as goal

pub returns-in_err-read-clause-cause : goal.returns-in_err-read-clause-cause
returns-in_err-read-clause-cause g c =
    let rose = Rose (g.H.Host.faults c.args.host.now) (g.H.Host.faults c.read_whole.new.host) in
    let f = c.in_err-read.field-0.0 in
    subst (λ (r : Result (List ℕ) End). IfErr r (λ e. OnHostFault e rose)) (sym (err_is c.from_residual.result (end_of_host f) c.from_residual.ensures.1)) (host_blamed Whole f rose c.in_err-read.ensures.cause)

pub returns-in_err-read-clause-gives : goal.returns-in_err-read-clause-gives
returns-in_err-read-clause-gives g c =
    let told = g.H.Host.files c.args.host.now in
    let f = c.in_err-read.field-0.0 in
    subst (SomeText told c.args.path.now) (sym (err_is c.from_residual.result (end_of_host f) c.from_residual.ensures.1)) (host_text told c.args.path.now f)

pub returns-in-Absent-clause-gives : goal.returns-in-Absent-clause-gives
returns-in-Absent-clause-gives g c = absent_text (g.H.Host.files c.args.host.now) c.args.path.now c.in_ok-read.read c.in-Absent.is c.in_ok-read.ensures.content

pub returns-in-TooLong-clause-gives : goal.returns-in-TooLong-clause-gives
returns-in-TooLong-clause-gives g c = too_long_text (g.H.Host.files c.args.host.now) c.args.path.now c.in_ok-read.read c.in-TooLong.is c.in_ok-read.ensures.content

pub returns-in-Bytes-clause-gives : goal.returns-in-Bytes-clause-gives
returns-in-Bytes-clause-gives g c = bytes_text (g.H.Host.files c.args.host.now) c.args.path.now c.in_ok-read.read c.in-Bytes.text c.in-Bytes.is c.in_ok-read.ensures.content
