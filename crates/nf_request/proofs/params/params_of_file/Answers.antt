use Rattle.std.proofs.Common.{ℕ, List, Result, IfErr, IfSome, sym, subst}
use Rattle.nf_host.specs.Faults.{Rose}
use Rattle.nf_host.specs.Whole.{IsWhole}
use Rattle.nf_host.specs.declared.whole.Whole.{Whole}
use Rattle.nf_ends.specs.Causes.{end_of_host}
use Rattle.nf_ends.specs.declared.end.End.{End}
use Rattle.nf_request.specs.Held.{OnHostFault}
use Rattle.nf_request.specs.Wishes.{Params, params_limit}
use Rattle.nf_request.specs.Steps.{GivesOfBytes}
use Rattle.nf_request.proofs.Refused.{err_is, host_blamed}
use Rattle.nf_request.proofs.Parameters.{SomeParams, host_params, absent_params, long_params, bytes_params}
use Rattle.nf_request.proofs.params.params_of_file.Goals as goal

pub returns-in_err-read-clause-cause : goal.returns-in_err-read-clause-cause
returns-in_err-read-clause-cause g c =
    let rose = Rose (g.H.Host.faults c.args.host.now) (g.H.Host.faults c.read_whole.new.host) in
    let f = c.in_err-read.field-0.0 in
    subst (λ (r : Result Params End). IfErr r (λ e. OnHostFault e rose)) (sym (err_is c.from_residual.result (end_of_host f) c.from_residual.ensures.1)) (host_blamed Whole f rose c.in_err-read.ensures.cause)

pub returns-in_err-read-clause-gives : goal.returns-in_err-read-clause-gives
returns-in_err-read-clause-gives g c =
    let told = g.H.Host.files c.args.host.now in
    let f = c.in_err-read.field-0.0 in
    subst (SomeParams told c.args.path.now) (sym (err_is c.from_residual.result (end_of_host f) c.from_residual.ensures.1)) (host_params told c.args.path.now f)

pub returns-in-Absent-clause-gives : goal.returns-in-Absent-clause-gives
returns-in-Absent-clause-gives g c = absent_params (g.H.Host.files c.args.host.now) c.args.path.now c.in_ok-read.read c.no_file.result c.in-Absent.is (subst (λ (p : List ℕ). IfSome (g.H.Host.files c.args.host.now) (λ f. IsWhole (f p) params_limit c.in_ok-read.read)) c.as_str.ensures c.in_ok-read.ensures.content) c.no_file.ensures

pub returns-in-TooLong-clause-gives : goal.returns-in-TooLong-clause-gives
returns-in-TooLong-clause-gives g c = long_params (g.H.Host.files c.args.host.now) c.args.path.now c.in_ok-read.read c.long_file.result c.in-TooLong.is (subst (λ (p : List ℕ). IfSome (g.H.Host.files c.args.host.now) (λ f. IsWhole (f p) params_limit c.in_ok-read.read)) c.as_str.ensures c.in_ok-read.ensures.content) c.long_file.ensures

pub returns-in-Bytes-clause-gives : goal.returns-in-Bytes-clause-gives
returns-in-Bytes-clause-gives g c =
    bytes_params (g.H.Host.files c.args.host.now) c.args.path.now c.in_ok-read.read c.in-Bytes.bytes c.params_of_bytes.result c.in-Bytes.is c.in_ok-read.ensures.within (subst (λ (p : List ℕ). IfSome (g.H.Host.files c.args.host.now) (λ f. IsWhole (f p) params_limit c.in_ok-read.read)) c.as_str.ensures c.in_ok-read.ensures.content)
    (subst (λ b. GivesOfBytes b c.params_of_bytes.result) c.items.ensures c.params_of_bytes.ensures)
