use Rattle.std.proofs.Common.{sym, subst}
use Rattle.nf_ends.specs.Causes.{end_of_params}
use Rattle.nf_request.specs.Steps.{GivesOfBytes}
use Rattle.nf_request.proofs.Refused.{err_is, params_refused}
use Rattle.nf_request.proofs.params.params_of_bytes.Goals as goal

pub returns-in_err-params : goal.returns-in_err-params
returns-in_err-params c =
    let f = c.in_err-params.field-0.0 in
    subst (GivesOfBytes c.args.bytes.now) (sym (err_is c.from_residual.result (end_of_params f) c.from_residual.ensures.1)) (params_refused c.args.bytes.now f c.in_err-params.ensures)
