use Rattle.std.proofs.Common.{map, string_bytes, sym, subst}
use Rattle.nf_ends.specs.Causes.{end_of_usage}
use Rattle.nf_request.specs.Steps.{GivesCommand}
use Rattle.nf_request.proofs.Refused.{err_is, misused}
use Rattle.nf_request.proofs.command.command_of_words.Goals as goal

pub returns-in_err-command : goal.returns-in_err-command
returns-in_err-command c =
    let words = map string_bytes c.args.words.now in
    let f = c.in_err-command.field-0.0 in
    subst (GivesCommand words) (sym (err_is c.from_residual.result (end_of_usage f) c.from_residual.ensures.1)) (misused words f c.in_err-command.ensures)
