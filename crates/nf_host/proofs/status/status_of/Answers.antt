use Rattle.std.proofs.Common.{◌≡◌, sym, subst, rules, w32, to_z, of_z}
use Rattle.nf_host.specs.Starts.{IsStatus, exit_number}
use Rattle.nf_host.proofs.ExitCodes.{exit_number_is_status}
use Rattle.nf_host.proofs.status.status_of.Goals as goal

pub returns-clause-range : goal.returns-clause-range
returns-clause-range c =
    let is : to_z w32 (of_z w32 c.unwrap_or.result) ≡ exit_number c.args.status = search rules in
    subst IsStatus (sym is) (exit_number_is_status c.args.status)
