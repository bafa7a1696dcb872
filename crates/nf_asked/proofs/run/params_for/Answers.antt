use Rattle.std.proofs.Common.{ap}
use Rattle.nf_request.specs.Wishes.{wish_for}
use Rattle.nf_asked.proofs.Leading.{no_params_given}
use Rattle.nf_asked.proofs.run.params_for.Goals as goal

pub returns-in-Gen-clause-gives : goal.returns-in-Gen-clause-gives
returns-in-Gen-clause-gives g c = no_params_given (g.H.Host.files c.args.host.now) c.args.command.now c.no_params.result (ap wish_for c.in-Gen.is) c.no_params.ensures

pub returns-in-Fmt-clause-gives : goal.returns-in-Fmt-clause-gives
returns-in-Fmt-clause-gives g c = no_params_given (g.H.Host.files c.args.host.now) c.args.command.now c.no_params-in-Fmt.result (ap wish_for c.in-Fmt.is) c.no_params-in-Fmt.ensures

pub returns-in-Check-clause-gives : goal.returns-in-Check-clause-gives
returns-in-Check-clause-gives g c = no_params_given (g.H.Host.files c.args.host.now) c.args.command.now c.no_params-in-Check.result (ap wish_for c.in-Check.is) c.no_params-in-Check.ensures
