use Rattle.std.proofs.Common.{arith}
use Rattle.nf_machine.specs.declared.event.Event.TheVariants as e
use Rattle.nf_flight.specs.Ticket.{number_of}
use Rattle.nf_core.proofs.Events.{kept_given_up}
use Rattle.nf_core.proofs.Legals.{flies_now, grown_now, may}
use Rattle.nf_core.proofs.Viewed.{legal_here, not_keeper}
use Rattle.nf_core.proofs.run_state.RunState.give_up.Goals as goal

pub abort-requires-clause-ticket : goal.abort-requires-clause-ticket
abort-requires-clause-ticket g c = flies_now c.args.self.now c.self.inside.flow c.args.ticket c.requires.ticket c.self.view_is

pub abort-requires-clause-legal : goal.abort-requires-clause-legal
abort-requires-clause-legal g c =
    let x = e.Abort (number_of c.args.ticket) c.args.cause in
    may x c.self.invariant (legal_here g.J.Fixed.facts.rules c.self.inside.flow c.args.self.now x c.self.view_is c.requires.cause)

pub abort-requires-clause-named : goal.abort-requires-clause-named
abort-requires-clause-named g c = c.requires.named

pub invariant_of-self : goal.invariant_of-self
invariant_of-self g c =
    let t = number_of c.args.ticket in let x = e.Abort t c.args.cause in
    kept_given_up t c.args.cause c.abort.new.self (g.K.Keeper.faults c.self.inside.keeper) c.self.invariant
    (legal_here g.J.Fixed.facts.rules c.self.inside.flow c.args.self.now x c.self.view_is c.requires.cause) (omega arith)
    (λ h. absurd (not_keeper c.args.cause c.requires.keeper h)) c.abort.ensures

pub returns : goal.returns
returns g c = grown_now c.args.self.now c.self.inside.flow c.abort.new.self (e.Abort (number_of c.args.ticket) c.args.cause) c.self.view_is c.abort.ensures
