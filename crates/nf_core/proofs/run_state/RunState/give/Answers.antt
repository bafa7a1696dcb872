use Rattle.std.proofs.Common.{arith, inr, ◌∙◌}
use Rattle.nf_machine.specs.declared.event.Event.TheVariants as e
use Rattle.nf_flight.specs.Ticket.{number_of}
use Rattle.nf_core.specs.Leaves.{up_cause}
use Rattle.nf_core.proofs.Legals.{asks_rules, flies, flies_now, give_legal, has_room}
use Rattle.nf_core.proofs.Starting.{answered_here, gave_up, kept_up, may_up}
use Rattle.nf_core.proofs.Finishing.{may_up_now, up_now}
use Rattle.nf_core.proofs.Giving.{gave_or_up, kept_gave}
use Rattle.nf_core.proofs.Viewed.{up_no_lane}
use Rattle.nf_core.proofs.run_state.RunState.give.Goals as goal

pub give_back-requires-clause-ticket : goal.give_back-requires-clause-ticket
give_back-requires-clause-ticket g c = flies_now c.args.self.now c.can_go_on.new.flow c.args.ticket c.requires.ticket (c.if-not-can_go_on.ensures ∙ c.self.view_is)

pub give_back-requires-clause-legal : goal.give_back-requires-clause-legal
give_back-requires-clause-legal g c =
    let f = c.self.inside.flow in let z = c.args.self.now in let t = c.args.ticket in
    may_up_now f c.can_go_on.new.flow t c.if-not-can_go_on.ensures (may_up t c.self.invariant (flies_now z f t c.requires.ticket c.self.view_is))

pub invariant_of-self : goal.invariant_of-self
invariant_of-self g c =
    let f = c.self.inside.flow in let z = c.args.self.now in let t = c.args.ticket in let u = c.give_back.new.flow in
    kept_up t u (g.K.Keeper.faults c.self.inside.keeper) c.self.invariant (flies_now z f t c.requires.ticket c.self.view_is) (omega arith) (up_now f c.can_go_on.new.flow u t c.if-not-can_go_on.ensures c.give_back.ensures)

pub returns-then-not-can_go_on : goal.returns-then-not-can_go_on
returns-then-not-can_go_on g c =
    let f = c.self.inside.flow in let t = c.args.ticket in let m = c.can_go_on.new.flow in
    inr (gave_up c.args.self.now m c.give_back.new.flow t (up_cause m) (up_no_lane m) (c.if-not-can_go_on.ensures ∙ c.self.view_is) c.give_back.ensures)

pub give-requires-clause-room : goal.give-requires-clause-room
give-requires-clause-room g c = has_room c.self.inside.flow c.can_go_on.new.flow c.if-not-can_go_on.ensures.room

pub give-requires-clause-ticket : goal.give-requires-clause-ticket
give-requires-clause-ticket g c =
    let f = c.self.inside.flow in let z = c.args.self.now in let t = c.args.ticket in
    flies f c.can_go_on.new.flow t (flies_now z f t c.requires.ticket c.self.view_is) c.if-not-can_go_on.ensures.room

pub give-requires-clause-legal : goal.give-requires-clause-legal
give-requires-clause-legal g c =
    let f = c.self.inside.flow in let z = c.args.self.now in let t = c.args.ticket in let R = g.R.Rules.meaning c.args.rules.now in
    asks_rules R (e.Give (number_of t) c.args.answer) c.can_go_on.new.flow c.self.invariant c.requires.rules
    (give_legal g.J.Fixed.facts f t c.args.answer (answered_here g.J.Fixed.facts.rules f z t c.args.answer c.self.view_is c.requires.answer) c.if-not-can_go_on.ensures.running)
    c.if-not-can_go_on.ensures.room

pub invariant_of-self-2 : goal.invariant_of-self-2
invariant_of-self-2 g c =
    let f = c.self.inside.flow in let z = c.args.self.now in let t = c.args.ticket in
    kept_gave t c.args.answer c.give.result c.can_go_on.new.flow c.give.new.self c.self.invariant (flies_now z f t c.requires.ticket c.self.view_is)
    (answered_here g.J.Fixed.facts.rules f z t c.args.answer c.self.view_is c.requires.answer) c.if-not-can_go_on.ensures c.give.ensures.ok c.give.ensures.err

pub returns : goal.returns
returns g c =
    gave_or_up c.args.self.now c.self.inside.flow c.can_go_on.new.flow c.give.new.self c.args.ticket c.args.answer c.give.result c.self.view_is c.if-not-can_go_on.ensures.room c.give.ensures.ok c.give.ensures.err
