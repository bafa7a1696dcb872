use Rattle.std.proofs.Common.{ap, inr, ◌∙◌}
use Rattle.nf_machine.specs.declared.event.Event.TheVariants as e
use Rattle.nf_machine.specs.declared.stop.Stop.TheVariants as s
use Rattle.std.specs.Prelude.{Some}
use Rattle.nf_flight.specs.Ticket.{number_of}
use Rattle.nf_flow.specs.Seen.{lost, roomy}
use Rattle.nf_core.specs.Leaves.{up_cause}
use Rattle.nf_core.proofs.Legals.{asks_rules, flies, flies_now, grown_on, has_room, reuse_legal}
use Rattle.nf_core.proofs.Starting.{gave_up, may_up, task_here}
use Rattle.nf_core.proofs.Finishing.{ended_so, gave_up_on, kept_taken, may_up_now, up_for_mem, up_now, up_with_seens}
use Rattle.nf_core.proofs.Viewed.{mem_no_lane, up_no_lane}
use Rattle.nf_core.proofs.run_state.RunState.reuse.Goals as goal

pub give_back-requires-clause-ticket : goal.give_back-requires-clause-ticket
give_back-requires-clause-ticket g c = flies_now c.args.self.now c.self.inside.flow c.args.ticket c.requires.ticket c.self.view_is

pub give_back-requires-clause-legal : goal.give_back-requires-clause-legal
give_back-requires-clause-legal g c = may_up c.args.ticket c.self.invariant (flies_now c.args.self.now c.self.inside.flow c.args.ticket c.requires.ticket c.self.view_is)

pub invariant_of-self : goal.invariant_of-self
invariant_of-self g c =
    let flying = flies_now c.args.self.now c.self.inside.flow c.args.ticket c.requires.ticket c.self.view_is in
    up_with_seens c.args.ticket c.give_back.new.flow c.reserve.new.self.items c.self.invariant flying c.reserve.ensures.items c.give_back.ensures

pub returns-in_default : goal.returns-in_default
returns-in_default g c = inr (gave_up c.args.self.now c.self.inside.flow c.give_back.new.flow c.args.ticket (up_cause c.self.inside.flow) (up_no_lane c.self.inside.flow) c.self.view_is c.give_back.ensures)

pub can_start-requires : goal.can_start-requires
can_start-requires g c = flies_now c.args.self.now c.self.inside.flow c.args.ticket c.requires.ticket c.self.view_is

pub give_back-requires-then-not-can_start-clause-ticket : goal.give_back-requires-then-not-can_start-clause-ticket
give_back-requires-then-not-can_start-clause-ticket g c =
    flies_now c.args.self.now c.can_start.new.flow c.args.ticket c.requires.ticket (c.if-not-can_start.ensures ∙ c.self.view_is)

pub give_back-requires-then-not-can_start-clause-legal : goal.give_back-requires-then-not-can_start-clause-legal
give_back-requires-then-not-can_start-clause-legal g c =
    let flying = flies_now c.args.self.now c.self.inside.flow c.args.ticket c.requires.ticket c.self.view_is in
    may_up_now c.self.inside.flow c.can_start.new.flow c.args.ticket c.if-not-can_start.ensures (may_up c.args.ticket c.self.invariant flying)

pub invariant_of-self-then-not-can_start : goal.invariant_of-self-then-not-can_start
invariant_of-self-then-not-can_start g c =
    let flying = flies_now c.args.self.now c.self.inside.flow c.args.ticket c.requires.ticket c.self.view_is in
    let u = c.give_back-then-not-can_start.new.flow in
    up_with_seens c.args.ticket u c.reserve.new.self.items c.self.invariant flying c.reserve.ensures.items
    (up_now c.self.inside.flow c.can_start.new.flow u c.args.ticket c.if-not-can_start.ensures c.give_back-then-not-can_start.ensures)

pub returns-then-not-can_start : goal.returns-then-not-can_start
returns-then-not-can_start g c =
    let m = c.can_start.new.flow in
    inr (gave_up c.args.self.now m c.give_back-then-not-can_start.new.flow c.args.ticket (up_cause m) (up_no_lane m) (c.if-not-can_start.ensures ∙ c.self.view_is) c.give_back-then-not-can_start.ensures)

pub reuse-requires-clause-room : goal.reuse-requires-clause-room
reuse-requires-clause-room g c = has_room c.self.inside.flow c.can_start.new.flow c.if-not-can_start.ensures.room

pub reuse-requires-clause-ticket : goal.reuse-requires-clause-ticket
reuse-requires-clause-ticket g c =
    let flying = flies_now c.args.self.now c.self.inside.flow c.args.ticket c.requires.ticket c.self.view_is in
    flies c.self.inside.flow c.can_start.new.flow c.args.ticket flying c.if-not-can_start.ensures.room

pub reuse-requires-clause-legal : goal.reuse-requires-clause-legal
reuse-requires-clause-legal g c =
    let f = c.self.inside.flow in let z = c.args.self.now in let t = c.args.ticket in let can = c.if-not-can_start.ensures in
    asks_rules (g.R.Rules.meaning c.args.rules.now) (e.Reuse (number_of t) c.args.report c.args.outs) c.can_start.new.flow c.self.invariant c.requires.rules
    (reuse_legal g.J.Fixed.facts f t c.args.job.now c.args.report c.args.outs (flies_now z f t c.requires.ticket c.self.view_is) (task_here f z t c.self.view_is c.requires.task) c.requires.job
    can.running can.fresh c.requires.outs) can.room

pub invariant_of-self-in_default-reuse : goal.invariant_of-self-in_default-reuse
invariant_of-self-in_default-reuse g c =
    let f = c.self.inside.flow in let t = c.args.ticket in let u = c.reuse.new.self in let can = c.if-not-can_start.ensures in
    up_for_mem t u c.reserve.new.self.items c.self.invariant (flies_now c.args.self.now f t c.requires.ticket c.self.view_is) c.reserve.ensures.items
    (grown_on f c.can_start.new.flow u (lost (number_of t)) can.room c.in_default-reuse.ensures.err)

pub returns-in_default-reuse : goal.returns-in_default-reuse
returns-in_default-reuse g c =
    inr (gave_up_on c.args.self.now c.can_start.new.flow c.reuse.new.self c.args.ticket (Some s.Mem) mem_no_lane (c.if-not-can_start.ensures.room ∙ ap roomy c.self.view_is) c.in_default-reuse.ensures.err)

pub invariant_of-self-2 : goal.invariant_of-self-2
invariant_of-self-2 g c =
    let f = c.self.inside.flow in let z = c.args.self.now in let t = c.args.ticket in let can = c.if-not-can_start.ensures in let u = c.reuse.new.self in
    let flying = flies_now z f t c.requires.ticket c.self.view_is in let x = e.Reuse (number_of t) c.args.report c.args.outs in
    kept_taken t flying c.args.job.now c.args.report c.args.outs u c.args.seen c.reserve.new.self.items c.push_reserved.new.self.items c.self.invariant (task_here f z t c.self.view_is c.requires.task)
    c.requires.job can.running can.fresh c.requires.outs c.requires.left c.reserve.ensures.items c.push_reserved.ensures.items
    (record { real = c.requires.seen; report = c.requires.told }) (grown_on f c.can_start.new.flow u x can.room c.in-Ok-reuse.ensures.ok)

pub returns : goal.returns
returns g c =
    let t = c.args.ticket in
    ended_so c.args.self.now c.can_start.new.flow c.reuse.new.self t (e.Reuse (number_of t) c.args.report c.args.outs) c.args.outs c.in-Ok-reuse.back (c.if-not-can_start.ensures.room ∙ ap roomy c.self.view_is)
    c.in-Ok-reuse.ensures.ok c.in-Ok-reuse.ensures.ticket c.in-Ok-reuse.ensures.flying
