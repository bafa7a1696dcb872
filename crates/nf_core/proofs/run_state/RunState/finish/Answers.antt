use Rattle.std.proofs.Common.{ap, inr, ◌∙◌}
use Rattle.std.specs.Prelude.{Some}
use Rattle.nf_machine.specs.declared.event.Event.TheVariants as e
use Rattle.nf_machine.specs.declared.stop.Stop.TheVariants as s
use Rattle.nf_machine.specs.declared.stop.Outside.TheVariants.{Keeper}
use Rattle.nf_flight.specs.Ticket.{number_of}
use Rattle.nf_flow.specs.Seen.{lost, roomy}
use Rattle.nf_core.specs.Leaves.{up_cause}
use Rattle.nf_core.specs.Ran.{bytes_of, done_of, outs_of, report_of}
use Rattle.nf_core.proofs.Legals.{asks_rules, finish_legal, flies, flies_now, grown_on, has_room}
use Rattle.nf_core.proofs.Starting.{gave_up, may_blame_keeper, may_up}
use Rattle.nf_core.proofs.Finishing.{done_so, ended, ended_so, gave_up_on, kept_ended, kept_lost_keeper, kept_lost_mem, kept_lost_up, may_on, may_up_now, may_up_on, up_now, up_on, up_with_dones}
use Rattle.nf_core.proofs.Viewed.{failed_so, keeper_no_lane, mem_no_lane, up_no_lane}
use Rattle.nf_core.proofs.run_state.RunState.finish.Goals as goal

pub give_back-requires-clause-ticket : goal.give_back-requires-clause-ticket
give_back-requires-clause-ticket g c = flies_now c.args.self.now c.self.inside.flow c.args.ticket c.requires.ticket c.self.view_is

pub give_back-requires-clause-legal : goal.give_back-requires-clause-legal
give_back-requires-clause-legal g c = may_up c.args.ticket c.self.invariant (flies_now c.args.self.now c.self.inside.flow c.args.ticket c.requires.ticket c.self.view_is)

pub invariant_of-self : goal.invariant_of-self
invariant_of-self g c =
    let flying = flies_now c.args.self.now c.self.inside.flow c.args.ticket c.requires.ticket c.self.view_is in
    up_with_dones c.args.ticket c.give_back.new.flow c.reserve.new.self.items c.self.invariant flying c.reserve.ensures.items c.give_back.ensures

pub returns-in_default : goal.returns-in_default
returns-in_default g c = inr (gave_up c.args.self.now c.self.inside.flow c.give_back.new.flow c.args.ticket (up_cause c.self.inside.flow) (up_no_lane c.self.inside.flow) c.self.view_is c.give_back.ensures)

pub can_end-requires : goal.can_end-requires
can_end-requires g c = flies_now c.args.self.now c.self.inside.flow c.args.ticket c.requires.ticket c.self.view_is

pub give_back-requires-then-not-can_end-clause-ticket : goal.give_back-requires-then-not-can_end-clause-ticket
give_back-requires-then-not-can_end-clause-ticket g c =
    flies_now c.args.self.now c.can_end.new.flow c.args.ticket c.requires.ticket (c.if-not-can_end.ensures ∙ c.self.view_is)

pub give_back-requires-then-not-can_end-clause-legal : goal.give_back-requires-then-not-can_end-clause-legal
give_back-requires-then-not-can_end-clause-legal g c =
    let flying = flies_now c.args.self.now c.self.inside.flow c.args.ticket c.requires.ticket c.self.view_is in
    may_up_now c.self.inside.flow c.can_end.new.flow c.args.ticket c.if-not-can_end.ensures (may_up c.args.ticket c.self.invariant flying)

pub invariant_of-self-then-not-can_end : goal.invariant_of-self-then-not-can_end
invariant_of-self-then-not-can_end g c =
    let flying = flies_now c.args.self.now c.self.inside.flow c.args.ticket c.requires.ticket c.self.view_is in
    let u = c.give_back-then-not-can_end.new.flow in
    up_with_dones c.args.ticket u c.reserve.new.self.items c.self.invariant flying c.reserve.ensures.items
    (up_now c.self.inside.flow c.can_end.new.flow u c.args.ticket c.if-not-can_end.ensures c.give_back-then-not-can_end.ensures)

pub returns-then-not-can_end : goal.returns-then-not-can_end
returns-then-not-can_end g c =
    let m = c.can_end.new.flow in
    inr (gave_up c.args.self.now m c.give_back-then-not-can_end.new.flow c.args.ticket (up_cause m) (up_no_lane m) (c.if-not-can_end.ensures ∙ c.self.view_is) c.give_back-then-not-can_end.ensures)

pub abort-requires-clause-ticket : goal.abort-requires-clause-ticket
abort-requires-clause-ticket g c =
    let flying = flies_now c.args.self.now c.self.inside.flow c.args.ticket c.requires.ticket c.self.view_is in
    flies c.self.inside.flow c.can_end.new.flow c.args.ticket flying c.if-not-can_end.ensures.room

pub abort-requires-clause-legal : goal.abort-requires-clause-legal
abort-requires-clause-legal g c =
    let flying = flies_now c.args.self.now c.self.inside.flow c.args.ticket c.requires.ticket c.self.view_is in
    may_on c.self.inside.flow c.can_end.new.flow (e.Abort (number_of c.args.ticket) (Some (s.Outside Keeper))) c.if-not-can_end.ensures.room (may_blame_keeper c.args.ticket c.self.invariant flying)

pub invariant_of-self-in-Err-Failed : goal.invariant_of-self-in-Err-Failed
invariant_of-self-in-Err-Failed g c =
    let f = c.self.inside.flow in let z = c.args.self.now in let t = c.args.ticket in let job = c.args.job.now in let x = c.args.ran in let can = c.if-not-can_end.ensures in let u = c.abort.new.self in
    let k = ended g.J.Fixed.facts f z t job x c.self.view_is c.requires.ticket c.requires.task c.requires.job can.started c.requires.ran in
    kept_lost_keeper c.records_read_back.ensures c.no_front_is_a_record.ensures t job (report_of x) (outs_of x) (bytes_of x) u c.reserve.new.self.items (g.K.Keeper.held c.put_record.new.keeper)
    (g.K.Keeper.faults c.put_record.new.keeper) c.put_record.result c.self.invariant k c.reserve.ensures.items c.put_record.ensures.content c.put_record.ensures.later (failed_so c.put_record.result c.in-Err-Failed.field-0 c.in-Err-Failed.is c.in-Err-Failed.field-0-is c.put_record.ensures.cause)
    (grown_on f c.can_end.new.flow u (e.Abort (number_of t) (Some (s.Outside Keeper))) can.room c.abort.ensures)

pub returns-in-Err-Failed : goal.returns-in-Err-Failed
returns-in-Err-Failed g c =
    inr (gave_up_on c.args.self.now c.can_end.new.flow c.abort.new.self c.args.ticket (Some (s.Outside Keeper)) keeper_no_lane (c.if-not-can_end.ensures.room ∙ ap roomy c.self.view_is) c.abort.ensures)

pub give_back-requires-in-Err-Mem-clause-ticket : goal.give_back-requires-in-Err-Mem-clause-ticket
give_back-requires-in-Err-Mem-clause-ticket g c =
    let flying = flies_now c.args.self.now c.self.inside.flow c.args.ticket c.requires.ticket c.self.view_is in
    flies c.self.inside.flow c.can_end.new.flow c.args.ticket flying c.if-not-can_end.ensures.room

pub give_back-requires-in-Err-Mem-clause-legal : goal.give_back-requires-in-Err-Mem-clause-legal
give_back-requires-in-Err-Mem-clause-legal g c =
    let flying = flies_now c.args.self.now c.self.inside.flow c.args.ticket c.requires.ticket c.self.view_is in
    may_up_on c.self.inside.flow c.can_end.new.flow c.args.ticket c.if-not-can_end.ensures.room (may_up c.args.ticket c.self.invariant flying)

pub invariant_of-self-in-Err-Mem : goal.invariant_of-self-in-Err-Mem
invariant_of-self-in-Err-Mem g c =
    let f = c.self.inside.flow in let z = c.args.self.now in let t = c.args.ticket in let job = c.args.job.now in let x = c.args.ran in let can = c.if-not-can_end.ensures in
    let u = c.give_back-in-Err-Mem.new.flow in
    let k = ended g.J.Fixed.facts f z t job x c.self.view_is c.requires.ticket c.requires.task c.requires.job can.started c.requires.ran in
    kept_lost_up c.records_read_back.ensures c.no_front_is_a_record.ensures t job (report_of x) (outs_of x) (bytes_of x) u c.reserve.new.self.items (g.K.Keeper.held c.put_record.new.keeper)
    (g.K.Keeper.faults c.put_record.new.keeper) c.put_record.result c.self.invariant k c.reserve.ensures.items c.put_record.ensures.content c.put_record.ensures.later
    (up_on f c.can_end.new.flow u t can.room c.give_back-in-Err-Mem.ensures)

pub returns-in-Err-Mem : goal.returns-in-Err-Mem
returns-in-Err-Mem g c =
    let m = c.can_end.new.flow in
    inr (gave_up_on c.args.self.now m c.give_back-in-Err-Mem.new.flow c.args.ticket (up_cause m) (up_no_lane m) (c.if-not-can_end.ensures.room ∙ ap roomy c.self.view_is) c.give_back-in-Err-Mem.ensures)

pub finish-requires-clause-room : goal.finish-requires-clause-room
finish-requires-clause-room g c = has_room c.self.inside.flow c.can_end.new.flow c.if-not-can_end.ensures.room

pub finish-requires-clause-ticket : goal.finish-requires-clause-ticket
finish-requires-clause-ticket g c =
    let flying = flies_now c.args.self.now c.self.inside.flow c.args.ticket c.requires.ticket c.self.view_is in
    flies c.self.inside.flow c.can_end.new.flow c.args.ticket flying c.if-not-can_end.ensures.room

pub finish-requires-clause-legal : goal.finish-requires-clause-legal
finish-requires-clause-legal g c =
    let f = c.self.inside.flow in let z = c.args.self.now in let t = c.args.ticket in let x = c.args.ran in let can = c.if-not-can_end.ensures in
    let k = ended g.J.Fixed.facts f z t c.args.job.now x c.self.view_is c.requires.ticket c.requires.task c.requires.job can.started c.requires.ran in
    asks_rules (g.R.Rules.meaning c.args.rules.now) (e.Finish (number_of t) (report_of x) (outs_of x)) c.can_end.new.flow c.self.invariant c.requires.rules
    (finish_legal g.J.Fixed.facts f t (report_of x) (outs_of x) k.flying k.task k.started k.by_rule) can.room

pub invariant_of-self-in_default-finish : goal.invariant_of-self-in_default-finish
invariant_of-self-in_default-finish g c =
    let f = c.self.inside.flow in let z = c.args.self.now in let t = c.args.ticket in let job = c.args.job.now in let x = c.args.ran in let can = c.if-not-can_end.ensures in let u = c.finish.new.self in
    let k = ended g.J.Fixed.facts f z t job x c.self.view_is c.requires.ticket c.requires.task c.requires.job can.started c.requires.ran in
    kept_lost_mem c.records_read_back.ensures c.no_front_is_a_record.ensures t job (report_of x) (outs_of x) (bytes_of x) u c.reserve.new.self.items (g.K.Keeper.held c.put_record.new.keeper)
    (g.K.Keeper.faults c.put_record.new.keeper) c.put_record.result c.self.invariant k c.reserve.ensures.items c.put_record.ensures.content c.put_record.ensures.later
    (grown_on f c.can_end.new.flow u (lost (number_of t)) can.room c.in_default-finish.ensures.err)

pub returns-in_default-finish : goal.returns-in_default-finish
returns-in_default-finish g c =
    inr (gave_up_on c.args.self.now c.can_end.new.flow c.finish.new.self c.args.ticket (Some s.Mem) mem_no_lane (c.if-not-can_end.ensures.room ∙ ap roomy c.self.view_is) c.in_default-finish.ensures.err)

pub invariant_of-self-2 : goal.invariant_of-self-2
invariant_of-self-2 g c =
    let f = c.self.inside.flow in let z = c.args.self.now in let t = c.args.ticket in let job = c.args.job.now in let x = c.args.ran in let can = c.if-not-can_end.ensures in let u = c.finish.new.self in
    let k = ended g.J.Fixed.facts f z t job x c.self.view_is c.requires.ticket c.requires.task c.requires.job can.started c.requires.ran in
    kept_ended _ _ _ c.records_read_back.ensures c.no_front_is_a_record.ensures t job (report_of x) (outs_of x) (bytes_of x) u (done_of x) c.reserve.new.self.items c.keep_done.new.dones.items
    (g.K.Keeper.held c.put_record.new.keeper) (g.K.Keeper.faults c.put_record.new.keeper) c.self.invariant k c.reserve.ensures.items c.keep_done.ensures
    (done_so g.J.Fixed.facts f t job x k.flying c.requires.job c.requires.ran) c.in-Ok-put_record.ensures.content c.put_record.ensures.later
    (grown_on f c.can_end.new.flow u (e.Finish (number_of t) (report_of x) (outs_of x)) can.room c.in-Ok-finish.ensures.ok)

pub returns : goal.returns
returns g c =
    let t = c.args.ticket in let x = c.args.ran in
    ended_so c.args.self.now c.can_end.new.flow c.finish.new.self t (e.Finish (number_of t) (report_of x) (outs_of x)) (outs_of x) c.in-Ok-finish.back (c.if-not-can_end.ensures.room ∙ ap roomy c.self.view_is)
    c.in-Ok-finish.ensures.ok c.in-Ok-finish.ensures.ticket c.in-Ok-finish.ensures.flying
