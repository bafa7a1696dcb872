use Rattle.std.proofs.Common.{arith, refl, subst}
use Rattle.std.specs.Prelude.{Option, Some, MatchOption}
use Rattle.nf_job.specs.declared.report.Report.{Report}
use Rattle.nf_core.specs.Causes.{IsCaused, IsLeft}
use Rattle.nf_core.proofs.Entering.{writes_of}
use Rattle.nf_machine.specs.declared.event.Cause.TheVariants.{NoRecord}
use Rattle.nf_machine.specs.declared.stop.Stop.TheVariants as s
use Rattle.nf_machine.specs.declared.stop.Outside.TheVariants.{Keeper}
use Rattle.nf_core.specs.Leaves.{up_cause}
use Rattle.nf_core.proofs.Legals.{flies_now}
use Rattle.nf_core.proofs.Starting.{answered, gave_up, kept_blamed, kept_start, kept_up, looks, may_blame_keeper, may_start, may_up, next_so, starts, task_here, with_faults, with_held}
use Rattle.nf_core.proofs.Viewed.{failed_so, keeper_no_lane, up_no_lane}
use Rattle.nf_core.proofs.run_state.RunState.ask.Goals as goal

pub is_fresh-requires : goal.is_fresh-requires
is_fresh-requires g c = flies_now c.args.self.now c.self.inside.flow c.args.ticket c.requires.ticket c.self.view_is

pub give_back-requires-clause-ticket : goal.give_back-requires-clause-ticket
give_back-requires-clause-ticket g c = flies_now c.args.self.now c.self.inside.flow c.args.ticket c.requires.ticket c.self.view_is

pub give_back-requires-clause-legal : goal.give_back-requires-clause-legal
give_back-requires-clause-legal g c = may_up c.args.ticket c.self.invariant (flies_now c.args.self.now c.self.inside.flow c.args.ticket c.requires.ticket c.self.view_is)

pub invariant_of-self : goal.invariant_of-self
invariant_of-self g c =
    let flying = flies_now c.args.self.now c.self.inside.flow c.args.ticket c.requires.ticket c.self.view_is in
    kept_up c.args.ticket c.give_back.new.flow (g.K.Keeper.faults c.self.inside.keeper) c.self.invariant flying (omega arith) c.give_back.ensures

pub returns-then-not-is_fresh : goal.returns-then-not-is_fresh
returns-then-not-is_fresh g c = gave_up c.args.self.now c.self.inside.flow c.give_back.new.flow c.args.ticket (up_cause c.self.inside.flow) (up_no_lane c.self.inside.flow) c.self.view_is c.give_back.ensures

pub abort-requires-clause-ticket : goal.abort-requires-clause-ticket
abort-requires-clause-ticket g c = flies_now c.args.self.now c.self.inside.flow c.args.ticket c.requires.ticket c.self.view_is

pub abort-requires-clause-legal : goal.abort-requires-clause-legal
abort-requires-clause-legal g c = may_blame_keeper c.args.ticket c.self.invariant (flies_now c.args.self.now c.self.inside.flow c.args.ticket c.requires.ticket c.self.view_is)

pub invariant_of-self-in-Err-Failed : goal.invariant_of-self-in-Err-Failed
invariant_of-self-in-Err-Failed g c =
    let flying = flies_now c.args.self.now c.self.inside.flow c.args.ticket c.requires.ticket c.self.view_is in
    with_held (g.K.Keeper.held c.report_in.new.keeper)
    (kept_blamed c.args.ticket c.abort.new.self (g.K.Keeper.faults c.report_in.new.keeper) c.self.invariant flying c.in-Err-Failed.ensures.later (failed_so c.report_in.result c.in-Err-Failed.field-0 c.in-Err-Failed.is c.in-Err-Failed.field-0-is c.report_in.ensures.cause) c.abort.ensures)
    c.in-Err-Failed.ensures.same

pub returns-in-Err-Failed : goal.returns-in-Err-Failed
returns-in-Err-Failed g c = gave_up c.args.self.now c.self.inside.flow c.abort.new.self c.args.ticket (Some (s.Outside Keeper)) keeper_no_lane c.self.view_is c.abort.ensures

pub give_back-requires-in-Err-Mem-clause-ticket : goal.give_back-requires-in-Err-Mem-clause-ticket
give_back-requires-in-Err-Mem-clause-ticket g c = flies_now c.args.self.now c.self.inside.flow c.args.ticket c.requires.ticket c.self.view_is

pub give_back-requires-in-Err-Mem-clause-legal : goal.give_back-requires-in-Err-Mem-clause-legal
give_back-requires-in-Err-Mem-clause-legal g c = may_up c.args.ticket c.self.invariant (flies_now c.args.self.now c.self.inside.flow c.args.ticket c.requires.ticket c.self.view_is)

pub invariant_of-self-in-Err-Mem : goal.invariant_of-self-in-Err-Mem
invariant_of-self-in-Err-Mem g c =
    let flying = flies_now c.args.self.now c.self.inside.flow c.args.ticket c.requires.ticket c.self.view_is in
    with_held (g.K.Keeper.held c.report_in.new.keeper)
    (kept_up c.args.ticket c.give_back-in-Err-Mem.new.flow (g.K.Keeper.faults c.report_in.new.keeper) c.self.invariant flying c.in-Err-Mem.ensures.later c.give_back-in-Err-Mem.ensures)
    c.in-Err-Mem.ensures.same

pub returns-in-Err-Mem : goal.returns-in-Err-Mem
returns-in-Err-Mem g c = gave_up c.args.self.now c.self.inside.flow c.give_back-in-Err-Mem.new.flow c.args.ticket (up_cause c.self.inside.flow) (up_no_lane c.self.inside.flow) c.self.view_is c.give_back-in-Err-Mem.ensures

pub invariant_of-self-in-Some : goal.invariant_of-self-in-Some
invariant_of-self-in-Some g c =
    with_held (g.K.Keeper.held c.report_in.new.keeper) (with_faults (g.K.Keeper.faults c.report_in.new.keeper) c.self.invariant c.report_in.ensures.later) c.report_in.ensures.same

pub returns-in-Some : goal.returns-in-Some
returns-in-Some g c =
    let flying = flies_now c.args.self.now c.self.inside.flow c.args.ticket c.requires.ticket c.self.view_is in
    looks g.J.Fixed.facts c.args.job.now c.args.self.now c.self.inside.flow c.args.ticket c.in-Some.report c.self.view_is
    (subst (λ (o : Option Report). MatchOption o (IsCaused g.J.Fixed.facts (writes_of g.J.Fixed.facts c.self.inside.flow) c.args.job.now NoRecord) (λ r. IsLeft g.J.Fixed.facts c.args.job.now r)) c.in-Some.is
    (answered c.records_read_back.ensures c.args.ticket c.args.job.now c.in-Ok.found c.self.invariant c.requires.resumed (c.if-not-is_fresh.ensures refl).running flying c.requires.job c.in-Ok.ensures.content))
    (c.if-not-is_fresh.ensures refl).running

pub start_in-requires-clause-ticket : goal.start_in-requires-clause-ticket
start_in-requires-clause-ticket g c = flies_now c.args.self.now c.self.inside.flow c.args.ticket c.requires.ticket c.self.view_is

pub start_in-requires-clause-start : goal.start_in-requires-clause-start
start_in-requires-clause-start g c =
    let f = c.self.inside.flow in let z = c.args.self.now in let t = c.args.ticket in
    may_start t c.args.job.now NoRecord c.self.invariant (flies_now z f t c.requires.ticket c.self.view_is) (task_here f z t c.self.view_is c.requires.task) c.requires.job

pub start_in-requires-clause-abort : goal.start_in-requires-clause-abort
start_in-requires-clause-abort g c = may_up c.args.ticket c.self.invariant (flies_now c.args.self.now c.self.inside.flow c.args.ticket c.requires.ticket c.self.view_is)

pub invariant_of-self-2 : goal.invariant_of-self-2
invariant_of-self-2 g c =
    let f = c.self.inside.flow in let z = c.args.self.now in let t = c.args.ticket in let flying = flies_now z f t c.requires.ticket c.self.view_is in
    with_held (g.K.Keeper.held c.report_in.new.keeper)
    (kept_start t c.args.job.now NoRecord c.start_in.result c.start_in.new.flow (g.K.Keeper.faults c.report_in.new.keeper) c.self.invariant flying (task_here f z t c.self.view_is c.requires.task) c.requires.job
    (subst (λ (o : Option Report). MatchOption o (IsCaused g.J.Fixed.facts (writes_of g.J.Fixed.facts f) c.args.job.now NoRecord) (λ r. IsLeft g.J.Fixed.facts c.args.job.now r)) c.in_default.is
    (answered c.records_read_back.ensures t c.args.job.now c.in-Ok.found c.self.invariant c.requires.resumed (c.if-not-is_fresh.ensures refl).running flying c.requires.job c.in-Ok.ensures.content))
    c.report_in.ensures.later c.start_in.ensures)
    c.report_in.ensures.same

pub returns : goal.returns
returns g c =
    let f = c.self.inside.flow in let z = c.args.self.now in
    next_so g.J.Fixed.facts c.args.job.now z c.start_in.new.flow c.args.ticket NoRecord c.start_in.result c.run_or_over.result c.run_or_over.ensures
    (starts z f c.start_in.new.flow c.args.ticket NoRecord c.start_in.result c.self.view_is c.start_in.ensures)
