use Rattle.std.proofs.Common.{arith}
use Rattle.nf_core.proofs.Legals.{flies_now}
use Rattle.nf_core.proofs.Starting.{caused_here, kept_start, may_start, may_up, starts, task_here}
use Rattle.nf_core.proofs.run_state.RunState.start.Goals as goal

pub start_in-requires-clause-ticket : goal.start_in-requires-clause-ticket
start_in-requires-clause-ticket g c = flies_now c.args.self.now c.self.inside.flow c.args.ticket c.requires.ticket c.self.view_is

pub start_in-requires-clause-start : goal.start_in-requires-clause-start
start_in-requires-clause-start g c =
    let f = c.self.inside.flow in let z = c.args.self.now in let t = c.args.ticket in
    may_start t c.args.job.now c.args.cause c.self.invariant (flies_now z f t c.requires.ticket c.self.view_is) (task_here f z t c.self.view_is c.requires.task) c.requires.job

pub start_in-requires-clause-abort : goal.start_in-requires-clause-abort
start_in-requires-clause-abort g c = may_up c.args.ticket c.self.invariant (flies_now c.args.self.now c.self.inside.flow c.args.ticket c.requires.ticket c.self.view_is)

pub invariant_of-self : goal.invariant_of-self
invariant_of-self g c =
    let f = c.self.inside.flow in let z = c.args.self.now in let t = c.args.ticket in
    kept_start t c.args.job.now c.args.cause c.start_in.result c.start_in.new.flow (g.K.Keeper.faults c.self.inside.keeper) c.self.invariant (flies_now z f t c.requires.ticket c.self.view_is)
    (task_here f z t c.self.view_is c.requires.task) c.requires.job (caused_here g.J.Fixed.facts f z c.args.job.now c.args.cause c.self.view_is c.requires.cause) (omega arith) c.start_in.ensures

pub returns : goal.returns
returns g c = starts c.args.self.now c.self.inside.flow c.start_in.new.flow c.args.ticket c.args.cause c.start_in.result c.self.view_is c.start_in.ensures
