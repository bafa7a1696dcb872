use Rattle.std.proofs.Common.{◌≡◌, ◌+◌, Err, length, rules}
use Rattle.nf_meaning.specs.declared.fault.LowerFault.TheVariants.{Mem}
use Rattle.nf_walked.specs.Around.{Knows}
use Rattle.nf_applied.specs.Applied.{of_applied}
use Rattle.nf_applied.proofs.Applying.{applied_used, can_add, has_labels}
use Rattle.nf_applied.proofs.Using.{used_lost}
use Rattle.nf_applied.proofs.calls.apply_taken.Goals as goal

pub operator-requires-clause-fits : goal.operator-requires-clause-fits
operator-requires-clause-fits g c =
    can_add c.args.place c.args.operator c.args.port c.args.taken (c.in_ok-call.call, c.in_ok-call.labels) c.in_ok-call.ensures c.args.state.now.plan c.requires.reads c.requires.fits.reads c.requires.count c.requires.room

pub operator-requires-clause-labels : goal.operator-requires-clause-labels
operator-requires-clause-labels g c = has_labels c.args.place c.args.operator c.args.port c.args.taken (c.in_ok-call.call, c.in_ok-call.labels) c.in_ok-call.ensures

pub operator-requires-clause-few : goal.operator-requires-clause-few
operator-requires-clause-few g c = c.in_ok-call.ensures.few

pub returns-in_err-call : goal.returns-in_err-call
returns-in_err-call g c =
    let err : c.from_residual.result ≡ Err Mem = search rules in
    rw err (used_lost (Knows g.N.Natives.titles g.N.Natives.answer c.args.walker.now) 1 (1 + length c.args.taken.ports.items) (of_applied c.args.place c.args.operator c.args.port c.args.taken) c.args.state.now)

pub returns : goal.returns
returns g c =
    applied_used c.args.place c.args.operator c.args.port c.args.taken (c.in_ok-call.call, c.in_ok-call.labels) c.in_ok-call.ensures (Knows g.N.Natives.titles g.N.Natives.answer c.args.walker.now) c.args.state.now c.operator.new.state
    c.operator.result c.requires.before.lowering.plan c.requires.room c.operator.ensures
