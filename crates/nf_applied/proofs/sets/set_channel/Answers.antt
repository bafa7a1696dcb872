use Rattle.std.proofs.Common.{◌≡◌, Err, Ok, [], length, rules, subst}
use Rattle.nf_meaning.specs.declared.fault.LowerFault.TheVariants.{Mem}
use Rattle.nf_scopes.specs.declared.things.Thing.{Thing}
use Rattle.nf_walked.specs.Around.{Knows}
use Rattle.nf_walked.specs.Filled.{Filled, of_operator}
use Rattle.nf_applied.specs.Applied.{of_set}
use Rattle.nf_applied.proofs.Setting.{can_set, has_no_labels, set_fails, set_given}
use Rattle.nf_applied.proofs.Using.{used_lost, used_lost_later}
use Rattle.nf_applied.proofs.sets.set_channel.Goals as goal

pub operator-requires-clause-fits : goal.operator-requires-clause-fits
operator-requires-clause-fits g c = can_set (Knows g.N.Natives.titles g.N.Natives.answer c.args.walker.now) c.args.place c.args.port c.in_ok-call.call c.in_ok-call.ensures c.args.state.now.plan c.requires.reads c.requires.room

pub operator-requires-clause-labels : goal.operator-requires-clause-labels
operator-requires-clause-labels g c = has_no_labels (Knows g.N.Natives.titles g.N.Natives.answer c.args.walker.now) c.args.place c.args.port c.in_ok-call.call c.in_ok-call.ensures c.new.result.items

pub returns-in_err-call : goal.returns-in_err-call
returns-in_err-call g c =
    let err : c.from_residual.result ≡ Err Mem = search rules in
    rw err (used_lost (Knows g.N.Natives.titles g.N.Natives.answer c.args.walker.now) 1 1 (of_set c.args.place c.args.port) c.args.state.now)

pub returns-in_err-set : goal.returns-in_err-set
returns-in_err-set g c =
    let e = c.in_err-set.field-0.0 in
    let err : c.from_residual-in_err-set.result ≡ Err e = search rules in
    let none : c.new.result.items ≡ [] = search rules in
    rw err
    (set_fails (Knows g.N.Natives.titles g.N.Natives.answer c.args.walker.now) c.args.place c.args.port c.in_ok-call.call c.in_ok-call.ensures c.args.state.now c.operator.new.state c.requires.before.lowering.plan c.requires.room
    c.new.result.items none e c.in_err-set.ensures)

pub returns-in-Channel : goal.returns-in-Channel
returns-in-Channel g c =
    let none : c.new.result.items ≡ [] = search rules in
    let call = c.in_ok-call.call in
    let P : Thing → Type 0 =
    λ t. Filled (Knows g.N.Natives.titles g.N.Natives.answer c.args.walker.now) (length call.ports) (of_operator call c.new.result.items) c.args.state.now c.operator.new.state (Ok t)
    in
    set_given (Knows g.N.Natives.titles g.N.Natives.answer c.args.walker.now) c.args.place c.args.port call c.in_ok-call.ensures c.args.state.now c.operator.new.state c.requires.before.lowering.plan c.requires.room
    c.new.result.items none c.in-Channel.port (subst P c.in-Channel.is c.in_ok-set.ensures)

pub returns-in-Known : goal.returns-in-Known
returns-in-Known g c =
    used_lost_later (Knows g.N.Natives.titles g.N.Natives.answer c.args.walker.now) 1 1 (of_set c.args.place c.args.port) c.args.state.now c.operator.new.state c.in_ok-set.ensures.later

pub returns : goal.returns
returns g c =
    used_lost_later (Knows g.N.Natives.titles g.N.Natives.answer c.args.walker.now) 1 1 (of_set c.args.place c.args.port) c.args.state.now c.operator.new.state c.in_ok-set.ensures.later
