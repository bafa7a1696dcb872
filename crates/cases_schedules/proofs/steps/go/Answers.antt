use Rattle.std.proofs.Common.{refl, rules}
use Rattle.nf_steps.proofs.Staying.{halted_stay}
use Rattle.cases_schedules.proofs.Holding.{flies, moved_stay, sound_more, sound_stays}
use Rattle.cases_schedules.proofs.steps.go.Goals as goal

pub go-requires-clause-legal : goal.go-requires-clause-legal
go-requires-clause-legal c = c.is_legal.ensures.0 (search rules)

pub returns-in_default : goal.returns-in_default
returns-in_default c = sound_stays c.args.machine.now _ c.requires c.in_default.ensures.run (halted_stay c.args.machine.now.flow c.go.new.flow c.in_default.ensures.err) refl

pub returns-in_ok-hold-in-Some : goal.returns-in_ok-hold-in-Some
returns-in_ok-hold-in-Some c =
    let stay = moved_stay c.args.machine.now.flow c.go.new.flow c.args.step c.in-Ok.ensures.ok in
    sound_more c.args.machine.now _ c.in-Some.ticket c.requires c.in-Ok.ensures.run stay c.in_ok-hold-in-Some.ensures.number (flies c.go.new.flow c.in-Ok.ticket c.in-Some.ticket c.in-Some.is c.in-Ok.ensures.ticket) c.in_ok-hold-in-Some.ensures.held

pub returns-in-None : goal.returns-in-None
returns-in-None c = sound_stays c.args.machine.now _ c.requires c.in-Ok.ensures.run (moved_stay c.args.machine.now.flow c.go.new.flow c.args.step c.in-Ok.ensures.ok) refl
