use Rattle.nf_locked.proofs.Entering.{nothing_taken, taken, taken_in_vain}
use Rattle.std.proofs.Common.{refl, ◌∙◌, ◌++◌, ◌∷◌, [], ap, inr, subst, sym}
use Rattle.std.specs.Prelude.{Some}
use Rattle.nf_flow.specs.Seen.{Seen, state_of}
use Rattle.nf_flow.specs.Steps.{MayTake}
use Rattle.nf_locked.specs.Leaves.{IsTaken}
use Rattle.nf_machine.specs.declared.stop.Stop.TheVariants as s
use Rattle.nf_locked.proofs.Places.{dropped_at, taken_at, unfound}
use Rattle.nf_locked.proofs.Taking.{first_taken, is_taken}
use Rattle.nf_core.proofs.Legals.{memory_legal}
use Rattle.nf_locked.proofs.locked.Locked.take.Goals as goal

pub invariant_of-self : goal.invariant_of-self
invariant_of-self g c = unfound g.J.Fixed.facts g.J.Fixed.facts.rules (λ v. v.items) c.self.inside.out.items c.args.index c.index_mut-tickets.result.now c.reserve.new.self c.self.inside.begun.total c.self.inside.failed.total c.self.inside.run c.halt.new.run c.self.invariant c.requires.lane c.index_mut-tickets.ensures.value c.reserve.ensures.items c.halt.ensures

pub take-requires : goal.take-requires
take-requires g c = subst (λ (y : Seen). MayTake y.graph (state_of y) c.args.node c.args.port c.args.place) (sym c.self.view_is) c.requires.legal

pub invariant_of-self-in_default-take : goal.invariant_of-self-in_default-take
invariant_of-self-in_default-take g c = unfound g.J.Fixed.facts g.J.Fixed.facts.rules (λ v. v.items) c.self.inside.out.items c.args.index c.index_mut-tickets.result.now c.reserve.new.self c.self.inside.begun.total c.self.inside.failed.total c.self.inside.run c.take.new.self c.self.invariant c.requires.lane c.index_mut-tickets.ensures.value c.reserve.ensures.items (inr c.in_default-take.ensures.err)

pub copy_of-requires : goal.copy_of-requires
copy_of-requires g c = first_taken g.J.Fixed.facts.rules c.self.inside.run c.take.new.self c.args.node c.args.port c.args.place c.in-Ok-take.ticket c.holds.ensures.lawful (subst (λ (y : Seen). MayTake y.graph (state_of y) c.args.node c.args.port c.args.place) (sym c.self.view_is) c.requires.legal) c.in-Ok-take.ensures.ok c.in-Ok-take.ensures.number c.in-Ok-take.ensures.ticket

pub give_up-requires-clause-cause : goal.give_up-requires-clause-cause
give_up-requires-clause-cause g c = memory_legal g.J.Fixed.facts c.take.new.self c.in-Ok-take.ticket c.in-Ok-take.ensures.ticket

pub invariant_of-self-in_default-copy_of : goal.invariant_of-self-in_default-copy_of
invariant_of-self-in_default-copy_of g c = dropped_at g.J.Fixed.facts g.J.Fixed.facts.rules (λ v. v.items) c.self.inside.out.items c.args.index c.index_mut-tickets.result.now c.reserve.new.self c.self.inside.begun.total c.self.inside.failed.total c.self.inside.run c.take.new.self c.self.invariant c.requires.lane c.index_mut-tickets.ensures.value c.args.node c.args.port c.args.place c.in-Ok-take.ticket c.holds.ensures.lawful (subst (λ (y : Seen). MayTake y.graph (state_of y) c.args.node c.args.port c.args.place) (sym c.self.view_is) c.requires.legal) c.in-Ok-take.ensures.ok c.in-Ok-take.ensures.number c.in-Ok-take.ensures.ticket c.give_up.new.self (Some s.Mem) c.reserve.ensures.items c.give_up.ensures refl

pub invariant_of-self-2 : goal.invariant_of-self-2
invariant_of-self-2 g c = taken_at g.J.Fixed.facts g.J.Fixed.facts.rules (λ v. v.items) c.self.inside.out.items c.args.index c.index_mut-tickets.result.now c.push_reserved.new.self c.self.inside.begun.total c.self.inside.failed.total c.self.inside.run c.take.new.self c.self.invariant c.requires.lane c.index_mut-tickets.ensures.value c.args.node c.args.port c.args.place c.in-Ok-take.ticket c.holds.ensures.lawful (subst (λ (y : Seen). MayTake y.graph (state_of y) c.args.node c.args.port c.args.place) (sym c.self.view_is) c.requires.legal) c.in-Ok-take.ensures.ok c.in-Ok-take.ensures.number c.in-Ok-take.ensures.ticket (c.push_reserved.ensures.items ∙ ap (λ ts. ts ++ c.in-Ok-take.ticket ∷ []) c.reserve.ensures.items)

pub work_of-requires : goal.work_of-requires
work_of-requires g c = subst (IsTaken g.J.Fixed.facts) (sym c.in-Ok-copy_of.ensures) (is_taken g.J.Fixed.facts.rules c.self.inside.run c.take.new.self c.args.node c.args.port c.args.place c.in-Ok-take.ticket c.holds.ensures.lawful (subst (λ (y : Seen). MayTake y.graph (state_of y) c.args.node c.args.port c.args.place) (sym c.self.view_is) c.requires.legal) c.in-Ok-take.ensures.ok c.in-Ok-take.ensures.number c.in-Ok-take.ensures.ticket g.J.Fixed.facts c.holds.ensures.graph)

pub returns-in_default-clause-makes : goal.returns-in_default-clause-makes
returns-in_default-clause-makes g c = nothing_taken c.self.inside.run c.args.self.now c.halt.new.run c.self.view_is c.args.node c.args.port c.args.place c.halt.ensures

pub returns-in_default-take-clause-makes : goal.returns-in_default-take-clause-makes
returns-in_default-take-clause-makes g c = nothing_taken c.self.inside.run c.args.self.now c.take.new.self c.self.view_is c.args.node c.args.port c.args.place (inr c.in_default-take.ensures.err)

pub returns-in_default-copy_of-clause-makes : goal.returns-in_default-copy_of-clause-makes
returns-in_default-copy_of-clause-makes g c = taken_in_vain c.self.inside.run c.args.self.now c.give_up.new.self c.self.view_is c.args.node c.args.port c.args.place c.take.new.self c.in-Ok-take.ticket c.in-Ok-take.ensures.ok c.in-Ok-take.ensures.number c.give_up.ensures

pub returns-clause-makes : goal.returns-clause-makes
returns-clause-makes g c = taken c.self.inside.run c.args.self.now c.take.new.self c.self.view_is c.args.node c.args.port c.args.place c.in-Ok-take.ticket c.in-Ok-copy_of.copy c.work_of.result c.in-Ok-copy_of.ensures c.work_of.ensures.on c.in-Ok-take.ensures.ok c.in-Ok-take.ensures.number c.in-Ok-take.ensures.ticket
