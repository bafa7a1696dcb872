use Rattle.std.proofs.Common.{arith, ap, length, refl}
use Rattle.nf_flow.specs.Flow.{state_in}
use Rattle.nf_flow.proofs.Running.{few_kept, kept_room, roomed_flow}
use Rattle.nf_flow.proofs.flow.Flow.make_room.Goals as goal

pub overflow_add-places : goal.overflow_add-places
overflow_add-places c =
    let f = c.self.inside in let p = c.self.invariant.parts in
    let few = few_kept f.graph f.parts f.log c.self.invariant in
    let n = c.in_flight-places.ensures p.next (state_in f.graph f.log).tickets p.flights in let small = f.log.history.small in omega arith

pub invariant_of-self : goal.invariant_of-self
invariant_of-self c =
    let f = c.self.inside in let places = c.self.invariant.places in let more = c.reserve.ensures.capacity in
    roomed_flow f.graph f.parts f.log (record f.log { history = c.reserve.new.self }) c.self.invariant c.reserve.ensures.items refl refl (omega arith)

pub invariant_of-self-2 : goal.invariant_of-self-2
invariant_of-self-2 c =
    let f = c.self.inside in let p = c.self.invariant.parts in
    let n = c.in_flight-places.ensures p.next (state_in f.graph f.log).tickets p.flights in
    let kept = kept_room (state_in f.graph f.log) in let ok = c.in_ok-reserve.ensures.ok in let same = ap length c.reserve.ensures.items in
    roomed_flow f.graph f.parts f.log (record f.log { history = c.reserve.new.self; room = 1 }) c.self.invariant c.reserve.ensures.items refl refl (omega arith)
