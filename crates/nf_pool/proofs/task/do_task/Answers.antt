use Rattle.std.proofs.Common.{◌≡◌, ◌∙◌, ap, arith, refl, rules, subst, sym, true}
use Rattle.nf_flight.specs.Ticket.{attempt_of}
use Rattle.nf_locked.specs.Locked.{IsTaskOf}
use Rattle.nf_pool.proofs.Works.{lane_later, works_still, works_then}
use Rattle.nf_pool.proofs.task.do_task.Goals as goal

pub loop-alloc-init : goal.loop-alloc-init
loop-alloc-init g c = record { task = c.requires.task; works = works_still _ c.requires.few; owed = refl; lost = refl }

pub attempt-requires-clause-lane : goal.attempt-requires-clause-lane
attempt-requires-clause-lane g c = lane_later c.loop-alloc.invariant.works.lane c.requires.lane

pub attempt-requires-clause-runs : goal.attempt-requires-clause-runs
attempt-requires-clause-runs g c = let w = c.loop-alloc.invariant.works.runs in let f = c.loop-alloc.invariant.works.few in let r = c.requires.runs in omega (arith, w, f, r)

pub attempt-requires-clause-few : goal.attempt-requires-clause-few
attempt-requires-clause-few g c = c.loop-alloc.invariant.works.few

pub loop-alloc-preserved : goal.loop-alloc-preserved
loop-alloc-preserved g c =
    let yes : c.attempt.result ≡ true = search rules in
    record {
      task = subst (IsTaskOf g.J.Fixed.facts) (sym c.again-ticket.ensures) (c.attempt.ensures.again yes);
      works = works_then c.loop-alloc.invariant.works c.attempt.ensures.works;
      owed = c.attempt.ensures.parts.0 ∙ c.loop-alloc.invariant.owed;
      lost = c.attempt.ensures.parts.1 ∙ c.loop-alloc.invariant.lost;
    }

pub loop-alloc-smaller : goal.loop-alloc-smaller
loop-alloc-smaller g c =
    let yes : c.attempt.result ≡ true = search rules in
    let last = (c.attempt.ensures.again yes).last in
    let is = ap attempt_of c.again-ticket.ensures in
    omega (arith, last, is)

pub returns-clause-works : goal.returns-clause-works
returns-clause-works g c = works_then c.loop-alloc.invariant.works c.attempt.ensures.works
