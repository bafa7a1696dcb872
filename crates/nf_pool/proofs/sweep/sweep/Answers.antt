use Rattle.std.proofs.Common.{◌≡◌, rules}
use Rattle.std.proofs.lemmas.List.{nil_from_length}
use Rattle.nf_pool.proofs.Sweeps.{all_swept, among_out, lists_first, lists_none, lists_unswept, swept_then}
use Rattle.nf_pool.proofs.sweep.sweep.Goals as goal

pub loop-tickets-init : goal.loop-tickets-init
loop-tickets-init g c =
    let same : c.into_iter-tickets-iterator.result.rest.items ≡ c.args.out.items = search rules in
    lists_unswept (λ v. v.items) c.args.run.now c.args.out.items c.into_iter-tickets-iterator.result.rest.items same c.requires

pub sweep_lane-requires : goal.sweep_lane-requires
sweep_lane-requires g c = among_out (lists_first (λ v. v.items) c.in-Some.tickets c.next.new.self.rest.items c.loop-tickets.tickets-iterator.rest.items c.in-Some.ensures.steps.0 c.loop-tickets.invariant)

pub loop-tickets-preserved : goal.loop-tickets-preserved
loop-tickets-preserved g c = swept_then (lists_first (λ v. v.items) c.in-Some.tickets c.next.new.self.rest.items c.loop-tickets.tickets-iterator.rest.items c.in-Some.ensures.steps.0 c.loop-tickets.invariant) c.sweep_lane.ensures

pub returns-clause-idle : goal.returns-clause-idle
returns-clause-idle g c = all_swept (lists_none (λ v. v.items) c.loop-tickets.tickets-iterator.rest.items (nil_from_length c.loop-tickets.tickets-iterator.rest.items (search rules)) c.loop-tickets.invariant)

pub returns-clause-starts : goal.returns-clause-starts
returns-clause-starts g c = c.loop-tickets.invariant.starts

pub returns-clause-failures : goal.returns-clause-failures
returns-clause-failures g c = c.loop-tickets.invariant.failures
