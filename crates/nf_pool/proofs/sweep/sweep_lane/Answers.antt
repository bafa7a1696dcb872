use Rattle.std.proofs.Common.{◌≡◌, rules}
use Rattle.std.proofs.lemmas.List.{nil_from_length}
use Rattle.nf_pool.proofs.Sweeps.{first_flies, list_ends, rest_first, rest_none, swept_on, unswept_as}
use Rattle.nf_pool.proofs.sweep.sweep_lane.Goals as goal

pub loop-ticket-init : goal.loop-ticket-init
loop-ticket-init g c =
    let same : c.into_iter-ticket-iterator.result.rest.items ≡ c.args.tickets.items = search rules in
    λ others a. unswept_as c.args.run.now c.args.tickets.items c.into_iter-ticket-iterator.result.rest.items others same a

pub drop_ticket-requires : goal.drop_ticket-requires
drop_ticket-requires g c = first_flies (rest_first c.in-Some.ticket c.next.new.self.rest.items c.loop-ticket.ticket-iterator.rest.items c.requires.others c.in-Some.ensures.steps.0 (c.loop-ticket.invariant c.requires.others c.requires.out))

pub loop-ticket-preserved : goal.loop-ticket-preserved
loop-ticket-preserved g c = λ others a. swept_on g.J.Fixed.facts.rules (rest_first c.in-Some.ticket c.next.new.self.rest.items c.loop-ticket.ticket-iterator.rest.items others c.in-Some.ensures.steps.0 (c.loop-ticket.invariant others a)) c.drop_ticket.ensures.lawful c.drop_ticket.ensures.up

pub returns : goal.returns
returns g c = λ others a. list_ends (rest_none c.loop-ticket.ticket-iterator.rest.items others (nil_from_length c.loop-ticket.ticket-iterator.rest.items (search rules)) (c.loop-ticket.invariant others a))
