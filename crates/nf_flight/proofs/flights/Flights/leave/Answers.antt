use Rattle.std.proofs.Common.{◌≡◌, ◌-◌, ◌<◌, get_or, set, refl, ap, sym, ◌∙◌, subst, arith}
use Rattle.std.proofs.lemmas.List.{get_or_default}
use Rattle.nf_flight.specs.declared.flight.Flight.{Flight}
use Rattle.nf_flight.proofs.Flying.{read, left, some_of_node}
use Rattle.nf_flight.proofs.flights.Flights.leave.Goals as goal

pub index_mut-requires-2 : goal.index_mut-requires-2
index_mut-requires-2 c =
    let r = c.requires in
    let same : c.in-Some.flight.node ≡ r.ticket.node = ap (λ (f : Flight). f.node) (read r.next r.tickets c.args.self.now r.shows c.args.number r.ticket _ _ r.there c.index.ensures c.in-Some.is) in
    let l = r.shows.within c.args.number r.ticket r.there in omega arith

pub overflow_sub-index_mut : goal.overflow_sub-index_mut
overflow_sub-index_mut c =
    let r = c.requires in
    let same : c.in-Some.flight.node ≡ r.ticket.node = ap (λ (f : Flight). f.node) (read r.next r.tickets c.args.self.now r.shows c.args.number r.ticket _ _ r.there c.index.ensures c.in-Some.is) in
    let l = r.shows.within c.args.number r.ticket r.there in
    let nodes = c.args.self.now.of_nodes.items in
    let some : 0 < get_or nodes c.in-Some.flight.node 0 = subst (λ n. 0 < get_or nodes n 0) (sym same) (some_of_node r.next r.tickets c.args.self.now r.shows c.args.number r.ticket r.there) in
    let here : c.index_mut-2.result.now ≡ get_or nodes c.in-Some.flight.node 0 = c.index_mut-2.ensures.value ∙ get_or_default nodes c.in-Some.flight.node _ 0 (omega arith) in
    omega arith

pub returns-clause-after : goal.returns-clause-after
returns-clause-after c next tickets k h e =
    let same : c.in-Some.flight.node ≡ k.node = ap (λ (f : Flight). f.node) (read next tickets c.args.self.now h c.args.number k _ _ e c.index.ensures c.in-Some.is) in
    let l = h.within c.args.number k e in
    let nodes = c.args.self.now.of_nodes.items in
    let here : c.index_mut-2.result.now ≡ get_or nodes c.in-Some.flight.node 0 = c.index_mut-2.ensures.value ∙ get_or_default nodes c.in-Some.flight.node _ 0 (omega arith) in
    left next c.args.number tickets k c.args.self.now h e _ refl (ap (λ n. set nodes c.in-Some.flight.node (n - 1)) here ∙ ap (λ n. set nodes n (get_or nodes n 0 - 1)) same) refl
