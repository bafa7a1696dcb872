use Rattle.std.proofs.Common.{◌≡◌, ◌+◌, get_or, set, refl, ap, ◌∙◌, arith}
use Rattle.std.proofs.lemmas.List.{get_or_default}
use Rattle.nf_flight.proofs.Flying.{added, few_of_node, few_in_flight}
use Rattle.nf_flight.proofs.flights.Flights.add.Goals as goal

pub overflow_add-index_mut : goal.overflow_add-index_mut
overflow_add-index_mut c =
    let r = c.requires.shows in
    let nodes = c.args.self.now.of_nodes.items in
    let few = few_of_node r.next r.tickets c.args.self.now r.shows c.args.node c.requires.node in
    let here : c.index_mut.result.now ≡ get_or nodes c.args.node 0 = c.index_mut.ensures.value ∙ get_or_default nodes c.args.node _ 0 c.requires.node in
    let next = r.shows.next_is in let number = c.requires.number in omega arith

pub overflow_add-self : goal.overflow_add-self
overflow_add-self c = let r = c.requires.shows in let few = few_in_flight r.next r.tickets c.args.self.now r.shows in let next = r.shows.next_is in let number = c.requires.number in omega arith

pub returns-clause-after : goal.returns-clause-after
returns-clause-after c next tickets k h number of told started =
    let nodes = c.args.self.now.of_nodes.items in
    let here : c.index_mut.result.now ≡ get_or nodes c.args.node 0 = c.index_mut.ensures.value ∙ get_or_default nodes c.args.node _ 0 c.requires.node in
    added next c.args.node tickets k c.args.self.now _ h number of told started c.requires.node c.in_ok-push.ensures.items (ap (λ n. set nodes c.args.node (n + 1)) here) refl
