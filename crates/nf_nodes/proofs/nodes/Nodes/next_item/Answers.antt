use Rattle.std.proofs.Common.{◌<◌, rules, ap, subst, sym, ◌∙◌}
use Rattle.nf_graph.specs.WellMade.{plain_graph}
use Rattle.nf_machine.specs.Event.{Place}
use Rattle.nf_machine.specs.Step.{next_item}
use Rattle.nf_wiring.specs.Places.{plain_place}
use Rattle.nf_nodes.specs.Marks.{fed, passed_there}
use Rattle.nf_nodes.proofs.Noting.{place_had}
use Rattle.nf_nodes.proofs.Showing.{next_at, next_below}
use Rattle.nf_nodes.proofs.nodes.Nodes.next_item.Goals as goal

pub item-requires-clause-place : goal.item-requires-clause-place
item-requires-clause-place c =
    let q = c.requires in let ns = c.args.nodes.now in let h = q.shows.shows in
    let e = c.place-place.ensures ns h.wiring in
    let p = place_had ns c.args.self.now c.args.number (plain_place c.place-place.result) (c.numbers.ensures.within ns c.args.number q.below) (record { state = q.state; shows = h; below = q.below }) e in
    next_below ns q.state c.args.self.now h (plain_place c.place-place.result) c.port_at-port.result c.index.result.now c.passed-passed.result c.port_at-port.ensures p.node p.port (search rules) (c.passed-passed.ensures q.state h)
    (subst (λ (r : Place). passed_there q.state r < fed (plain_graph ns) q.state r) (sym e) q.may.more)

pub returns : goal.returns
returns c s a =
    let q = c.requires in let ns = c.args.nodes.now in let h = a.shows in
    let e = c.place-place.ensures ns h.wiring in
    let p = place_had ns c.args.self.now c.args.number (plain_place c.place-place.result) (c.numbers.ensures.within ns c.args.number q.below) (record { state = s; shows = h; below = q.below }) e in
    c.item.ensures
    ∙ next_at ns s c.args.self.now h (plain_place c.place-place.result) c.port_at-port.result c.index.result.now c.passed-passed.result c.port_at-port.ensures p.node p.port (search rules) (c.passed-passed.ensures s h)
    ∙ ap (λ (r : Place). next_item (plain_graph ns) s r.node r.port) e
