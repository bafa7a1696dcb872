use Rattle.std.proofs.Common.{◌∙◌, ap, sym, subst}
use Rattle.nf_graph.specs.declared.node.Node.{Node}
use Rattle.nf_graph.specs.WellMade.{IsWellMade, plain_graph}
use Rattle.nf_machine.specs.State.{opening}
use Rattle.std.specs.Prelude.{List}
use Rattle.nf_wiring.specs.Wiring.{IsWiring}
use Rattle.nf_nodes.specs.Flying.{AreFlying}
use Rattle.nf_nodes.specs.Nodes.{AreNodes}
use Rattle.nf_nodes.proofs.Opened.{opening_shows}
use Rattle.nf_nodes.proofs.nodes.Nodes.begin.Goals as goal

pub note_ports-requires : goal.note_ports-requires
note_ports-requires c =
    let ns = c.nodes-nodes.result.now in let e = c.nodes-nodes.ensures.nodes in
    record {
      state = opening (plain_graph ns);
      shows = opening_shows ns _ (subst IsWellMade (sym e) c.nodes-nodes.ensures.well_made) (subst (λ (xs : List Node). IsWiring xs c.in_ok-wiring.wiring) (sym e) c.in_ok-wiring.ensures) c.in_ok-index.ensures
          c.in_ok-states.ensures.len c.in_ok-states.ensures.each c.in_ok-closed.ensures.len c.in_ok-closed.ensures.each;
    }

pub note_nodes-requires : goal.note_nodes-requires
note_nodes-requires c =
    let ns = c.nodes-nodes.result.now in let e = c.nodes-nodes.ensures.nodes in
    let shows = opening_shows ns _ (subst IsWellMade (sym e) c.nodes-nodes.ensures.well_made) (subst (λ (xs : List Node). IsWiring xs c.in_ok-wiring.wiring) (sym e) c.in_ok-wiring.ensures) c.in_ok-index.ensures
    c.in_ok-states.ensures.len c.in_ok-states.ensures.each c.in_ok-closed.ensures.len c.in_ok-closed.ensures.each in
    record {
      state = opening (plain_graph ns);
      marks = c.note_ports.ensures (opening (plain_graph ns)) shows;
      flying = subst (λ (xs : List Node). AreFlying xs (opening (plain_graph xs)) c.args.flights.now) (sym e) c.requires;
    }

pub returns : goal.returns
returns c =
    let ns = c.nodes-nodes.result.now in let e = c.nodes-nodes.ensures.nodes in
    let shows = opening_shows ns _ (subst IsWellMade (sym e) c.nodes-nodes.ensures.well_made) (subst (λ (xs : List Node). IsWiring xs c.in_ok-wiring.wiring) (sym e) c.in_ok-wiring.ensures) c.in_ok-index.ensures
    c.in_ok-states.ensures.len c.in_ok-states.ensures.each c.in_ok-closed.ensures.len c.in_ok-closed.ensures.each in
    subst (λ (xs : List Node). AreNodes xs (opening (plain_graph xs)) c.note_nodes.new.self) e
    (c.note_nodes.ensures (opening (plain_graph ns)) (c.note_ports.ensures (opening (plain_graph ns)) shows) (subst (λ (xs : List Node). AreFlying xs (opening (plain_graph xs)) c.args.flights.now) (sym e) c.requires))
