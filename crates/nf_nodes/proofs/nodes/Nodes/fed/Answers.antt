use Rattle.std.proofs.Common.{rules, ◌∙◌, arith}
use Rattle.nf_wiring.specs.Places.{plain_place}
use Rattle.nf_nodes.proofs.Showing.{producer_at, out_at, fed_at}
use Rattle.nf_nodes.proofs.nodes.Nodes.fed.Goals as goal

pub index-requires : goal.index-requires
index-requires c =
    let b = producer_at c.args.nodes.now c.requires.state c.args.self.now c.requires.shows (plain_place c.args.place) c.port_at-port.result c.port_at-port.ensures c.requires.node c.requires.port in
    let e = c.requires.shows.count in omega arith

pub emitted-requires : goal.emitted-requires
emitted-requires c = out_at c.args.nodes.now c.requires.state c.args.self.now c.requires.shows (plain_place c.args.place) c.port_at-port.result c.index.result.now c.port_at-port.ensures c.requires.node c.requires.port (search rules)

pub returns : goal.returns
returns c s h = c.emitted.ensures ∙ fed_at c.args.nodes.now s c.args.self.now h (plain_place c.args.place) c.port_at-port.result c.index.result.now c.port_at-port.ensures c.requires.node c.requires.port (search rules)
