use Rattle.std.proofs.Common.{rules, arith}
use Rattle.nf_wiring.specs.Places.{plain_place}
use Rattle.nf_nodes.proofs.Showing.{producer_at, closed_read}
use Rattle.nf_nodes.proofs.nodes.Nodes.is_producer_closed.Goals as goal

pub index-requires : goal.index-requires
index-requires c =
    let b = producer_at c.args.nodes.now c.requires.state c.args.self.now c.requires.shows (plain_place c.args.place) c.port_at.result c.port_at.ensures c.requires.node c.requires.port in
    let e = c.requires.shows.closed_count in omega arith

pub returns : goal.returns
returns c s h = closed_read c.args.nodes.now s c.args.self.now h (plain_place c.args.place) c.port_at.result c.index.result.now c.port_at.ensures c.requires.node c.requires.port (search rules)
