use Rattle.std.proofs.Common.{rules, ◌∙◌, arith, subst, ◌<◌, sym}
use Rattle.nf_wiring.specs.Places.{plain_place}
use Rattle.nf_nodes.proofs.Showing.{state_ports, passed_is}
use Rattle.nf_nodes.proofs.nodes.Nodes.passed.Goals as goal

pub passed-requires : goal.passed-requires
passed-requires c =
    let e = state_ports c.args.nodes.now c.requires.state c.args.self.now c.requires.shows c.args.place.node c.index.result.now c.requires.node (search rules) in
    let p = c.requires.port in omega arith

pub returns : goal.returns
returns c s h = c.passed.ensures ∙ passed_is c.args.nodes.now s c.args.self.now h (plain_place c.args.place) c.index.result.now c.requires.node c.requires.port (search rules)
