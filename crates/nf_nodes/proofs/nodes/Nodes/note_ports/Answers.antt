use Rattle.std.proofs.Common.{arith}
use Rattle.nf_nodes.specs.Marks.{below, none}
use Rattle.nf_nodes.proofs.Opened.{unmarked, port_more, ports_done}
use Rattle.nf_nodes.proofs.nodes.Nodes.note_ports.Goals as goal

pub loop-number-init : goal.loop-number-init
loop-number-init c s h = unmarked c.args.nodes.now s c.args.self.now h

pub note_port-requires : goal.note_port-requires
note_port-requires c = record {
  state = c.requires.state;
  shows = (c.loop-number.invariant c.requires.state c.requires.shows).shows;
  below = (let e = c.numbers.ensures.count c.args.nodes.now c.args.self.now.wiring c.requires.shows.wiring in let f = c.count-number-end.ensures in let t = c.loop-number-test.true in omega arith);
}

pub loop-number-preserved : goal.loop-number-preserved
loop-number-preserved c s h =
    port_more c.args.nodes.now s c.loop-number.number none c.note_port.new.self (c.note_port.ensures.marks s (below c.loop-number.number) none (c.loop-number.invariant s h))

pub returns : goal.returns
returns c s h =
    ports_done c.args.nodes.now s c.loop-number.number none c.loop-number.self
    (let e = c.numbers.ensures.count c.args.nodes.now c.args.self.now.wiring h.wiring in let f = c.count-number-end.ensures in let t = c.loop-number-test.false in omega arith) (c.loop-number.invariant s h)
