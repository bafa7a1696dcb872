use Rattle.std.proofs.Common.{rules, ◌≡◌, ap, subst, arith, length, set}
use Rattle.nf_wiring.specs.Places.{AreReaders, port_count}
use Rattle.nf_wiring.proofs.Numbers.{node_there, port_there_below, reads_there, reads_below, places_length}
use Rattle.nf_wiring.proofs.Reading.{one_reads}
use Rattle.nf_wiring.proofs.wiring.readers_of.Goals as goal

pub producer-from-requires-clause-node : goal.producer-from-requires-clause-node
producer-from-requires-clause-node c = node_there c.args.nodes.now c.args.places.now c.requires.places c.loop-number.number _ c.loop-number-test.true

pub producer-from-requires-clause-port : goal.producer-from-requires-clause-port
producer-from-requires-clause-port c = port_there_below c.args.nodes.now c.args.places.now c.requires.places c.loop-number.number _ c.loop-number-test.true

pub overflow_cast-number : goal.overflow_cast-number
overflow_cast-number c = let e = ap length c.requires.places in let f = places_length 0 c.args.nodes.now in let few = c.requires.well_made.few_ports in omega arith

pub loop-number-preserved : goal.loop-number-preserved
loop-number-preserved c =
    let own = reads_there c.args.nodes.now c.args.places.now c.requires.places c.loop-number.number _ c.loop-number-test.true c.producer-from.result c.producer-from.ensures in
    let below = reads_below c.args.nodes.now c.args.places.now c.requires.places c.loop-number.number (record { node = 0; port = 0 }) c.loop-number-test.true c.requires.well_made c.producer-from.result own in
    let len = c.loop-number.invariant.len in
    one_reads c.args.nodes.now c.loop-number.number c.producer-from.result c.loop-number.readers.items (set c.loop-number.readers.items c.producer-from.result c.push.new.self) c.index_mut.result.now
    c.loop-number.invariant own (omega arith) (search rules) (ap (set c.loop-number.readers.items c.producer-from.result) c.in_ok-push.ensures)

pub returns : goal.returns
returns c =
    let e = ap length c.requires.places in let f = places_length 0 c.args.nodes.now in
    let n : c.loop-number.number ≡ port_count c.args.nodes.now = (let a = c.loop-number.auto.number-end in let b = c.loop-number-test.false in omega arith) in
    subst (λ k. AreReaders c.args.nodes.now k c.loop-number.readers.items) n c.loop-number.invariant
