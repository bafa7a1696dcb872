use Rattle.std.proofs.Common.{lit<}
use Rattle.tests_flow.specs.View.{paired_node}
use Rattle.tests_flow.proofs.Paired.{again, as_read, begun_so, both, few_passed, has_queue, one, takes_again, takes_first, took_once, took_so}
use Rattle.tests_flow.proofs.nodes.equal_inputs_are_counted_beside_a_value.Goals as goal

pub receive-requires-2-clause-port : goal.receive-requires-2-clause-port
receive-requires-2-clause-port g c =
    has_queue one c.receive.new.self (c.in_ok-receive.ensures paired_node _ (begun_so c.in_ok-node.node c.in_ok-node.ensures c.in_ok-state.state c.in_ok-state.ensures))

pub receive-requires-2-clause-passed : goal.receive-requires-2-clause-passed
receive-requires-2-clause-passed g c =
    few_passed one c.receive.new.self (c.in_ok-receive.ensures paired_node _ (begun_so c.in_ok-node.node c.in_ok-node.ensures c.in_ok-state.state c.in_ok-state.ensures)) (lit< tt)

pub take-requires-clause-may : goal.take-requires-clause-may
take-requires-clause-may g c =
    let h = c.in_ok-receive-2.ensures paired_node one (c.in_ok-receive.ensures paired_node _ (begun_so c.in_ok-node.node c.in_ok-node.ensures c.in_ok-state.state c.in_ok-state.ensures)) in
    takes_first c.in_ok-node.node c.in_ok-node.ensures c.receive-2.new.self h

pub take-requires-clause-room : goal.take-requires-clause-room
take-requires-clause-room g c =
    let h = c.in_ok-receive-2.ensures paired_node one (c.in_ok-receive.ensures paired_node _ (begun_so c.in_ok-node.node c.in_ok-node.ensures c.in_ok-state.state c.in_ok-state.ensures)) in
    c.rooms.ensures.take paired_node both c.receive-2.new.self h (lit< tt)

pub receive-requires-3-clause-port : goal.receive-requires-3-clause-port
receive-requires-3-clause-port g c =
    let h = c.in_ok-receive-2.ensures paired_node one (c.in_ok-receive.ensures paired_node _ (begun_so c.in_ok-node.node c.in_ok-node.ensures c.in_ok-state.state c.in_ok-state.ensures)) in
    let n = c.in_ok-node.node in let e = c.in_ok-node.ensures in
    has_queue took_once c.take.new.self (took_so n e c.take.new.self (c.in_ok-first.ensures.after both (as_read n e c.receive-2.new.self both h)))

pub receive-requires-3-clause-passed : goal.receive-requires-3-clause-passed
receive-requires-3-clause-passed g c =
    let h = c.in_ok-receive-2.ensures paired_node one (c.in_ok-receive.ensures paired_node _ (begun_so c.in_ok-node.node c.in_ok-node.ensures c.in_ok-state.state c.in_ok-state.ensures)) in
    let n = c.in_ok-node.node in let e = c.in_ok-node.ensures in
    few_passed took_once c.take.new.self (took_so n e c.take.new.self (c.in_ok-first.ensures.after both (as_read n e c.receive-2.new.self both h))) (lit< tt)

pub take-requires-2-clause-may : goal.take-requires-2-clause-may
take-requires-2-clause-may g c =
    let h = c.in_ok-receive-2.ensures paired_node one (c.in_ok-receive.ensures paired_node _ (begun_so c.in_ok-node.node c.in_ok-node.ensures c.in_ok-state.state c.in_ok-state.ensures)) in
    let n = c.in_ok-node.node in let e = c.in_ok-node.ensures in
    takes_again n e c.receive-3.new.self (c.in_ok-receive-3.ensures paired_node took_once (took_so n e c.take.new.self (c.in_ok-first.ensures.after both (as_read n e c.receive-2.new.self both h))))

pub take-requires-2-clause-room : goal.take-requires-2-clause-room
take-requires-2-clause-room g c =
    let h = c.in_ok-receive-2.ensures paired_node one (c.in_ok-receive.ensures paired_node _ (begun_so c.in_ok-node.node c.in_ok-node.ensures c.in_ok-state.state c.in_ok-state.ensures)) in
    let n = c.in_ok-node.node in let e = c.in_ok-node.ensures in
    c.rooms.ensures.take paired_node again c.receive-3.new.self (c.in_ok-receive-3.ensures paired_node took_once (took_so n e c.take.new.self (c.in_ok-first.ensures.after both (as_read n e c.receive-2.new.self both h)))) (lit< tt)
