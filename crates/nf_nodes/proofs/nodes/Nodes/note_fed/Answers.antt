use Rattle.std.proofs.Common.{◌≡◌, ◌<◌, length, get_or, drop, ap, sym, ◌∙◌, arith, subst}
use Rattle.std.specs.Prelude.{ℕ, List}
use Rattle.nf_machine.specs.Event.{Place}
use Rattle.nf_wiring.specs.Wiring.{readers_of}
use Rattle.nf_wiring.specs.declared.wiring.Wiring.{Wiring}
use Rattle.nf_nodes.proofs.Noting.{rest_same, rest_again}
use Rattle.nf_nodes.proofs.Telling.{all_but_those, owners, number_below, nodes_untold, node_told, nodes_told}
use Rattle.nf_nodes.proofs.nodes.Nodes.note_fed.Goals as goal

pub loop-at-init : goal.loop-at-init
loop-at-init c = record {
  rest = rest_same c.args.nodes.now c.args.self.now;
  marks = λ s h f. nodes_untold c.args.nodes.now s (c.numbers.ensures.each c.args.nodes.now) c.args.self.now c.args.node h;
}

pub place-place-requires : goal.place-place-requires
place-place-requires c =
    let w = c.args.self.now.wiring in let i = c.args.node in let q = c.requires.node in
    let same : c.readers.result.now ≡ readers_of w i = c.readers.ensures ∙ ap (λ (z : Wiring). readers_of z i) c.loop-at.invariant.rest.wiring in
    let l : c.loop-at.at < length (readers_of w i) = (let e = ap length c.readers-count.ensures in let t = c.loop-at-test.true in omega (arith, e, t)) in
    let b = number_below c.args.nodes.now w i c.loop-at.at (get_or c.readers.result.now c.loop-at.at 0) q.shows.wiring l (ap (λ (ms : List ℕ). get_or ms c.loop-at.at 0) same) in
    let n = c.numbers.ensures.count c.args.nodes.now c.loop-at.self.wiring (c.loop-at.invariant.rest.shows q.state q.shows).wiring in
    omega (arith, b, n)

pub note_node-requires-clause-node : goal.note_node-requires-clause-node
note_node-requires-clause-node c =
    let w = c.args.self.now.wiring in let i = c.args.node in let q = c.requires.node in let ns = c.args.nodes.now in
    let same : c.readers.result.now ≡ readers_of w i = c.readers.ensures ∙ ap (λ (z : Wiring). readers_of z i) c.loop-at.invariant.rest.wiring in
    let l : c.loop-at.at < length (readers_of w i) = (let e = ap length c.readers-count.ensures in let t = c.loop-at-test.true in omega (arith, e, t)) in
    let n = get_or c.readers.result.now c.loop-at.at 0 in
    let b = number_below ns w i c.loop-at.at n q.shows.wiring l (ap (λ (ms : List ℕ). get_or ms c.loop-at.at 0) same) in
    let h = c.loop-at.invariant.rest.shows q.state q.shows in
    let e = ap (λ (p : Place). p.node) (c.place-place.ensures ns h.wiring) in
    record { state = q.state; shows = h; below = subst (λ j. j < length ns) (sym e) (c.numbers.ensures.within ns n b).node }

pub note_node-requires-clause-flights : goal.note_node-requires-clause-flights
note_node-requires-clause-flights c =
    let w = c.args.self.now.wiring in let i = c.args.node in let q = c.requires.node in let ns = c.args.nodes.now in
    let same : c.readers.result.now ≡ readers_of w i = c.readers.ensures ∙ ap (λ (z : Wiring). readers_of z i) c.loop-at.invariant.rest.wiring in
    let l : c.loop-at.at < length (readers_of w i) = (let e = ap length c.readers-count.ensures in let t = c.loop-at-test.true in omega (arith, e, t)) in
    let n = get_or c.readers.result.now c.loop-at.at 0 in
    let b = number_below ns w i c.loop-at.at n q.shows.wiring l (ap (λ (ms : List ℕ). get_or ms c.loop-at.at 0) same) in
    let e = ap (λ (p : Place). p.node) (c.place-place.ensures ns (c.loop-at.invariant.rest.shows q.state q.shows).wiring) in
    let k = (c.numbers.ensures.within ns n b).node in let f = c.requires.flights in omega (arith, e, k, f)

pub loop-at-preserved : goal.loop-at-preserved
loop-at-preserved c =
    let w = c.args.self.now.wiring in let i = c.args.node in let q = c.requires.node in let ns = c.args.nodes.now in
    let same : c.readers.result.now ≡ readers_of w i = c.readers.ensures ∙ ap (λ (z : Wiring). readers_of z i) c.loop-at.invariant.rest.wiring in
    let l : c.loop-at.at < length (readers_of w i) = (let e = ap length c.readers-count.ensures in let t = c.loop-at-test.true in omega (arith, e, t)) in
    let n = get_or c.readers.result.now c.loop-at.at 0 in
    let o = ap (λ (p : Place). p.node) (c.place-place.ensures ns (c.loop-at.invariant.rest.shows q.state q.shows).wiring) in
    record {
      rest = rest_again ns c.args.self.now c.loop-at.self c.note_node.new.self c.loop-at.invariant.rest c.note_node.ensures.rest;
      marks = λ s h f. node_told ns s c.note_node.new.self (readers_of w i) c.loop-at.at n c.place-place.result.node l (ap (λ (ms : List ℕ). get_or ms c.loop-at.at 0) same) o
          (c.note_node.ensures.marks s (all_but_those (owners ns (drop c.loop-at.at (readers_of w i)))) (c.loop-at.invariant.marks s h f) f);
    }

pub returns : goal.returns
returns c s h f =
    nodes_told c.args.nodes.now s c.loop-at.self (readers_of c.args.self.now.wiring c.args.node) c.loop-at.at (let e = ap length c.readers-count.ensures in let t = c.loop-at-test.false in omega (arith, e, t)) (c.loop-at.invariant.marks s h f)
