use Rattle.std.proofs.Common.{◌≡◌, ◌<◌, length, get_or, drop, ap, ◌∙◌, arith}
use Rattle.std.specs.Prelude.{ℕ, List}
use Rattle.nf_wiring.specs.Wiring.{readers_of}
use Rattle.nf_wiring.specs.declared.wiring.Wiring.{Wiring}
use Rattle.nf_nodes.proofs.Noting.{rest_same, rest_again}
use Rattle.nf_nodes.proofs.Telling.{all_but_those, number_below, ports_untold, port_told, ports_told}
use Rattle.nf_nodes.proofs.nodes.Nodes.note_readers.Goals as goal

pub loop-at-init : goal.loop-at-init
loop-at-init c = record {
  rest = rest_same c.args.nodes.now c.args.self.now;
  marks = λ s q h. ports_untold c.args.nodes.now s q c.args.self.now c.args.node h;
}

pub note_port-requires : goal.note_port-requires
note_port-requires c =
    let w = c.args.self.now.wiring in let i = c.args.node in
    let same : c.readers.result.now ≡ readers_of w i = c.readers.ensures ∙ ap (λ (z : Wiring). readers_of z i) c.loop-at.invariant.rest.wiring in
    let l : c.loop-at.at < length (readers_of w i) = (let e = ap length c.readers-count.ensures in let t = c.loop-at-test.true in omega (arith, e, t)) in
    record {
      state = c.requires.state;
      shows = c.loop-at.invariant.rest.shows c.requires.state c.requires.shows;
      below = number_below c.args.nodes.now w i c.loop-at.at (get_or c.readers.result.now c.loop-at.at 0) c.requires.shows.wiring l (ap (λ (ms : List ℕ). get_or ms c.loop-at.at 0) same);
    }

pub loop-at-preserved : goal.loop-at-preserved
loop-at-preserved c =
    let w = c.args.self.now.wiring in let i = c.args.node in
    let same : c.readers.result.now ≡ readers_of w i = c.readers.ensures ∙ ap (λ (z : Wiring). readers_of z i) c.loop-at.invariant.rest.wiring in
    let l : c.loop-at.at < length (readers_of w i) = (let e = ap length c.readers-count.ensures in let t = c.loop-at-test.true in omega (arith, e, t)) in
    record {
      rest = rest_again c.args.nodes.now c.args.self.now c.loop-at.self c.note_port.new.self c.loop-at.invariant.rest c.note_port.ensures.rest;
      marks = λ s q h. port_told c.args.nodes.now s q c.note_port.new.self (readers_of w i) c.loop-at.at (get_or c.readers.result.now c.loop-at.at 0) l (ap (λ (ms : List ℕ). get_or ms c.loop-at.at 0) same)
          (c.note_port.ensures.marks s (all_but_those (drop c.loop-at.at (readers_of w i))) q (c.loop-at.invariant.marks s q h));
    }

pub returns : goal.returns
returns c s q h =
    ports_told c.args.nodes.now s q c.loop-at.self (readers_of c.args.self.now.wiring c.args.node) c.loop-at.at (let e = ap length c.readers-count.ensures in let t = c.loop-at-test.false in omega (arith, e, t)) (c.loop-at.invariant.marks s q h)
