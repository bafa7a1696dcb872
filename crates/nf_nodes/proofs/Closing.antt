-- When the index lets a node close.
use Rattle.std.proofs.Common.{◌≡◌, ℕ, zero, suc, ◌+◌, ◌<◌, ◌≤◌, List, [], ◌∷◌, length, Bool, true, false, ◌&&◌, refl, ap, sym, ◌∙◌, subst, arith, inl, inr}
use Rattle.std.specs.Prelude.{◌==◌, ◌↔◌, nat_lt, not, None, count_by, slice_index_or, slice_index}
use Rattle.std.proofs.lemmas.Bool.{cases_Bool, true≢false}
use Rattle.std.proofs.lemmas.Bool.Decides.{nat_tests}
use Rattle.nf_graph.specs.declared.node.Node.{Node}
use Rattle.nf_graph.specs.Node.{PlainNode, port_at, node_at}
use Rattle.nf_graph.specs.WellMade.{plain_kind, plain_node, plain_graph, node_in}
use Rattle.nf_machine.specs.Event.{Place}
use Rattle.nf_machine.specs.State.{Ticket, Spot, State, feed}
use Rattle.nf_machine.specs.Legal.{MayTake, MayClose, CloseIsLegal}
use Rattle.nf_spot.specs.Numbers.{has, limit_of}
use Rattle.nf_spot.specs.declared.numbers.NumberSet.{NumberSet}
use Rattle.nf_wiring.specs.Places.{port_count, place_in, HasNumber}
use Rattle.nf_nodes.specs.Marks.{fed, passed_there, producer_of, is_ended, CanTake, all}
use Rattle.nf_nodes.specs.Index.{is_live, IsSized, MarksPorts}
use Rattle.nf_nodes.specs.declared.index.Index.{Index}
use Rattle.nf_nodes.proofs.Marking.{plain_at}

both : (x y : Bool) → (x && y) ≡ true → (x ≡ true) × (y ≡ true)
both true y e = (refl, e)
both false y e = absurd (true≢false (sym e))

join : (x y : Bool) → x ≡ true → y ≡ true → (x && y) ≡ true
join true y e f = f
join false y e f = absurd (true≢false (sym e))

not_false : (b : Bool) → not b ≡ false → b ≡ true
not_false true e = refl
not_false false e = absurd (true≢false e)

abbrev pub Numbers : List Node → Type 0
Numbers nodes = (i k : ℕ) → i < length nodes → k < length (node_in nodes i).ports → HasNumber nodes i k

module _ (nodes : List Node) (numbers : Numbers nodes) (s : State) (x : Index) (ports : MarksPorts nodes s all x) (i : ℕ) (l : i < length nodes) where
  -- the ports of node i as the index has them
  ended_there : (k : ℕ) (d : NumberSet) → k < length (node_in nodes i).ports → is_live x d (record { node = i; port = k }) ≡ not (is_ended (plain_graph nodes) s (record { node = i; port = k }))
  ended_there k d m =
      let n = numbers i k l m in
      subst (λ p. is_live x d p ≡ not (is_ended (plain_graph nodes) s p)) n.is (ports.lives n.number d n.below refl)

  in_graph : (k : ℕ) → k < length (node_at (plain_graph nodes) i).ports → k < length (node_in nodes i).ports
  in_graph k m = subst (λ (n : PlainNode). k < length n.ports) (plain_at nodes i) m

  pub legal_close : s.stop ≡ None → (s.spots i).closed ≡ false → ((k : ℕ) (d : NumberSet) → is_live x d (record { node = i; port = k }) ≡ false)
      → count_by (λ (k : Ticket). k.node == i) s.tickets ≡ 0 → MayClose (plain_node (node_in nodes i)) (plain_kind (node_in nodes i).kind) (s.spots i) → CloseIsLegal (plain_graph nodes) s i
  legal_close run still none quiet done = record {
    running = run;
    still = still;
    producers = λ k m. (ended k (in_graph k m)).0;
    passed = λ k m. (let t = (ended k (in_graph k m)).1 in grind (arith, nat_tests));
    flight = quiet;
    done = subst (λ (n : PlainNode). MayClose n n.kind (s.spots i)) (sym (plain_at nodes i)) done;
  }
    where
      ended : (k : ℕ) → k < length (node_in nodes i).ports → ((s.spots (producer_of (plain_graph nodes) (record { node = i; port = k }))).closed ≡ true)
          × ((passed_there s (record { node = i; port = k }) == fed (plain_graph nodes) s (record { node = i; port = k })) ≡ true)
      ended k m =
          let p : Place = record { node = i; port = k } in
          let e : not (is_ended (plain_graph nodes) s p) ≡ false = sym (ended_there k x.passable m) ∙ none k x.passable in
          both (s.spots (producer_of (plain_graph nodes) p)).closed (passed_there s p == fed (plain_graph nodes) s p) (not_false (is_ended (plain_graph nodes) s p) e)

  pub none_live : IsSized nodes x → CloseIsLegal (plain_graph nodes) s i → (k : ℕ) (d : NumberSet) → is_live x d (record { node = i; port = k }) ≡ false
  none_live sized legal k d = elim (cases_Bool (nat_lt k (length (node_in nodes i).ports))) [
    | inl t ↦ (let m : k < length (node_in nodes i).ports = grind (arith, nat_tests) in
        let there : k < length (node_at (plain_graph nodes) i).ports = subst (λ (n : PlainNode). k < length n.ports) (sym (plain_at nodes i)) m in
        let p : Place = record { node = i; port = k } in
        let same : (passed_there s p == fed (plain_graph nodes) s p) ≡ true = (let e = legal.passed k there in grind (arith, nat_tests)) in
        ended_there k d m ∙ ap not (join (s.spots (producer_of (plain_graph nodes) p)).closed (passed_there s p == fed (plain_graph nodes) s p) (legal.producers k there) same))
    | inr f ↦ (let e = sized.ports i d l in let z = slice_index_or x.live.items i d in
        let g : nat_lt k (limit_of z) ≡ false = ap (nat_lt k) e ∙ f in rw g refl)
  ]

  pub done_there : CloseIsLegal (plain_graph nodes) s i → MayClose (plain_node (node_in nodes i)) (plain_kind (node_in nodes i).kind) (s.spots i)
  done_there legal = subst (λ (n : PlainNode). MayClose n n.kind (s.spots i)) (plain_at nodes i) legal.done
