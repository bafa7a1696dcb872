-- The nodes in memory after a step.
use Rattle.std.proofs.Common.{◌≡◌, ℕ, zero, suc, ◌+◌, ◌<◌, ◌≤◌, List, [], ◌∷◌, ◌++◌, length, get_or, set, Bool, true, false, refl, ap, sym, ◌∙◌, subst, arith, inl, inr, length-set}
use Rattle.std.specs.Prelude.{◌==◌, ◌↔◌, nat_lt, not, None, count_by, slice_index_or, if◌then◌else◌}
use Rattle.std.proofs.lemmas.Bool.{cases_eq, cases_Bool, true≢false}
use Rattle.std.proofs.lemmas.Bool.Decides.{nat_tests}
use Rattle.std.proofs.lemmas.List.{get_or-set_same, get_or-set_other}
use Rattle.nf_value.specs.Plain.{Plain}
use Rattle.nf_opstream.proofs.Tally.{count_is_passes, one_if, tally-append}
use Rattle.nf_graph.specs.declared.node.Node.{Node}
use Rattle.nf_graph.specs.Node.{PlainNode, port_at, node_at}
use Rattle.nf_graph.specs.Meaning.{put}
use Rattle.nf_graph.specs.WellMade.{plain_graph, node_in}
use Rattle.nf_graph.proofs.Lists.{put_same, put_other, put_all}
use Rattle.nf_machine.specs.Event.{Place}
use Rattle.nf_machine.specs.State.{Take, Ticket, Spot, State}
use Rattle.nf_machine.specs.Step.{with_spot, with_ticket, left_at, do_take}
use Rattle.nf_machine.specs.Legal.{CloseIsLegal}
use Rattle.nf_spot.specs.Numbers.{has}
use Rattle.nf_spot.specs.Spot.{IsNode, waits_on}
use Rattle.nf_spot.specs.declared.node_state.NodeState.{NodeState}
use Rattle.nf_wiring.specs.Places.{port_count, place_in}
use Rattle.nf_wiring.specs.Wiring.{IsWiring}
use Rattle.nf_nodes.specs.Marks.{fed, passed_there, producer_of, CanTake, all, all_but, with_one}
use Rattle.nf_nodes.specs.Index.{IsSized, MarksPorts, MarksNodes}
use Rattle.nf_nodes.specs.Nodes.{AreNodes, HasNode, HasNumbered, Marks, Shows}
use Rattle.nf_nodes.specs.Steps.{received}
use Rattle.nf_nodes.specs.declared.index.Index.{Index}
use Rattle.nf_nodes.specs.declared.nodes.Nodes.{Nodes}
use Rattle.nf_nodes.proofs.Changes.{MovesAt, EmitsNothing, StaysOpen, SamePort, SameNode, silent_port, silent_node, open_node, far_port, far_node, passed_kept}
use Rattle.nf_nodes.proofs.Marking.{fewer_ports, fewer_nodes, kept_ports, kept_nodes, some_nodes}

-- ---- marks of all

pub other : (i j : ℕ) → all_but i j ≡ true → j ≡ i → ⊥
other i j t e = (let v : (j == i) ≡ true = grind (arith, nat_tests) in let w : not (j == i) ≡ false = ap not v in absurd (true≢false (sym t ∙ w)))

pub all_again : (n m : ℕ) → with_one n (all_but n) m ≡ true
all_again n m = by (m == n)
  where
    by : (b : Bool) → (if b then true else not b) ≡ true
    by true = refl
    by false = refl

pub all_ports : (nodes : List Node) (s : State) (p q : ℕ → Bool) (c : Nodes) → ((n : ℕ) → n < port_count nodes → p n ≡ true) → Marks nodes s p q c → Marks nodes s all q c
all_ports nodes s p q c every h = record { shows = h.shows; by_port = fewer_ports nodes s p all c.index (λ n l t. every n l) h.by_port; by_node = h.by_node }

pub all_nodes : (nodes : List Node) (s : State) (p q : ℕ → Bool) (c : Nodes) → ((n : ℕ) → n < length nodes → q n ≡ true) → Marks nodes s p q c → Marks nodes s p all c
all_nodes nodes s p q c every h = record { shows = h.shows; by_port = h.by_port; by_node = fewer_nodes nodes s q all c.index (λ n l t. every n l) h.by_node }

-- ---- node i changed, and x is it in memory

module _ (nodes : List Node) (s u : State) (c d : Nodes) (i : ℕ) (x : NodeState) (l : i < length nodes) (m : MovesAt (plain_graph nodes) i s u)
    (es : d.states.items ≡ set c.states.items i x) (ec : d.closed ≡ c.closed) (ew : d.wiring ≡ c.wiring) (ei : d.index ≡ c.index) where
  pub shows_set : Shows nodes s c → (u.spots i).closed ≡ (s.spots i).closed → IsNode (node_in nodes i) (u.spots i) x → Shows nodes u d
  shows_set h ecl node = record {
    running = m.after;
    well_made = h.well_made;
    wiring = subst (IsWiring nodes) (sym ew) h.wiring;
    count = ap length es ∙ length-set c.states.items i x ∙ h.count;
    states = λ j dd k. (let there : (j : ℕ) → j < length nodes → IsNode (node_in nodes j) (u.spots j) (get_or (set c.states.items i x) j dd) = λ j k. elim (cases_eq j i) [
      | inl e ↦ subst (λ n. IsNode (node_in nodes n) (u.spots n) (get_or (set c.states.items i x) n dd)) (sym e)
          (subst (IsNode (node_in nodes i) (u.spots i)) (sym (get_or-set_same c.states.items i x dd (let w = h.count in omega arith))) node)
      | inr n ↦ subst (IsNode (node_in nodes j) (u.spots j)) (sym (get_or-set_other c.states.items i j x dd n)) (subst (λ (sp : Spot). IsNode (node_in nodes j) sp (get_or c.states.items j dd)) (sym (m.others j n)) (h.states j dd k))
    ] in subst (λ (ls : List NodeState). IsNode (node_in nodes j) (u.spots j) (get_or ls j dd)) (sym es) (there j k));
    closed_count = ap (λ (z : _). length z.items) ec ∙ h.closed_count;
    closed = λ j k. ap (λ (z : _). slice_index_or z.items j false) ec ∙ h.closed j k ∙ elim (cases_eq j i) [
      | inl e ↦ subst (λ n. (s.spots n).closed ≡ (u.spots n).closed) (sym e) (sym ecl)
      | inr n ↦ ap (λ (sp : Spot). sp.closed) (sym (m.others j n))
    ];
    sized = subst (IsSized nodes) (sym ei) h.sized;
  }

  -- it emitted nothing
  pub marks_silent : AreNodes nodes s c → EmitsNothing i s u → (p : ℕ → Bool) → ((n : ℕ) → n < port_count nodes → p n ≡ true → passed_there u (place_in nodes n) ≡ passed_there s (place_in nodes n))
      → IsNode (node_in nodes i) (u.spots i) x → Marks nodes u p (all_but i) d
  marks_silent h e p passed node = record {
    shows = shows_set h.shows e.closed node;
    by_port = subst (MarksPorts nodes u p) (sym ei) (kept_ports nodes s u p c.index (λ n k t. silent_port (plain_graph nodes) i s u m e (place_in nodes n) (passed n k t)) h.by_port);
    by_node = subst (MarksNodes nodes u (all_but i)) (sym ei) (kept_nodes nodes s u (all_but i) c.index m.before m.after (λ j k t. silent_node (plain_graph nodes) i s u m e j (other i j t)) (some_nodes nodes s (all_but i) c.index h.by_node));
  }

  -- it isn't closed, and passed nothing; r are ports that don't read it
  pub marks_open : Marks nodes s all (all_but i) c → StaysOpen i s u → (u.spots i).passed ≡ (s.spots i).passed → (r : ℕ → Bool)
      → ((n : ℕ) → n < port_count nodes → r n ≡ true → producer_of (plain_graph nodes) (place_in nodes n) ≡ i → ⊥)
      → IsNode (node_in nodes i) (u.spots i) x → Marks nodes u r (all_but i) d
  marks_open h o passed r far node = record {
    shows = shows_set h.shows (o.after ∙ sym o.before) node;
    by_port = subst (MarksPorts nodes u r) (sym ei) (kept_ports nodes s u r c.index (λ n k t. far_port (plain_graph nodes) i s u m (place_in nodes n) (far n k t) (passed_kept (plain_graph nodes) i s u m passed (place_in nodes n))) h.by_port);
    by_node = subst (MarksNodes nodes u (all_but i)) (sym ei) (kept_nodes nodes s u (all_but i) c.index m.before m.after (λ j k t. open_node (plain_graph nodes) i s u m o j (other i j t)) h.by_node);
  }

-- ---- Pass

pub moves_pass : (g : List PlainNode) (s : State) (p : Place) (x : Plain) → s.stop ≡ None → MovesAt g p.node s (received s p x)
moves_pass g s p x run = record {
  before = run;
  after = run;
  others = λ j n. put_other s.spots p.node (waits_on (s.spots p.node) p.port x) j n;
  flights = λ j n. refl;
}

pub silent_pass : (s : State) (p : Place) (x : Plain) → EmitsNothing p.node s (received s p x)
silent_pass s p x = let e = put_same s.spots p.node (waits_on (s.spots p.node) p.port x) in record { closed = ap (λ (sp : Spot). sp.closed) e; emitted = ap (λ (sp : Spot). sp.emitted) e }

-- only one port passed
pub passed_elsewhere : (s : State) (p q : Place) (x : Plain) → (q ≡ p → ⊥) → passed_there (received s p x) q ≡ passed_there s q
passed_elsewhere s p q x apart = elim (cases_eq q.node p.node) [
  | inl e ↦ (let sp = waits_on (s.spots p.node) p.port x in
      ap (λ (z : Spot). z.passed q.port) (subst (λ j. put s.spots p.node sp j ≡ sp) (sym e) (put_same s.spots p.node sp))
      ∙ put_other (s.spots p.node).passed p.port (suc ((s.spots p.node).passed p.port)) q.port (λ f. apart (λ i. record { node = e i; port = f i }))
      ∙ ap (λ j. (s.spots j).passed q.port) (sym e))
  | inr n ↦ ap (λ (z : Spot). z.passed q.port) (put_other s.spots p.node (waits_on (s.spots p.node) p.port x) q.node n)
]

-- ---- Take

counted_more : (j : ℕ) (k : Ticket) (ts : List Ticket) → count_by (λ (u : Ticket). u.node == j) (with_ticket k ts) ≡ count_by (λ (u : Ticket). u.node == j) ts + one_if (k.node == j)
counted_more j k ts =
    let f : Ticket → Bool = λ u. u.node == j in
    let a = count_is_passes f (with_ticket k ts) in let b = count_is_passes f ts in let c = tally-append (λ u. one_if (f u)) ts (k ∷ []) in omega (arith, a, b, c)

pub moves_take : (g : List PlainNode) (s : State) (i place : ℕ) (t : Take) → s.stop ≡ None → MovesAt g i s (do_take s i place t)
moves_take g s i place t run = record {
  before = run;
  after = run;
  others = λ j n. put_other s.spots i (record (s.spots i) { waiting = left_at t.slot place (s.spots i).waiting; taken = t ∷ (s.spots i).taken }) j n;
  flights = λ j n. (let k : Ticket = record { number = s.next; node = i; take = t; told = []; started = false } in
      let a = counted_more j k s.tickets in let z : (i == j) ≡ false = differ i j n in let w : one_if (i == j) ≡ 0 = ap one_if z in omega (arith, a, w));
}
  where
    differ : (i j : ℕ) → (j ≡ i → ⊥) → (i == j) ≡ false
    differ i j n = grind (arith, nat_tests)

pub taken_spot : (s : State) (i place : ℕ) (t : Take) → (do_take s i place t).spots i ≡ record (s.spots i) { waiting = left_at t.slot place (s.spots i).waiting; taken = t ∷ (s.spots i).taken }
taken_spot s i place t = put_same s.spots i (record (s.spots i) { waiting = left_at t.slot place (s.spots i).waiting; taken = t ∷ (s.spots i).taken })

pub silent_take : (s : State) (i place : ℕ) (t : Take) → EmitsNothing i s (do_take s i place t)
silent_take s i place t = let e = taken_spot s i place t in record { closed = ap (λ (sp : Spot). sp.closed) e; emitted = ap (λ (sp : Spot). sp.emitted) e }

-- a node that took can't close
pub no_close : (g : List PlainNode) (s : State) (i place : ℕ) (t : Take) → CloseIsLegal g (do_take s i place t) i → ⊥
no_close g s i place t legal =
    let k : Ticket = record { number = s.next; node = i; take = t; told = []; started = false } in
    let a = counted_more i k s.tickets in let z : (i == i) ≡ true = same i in let w : one_if (i == i) ≡ 1 = ap one_if z in let f = legal.flight in omega (arith, a, w, f)
  where
    same : (i : ℕ) → (i == i) ≡ true
    same i = grind (arith, nat_tests)

-- ---- the nodes in memory after a Pass and after a Take

-- an item waits at the port of number n, which stands at this place, and nothing is marked anew yet
pub receive_done : (nodes : List Node) → ((m n : ℕ) → m < port_count nodes → n < port_count nodes → place_in nodes m ≡ place_in nodes n → m ≡ n)
    → (s : State) (c d : Nodes) (n : ℕ) (p : Place) (v : Plain) (y : NodeState) → AreNodes nodes s c → n < port_count nodes → p ≡ place_in nodes n → p.node < length nodes
    → IsNode (node_in nodes p.node) (waits_on (s.spots p.node) p.port v) y → d.states.items ≡ set c.states.items p.node y → d.closed ≡ c.closed → d.wiring ≡ c.wiring → d.index ≡ c.index
    → Marks nodes (received s p v) (all_but n) (all_but p.node) d
receive_done nodes apart s c d n p v y h below e l node es ec ew ei =
    let u = received s p v in
    let at : u.spots p.node ≡ waits_on (s.spots p.node) p.port v = put_same s.spots p.node (waits_on (s.spots p.node) p.port v) in
    marks_silent nodes s u c d p.node y l (moves_pass (plain_graph nodes) s p v h.shows.running) es ec ew ei h (silent_pass s p v) (all_but n)
    (λ m k t. passed_elsewhere s p (place_in nodes m) v (λ same. other n m t (apart m n k below (same ∙ e))))
    (subst (λ (sp : Spot). IsNode (node_in nodes p.node) sp y) (sym at) node)

-- then the port and its node are marked
pub marked_again : (nodes : List Node) (s : State) (n i : ℕ) (c : Nodes) → Marks nodes s (with_one n (all_but n)) (all_but i) c → Marks nodes s all (all_but i) c
marked_again nodes s n i c h = all_ports nodes s (with_one n (all_but n)) (all_but i) c (λ m l. all_again n m) h

pub noted_again : (nodes : List Node) (s : State) (i : ℕ) (c : Nodes) → Marks nodes s all (with_one i (all_but i)) c → AreNodes nodes s c
noted_again nodes s i c h = all_nodes nodes s all (with_one i (all_but i)) c (λ m l. all_again i m) h

pub take_done : (nodes : List Node) (s : State) (c d : Nodes) (i place : ℕ) (t : Take) (y : NodeState) → AreNodes nodes s c → i < length nodes
    → IsNode (node_in nodes i) (record (s.spots i) { waiting = left_at t.slot place (s.spots i).waiting; taken = t ∷ (s.spots i).taken }) y
    → d.states.items ≡ set c.states.items i y → d.closed ≡ c.closed → d.wiring ≡ c.wiring → d.index ≡ c.index → Marks nodes (do_take s i place t) all (all_but i) d
take_done nodes s c d i place t y h l node es ec ew ei =
    let u = do_take s i place t in
    let at = taken_spot s i place t in
    let m = moves_take (plain_graph nodes) s i place t h.shows.running in
    marks_silent nodes s u c d i y l m es ec ew ei h (silent_take s i place t) all
    (λ n k w. passed_kept (plain_graph nodes) i s u m (ap (λ (sp : Spot). sp.passed) at) (place_in nodes n))
    (subst (λ (sp : Spot). IsNode (node_in nodes i) sp y) (sym at) node)

-- ---- only takes in flight changed, and not how many of each node there are

pub tickets_alone : (nodes : List Node) (s u : State) (c : Nodes) → AreNodes nodes s c → u.spots ≡ s.spots → u.stop ≡ s.stop
    → ((i : ℕ) → count_by (λ (k : Ticket). k.node == i) u.tickets ≡ count_by (λ (k : Ticket). k.node == i) s.tickets) → AreNodes nodes u c
tickets_alone nodes s u c h es et counts =
    let run : u.stop ≡ None = et ∙ h.shows.running in
    let g = plain_graph nodes in
    record {
      shows = record {
        running = run;
        well_made = h.shows.well_made;
        wiring = h.shows.wiring;
        count = h.shows.count;
        states = λ i d l. subst (λ (f : ℕ → Spot). IsNode (node_in nodes i) (f i) (slice_index_or c.states.items i d)) (sym es) (h.shows.states i d l);
        closed_count = h.shows.closed_count;
        closed = λ i l. h.shows.closed i l ∙ ap (λ (f : ℕ → Spot). (f i).closed) (sym es);
        sized = h.shows.sized;
      };
      by_port = kept_ports nodes s u all c.index (λ n l t. record {
        passed = ap (λ (f : ℕ → Spot). (f (place_in nodes n).node).passed (place_in nodes n).port) es;
        fed = ap (λ (f : ℕ → Spot). length ((f (producer_of g (place_in nodes n))).emitted (port_at (node_at g (place_in nodes n).node) (place_in nodes n).port).out)) es;
        closed = ap (λ (f : ℕ → Spot). (f (producer_of g (place_in nodes n))).closed) es;
      }) h.by_port;
      by_node = kept_nodes nodes s u all c.index h.shows.running run (λ i l t. record {
        spot = ap (λ (f : ℕ → Spot). f i) es;
        flights = counts i;
        closed = λ k m. ap (λ (f : ℕ → Spot). (f (port_at (node_at g i) k).from).closed) es;
        fed = λ k m w. ap (λ (f : ℕ → Spot). (f (port_at (node_at g i) k).from).emitted (port_at (node_at g i) k).out) es;
      }) h.by_node;
    }
