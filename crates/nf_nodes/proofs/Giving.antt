-- The nodes in memory after a node emitted, or closed.
use Rattle.std.proofs.Common.{◌≡◌, ℕ, ◌+◌, ◌<◌, List, [], ◌∷◌, ◌++◌, length, get_or, set, Bool, true, false, ◌&&◌, refl, ap, sym, ◌∙◌, subst, arith, inl, inr, length-set}
use Rattle.std.specs.Prelude.{◌==◌, not, None, Ok, Option, Some, count_by, if◌then◌else◌}
use Rattle.std.proofs.lemmas.Bool.{cases_eq, true≢false}
use Rattle.std.proofs.lemmas.Bool.Decides.{nat_tests}
use Rattle.std.proofs.lemmas.List.{append-nil, get_or-set_same, get_or-set_other}
use Rattle.std.proofs.lemmas.List.Folds.{list_any_at}
use Rattle.nf_value.specs.Plain.{Plain}
use Rattle.nf_value.specs.declared.value.Value.{Value}
use Rattle.nf_opstream.specs.Operator.{to_out}
use Rattle.nf_bag.specs.declared.fault.OpFault.{OpFault}
use Rattle.nf_opstream.specs.Promise.{emits_of, IsFault}
use Rattle.nf_opstream.specs.Push.{Push}
use Rattle.nf_job.specs.declared.emitted.Outputs.{Outputs}
use Rattle.nf_job.specs.declared.emitted.Outputs.TheVariants as o
use Rattle.nf_opstream.proofs.Tally.{count_is_passes, one_if}
use Rattle.nf_graph.specs.declared.port.Port.{Port}
use Rattle.nf_graph.specs.declared.node.Node.{Node}
use Rattle.nf_graph.specs.Node.{PlainNode, no_port, port_at, node_at}
use Rattle.nf_graph.specs.Meaning.{put}
use Rattle.nf_graph.specs.Rules.{Outs}
use Rattle.nf_graph.specs.WellMade.{plain_graph, plain_kind, node_in}
use Rattle.nf_graph.proofs.Lists.{put_same, put_other}
use Rattle.nf_machine.proofs.Tickets.{found_tally}
use Rattle.nf_machine.specs.Legal.{IsOperatorKind}
use Rattle.nf_machine.specs.State.{Ended, Ticket, Spot, State}
use Rattle.nf_machine.specs.Step.{ended_on, ends_at, op_ends, op_gives, ticket_at, with_spot, without}
use Rattle.nf_spot.specs.Spot.{IsNode, emits_all_on, outs_on}
use Rattle.nf_spot.specs.declared.node_state.NodeState.{NodeState}
use Rattle.nf_wiring.specs.Places.{place_in, port_numbered}
use Rattle.nf_wiring.specs.Wiring.{IsWiring}
use Rattle.nf_nodes.specs.Index.{IsSized, MarksPorts, MarksNodes}
use Rattle.nf_nodes.specs.Marks.{all, all_but, far_from, producer_of, unfed, unread}
use Rattle.nf_nodes.specs.Nodes.{AreNodes, Marks, Shows}
use Rattle.nf_nodes.specs.Steps.{left}
use Rattle.nf_nodes.specs.declared.nodes.Nodes.{Nodes}
use Rattle.nf_nodes.proofs.Changes.{MovesAt, EmitsNothing, far_port, far_node, passed_kept, silent_node, silent_port}
use Rattle.nf_nodes.proofs.Marking.{kept_nodes, kept_ports, plain_at, some_nodes}
use Rattle.nf_nodes.proofs.Showing.{port_same}
use Rattle.nf_nodes.proofs.Stepping.{marks_open, marks_silent, other, shows_set}

-- ---- states in which node i alone changed

pub moves_spot : (g : List PlainNode) (s : State) (i : ℕ) (sp : Spot) → s.stop ≡ None → MovesAt g i s (with_spot s i sp)
moves_spot g s i sp run = record { before = run; after = run; others = λ j n. put_other s.spots i sp j n; flights = λ j n. refl }

counted_without : (j t : ℕ) (k : Ticket) (ts : List Ticket) → ticket_at t ts ≡ Some k → (k.node ≡ j → ⊥) → count_by (λ (u : Ticket). u.node == j) (without t ts) ≡ count_by (λ (u : Ticket). u.node == j) ts
counted_without j t k ts e n =
    let f : Ticket → Bool = λ u. u.node == j in
    let a = count_is_passes f (without t ts) in let b = count_is_passes f ts in let c = found_tally (λ u. one_if (f u)) t ts k e in
    let z : (k.node == j) ≡ false = differ k.node j n in let w : one_if (k.node == j) ≡ 0 = ap one_if z in omega (arith, a, b, c, w)
  where
    differ : (a b : ℕ) → (a ≡ b → ⊥) → (a == b) ≡ false
    differ a b n = grind (arith, nat_tests)

-- a take of node i comes back
pub moves_left : (g : List PlainNode) (s : State) (t i : ℕ) (k : Ticket) (sp : Spot) → s.stop ≡ None → ticket_at t s.tickets ≡ Some k → k.node ≡ i → MovesAt g i s (with_spot (left s t) i sp)
moves_left g s t i k sp run e at = record {
  before = run;
  after = run;
  others = λ j n. put_other s.spots i sp j n;
  flights = λ j n. counted_without j t k s.tickets e (λ f. n (sym f ∙ at));
}

put_twice : {A : Type 0} (f : ℕ → A) (i : ℕ) (a b : A) (j : ℕ) → put (put f i a) i b j ≡ put f i b j
put_twice f i a b j = by (j == i)
  where
    by : (t : Bool) → (if t then b else (if t then a else f j)) ≡ (if t then b else f j)
    by true = refl
    by false = refl

-- node i changes twice
pub twice : (w : State) (i : ℕ) (a : Spot) (f : Spot → Spot) → with_spot (with_spot w i a) i (f ((with_spot w i a).spots i)) ≡ with_spot w i (f a)
twice w i a f =
    ap (λ (sp : Spot). with_spot (with_spot w i a) i (f sp)) (put_same w.spots i a) ∙ (λ k. record w { spots = λ j. put_twice w.spots i a (f a) j k })

put_back : {A : Type 0} (f : ℕ → A) (i j : ℕ) → put f i (f i) j ≡ f j
put_back f i j = elim (cases_eq j i) [
  | inl e ↦ subst (λ m. put f i (f i) m ≡ f m) (sym e) (put_same f i (f i))
  | inr n ↦ put_other f i (f i) j n
]

-- where nothing is emitted, nothing changes
pub quiet : (s : State) (i : ℕ) (f : ℕ → List Plain) → ((o : ℕ) → f o ≡ []) → with_spot s i (record (s.spots i) { emitted = λ o. (s.spots i).emitted o ++ f o }) ≡ s
quiet s i f none = ap (with_spot s i) same ∙ (λ k. record s { spots = λ j. put_back s.spots i j k })
  where
    same : ◌≡◌ {A = Spot} (record (s.spots i) { emitted = λ o. (s.spots i).emitted o ++ f o }) (s.spots i)
    same = λ k. record (s.spots i) { emitted = λ o. (ap (λ (xs : List Plain). (s.spots i).emitted o ++ xs) (none o) ∙ append-nil ((s.spots i).emitted o)) k }

-- ---- marks after it

-- a port that is unread doesn't read node i
far : (nodes : List Node) (i n : ℕ) → unread nodes i n ≡ true → producer_of (plain_graph nodes) (place_in nodes n) ≡ i → ⊥
far nodes i n t e =
    let f : (port_numbered nodes n).from ≡ i = ap (λ (p : Port). p.from) (sym (port_same nodes (place_in nodes n))) ∙ e in
    let y : ((port_numbered nodes n).from == i) ≡ true = same (port_numbered nodes n).from i f in
    true≢false (sym t ∙ ap not y)
  where
    same : (a b : ℕ) → a ≡ b → (a == b) ≡ true
    same a b e = grind (arith, nat_tests)

-- node i's part of the state is sp, and y in memory
module _ (nodes : List Node) (s : State) (c d : Nodes) (i : ℕ) (y : NodeState) (sp : Spot) (l : i < length nodes)
    (es : d.states.items ≡ set c.states.items i y) (ec : d.closed ≡ c.closed) (ew : d.wiring ≡ c.wiring) (ei : d.index ≡ c.index) where
  pub spot_shows : Shows nodes s c → sp.closed ≡ (s.spots i).closed → IsNode (node_in nodes i) sp y → Shows nodes (with_spot s i sp) d
  spot_shows h ecl node =
      let at = put_same s.spots i sp in
      shows_set nodes s (with_spot s i sp) c d i y l (moves_spot (plain_graph nodes) s i sp h.running) es ec ew ei h (ap (λ (z : Spot). z.closed) at ∙ ecl) (subst (λ (z : Spot). IsNode (node_in nodes i) z y) (sym at) node)

  -- it emitted, and stays open
  pub emits_done : Marks nodes s all (all_but i) c → (s.spots i).closed ≡ false → sp.closed ≡ false → sp.passed ≡ (s.spots i).passed → IsNode (node_in nodes i) sp y → Marks nodes (with_spot s i sp) (unread nodes i) (all_but i) d
  emits_done h still ecl passed node =
      let at = put_same s.spots i sp in
      marks_open nodes s (with_spot s i sp) c d i y l (moves_spot (plain_graph nodes) s i sp h.shows.running) es ec ew ei h
      (record { before = still; after = ap (λ (z : Spot). z.closed) at ∙ ecl }) (ap (λ (z : Spot). z.passed) at ∙ passed) (unread nodes i) (λ n k t. far nodes i n t)
      (subst (λ (z : Spot). IsNode (node_in nodes i) z y) (sym at) node)

  -- nothing is emitted
  pub silent_done : (u : State) → MovesAt (plain_graph nodes) i s u → u.spots i ≡ sp → AreNodes nodes s c → sp.closed ≡ (s.spots i).closed → sp.emitted ≡ (s.spots i).emitted → sp.passed ≡ (s.spots i).passed
      → IsNode (node_in nodes i) sp y → Marks nodes u all (all_but i) d
  silent_done u m at h ecl eem epa node =
      marks_silent nodes s u c d i y l m es ec ew ei h (record { closed = ap (λ (z : Spot). z.closed) at ∙ ecl; emitted = ap (λ (z : Spot). z.emitted) at ∙ eem }) all
      (λ n w q. passed_kept (plain_graph nodes) i s u m (ap (λ (z : Spot). z.passed) at ∙ epa) (place_in nodes n)) (subst (λ (z : Spot). IsNode (node_in nodes i) z y) (sym at) node)

-- node i changed, and memory shows nothing of it
pub back_done : (nodes : List Node) (s u : State) (c : Nodes) (i : ℕ) (sp : Spot) → MovesAt (plain_graph nodes) i s u → u.spots i ≡ sp → AreNodes nodes s c → sp.closed ≡ (s.spots i).closed → sp.emitted ≡ (s.spots i).emitted
    → sp.passed ≡ (s.spots i).passed → ((x : NodeState) → IsNode (node_in nodes i) (s.spots i) x → IsNode (node_in nodes i) sp x) → Marks nodes u all (all_but i) c
back_done nodes s u c i sp m at h ecl eem epa keep =
    let g = plain_graph nodes in
    let e : EmitsNothing i s u = record { closed = ap (λ (z : Spot). z.closed) at ∙ ecl; emitted = ap (λ (z : Spot). z.emitted) at ∙ eem } in
    record {
      shows = record {
        running = m.after;
        well_made = h.shows.well_made;
        wiring = h.shows.wiring;
        count = h.shows.count;
        states = λ j d l. elim (cases_eq j i) [
          | inl f ↦ subst (λ n. IsNode (node_in nodes n) (u.spots n) (get_or c.states.items n d)) (sym f)
              (subst (λ (z : Spot). IsNode (node_in nodes i) z (get_or c.states.items i d)) (sym at) (keep (get_or c.states.items i d) (h.shows.states i d (subst (λ n. n < length nodes) f l))))
          | inr n ↦ subst (λ (z : Spot). IsNode (node_in nodes j) z (get_or c.states.items j d)) (sym (m.others j n)) (h.shows.states j d l)
        ];
        closed_count = h.shows.closed_count;
        closed = λ j l. h.shows.closed j l ∙ elim (cases_eq j i) [
          | inl f ↦ subst (λ n. (s.spots n).closed ≡ (u.spots n).closed) (sym f) (sym e.closed)
          | inr n ↦ ap (λ (z : Spot). z.closed) (sym (m.others j n))
        ];
        sized = h.shows.sized;
      };
      by_port = kept_ports nodes s u all c.index (λ n l w. silent_port g i s u m e (place_in nodes n) (passed_kept g i s u m (ap (λ (z : Spot). z.passed) at ∙ epa) (place_in nodes n))) h.by_port;
      by_node = kept_nodes nodes s u (all_but i) c.index m.before m.after (λ j l w. silent_node g i s u m e j (other i j w)) (some_nodes nodes s (all_but i) c.index h.by_node);
    }

-- ---- what the calls read

-- two states that the nodes show agree on what is closed
pub same_closed : (nodes : List Node) (s u : State) (c : Nodes) (i : ℕ) → i < length nodes → Shows nodes s c → Shows nodes u c → (u.spots i).closed ≡ false → (s.spots i).closed ≡ false
same_closed nodes s u c i l h k still = sym (h.closed i l) ∙ k.closed i l ∙ still

-- fewer marks than all
pub others_marked : (nodes : List Node) (s : State) (c : Nodes) (i : ℕ) → AreNodes nodes s c → Marks nodes s all (all_but i) c
others_marked nodes s c i h = record { shows = h.shows; by_port = h.by_port; by_node = some_nodes nodes s (all_but i) c.index h.by_node }

pub kind_there : (nodes : List Node) (i : ℕ) → IsOperatorKind (node_at (plain_graph nodes) i).kind → IsOperatorKind (plain_kind (node_in nodes i).kind)
kind_there nodes i h = subst (λ (n : PlainNode). IsOperatorKind n.kind) (plain_at nodes i) h

-- no emits
pub quiet_emits : (s : State) (i : ℕ) (items : List (ℕ × Value)) → length items ≡ 0 → s ≡ with_spot s i (emits_all_on (s.spots i) (emits_of items))
quiet_emits s i [] e = sym (quiet s i (λ o. to_out o []) (λ o. refl))
quiet_emits s i (x ∷ items) e = absurd (omega arith)

-- a task emits nothing
pub quiet_outs : (s : State) (i : ℕ) (outputs : Outputs) → ((vs : List (Option Plain)) → outputs ≡ o.Emits vs → ⊥) → s ≡ with_spot s i (outs_on (s.spots i) (Ok outputs))
quiet_outs s i (o.Emits vs) none = absurd (none vs refl)
quiet_outs s i o.Ignored none = sym (quiet s i (λ x. []) (λ x. refl))
quiet_outs s i (o.Failed f) none = sym (quiet s i (λ x. []) (λ x. refl))
quiet_outs s i o.Again none = sym (quiet s i (λ x. []) (λ x. refl))

-- a task came back with outs
pub back_state : (s : State) (i : ℕ) (k : Ticket) (e : Ended) (outs : Outs) → k.node ≡ i → e.outs ≡ outs
    → with_spot (with_spot s i (record (s.spots i) { ended = e ∷ (s.spots i).ended })) i (outs_on ((with_spot s i (record (s.spots i) { ended = e ∷ (s.spots i).ended })).spots i) outs) ≡ ends_at s k e
back_state s i k e outs ek eo =
    let sp : Spot = record (s.spots i) { ended = e ∷ (s.spots i).ended } in
    twice s i sp (λ z. outs_on z outs) ∙ ap (λ q. with_spot s i (outs_on sp q)) (sym eo) ∙ ap (λ j. with_spot s j (ended_on (s.spots j) e)) (sym ek)

-- ---- Close

-- a node without a port that reads node i
none_reads : (nodes : List Node) (i j k : ℕ) → unfed nodes i j ≡ true → k < length (node_at (plain_graph nodes) j).ports → (port_at (node_at (plain_graph nodes) j) k).from ≡ i → ⊥
none_reads nodes i j k t l e =
    let at = plain_at nodes j in
    let m : k < length (node_in nodes j).ports = subst (λ (n : PlainNode). k < length n.ports) at l in
    let f : (get_or (node_in nodes j).ports k no_port).from ≡ i = subst (λ (n : PlainNode). (port_at n k).from ≡ i) at e in
    let y : ((get_or (node_in nodes j).ports k no_port).from == i) ≡ true = same (get_or (node_in nodes j).ports k no_port).from i f in
    true≢false (sym t ∙ ap not (list_any_at (λ (p : Port). p.from == i) (node_in nodes j).ports k no_port m y))
  where
    same : (a b : ℕ) → a ≡ b → (a == b) ≡ true
    same a b e = grind (arith, nat_tests)

pub both : (x y : Bool) → (x && y) ≡ true → (x ≡ true) × (y ≡ true)
both true y e = (refl, e)
both false y e = absurd (true≢false (sym e))

-- node i is closed, its part of the state is sp, and y in memory
module _ (nodes : List Node) (s : State) (c d : Nodes) (i : ℕ) (y : NodeState) (sp : Spot) (l : i < length nodes)
    (es : d.states.items ≡ set c.states.items i y) (ec : d.closed.items ≡ set c.closed.items i true) (ew : d.wiring ≡ c.wiring) (ei : d.index ≡ c.index) where
  closed_shows : Shows nodes s c → sp.closed ≡ true → IsNode (node_in nodes i) sp y → Shows nodes (with_spot s i sp) d
  closed_shows h shut node =
      let u = with_spot s i sp in
      let at : u.spots i ≡ sp = put_same s.spots i sp in
      let m = moves_spot (plain_graph nodes) s i sp h.running in
      record {
        running = h.running;
        well_made = h.well_made;
        wiring = subst (IsWiring nodes) (sym ew) h.wiring;
        count = ap length es ∙ length-set c.states.items i y ∙ h.count;
        states = λ j dd k. subst (λ (ls : List NodeState). IsNode (node_in nodes j) (u.spots j) (get_or ls j dd)) (sym es) (elim (cases_eq j i) [
          | inl e ↦ subst (λ n. IsNode (node_in nodes n) (u.spots n) (get_or (set c.states.items i y) n dd)) (sym e)
              (subst (IsNode (node_in nodes i) (u.spots i)) (sym (get_or-set_same c.states.items i y dd (let w = h.count in omega arith))) (subst (λ (z : Spot). IsNode (node_in nodes i) z y) (sym at) node))
          | inr n ↦ subst (IsNode (node_in nodes j) (u.spots j)) (sym (get_or-set_other c.states.items i j y dd n)) (subst (λ (z : Spot). IsNode (node_in nodes j) z (get_or c.states.items j dd)) (sym (m.others j n)) (h.states j dd k))
        ]);
        closed_count = ap length ec ∙ length-set c.closed.items i true ∙ h.closed_count;
        closed = λ j k. ap (λ (ls : List Bool). get_or ls j false) ec ∙ elim (cases_eq j i) [
          | inl e ↦ subst (λ n. get_or (set c.closed.items i true) n false ≡ (u.spots n).closed) (sym e)
              (get_or-set_same c.closed.items i true false (let w = h.closed_count in omega arith) ∙ sym shut ∙ ap (λ (z : Spot). z.closed) (sym at))
          | inr n ↦ get_or-set_other c.closed.items i j true false n ∙ h.closed j k ∙ ap (λ (z : Spot). z.closed) (sym (m.others j n))
        ];
        sized = subst (IsSized nodes) (sym ei) h.sized;
      }

  pub closes_done : AreNodes nodes s c → sp.closed ≡ true → sp.passed ≡ (s.spots i).passed → IsNode (node_in nodes i) sp y → Marks nodes (with_spot s i sp) (unread nodes i) (far_from nodes i) d
  closes_done h shut passed node =
      let u = with_spot s i sp in let g = plain_graph nodes in
      let m = moves_spot g s i sp h.shows.running in
      let kept : (u.spots i).passed ≡ (s.spots i).passed = ap (λ (z : Spot). z.passed) (put_same s.spots i sp) ∙ passed in
      record {
        shows = closed_shows h.shows shut node;
        by_port = subst (MarksPorts nodes u (unread nodes i)) (sym ei) (kept_ports nodes s u (unread nodes i) c.index (λ n k t. far_port g i s u m (place_in nodes n) (far nodes i n t) (passed_kept g i s u m kept (place_in nodes n))) h.by_port);
        by_node = subst (MarksNodes nodes u (far_from nodes i)) (sym ei) (kept_nodes nodes s u (far_from nodes i) c.index m.before m.after
            (λ j k t. let w = both (all_but i j) (unfed nodes i j) t in far_node g i s u m j (other i j w.0) (λ x b. none_reads nodes i j x w.1 b))
            (some_nodes nodes s (far_from nodes i) c.index h.by_node));
      }

-- ---- what an operator gives, of the node in the graph

pub gives_there : (nodes : List Node) (i : ℕ) (p : List Push) (x : Push) (es : List (ℕ × Plain)) → op_gives (plain_kind (node_in nodes i).kind) p x ≡ Ok es → op_gives (node_at (plain_graph nodes) i).kind p x ≡ Ok es
gives_there nodes i p x es e = ap (λ (n : PlainNode). op_gives n.kind p x) (plain_at nodes i) ∙ e

pub faults_there : (nodes : List Node) (i : ℕ) (p : List Push) (x : Push) (f : OpFault) → IsFault (op_gives (plain_kind (node_in nodes i).kind) p x) f → IsFault (op_gives (node_at (plain_graph nodes) i).kind p x) f
faults_there nodes i p x f h = subst (λ (n : PlainNode). IsFault (op_gives n.kind p x) f) (sym (plain_at nodes i)) h

pub ends_there : (nodes : List Node) (i : ℕ) (p : List Push) (es : List (ℕ × Plain)) → op_ends (plain_kind (node_in nodes i).kind) p ≡ Ok es → op_ends (node_at (plain_graph nodes) i).kind p ≡ Ok es
ends_there nodes i p es e = ap (λ (n : PlainNode). op_ends n.kind p) (plain_at nodes i) ∙ e

pub end_faults_there : (nodes : List Node) (i : ℕ) (p : List Push) (f : OpFault) → IsFault (op_ends (plain_kind (node_in nodes i).kind) p) f → IsFault (op_ends (node_at (plain_graph nodes) i).kind p) f
end_faults_there nodes i p f h = subst (λ (n : PlainNode). IsFault (op_ends n.kind p) f) (sym (plain_at nodes i)) h
