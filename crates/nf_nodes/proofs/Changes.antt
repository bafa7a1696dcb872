-- What an event changes of the moves that are possible.
use Rattle.std.proofs.Common.{◌≡◌, ℕ, zero, suc, ◌+◌, ◌<◌, List, [], ◌∷◌, ◌++◌, length, Bool, true, false, ◌&&◌, refl, ap, sym, ◌∙◌, subst, arith, inl, inr}
use Rattle.std.specs.Prelude.{◌==◌, ◌↔◌, nat_lt, not, None, count_by}
use Rattle.std.proofs.lemmas.Bool.{cases_eq, cases_Bool, true≢false}
use Rattle.std.proofs.lemmas.Bool.Decides.{nat_tests}
use Rattle.nf_graph.specs.declared.port.Port.{Port}
use Rattle.nf_graph.specs.Node.{PlainNode, port_at, node_at}
use Rattle.nf_graph.specs.Meaning.{put}
use Rattle.nf_graph.proofs.Lists.{put_same, put_other}
use Rattle.nf_machine.specs.Event.{Place}
use Rattle.nf_machine.specs.State.{Ticket, Spot, State, feed}
use Rattle.nf_machine.specs.Legal.{MayTake, MayClose, CloseIsLegal}
use Rattle.nf_nodes.specs.Marks.{fed, passed_there, producer_of, can_pass, is_ended, CanTake}

-- the port at a place has as much before it as it had
pub record SamePort (g : List PlainNode) (s u : State) (p : Place) : Type 0 where
  pub passed : passed_there u p ≡ passed_there s p
  pub fed : fed g u p ≡ fed g s p
  pub closed : (u.spots (producer_of g p)).closed ≡ (s.spots (producer_of g p)).closed

pub same_pass : (g : List PlainNode) (s u : State) (p : Place) → SamePort g s u p → can_pass g u p ≡ can_pass g s p
same_pass g s u p h = ap (λ n. nat_lt n (fed g u p)) h.passed ∙ ap (nat_lt (passed_there s p)) h.fed

pub same_end : (g : List PlainNode) (s u : State) (p : Place) → SamePort g s u p → is_ended g u p ≡ is_ended g s p
same_end g s u p h = ap (λ b. b && (passed_there u p == fed g u p)) h.closed ∙ ap (λ b. (s.spots (producer_of g p)).closed && b) (ap (λ n. n == fed g u p) h.passed ∙ ap (λ n. passed_there s p == n) h.fed)

-- node j stays as it is, and what its closed producers emitted
pub record SameNode (g : List PlainNode) (s u : State) (j : ℕ) : Type 0 where
  pub spot : u.spots j ≡ s.spots j
  pub flights : count_by (λ (k : Ticket). k.node == j) u.tickets ≡ count_by (λ (k : Ticket). k.node == j) s.tickets
  pub closed : (k : ℕ) → k < length (node_at g j).ports → (u.spots (port_at (node_at g j) k).from).closed ≡ (s.spots (port_at (node_at g j) k).from).closed
  pub fed : (k : ℕ) → k < length (node_at g j).ports → (s.spots (port_at (node_at g j) k).from).closed ≡ true → feed u.spots (port_at (node_at g j) k) ≡ feed s.spots (port_at (node_at g j) k)

pub same_back : (g : List PlainNode) (s u : State) (j : ℕ) → SameNode g s u j → SameNode g u s j
same_back g s u j h = record {
  spot = sym h.spot;
  flights = sym h.flights;
  closed = λ k l. sym (h.closed k l);
  fed = λ k l c. sym (h.fed k l (sym (h.closed k l) ∙ c));
}

pub take_kept : (g : List PlainNode) (s u : State) (j : ℕ) → u.spots j ≡ s.spots j → CanTake g s j → CanTake g u j
take_kept g s u j e h = record { port = h.port; place = h.place; may = subst (λ (sp : Spot). MayTake (node_at g j) (node_at g j).kind sp h.port h.place) (sym e) h.may }

pub close_kept : (g : List PlainNode) (s u : State) (j : ℕ) → u.stop ≡ None → SameNode g s u j → CloseIsLegal g s j → CloseIsLegal g u j
close_kept g s u j run h c = record {
  running = run;
  still = ap (λ (sp : Spot). sp.closed) h.spot ∙ c.still;
  producers = λ k l. h.closed k l ∙ c.producers k l;
  passed = λ k l. ap (λ (sp : Spot). sp.passed k) h.spot ∙ c.passed k l ∙ ap length (sym (h.fed k l (c.producers k l)));
  flight = h.flights ∙ c.flight;
  done = subst (λ (sp : Spot). MayClose (node_at g j) (node_at g j).kind sp) (sym h.spot) c.done;
}

pub same_take : (g : List PlainNode) (s u : State) (j : ℕ) → SameNode g s u j → CanTake g s j ↔ CanTake g u j
same_take g s u j h = (take_kept g s u j h.spot, take_kept g u s j (sym h.spot))

pub same_close : (g : List PlainNode) (s u : State) (j : ℕ) → s.stop ≡ None → u.stop ≡ None → SameNode g s u j → CloseIsLegal g s j ↔ CloseIsLegal g u j
same_close g s u j rs ru h = (close_kept g s u j ru h, close_kept g u s j rs (same_back g s u j h))

-- ---- one node moves

-- only node i moves, and takes in flight come and go there alone
pub record MovesAt (g : List PlainNode) (i : ℕ) (s u : State) : Type 0 where
  pub before : s.stop ≡ None
  pub after : u.stop ≡ None
  pub others : (j : ℕ) → (j ≡ i → ⊥) → u.spots j ≡ s.spots j
  pub flights : (j : ℕ) → (j ≡ i → ⊥) → count_by (λ (k : Ticket). k.node == j) u.tickets ≡ count_by (λ (k : Ticket). k.node == j) s.tickets

-- it emits nothing, and stays closed or not
pub record EmitsNothing (i : ℕ) (s u : State) : Type 0 where
  pub closed : (u.spots i).closed ≡ (s.spots i).closed
  pub emitted : (u.spots i).emitted ≡ (s.spots i).emitted

-- it isn't closed
pub record StaysOpen (i : ℕ) (s u : State) : Type 0 where
  pub before : (s.spots i).closed ≡ false
  pub after : (u.spots i).closed ≡ false

module _ (g : List PlainNode) (i : ℕ) (s u : State) (m : MovesAt g i s u) where
  closed_silent : EmitsNothing i s u → (j : ℕ) → (u.spots j).closed ≡ (s.spots j).closed
  closed_silent e j = elim (cases_eq j i) [
    | inl h ↦ subst (λ n. (u.spots n).closed ≡ (s.spots n).closed) (sym h) e.closed
    | inr n ↦ ap (λ (sp : Spot). sp.closed) (m.others j n)
  ]

  emitted_silent : EmitsNothing i s u → (j : ℕ) → (u.spots j).emitted ≡ (s.spots j).emitted
  emitted_silent e j = elim (cases_eq j i) [
    | inl h ↦ subst (λ n. (u.spots n).emitted ≡ (s.spots n).emitted) (sym h) e.emitted
    | inr n ↦ ap (λ (sp : Spot). sp.emitted) (m.others j n)
  ]

  -- ports and nodes where nothing is emitted
  pub silent_port : EmitsNothing i s u → (p : Place) → passed_there u p ≡ passed_there s p → SamePort g s u p
  silent_port e p h = record {
    passed = h;
    fed = ap (λ (f : ℕ → List _). length (f (port_at (node_at g p.node) p.port).out)) (emitted_silent e (producer_of g p));
    closed = closed_silent e (producer_of g p);
  }

  pub silent_node : EmitsNothing i s u → (j : ℕ) → (j ≡ i → ⊥) → SameNode g s u j
  silent_node e j n = record {
    spot = m.others j n;
    flights = m.flights j n;
    closed = λ k l. closed_silent e (port_at (node_at g j) k).from;
    fed = λ k l c. ap (λ (f : ℕ → List _). f (port_at (node_at g j) k).out) (emitted_silent e (port_at (node_at g j) k).from);
  }

  -- ports that don't read node i
  pub far_port : (p : Place) → (producer_of g p ≡ i → ⊥) → passed_there u p ≡ passed_there s p → SamePort g s u p
  far_port p n h = record {
    passed = h;
    fed = ap (λ (sp : Spot). length (sp.emitted (port_at (node_at g p.node) p.port).out)) (m.others (producer_of g p) n);
    closed = ap (λ (sp : Spot). sp.closed) (m.others (producer_of g p) n);
  }

  -- nodes other than one that isn't closed
  pub open_node : StaysOpen i s u → (j : ℕ) → (j ≡ i → ⊥) → SameNode g s u j
  open_node o j n = record {
    spot = m.others j n;
    flights = m.flights j n;
    closed = λ k l. by (port_at (node_at g j) k).from;
    fed = λ k l c. fed_by (port_at (node_at g j) k) c;
  }
    where
      by : (f : ℕ) → (u.spots f).closed ≡ (s.spots f).closed
      by f = elim (cases_eq f i) [
        | inl h ↦ subst (λ x. (u.spots x).closed ≡ (s.spots x).closed) (sym h) (o.after ∙ sym o.before)
        | inr ne ↦ ap (λ (sp : Spot). sp.closed) (m.others f ne)
      ]

      fed_by : (p : Port) → (s.spots p.from).closed ≡ true → feed u.spots p ≡ feed s.spots p
      fed_by p c = elim (cases_eq p.from i) [
        | inl h ↦ absurd (true≢false (sym c ∙ subst (λ x. (s.spots x).closed ≡ false) (sym h) o.before))
        | inr ne ↦ ap (λ (sp : Spot). sp.emitted p.out) (m.others p.from ne)
      ]

  -- nodes that don't read node i
  pub far_node : (j : ℕ) → (j ≡ i → ⊥) → ((k : ℕ) → k < length (node_at g j).ports → (port_at (node_at g j) k).from ≡ i → ⊥) → SameNode g s u j
  far_node j n reads = record {
    spot = m.others j n;
    flights = m.flights j n;
    closed = λ k l. ap (λ (sp : Spot). sp.closed) (m.others (port_at (node_at g j) k).from (reads k l));
    fed = λ k l c. ap (λ (sp : Spot). sp.emitted (port_at (node_at g j) k).out) (m.others (port_at (node_at g j) k).from (reads k l));
  }

  -- what node i passed stays
  pub passed_kept : (u.spots i).passed ≡ (s.spots i).passed → (p : Place) → passed_there u p ≡ passed_there s p
  passed_kept h p = elim (cases_eq p.node i) [
    | inl e ↦ subst (λ n. (u.spots n).passed p.port ≡ (s.spots n).passed p.port) (sym e) (ap (λ (f : ℕ → ℕ). f p.port) h)
    | inr n ↦ ap (λ (sp : Spot). sp.passed p.port) (m.others p.node n)
  ]
