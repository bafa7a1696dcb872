-- The index of moves, mark by mark.
use Rattle.std.proofs.Common.{◌≡◌, ℕ, zero, suc, ◌+◌, ◌<◌, ◌≤◌, List, [], ◌∷◌, ◌++◌, length, Bool, true, false, ◌&&◌, refl, ap, sym, ◌∙◌, subst, arith, inl, inr, ◌⊎◌}
use Rattle.std.specs.Prelude.{◌==◌, ◌↔◌, nat_lt, not, None, if◌then◌else◌, count_by, slice_index_or}
use Rattle.std.proofs.lemmas.Bool.{cases_eq, cases_Bool, true≢false}
use Rattle.std.proofs.lemmas.Bool.Decides.{nat_tests}
use Rattle.nf_graph.specs.declared.node.Node.{Node}
use Rattle.nf_graph.specs.Node.{PlainNode, port_at, node_at}
use Rattle.nf_graph.specs.WellMade.{plain_node, plain_graph, node_in}
use Rattle.nf_machine.specs.Event.{Place}
use Rattle.nf_machine.specs.State.{Ticket, Spot, State, feed}
use Rattle.nf_machine.specs.Legal.{MayTake, MayClose, CloseIsLegal}
use Rattle.nf_spot.specs.Numbers.{has, limit_of}
use Rattle.nf_spot.specs.declared.numbers.NumberSet.{NumberSet}
use Rattle.nf_wiring.specs.Places.{port_count, place_in, HasNumber}
use Rattle.nf_nodes.specs.Marks.{fed, passed_there, producer_of, can_pass, is_ended, CanTake, all, with_one}
use Rattle.nf_nodes.specs.Index.{is_live, IsSized, MarksPorts, MarksNodes}
use Rattle.nf_nodes.specs.declared.index.Index.{Index}
use Rattle.nf_nodes.proofs.Changes.{SamePort, SameNode, same_pass, same_end, same_take, same_close}

pub plain_at : (nodes : List Node) (i : ℕ) → node_at (plain_graph nodes) i ≡ plain_node (node_in nodes i)
plain_at [] i = refl
plain_at (n ∷ nodes) zero = refl
plain_at (n ∷ nodes) (suc i) = plain_at nodes i

both_ways : {P Q R : Type 0} → P ↔ Q → Q ↔ R → P ↔ R
both_ways f h = (λ p. h.0 (f.0 p), λ r. f.1 (h.1 r))

-- ---- fewer marks, and marks that an event keeps

pub fewer_ports : (nodes : List Node) (s : State) (p q : ℕ → Bool) (x : Index) → ((n : ℕ) → n < port_count nodes → q n ≡ true → p n ≡ true) → MarksPorts nodes s p x → MarksPorts nodes s q x
fewer_ports nodes s p q x w h = record { passes = λ n l t. h.passes n l (w n l t); lives = λ n d l t. h.lives n d l (w n l t) }

pub fewer_nodes : (nodes : List Node) (s : State) (p q : ℕ → Bool) (x : Index) → ((i : ℕ) → i < length nodes → q i ≡ true → p i ≡ true) → MarksNodes nodes s p x → MarksNodes nodes s q x
fewer_nodes nodes s p q x w h = record { takes = λ i l t. h.takes i l (w i l t); closes = λ i l t. h.closes i l (w i l t) }

pub kept_ports : (nodes : List Node) (s u : State) (p : ℕ → Bool) (x : Index) → ((n : ℕ) → n < port_count nodes → p n ≡ true → SamePort (plain_graph nodes) s u (place_in nodes n)) → MarksPorts nodes s all x → MarksPorts nodes u p x
kept_ports nodes s u p x same h = record {
  passes = λ n l t. h.passes n l refl ∙ sym (same_pass (plain_graph nodes) s u (place_in nodes n) (same n l t));
  lives = λ n d l t. h.lives n d l refl ∙ ap not (sym (same_end (plain_graph nodes) s u (place_in nodes n) (same n l t)));
}

pub kept_nodes : (nodes : List Node) (s u : State) (q : ℕ → Bool) (x : Index) → s.stop ≡ None → u.stop ≡ None → ((i : ℕ) → i < length nodes → q i ≡ true → SameNode (plain_graph nodes) s u i) → MarksNodes nodes s q x → MarksNodes nodes u q x
kept_nodes nodes s u q x rs ru same h = record {
  takes = λ i l t. both_ways (h.takes i l t) (same_take (plain_graph nodes) s u i (same i l t));
  closes = λ i l t. both_ways (h.closes i l t) (same_close (plain_graph nodes) s u i rs ru (same i l t));
}

-- where all nodes were marked, some are
pub some_nodes : (nodes : List Node) (s : State) (q : ℕ → Bool) (x : Index) → MarksNodes nodes s all x → MarksNodes nodes s q x
some_nodes nodes s q x h = fewer_nodes nodes s all q x (λ i l t. refl) h

-- ---- parts of the index

pub ports_apart : (nodes : List Node) (s : State) (p : ℕ → Bool) (x y : Index) → y.passable ≡ x.passable → y.live ≡ x.live → MarksPorts nodes s p x → MarksPorts nodes s p y
ports_apart nodes s p x y e f h = record {
  passes = λ n l t. ap (λ z. has z n) e ∙ h.passes n l t;
  lives = λ n d l t. ap (λ (z : _). has (slice_index_or z.items (place_in nodes n).node d) (place_in nodes n).port) f ∙ h.lives n d l t;
}

pub nodes_apart : (nodes : List Node) (s : State) (q : ℕ → Bool) (x y : Index) → y.takeable ≡ x.takeable → y.closable ≡ x.closable → MarksNodes nodes s q x → MarksNodes nodes s q y
nodes_apart nodes s q x y e f h = record {
  takes = λ i l t. subst (λ z. (has z i ≡ true) ↔ CanTake (plain_graph nodes) s i) (sym e) (h.takes i l t);
  closes = λ i l t. subst (λ z. (has z i ≡ true) ↔ CloseIsLegal (plain_graph nodes) s i) (sym f) (h.closes i l t);
}

-- ---- one more mark

with_other : (n m : ℕ) (p : ℕ → Bool) → (m ≡ n → ⊥) → with_one n p m ≡ p m
with_other n m p ne = let t : (m == n) ≡ false = grind (arith, nat_tests) in rw t refl

eq_self : (n : ℕ) → (n == n) ≡ true
eq_self n = grind (arith, nat_tests)

same_place : (a b : Place) → ((a.node == b.node) && (a.port == b.port)) ≡ true → a ≡ b
same_place a b h =
    let both = parts (a.node == b.node) (a.port == b.port) h in
    let e : a.node ≡ b.node = (let t = both.0 in grind (arith, nat_tests)) in
    let f : a.port ≡ b.port = (let t = both.1 in grind (arith, nat_tests)) in
    λ i. record { node = e i; port = f i }
  where
    parts : (x y : Bool) → (x && y) ≡ true → (x ≡ true) × (y ≡ true)
    parts true y e = (refl, e)
    parts false y e = absurd (true≢false (sym e))

module _ (nodes : List Node) (s : State) (p : ℕ → Bool) (x y : Index) (number : ℕ) (place : Place) (a b : Bool) where
  pub one_port : MarksPorts nodes s p x → place ≡ place_in nodes number → a ≡ can_pass (plain_graph nodes) s place → b ≡ not (is_ended (plain_graph nodes) s place)
      → ((n : ℕ) → has y.passable n ≡ (if n == number then a else has x.passable n))
      → ((q : Place) (d : NumberSet) → is_live y d q ≡ (if (q.node == place.node) && (q.port == place.port) then b else is_live x d q))
      → MarksPorts nodes s (with_one number p) y
  one_port h e ea eb passes lives = record {
    passes = λ n l t. elim (cases_eq n number) [
      | inl m ↦ (let v : (n == number) ≡ true = grind (arith, nat_tests) in (let w = (rw v at (passes n)) in w) ∙ ea ∙ ap (can_pass (plain_graph nodes) s) (e ∙ ap (place_in nodes) (sym m)))
      | inr ne ↦ (let v : (n == number) ≡ false = grind (arith, nat_tests) in (let w = (rw v at (passes n)) in w) ∙ h.passes n l (sym (with_other number n p ne) ∙ t))
    ];
    lives = λ n d l t. by n d l t (((place_in nodes n).node == place.node) && ((place_in nodes n).port == place.port)) refl;
  }
    where
      by : (n : ℕ) (d : NumberSet) → n < port_count nodes → with_one number p n ≡ true → (c : Bool) → (((place_in nodes n).node == place.node) && ((place_in nodes n).port == place.port)) ≡ c
          → is_live y d (place_in nodes n) ≡ not (is_ended (plain_graph nodes) s (place_in nodes n))
      by n d l t true v = (let w = rw v at (lives (place_in nodes n) d) in w) ∙ eb ∙ ap (λ q. not (is_ended (plain_graph nodes) s q)) (sym (same_place (place_in nodes n) place v))
      by n d l t false v = (let w = rw v at (lives (place_in nodes n) d) in w) ∙ elim (cases_eq n number) [
        | inl m ↦ absurd (true≢false (sym (own n m) ∙ v))
        | inr ne ↦ h.lives n d l (sym (with_other number n p ne) ∙ t)
      ]
        where
          own : (n : ℕ) → n ≡ number → (((place_in nodes n).node == place.node) && ((place_in nodes n).port == place.port)) ≡ true
          own n m = subst (λ q. ((q.node == place.node) && (q.port == place.port)) ≡ true) (e ∙ ap (place_in nodes) (sym m)) (rw (eq_self place.node, eq_self place.port) refl)

module _ (nodes : List Node) (s : State) (q : ℕ → Bool) (x y : Index) (node : ℕ) (a b : Bool) where
  pub one_node : MarksNodes nodes s q x → (a ≡ true) ↔ CanTake (plain_graph nodes) s node → (b ≡ true) ↔ CloseIsLegal (plain_graph nodes) s node
      → ((i : ℕ) → has y.takeable i ≡ (if i == node then a else has x.takeable i)) → ((i : ℕ) → has y.closable i ≡ (if i == node then b else has x.closable i)) → MarksNodes nodes s (with_one node q) y
  one_node h ha hb takes closes = record {
    takes = λ i l t. elim (cases_eq i node) [
      | inl e ↦ (let v : (i == node) ≡ true = grind (arith, nat_tests) in let w = rw v at (takes i) in
          subst (λ z. (z ≡ true) ↔ CanTake (plain_graph nodes) s i) (sym w) (subst (λ j. (a ≡ true) ↔ CanTake (plain_graph nodes) s j) (sym e) ha))
      | inr ne ↦ (let v : (i == node) ≡ false = grind (arith, nat_tests) in let w = rw v at (takes i) in
          subst (λ z. (z ≡ true) ↔ CanTake (plain_graph nodes) s i) (sym w) (h.takes i l (sym (with_other node i q ne) ∙ t)))
    ];
    closes = λ i l t. elim (cases_eq i node) [
      | inl e ↦ (let v : (i == node) ≡ true = grind (arith, nat_tests) in let w = rw v at (closes i) in
          subst (λ z. (z ≡ true) ↔ CloseIsLegal (plain_graph nodes) s i) (sym w) (subst (λ j. (b ≡ true) ↔ CloseIsLegal (plain_graph nodes) s j) (sym e) hb))
      | inr ne ↦ (let v : (i == node) ≡ false = grind (arith, nat_tests) in let w = rw v at (closes i) in
          subst (λ z. (z ≡ true) ↔ CloseIsLegal (plain_graph nodes) s i) (sym w) (h.closes i l (sym (with_other node i q ne) ∙ t)))
    ];
  }
