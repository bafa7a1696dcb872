-- The numbers of ports, and the places that they stand for.
use Rattle.std.proofs.Common.{◌≡◌, ℕ, zero, suc, ◌+◌, ◌-◌, ◌<◌, ◌≤◌, List, [], ◌∷◌, ◌++◌, length, get_or, drop, true, false, refl, ap, sym, ◌∙◌, subst, arith, inl, inr, add-one}
use Rattle.std.specs.Prelude.{nat_lt}
use Rattle.std.proofs.lemmas.Bool.{cases_Bool}
use Rattle.std.proofs.lemmas.Bool.Decides.{nat_tests}
use Rattle.std.proofs.lemmas.List.{length-append, append_assoc, append-nil, get_or_append_left, get_or-append_right, drop_more, drop_all}
use Rattle.std.proofs.lemmas.List.Sums.{sum_by-cons}
use Rattle.nf_graph.specs.declared.node.Node.{Node}
use Rattle.nf_graph.specs.Node.{port_in}
use Rattle.nf_graph.specs.WellMade.{plain_graph, node_in, IsWellMade}
use Rattle.nf_machine.specs.Event as machine
use Rattle.nf_wiring.specs.declared.place.Place.{Place}
use Rattle.nf_wiring.specs.Wiring.{IsWiring, count_of}
use Rattle.nf_wiring.specs.declared.wiring.Wiring.{Wiring}
use Rattle.nf_wiring.specs.Places.{port_count, place_in, port_there, port_numbered, HasNumber, StandsWithin, plain_place, row, places_from}

-- the place of a number among these nodes, the first of which stands at place i
abbrev pub place_after : ℕ → List Node → ℕ → machine.Place
place_after i nodes n = machine.place_from i (plain_graph nodes) n

counts : (node : Node) (nodes : List Node) → port_count (node ∷ nodes) ≡ length node.ports + port_count nodes
counts node nodes = sum_by-cons (λ (n : Node). length n.ports) node nodes

below : (a b : ℕ) → nat_lt a b ≡ true → a < b
below a b h = grind (arith, nat_tests)

not_below : (a b : ℕ) → nat_lt a b ≡ false → b ≤ a
not_below a b h = grind (arith, nat_tests)

is_below : (a b : ℕ) → a < b → nat_lt a b ≡ true
is_below a b h = grind (arith, nat_tests)

isnt_below : (a b : ℕ) → b ≤ a → nat_lt a b ≡ false
isnt_below a b h = grind (arith, nat_tests)

-- ---- each port has a number

pub record Reached (i : ℕ) (nodes : List Node) (j k : ℕ) : Type 0 where
  pub number : ℕ
  pub within : number < port_count nodes
  pub is : place_after i nodes number ≡ record { node = i + j; port = k }

reached_from : (i : ℕ) (nodes : List Node) (j k : ℕ) → j < length nodes → k < length (node_in nodes j).ports → Reached i nodes j k
reached_from i [] j k l p = absurd (omega arith)
reached_from i (node ∷ nodes) zero k l p = record {
  number = k;
  within = (let c = counts node nodes in omega arith);
  is = (let t = is_below k (length node.ports) p in let e : i ≡ i + 0 = omega arith in rw t (ap (λ m. record { node = m; port = k }) e));
}
reached_from i (node ∷ nodes) (suc j) k l p =
    let r = reached_from (suc i) nodes j k (omega arith) p in
    let n = length node.ports + r.number in
    record {
      number = n;
      within = (let c = counts node nodes in let w = r.within in omega arith);
      is = (let t = isnt_below n (length node.ports) (omega arith) in let e : n - length node.ports ≡ r.number = omega arith in let f : suc i + j ≡ i + suc j = omega arith in
          rw t (ap (place_after (suc i) nodes) e ∙ r.is ∙ ap (λ m. record { node = m; port = k }) f));
    }

pub reached : (nodes : List Node) (i k : ℕ) → i < length nodes → k < length (node_in nodes i).ports → HasNumber nodes i k
reached nodes i k l p =
    let r = reached_from 0 nodes i k l p in
    let e : 0 + i ≡ i = omega arith in
    record { number = r.number; below = r.within; is = r.is ∙ ap (λ m. record { node = m; port = k }) e }

-- ---- each number is that of a port

pub record Within (i : ℕ) (nodes : List Node) (p : machine.Place) : Type 0 where
  pub at : ℕ
  pub node : p.node ≡ i + at
  pub low : at < length nodes
  pub port : p.port < length (node_in nodes at).ports

within_from : (i : ℕ) (nodes : List Node) (n : ℕ) → n < port_count nodes → Within i nodes (place_after i nodes n)
within_from i [] n l = absurd (omega arith)
within_from i (node ∷ nodes) n l = elim (cases_Bool (nat_lt n (length node.ports))) [
  | inl t ↦ rw t (record { at = 0; node = omega arith; low = omega arith; port = below n (length node.ports) t })
  | inr f ↦ rw f (let c = counts node nodes in let b = not_below n (length node.ports) f in
      let w = within_from (suc i) nodes (n - length node.ports) (omega arith) in
      let e = w.node in let m = w.low in
      record { at = suc w.at; node = omega arith; low = omega arith; port = w.port })
]

-- no two numbers are of one port
apart_from : (i : ℕ) (nodes : List Node) (m n : ℕ) → m < port_count nodes → n < port_count nodes → place_after i nodes m ≡ place_after i nodes n → m ≡ n
apart_from i [] m n l k e = absurd (omega arith)
apart_from i (node ∷ nodes) m n l k e = elim (cases_Bool (nat_lt m (length node.ports))) [
  | inl t ↦ elim (cases_Bool (nat_lt n (length node.ports))) [
    | inl u ↦ (let f = rw (t, u) at e in ap (λ (p : machine.Place). p.port) f)
    | inr v ↦ absurd (let f = rw (t, v) at e in let c = counts node nodes in let b = not_below n (length node.ports) v in
        let w = within_from (suc i) nodes (n - length node.ports) (omega arith) in let x = w.node in let y = ap (λ (p : machine.Place). p.node) f in omega arith)
  ]
  | inr g ↦ elim (cases_Bool (nat_lt n (length node.ports))) [
    | inl u ↦ absurd (let f = rw (g, u) at e in let c = counts node nodes in let b = not_below m (length node.ports) g in
        let w = within_from (suc i) nodes (m - length node.ports) (omega arith) in let x = w.node in let y = ap (λ (p : machine.Place). p.node) f in omega arith)
    | inr v ↦ (let f = rw (g, v) at e in let c = counts node nodes in let b = not_below m (length node.ports) g in let d = not_below n (length node.ports) v in
        let q = apart_from (suc i) nodes (m - length node.ports) (n - length node.ports) (omega arith) (omega arith) f in omega arith)
  ]
]

pub apart : (nodes : List Node) (m n : ℕ) → m < port_count nodes → n < port_count nodes → place_in nodes m ≡ place_in nodes n → m ≡ n
apart nodes m n l k e = apart_from 0 nodes m n l k e

pub stands : (nodes : List Node) (n : ℕ) → n < port_count nodes → StandsWithin nodes n
stands nodes n l =
    let w = within_from 0 nodes n l in
    let e : w.at ≡ (place_in nodes n).node = (let a = w.node in omega arith) in
    record {
      node = subst (λ m. m < length nodes) e w.low;
      port = subst (λ m. (place_in nodes n).port < length (node_in nodes m).ports) e w.port;
    }

-- ---- in memory

pub row_length : (i k count : ℕ) → length (row i k count) ≡ count
row_length i k zero = refl
row_length i k (suc count) = ap suc (row_length i (suc k) count)

row_at : (i k count n : ℕ) (d : Place) → n < count → get_or (row i k count) n d ≡ record { node = i; port = k + n }
row_at i k zero n d l = absurd (omega arith)
row_at i k (suc count) zero d l = let e : k ≡ k + 0 = omega arith in ap (λ m. record { node = i; port = m }) e
row_at i k (suc count) (suc n) d l = let e : suc k + n ≡ k + suc n = omega arith in row_at i (suc k) count n d (omega arith) ∙ ap (λ m. record { node = i; port = m }) e

-- one more at the end
row_more : (i k count : ℕ) → row i k (suc count) ≡ row i k count ++ record { node = i; port = k + count } ∷ []
row_more i k zero = let e : k ≡ k + 0 = omega arith in ap (λ m. record { node = i; port = m } ∷ []) e
row_more i k (suc count) = let e : suc k + count ≡ k + suc count = omega arith in ap (λ (r : List Place). record { node = i; port = k } ∷ r) (row_more i (suc k) count ∙ ap (λ m. row i (suc k) count ++ record { node = i; port = m } ∷ []) e)

pub places_length : (i : ℕ) (nodes : List Node) → length (places_from i nodes) ≡ port_count nodes
places_length i [] = refl
places_length i (node ∷ nodes) = length-append (row i 0 (length node.ports)) (places_from (suc i) nodes) ∙ (let a = row_length i 0 (length node.ports) in let b = places_length (suc i) nodes in let c = counts node nodes in omega arith)

places_at : (i : ℕ) (nodes : List Node) (n : ℕ) (d : Place) → n < port_count nodes → plain_place (get_or (places_from i nodes) n d) ≡ place_after i nodes n
places_at i [] n d l = absurd (omega arith)
places_at i (node ∷ nodes) n d l = elim (cases_Bool (nat_lt n (length node.ports))) [
  | inl t ↦ rw t (let b = below n (length node.ports) t in let a = row_length i 0 (length node.ports) in let z : 0 + n ≡ n = omega arith in
      ap plain_place (get_or_append_left (row i 0 (length node.ports)) (places_from (suc i) nodes) d n (omega arith) ∙ row_at i 0 (length node.ports) n d b ∙ ap (λ m. record { node = i; port = m }) z))
  | inr f ↦ rw f (let c = counts node nodes in let b = not_below n (length node.ports) f in
      ap plain_place (get_or-append_right (row i 0 (length node.ports)) (places_from (suc i) nodes) (length node.ports) n d (row_length i 0 (length node.ports)) b)
      ∙ places_at (suc i) nodes (n - length node.ports) d (omega arith))
]

-- what the code reads at a number
pub read_place : (nodes : List Node) (w : Wiring) (n : ℕ) (x : Place) → IsWiring nodes w → n < count_of w → x ≡ get_or w.places.items n x → plain_place x ≡ place_in nodes n
read_place nodes w n x h l e =
    let c : count_of w ≡ port_count nodes = ap length h.places ∙ places_length 0 nodes in
    ap plain_place (e ∙ ap (λ (r : List Place). get_or r n x) h.places) ∙ places_at 0 nodes n x (omega arith)

pub place_there : (nodes : List Node) (n : ℕ) (d : Place) → n < port_count nodes → plain_place (get_or (places_from 0 nodes) n d) ≡ place_in nodes n
place_there nodes n d l = places_at 0 nodes n d l

-- ---- loops

-- the ports of a node, one by one
pub row_grows : (before after : List Place) (i n : ℕ) → after ≡ before ++ row i 0 n → after ++ record { node = i; port = n } ∷ [] ≡ before ++ row i 0 (n + 1)
row_grows before after i n h =
    let e : 0 + n ≡ n = omega arith in
    ap (λ (r : List Place). r ++ record { node = i; port = n } ∷ []) h ∙ append_assoc before (row i 0 n) (record { node = i; port = n } ∷ [])
    ∙ ap (λ (r : List Place). before ++ r) (ap (λ m. row i 0 n ++ record { node = i; port = m } ∷ []) (sym e) ∙ sym (row_more i 0 n) ∙ ap (row i 0) (sym (add-one n)))

-- the nodes, one by one
pub places_grow : (nodes : List Node) (i : ℕ) (before after all : List Place) (node : Node) → i < length nodes → node ≡ get_or nodes i node → before ++ places_from i (drop i nodes) ≡ all
    → after ≡ before ++ row i 0 (length node.ports) → after ++ places_from (i + 1) (drop (i + 1) nodes) ≡ all
places_grow nodes i before after all node l e h a =
    let d : drop i nodes ≡ node ∷ drop (i + 1) nodes = drop_more nodes i node l ∙ ap (λ (m : Node). m ∷ drop (i + 1) nodes) (sym e) in
    let s : places_from i (drop i nodes) ≡ row i 0 (length node.ports) ++ places_from (i + 1) (drop (i + 1) nodes) = ap (places_from i) d ∙ ap (λ m. row i 0 (length node.ports) ++ places_from m (drop (i + 1) nodes)) (sym (add-one i)) in
    ap (λ (r : List Place). r ++ places_from (i + 1) (drop (i + 1) nodes)) a ∙ append_assoc before (row i 0 (length node.ports)) (places_from (i + 1) (drop (i + 1) nodes)) ∙ ap (λ (r : List Place). before ++ r) (sym s) ∙ h

pub places_all : (nodes : List Node) (i j : ℕ) (before all : List Place) → length nodes ≤ i → before ++ places_from j (drop i nodes) ≡ all → before ≡ all
places_all nodes i j before all l h = sym (append-nil before) ∙ ap (λ (r : List Place). before ++ r) (ap (places_from j) (sym (drop_all i nodes l))) ∙ h

pub counted : (nodes : List Node) (w : Wiring) → IsWiring nodes w → count_of w ≡ port_count nodes
counted nodes w h = ap length h.places ∙ places_length 0 nodes

module _ (nodes : List Node) (places : List Place) (e : places ≡ places_from 0 nodes) (n : ℕ) (d : Place) (l : n < length places) where
  pub in_count : n < port_count nodes
  in_count = let c = ap length e in let f = places_length 0 nodes in omega arith

  pub is_there : plain_place (get_or places n d) ≡ place_in nodes n
  is_there = ap (λ (r : List Place). plain_place (get_or r n d)) e ∙ place_there nodes n d in_count

  pub node_there : (get_or places n d).node < length nodes
  node_there = subst (λ (p : machine.Place). p.node < length nodes) (sym is_there) (stands nodes n in_count).node

  pub port_there_below : (get_or places n d).port < length (node_in nodes (get_or places n d).node).ports
  port_there_below = subst (λ (p : machine.Place). p.port < length (node_in nodes p.node).ports) (sym is_there) (stands nodes n in_count).port

  -- the node that it reads
  pub reads_there : (from : ℕ) → from ≡ (port_in (node_in nodes (get_or places n d).node).ports (get_or places n d).port).from → from ≡ (port_numbered nodes n).from
  reads_there from h = h ∙ ap (λ (p : machine.Place). (port_there nodes p).from) is_there

  pub reads_below : IsWellMade nodes → (from : ℕ) → from ≡ (port_numbered nodes n).from → from < length nodes
  reads_below made from h = let s = stands nodes n in_count in let r = (made.reads (place_in nodes n).node (place_in nodes n).port s.port).earlier in let b = s.node in omega arith
