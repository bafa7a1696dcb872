-- What a node can take, and what a take leaves.
use Rattle.std.proofs.Common.{◌≡◌, ℕ, suc, ◌+◌, ◌<◌, List, [], ◌∷◌, ◌++◌, map, length, take, drop, get_or, Bool, true, false, refl, ap, sym, ◌∙◌, subst, arith, inl, inr}
use Rattle.std.specs.Prelude.{◌==◌, ◌↔◌, nat_lt, ◌&&◌, Option, Some, None, Result, Ok, Err, count_by, MatchBool, IfOk, OnOk}
use Rattle.std.proofs.lemmas.Bool.{cases_eq, cases_lt, cases_Bool, true≢false}
use Rattle.std.proofs.lemmas.Bool.Decides.{nat_tests}
use Rattle.nf_value.specs.Plain.{Plain, null}
use Rattle.nf_bag.specs.declared.rows.Row.{Row}
use Rattle.nf_bag.specs.declared.options.OpOpts.{OpOpts}
use Rattle.nf_opstream.proofs.Tally.{one_if, count_is_passes, tally-map}
use Rattle.nf_graph.specs.declared.port.Port.{Port}
use Rattle.nf_graph.specs.declared.node.Node.{Node}
use Rattle.nf_graph.specs.declared.node.NodeKind.TheVariants as k
use Rattle.nf_graph.specs.Node.{process, port_in, AllValues, IsQueue}
use Rattle.nf_graph.specs.WellMade.{plain_node, FitsKind}
use Rattle.nf_graph.specs.Meaning.{same_inputs}
use Rattle.nf_machine.specs.State.{Take, Spot}
use Rattle.nf_machine.specs.Step.{heads, takes, n_of}
use Rattle.nf_machine.specs.Legal.{Holds, Lacks}
use Rattle.nf_spot.specs.Numbers.{has, limit_of}
use Rattle.nf_spot.specs.Heads.{no_inlet, head_of, HasHeads, IsReady, inputs_at}
use Rattle.nf_spot.specs.Spot.{IsKept, IsNode, HasTake, HasTakeRoom, HasCountRoom, IsTaken, MayTakeAt, MayNotTake, IsSpent, inputs_taken, leaves_on, queue_leaves, takes_on, waiting_at}
use Rattle.nf_spot.specs.declared.kept.Kept.{Kept}
use Rattle.nf_spot.specs.declared.node_state.NodeState.{NodeState}
use Rattle.nf_spot.specs.declared.node_state.Taken.{Taken}
use Rattle.nf_spot.proofs.Heads.{filled_heads, filled_queue}
use Rattle.nf_spot.proofs.Keeping.{by_kind, to_kind, kept_by_operator, counts_on}
use Rattle.nf_spot.proofs.Ports.{kept_changed}

-- what waits at a port of the node, in memory and in the spot
pub waits_same : (node : Node) (sp : Spot) (c : NodeState) (port : ℕ) → IsNode node sp c → port < length node.ports → waiting_at c port ≡ sp.waiting port
waits_same node sp c port h l = ap (λ (p : ℕ × List Plain). p.1) (h.inlet port l)

-- ---- which ports are filled

in_limit : (x n : ℕ) (b : Bool) → (nat_lt x n && b) ≡ true → x < n
in_limit x n b e = elim (cases_lt x n) [
  | inl l ↦ l
  | inr m ↦ absurd (let t : nat_lt x n ≡ false = grind (arith, nat_tests) in true≢false (sym e ∙ ap (λ q. q && b) t))
]

some_waits : (n : ℕ) → nat_lt 0 n ≡ true → 0 < n
some_waits n e = grind (arith, nat_tests)

none_waits : (xs : List Plain) → nat_lt 0 (length xs) ≡ false → xs ≡ []
none_waits [] e = refl
none_waits (x ∷ xs) e = absurd (let l : nat_lt 0 (suc (length xs)) ≡ true = grind (arith, nat_tests) in true≢false (sym l ∙ e))

module _ (node : Node) (sp : Spot) (c : NodeState) (h : IsNode node sp c) where
  pub filled_within : (x : ℕ) → has c.filled x ≡ true → x < length node.ports
  filled_within x e = (let a : x < limit_of c.filled = in_limit x (limit_of c.filled) _ e in let b = h.limit in omega arith)

  pub filled_waits : (x : ℕ) → has c.filled x ≡ true → 0 < length (sp.waiting x)
  filled_waits x e = some_waits (length (sp.waiting x)) (sym (h.fills x (filled_within x e)) ∙ e)

  pub empty_waits : (x : ℕ) → x < length node.ports → has c.filled x ≡ false → sp.waiting x ≡ []
  empty_waits x l e = none_waits (sp.waiting x) (sym (h.fills x l) ∙ e)

  pub full_waits : ((x : ℕ) → x < limit_of c.filled → has c.filled x ≡ true) → (x : ℕ) → x < length node.ports → 0 < length (sp.waiting x)
  full_waits f x l = filled_waits x (f x (let b = h.limit in omega arith))

not_empty : (xs : List Plain) (n : ℕ) → n < length xs → xs ≡ [] → ⊥
not_empty xs n l e = let f : length xs ≡ 0 = ap length e in omega arith

-- ---- an operator

module _ (row : Row) (opts : OpOpts) (ports : List Port) (outs : ℕ) (sp : Spot) (c : NodeState) where
  abbrev op_node : Node
  op_node = record { kind = k.Op row opts; ports = ports; outs = outs }

  pub op_none : IsNode op_node sp c → ((x : ℕ) → has c.filled x ≡ false) → MayNotTake op_node sp
  op_none h none port place may = not_empty (sp.waiting port) place may.1 (empty_waits op_node sp c h port may.0 (none port))

  pub op_some : IsNode op_node sp c → (x : ℕ) → has c.filled x ≡ true → MayTakeAt op_node sp x 0
  op_some h x e = (filled_within op_node sp c h x e, filled_waits op_node sp c h x e)

  pub op_spent : IsNode op_node sp c → ((x : ℕ) → has c.filled x ≡ false) → IsSpent op_node sp
  op_spent h none = λ x l. empty_waits op_node sp c h x l (none x)

  pub op_unspent : IsNode op_node sp c → (x : ℕ) → has c.filled x ≡ true → IsSpent op_node sp → ⊥
  op_unspent h x e spent = not_empty (sp.waiting x) 0 (filled_waits op_node sp c h x e) (spent x (filled_within op_node sp c h x e))

  pub op_may : (port place : ℕ) → HasTake op_node c port place → place < length (waiting_at c port)
  op_may port place t = (let e = ap length (waits_same op_node t.spot c port t.shows t.may.0) in let l = t.may.1 in omega arith)

  pub op_within : (port place : ℕ) → HasTake op_node c port place → port < length ports
  op_within port place t = t.may.0

  pub op_taken : (port place : ℕ) (v : List Plain) → IsNode op_node sp c → port < length ports → v ≡ get_or (waiting_at c port) place null ∷ [] → IsTaken op_node sp port place (record { inputs = v; n = 0 })
  op_taken port place v h l e = record {
    inputs_are = e ∙ ap (λ w. get_or w place null ∷ []) (waits_same op_node sp c port h l);
    n_is = refl;
  }

  pub op_after : (port place : ℕ) → IsNode op_node (leaves_on sp port place) c → IsNode op_node (takes_on op_node sp port place) c
  op_after port place h = kept_changed op_node (leaves_on sp port place) (takes_on op_node sp port place) c c h refl refl refl refl refl refl
      (kept_by_operator row opts (leaves_on sp port place) (takes_on op_node sp port place) c.kept refl refl h.keeps)

-- ---- a process

is_value : (ports : List Port) (outs q : ℕ) (x : ℕ) → IsQueue (plain_node (record { kind = k.Process (Some q); ports = ports; outs = outs })) q → x < length ports → (x ≡ q → ⊥) → (port_in ports x).value ≡ true
is_value ports outs q x fits l n = elim (cases_Bool (port_in ports x).value) [ inl t ↦ t | inr f ↦ absurd (n (fits.alone x l f)) ]

module _ (queue : Option ℕ) (ports : List Port) (outs : ℕ) (sp : Spot) (c : NodeState) where
  abbrev process_node : Node
  process_node = record { kind = k.Process queue; ports = ports; outs = outs }

  pub full_holds : IsNode process_node sp c → ((x : ℕ) → x < limit_of c.filled → has c.filled x ≡ true) → Holds (plain_node process_node) sp
  full_holds h full = λ x l v. full_waits process_node sp c h full x l

  heads_shown : (t : Spot) → IsNode process_node t c → (j : ℕ) → j < length ports → head_of (get_or c.inlets.items j no_inlet) ≡ heads t (0 + j)
  heads_shown t h j l = (let z : 0 + j ≡ j = omega arith in rw z (ap (λ w. get_or w 0 null) (waits_same process_node t c j h l)))

  waits_from : (t : Spot) → IsNode process_node t c → ((j : ℕ) → j < length ports → 0 < length (t.waiting j)) → HasHeads c.inlets.items
  waits_from t h w j l = (let m : j < length ports = (let e = h.ports in omega arith) in let e = ap length (waits_same process_node t c j h m) in let q = w j m in omega arith)

count_by-map : {A B : Type 0} (p : B → Bool) (f : A → B) (xs : List A) → count_by p (map f xs) ≡ count_by (λ x. p (f x)) xs
count_by-map p f xs = count_is_passes p (map f xs) ∙ tally-map (λ x. one_if (p x)) f xs ∙ sym (count_is_passes (λ x. p (f x)) xs)

-- how many takes of equal inputs came before
pub number_is : (sp : Spot) (queue : Option ℕ) (v w : List Plain) (n : ℕ) → v ≡ w → n ≡ count_by (same_inputs v) (inputs_taken sp) → n ≡ n_of (process queue) sp.taken w
number_is sp queue v w n e h = h ∙ ap (λ z. count_by (same_inputs z) (inputs_taken sp)) e ∙ count_by-map (same_inputs w) (λ (t : Take). t.inputs) sp.taken

-- without a queue port
module _ (ports : List Port) (outs : ℕ) (sp : Spot) (c : NodeState) where
  abbrev all_values : Node
  all_values = record { kind = k.Process None; ports = ports; outs = outs }

  value_ready : AllValues (plain_node all_values) → (port place : ℕ) → HasTake all_values c port place → HasHeads c.inlets.items
  value_ready fits port place t = waits_from None ports outs sp c t.spot t.shows (λ j l. t.may.2 j l (fits j l))

  value_inputs : AllValues (plain_node all_values) → IsNode all_values sp c → (port place : ℕ) → map head_of c.inlets.items ≡ (takes (plain_node all_values) sp port place).inputs
  value_inputs fits h port place = sym (filled_heads 0 ports c.inlets.items (heads sp) null h.ports (λ j l. fits j l) (heads_shown None ports outs sp c sp h))

-- with one
module _ (q : ℕ) (ports : List Port) (outs : ℕ) (sp : Spot) (c : NodeState) where
  abbrev queued : Node
  queued = record { kind = k.Process (Some q); ports = ports; outs = outs }

  all_wait : (t : Spot) → IsQueue (plain_node queued) q → Holds (plain_node queued) t → 0 < length (t.waiting q) → (x : ℕ) → x < length ports → 0 < length (t.waiting x)
  all_wait t fits holds some x l = elim (cases_eq x q) [
    | inl e ↦ subst (λ j. 0 < length (t.waiting j)) (sym e) some
    | inr n ↦ holds x l (is_value ports outs q x fits l n)
  ]

  queue_ready : IsQueue (plain_node queued) q → (port place : ℕ) → HasTake queued c port place → IsReady c.inlets.items (Some q) place
  queue_ready fits port place t = (
    waits_from (Some q) ports outs sp c t.spot t.shows (all_wait t.spot fits t.may.2 (let l = t.may.1 in omega arith)),
    (let e = ap length (waits_same queued t.spot c q t.shows fits.within) in let l = t.may.1 in omega arith),
  )

  queue_inputs : IsQueue (plain_node queued) q → IsNode queued sp c → (port place : ℕ) → inputs_at c.inlets.items (Some q) place ≡ (takes (plain_node queued) sp port place).inputs
  queue_inputs fits h port place =
      let x = get_or (sp.waiting q) place null in
      ap (λ w. map head_of (take q c.inlets.items) ++ get_or w place null ∷ map head_of (drop (suc q) c.inlets.items)) (waits_same queued sp c q h fits.within)
      ∙ sym (filled_queue 0 q ports c.inlets.items (heads sp) x h.ports fits.within fits.queue (λ j l n. is_value ports outs q j fits l n) (heads_shown (Some q) ports outs sp c sp h))

-- both
pub is_ready : (queue : Option ℕ) (ports : List Port) (outs : ℕ) (c : NodeState) (port place : ℕ) → FitsKind (record { kind = k.Process queue; ports = ports; outs = outs }) (k.Process queue)
    → HasTake (record { kind = k.Process queue; ports = ports; outs = outs }) c port place → IsReady c.inlets.items queue place
is_ready None ports outs c port place fits t = value_ready ports outs t.spot c fits port place t
is_ready (Some q) ports outs c port place fits t = queue_ready q ports outs t.spot c fits port place t

pub inputs_are : (queue : Option ℕ) (ports : List Port) (outs : ℕ) (sp : Spot) (c : NodeState) (port place : ℕ) → FitsKind (record { kind = k.Process queue; ports = ports; outs = outs }) (k.Process queue)
    → IsNode (record { kind = k.Process queue; ports = ports; outs = outs }) sp c → inputs_at c.inlets.items queue place ≡ (takes (plain_node (record { kind = k.Process queue; ports = ports; outs = outs })) sp port place).inputs
inputs_are None ports outs sp c port place fits h = value_inputs ports outs sp c fits h port place
inputs_are (Some q) ports outs sp c port place fits h = queue_inputs q ports outs sp c fits h port place

pub process_taken : (queue : Option ℕ) (ports : List Port) (outs : ℕ) (sp : Spot) (c : NodeState) (port place : ℕ) (v : List Plain) (n : ℕ) → FitsKind (record { kind = k.Process queue; ports = ports; outs = outs }) (k.Process queue)
    → IsNode (record { kind = k.Process queue; ports = ports; outs = outs }) sp c → v ≡ inputs_at c.inlets.items queue place → n ≡ count_by (same_inputs v) (inputs_taken sp)
    → IsTaken (record { kind = k.Process queue; ports = ports; outs = outs }) sp port place (record { inputs = v; n = n })
process_taken queue ports outs sp c port place v n fits h e m = record {
  inputs_are = e ∙ inputs_are queue ports outs sp c port place fits h;
  n_is = number_is sp queue v _ n (e ∙ inputs_are queue ports outs sp c port place fits h) m;
}

-- the state after a take: d is that after the item left its port and the take was counted
pub process_after : (queue : Option ℕ) (ports : List Port) (outs : ℕ) (sp : Spot) (c d : NodeState) (port place : ℕ) → IsNode (record { kind = k.Process queue; ports = ports; outs = outs }) (queue_leaves sp queue place) c
    → d.outlets ≡ c.outlets → d.inlets ≡ c.inlets → d.filled ≡ c.filled
    → IsKept (k.Process queue) (record (queue_leaves sp queue place) { taken = takes (plain_node (record { kind = k.Process queue; ports = ports; outs = outs })) sp port place ∷ (queue_leaves sp queue place).taken }) d.kept
    → IsNode (record { kind = k.Process queue; ports = ports; outs = outs }) (takes_on (record { kind = k.Process queue; ports = ports; outs = outs }) sp port place) d
process_after None ports outs sp c d port place h ou ins fi kept = kept_changed (record { kind = k.Process None; ports = ports; outs = outs }) sp (takes_on (record { kind = k.Process None; ports = ports; outs = outs }) sp port place) c d h ou ins fi refl refl refl kept
process_after (Some q) ports outs sp c d port place h ou ins fi kept =
    kept_changed (record { kind = k.Process (Some q); ports = ports; outs = outs }) (leaves_on sp q place) (takes_on (record { kind = k.Process (Some q); ports = ports; outs = outs }) sp port place) c d h ou ins fi refl refl refl kept

-- whether a process can take, and is spent
module _ (ports : List Port) (outs : ℕ) (sp : Spot) (c : NodeState) where
  pub not_full : (queue : Option ℕ) → FitsKind (record { kind = k.Process queue; ports = ports; outs = outs }) (k.Process queue) → IsNode (record { kind = k.Process queue; ports = ports; outs = outs }) sp c
      → (x : ℕ) × (x < limit_of c.filled) × (has c.filled x ≡ false) → MayNotTake (record { kind = k.Process queue; ports = ports; outs = outs }) sp
  not_full None fits h w port place may =
      let l : w.0 < length ports = (let e = h.limit in let m = w.1 in omega arith) in
      not_empty (sp.waiting w.0) 0 (may.2 w.0 l (fits w.0 l)) (empty_waits (all_values ports outs sp c) sp c h w.0 l w.2)
  not_full (Some q) fits h w port place may =
      let l : w.0 < length ports = (let e = h.limit in let m = w.1 in omega arith) in
      not_empty (sp.waiting w.0) 0 (all_wait q ports outs sp c sp fits may.2 (let a = may.1 in omega arith) w.0 l) (empty_waits (queued q ports outs sp c) sp c h w.0 l w.2)

  pub full_queue : (q : ℕ) → FitsKind (record { kind = k.Process (Some q); ports = ports; outs = outs }) (k.Process (Some q)) → IsNode (record { kind = k.Process (Some q); ports = ports; outs = outs }) sp c
      → ((x : ℕ) → x < limit_of c.filled → has c.filled x ≡ true) → MayTakeAt (record { kind = k.Process (Some q); ports = ports; outs = outs }) sp q 0
  full_queue q fits h full = (refl, full_waits (queued q ports outs sp c) sp c h full q fits.within, full_holds (Some q) ports outs sp c h full)

  pub full_new : IsNode (record { kind = k.Process None; ports = ports; outs = outs }) sp c → ((x : ℕ) → x < limit_of c.filled → has c.filled x ≡ true) → sp.taken ≡ []
      → MayTakeAt (record { kind = k.Process None; ports = ports; outs = outs }) sp 0 0
  full_new h full e = (refl, refl, full_holds None ports outs sp c h full, e)

  pub full_old : 0 < length sp.taken → MayNotTake (record { kind = k.Process None; ports = ports; outs = outs }) sp
  full_old l port place may = (let e : length sp.taken ≡ 0 = ap length may.3 in omega arith)

  lacks : (queue : Option ℕ) → IsNode (record { kind = k.Process queue; ports = ports; outs = outs }) sp c → (x : ℕ) → x < length ports → has c.filled x ≡ false → (port_in ports x).value ≡ true
      → Lacks (plain_node (record { kind = k.Process queue; ports = ports; outs = outs })) sp
  lacks queue h x l e v = record { port = x; within = l; value = v; nothing = empty_waits (process_node queue ports outs sp c) sp c h x l e }

  pub not_full_spent : (queue : Option ℕ) → FitsKind (record { kind = k.Process queue; ports = ports; outs = outs }) (k.Process queue) → IsNode (record { kind = k.Process queue; ports = ports; outs = outs }) sp c
      → (x : ℕ) × (x < limit_of c.filled) × (has c.filled x ≡ false) → IsSpent (record { kind = k.Process queue; ports = ports; outs = outs }) sp
  not_full_spent None fits h w =
      let l : w.0 < length ports = (let e = h.limit in let m = w.1 in omega arith) in
      inl (lacks None h w.0 l w.2 (fits w.0 l))
  not_full_spent (Some q) fits h w =
      let l : w.0 < length ports = (let e = h.limit in let m = w.1 in omega arith) in
      elim (cases_eq w.0 q) [
        | inl e ↦ inr (subst (λ j. sp.waiting j ≡ []) e (empty_waits (queued q ports outs sp c) sp c h w.0 l w.2))
        | inr n ↦ inl (lacks (Some q) h w.0 l w.2 (is_value ports outs q w.0 fits l n))
      ]

  no_lack : (queue : Option ℕ) → IsNode (record { kind = k.Process queue; ports = ports; outs = outs }) sp c → ((x : ℕ) → x < limit_of c.filled → has c.filled x ≡ true)
      → Lacks (plain_node (record { kind = k.Process queue; ports = ports; outs = outs })) sp → ⊥
  no_lack queue h full l = not_empty (sp.waiting l.port) 0 (full_waits (process_node queue ports outs sp c) sp c h full l.port l.within) l.nothing

  pub full_unspent : (q : ℕ) → FitsKind (record { kind = k.Process (Some q); ports = ports; outs = outs }) (k.Process (Some q)) → IsNode (record { kind = k.Process (Some q); ports = ports; outs = outs }) sp c
      → ((x : ℕ) → x < limit_of c.filled → has c.filled x ≡ true) → IsSpent (record { kind = k.Process (Some q); ports = ports; outs = outs }) sp → ⊥
  full_unspent q fits h full spent = elim spent [
    | inl l ↦ no_lack (Some q) h full l
    | inr e ↦ not_empty (sp.waiting q) 0 (full_waits (queued q ports outs sp c) sp c h full q fits.within) e
  ]

  pub once_unspent : IsNode (record { kind = k.Process None; ports = ports; outs = outs }) sp c → ((x : ℕ) → x < limit_of c.filled → has c.filled x ≡ true) → (length sp.taken ≡ 1 → ⊥)
      → IsSpent (record { kind = k.Process None; ports = ports; outs = outs }) sp → ⊥
  once_unspent h full n spent = elim spent [ inl l ↦ no_lack None h full l | inr e ↦ n e ]

-- ---- the same of a node in memory whose kind is known by an equation

nil_from : (ts : List Take) → length ts ≡ 0 → ts ≡ []
nil_from [] e = refl
nil_from (t ∷ ts) e = absurd (omega arith)

module _ (node : Node) (sp : Spot) (c : NodeState) (queue : Option ℕ) (taken : ℕ) (is : node.kind ≡ k.Process queue) (none : queue ≡ None) (h : IsNode node sp c)
    (full : (x : ℕ) → x < limit_of c.filled → has c.filled x ≡ true) (count : (q : Option ℕ) (z : Spot) → IsKept (k.Process q) z c.kept → taken ≡ length z.taken) where
  kind : node.kind ≡ k.Process None
  kind = is ∙ ap (λ q. k.Process q) none

  as_known : IsNode (record { kind = k.Process None; ports = node.ports; outs = node.outs }) sp c
  as_known = to_kind node (k.Process None) kind (λ n. IsNode n sp c) h

  is_count : taken ≡ length sp.taken
  is_count = count None sp as_known.keeps

  pub takes_new : taken ≡ 0 → MayTakeAt node sp 0 0
  takes_new e = by_kind node (k.Process None) kind (λ n. MayTakeAt n sp 0 0) (full_new node.ports node.outs sp c as_known full (nil_from sp.taken (sym is_count ∙ e)))

  pub takes_old : (taken ≡ 0 → ⊥) → MayNotTake node sp
  takes_old n = by_kind node (k.Process None) kind (λ m. MayNotTake m sp) (full_old node.ports node.outs sp c (let e = is_count in omega arith))

  pub spent_once : MatchBool (taken == 1) (IsSpent node sp) (IsSpent node sp → ⊥)
  spent_once = elim (cases_eq taken 1) [
    | inl e ↦ (let t : (taken == 1) ≡ true = grind (arith, nat_tests) in rw t (by_kind node (k.Process None) kind (λ n. IsSpent n sp) (inr (sym is_count ∙ e))))
    | inr n ↦ (let t : (taken == 1) ≡ false = grind (arith, nat_tests) in rw t (by_kind node (k.Process None) kind (λ m. IsSpent m sp → ⊥) (once_unspent node.ports node.outs sp c as_known full (λ e. n (is_count ∙ e)))))
  ]

pub no_source : (node : Node) (items : List Plain) (c : NodeState) (port place : ℕ) → node.kind ≡ k.Source items → HasTake node c port place → ⊥
no_source node items c port place is t = (to_kind node (k.Source items) is (λ n. HasTake n c port place) t).may

module _ (node : Node) (row : Row) (opts : OpOpts) (c : NodeState) (port place : ℕ) (is : node.kind ≡ k.Op row opts) (t : HasTake node c port place) where
  known_take : HasTake (record { kind = k.Op row opts; ports = node.ports; outs = node.outs }) c port place
  known_take = to_kind node (k.Op row opts) is (λ n. HasTake n c port place) t

  pub op_ready : place < length (waiting_at c port)
  op_ready = op_may row opts node.ports node.outs t.spot c port place known_take

  pub op_taken_at : (sp : Spot) (v : List Plain) → IsNode node sp c → v ≡ get_or (waiting_at c port) place null ∷ [] → IsTaken node sp port place (record { inputs = v; n = 0 })
  op_taken_at sp v h e = by_kind node (k.Op row opts) is (λ n. IsTaken n sp port place (record { inputs = v; n = 0 }))
      (op_taken row opts node.ports node.outs sp c port place v (to_kind node (k.Op row opts) is (λ n. IsNode n sp c) h) (op_within row opts node.ports node.outs t.spot c port place known_take) e)

  pub op_after_at : (sp : Spot) (d : NodeState) → IsNode node (leaves_on sp port place) d → IsNode node (takes_on node sp port place) d
  op_after_at sp d h = by_kind node (k.Op row opts) is (λ n. IsNode n (takes_on n sp port place) d) (op_after row opts node.ports node.outs sp d port place (to_kind node (k.Op row opts) is (λ n. IsNode n (leaves_on sp port place) d) h))

module _ (node : Node) (queue : Option ℕ) (c : NodeState) (port place : ℕ) (is : node.kind ≡ k.Process queue) (fits : FitsKind node node.kind) (t : HasTake node c port place) where
  known_fits : FitsKind (record { kind = k.Process queue; ports = node.ports; outs = node.outs }) (k.Process queue)
  known_fits = to_kind node (k.Process queue) is (λ n. FitsKind n n.kind) fits

  pub process_ready : IsReady c.inlets.items queue place
  process_ready = is_ready queue node.ports node.outs c port place known_fits (to_kind node (k.Process queue) is (λ n. HasTake n c port place) t)

  pub process_room : (kept : Kept) → kept ≡ c.kept → HasTakeRoom c → HasCountRoom kept
  process_room kept e room = subst HasCountRoom (sym e) (counts_on queue t.spot c.kept room (to_kind node (k.Process queue) is (λ n. IsNode n t.spot c) t.shows).keeps)

  module _ (sp : Spot) (h : IsNode node sp c) where
    known_node : IsNode (record { kind = k.Process queue; ports = node.ports; outs = node.outs }) sp c
    known_node = to_kind node (k.Process queue) is (λ n. IsNode n sp c) h

    pub process_taken_at : (v : List Plain) (n : ℕ) (kept : Kept) → kept ≡ c.kept → v ≡ inputs_at c.inlets.items queue place
        → ((q : Option ℕ) (z : Spot) → IsKept (k.Process q) z kept → n ≡ count_by (same_inputs v) (inputs_taken z)) → IsTaken node sp port place (record { inputs = v; n = n })
    process_taken_at v n kept e vs count = by_kind node (k.Process queue) is (λ m. IsTaken m sp port place (record { inputs = v; n = n }))
        (process_taken queue node.ports node.outs sp c port place v n known_fits known_node vs (count queue sp (subst (IsKept (k.Process queue) sp) (sym e) known_node.keeps)))

    -- mid is the state once the item left its port, d the state once the take was counted too
    pub process_after_at : (v : List Plain) (mid d : NodeState) → v ≡ inputs_at c.inlets.items queue place → IsNode node (queue_leaves sp queue place) mid → d.outlets ≡ mid.outlets → d.inlets ≡ mid.inlets → d.filled ≡ mid.filled
        → ((q : Option ℕ) (z : Spot) (u : Take) → IsKept (k.Process q) z mid.kept → u.inputs ≡ v → IsKept (k.Process q) (record z { taken = u ∷ z.taken }) d.kept) → IsNode node (takes_on node sp port place) d
    process_after_at v mid d vs hm ou ins fi count =
        let known : IsNode (record { kind = k.Process queue; ports = node.ports; outs = node.outs }) (queue_leaves sp queue place) mid = to_kind node (k.Process queue) is (λ n. IsNode n (queue_leaves sp queue place) mid) hm in
        by_kind node (k.Process queue) is (λ n. IsNode n (takes_on n sp port place) d)
        (process_after queue node.ports node.outs sp mid d port place known ou ins fi
        (count queue (queue_leaves sp queue place) (takes (plain_node (record { kind = k.Process queue; ports = node.ports; outs = node.outs })) sp port place) known.keeps
        (sym (vs ∙ inputs_are queue node.ports node.outs sp c port place known_fits known_node))))

-- ---- the same of what a call gave

on_ok : {T E : Type 0} (r : Result T E) (P Q : Type 0) → (P → Q) → OnOk r P → OnOk r Q
on_ok (Ok t) P Q f h = f h
on_ok (Err e) P Q f h = tt

module _ (node : Node) (row : Row) (opts : OpOpts) (c : NodeState) (port place : ℕ) (is : node.kind ≡ k.Op row opts) (t : HasTake node c port place) where
  pub op_taken_if : {E : Type 0} (r : Result Taken E) (sp : Spot) → IsNode node sp c → IfOk r (λ u. u.inputs ≡ get_or (waiting_at c port) place null ∷ []) → IfOk r (λ u. u.n ≡ 0) → IfOk r (IsTaken node sp port place)
  op_taken_if (Ok u) sp h e n = (let w = op_taken_at node row opts c port place is t sp u.inputs h e in record { inputs_are = w.inputs_are; n_is = n ∙ w.n_is })
  op_taken_if (Err e) sp h i n = tt

  pub op_after_if : {E : Type 0} (r : Result Taken E) (sp : Spot) (d : NodeState) → OnOk r (IsNode node (leaves_on sp port place) d) → OnOk r (IsNode node (takes_on node sp port place) d)
  op_after_if r sp d h = on_ok r _ _ (op_after_at node row opts c port place is t sp d) h

-- ---- whether a process without a queue port may take

equals : (a b : ℕ) → (a == b) ≡ true → a ≡ b
equals a b e = grind (arith, nat_tests)

is_equal : (a b : ℕ) → a ≡ b → (a == b) ≡ true
is_equal a b e = grind (arith, nat_tests)

both : (x y : Bool) → (x && y) ≡ true → (x ≡ true) × (y ≡ true)
both true y e = (refl, e)
both false y e = absurd (true≢false (sym e))

join : (x y : Bool) → x ≡ true → y ≡ true → (x && y) ≡ true
join true y e f = f
join false y e f = absurd (true≢false (sym e))

module _ (node : Node) (queue : Option ℕ) (sp : Spot) (c : NodeState) (port place : ℕ) (h : IsNode node sp c) (is : node.kind ≡ k.Process queue) (none : queue ≡ None)
    (full : (x : ℕ) → x < limit_of c.filled → has c.filled x ≡ true) where
  only_kind : node.kind ≡ k.Process None
  only_kind = is ∙ ap (λ o. k.Process o) none

  as_only : IsNode (record { kind = k.Process None; ports = node.ports; outs = node.outs }) sp c
  as_only = to_kind node (k.Process None) only_kind (λ n. IsNode n sp c) h

  module _ (taken : ℕ) (is_taken : taken ≡ length sp.taken) where
    takes_here : ((port == 0) && ((place == 0) && (taken == 0))) ≡ true → MayTakeAt (record { kind = k.Process None; ports = node.ports; outs = node.outs }) sp port place
    takes_here t =
        let w = both (port == 0) ((place == 0) && (taken == 0)) t in let v = both (place == 0) (taken == 0) w.1 in
        (equals port 0 w.0, equals place 0 v.0, full_holds None node.ports node.outs sp c as_only full, nil_from sp.taken (sym is_taken ∙ equals taken 0 v.1))

    told_here : port ≡ 0 → place ≡ 0 → sp.taken ≡ [] → ((port == 0) && ((place == 0) && (taken == 0))) ≡ true
    told_here p q nil =
        join (port == 0) ((place == 0) && (taken == 0)) (is_equal port 0 p)
        (join (place == 0) (taken == 0) (is_equal place 0 q) (is_equal taken 0 (is_taken ∙ ap length nil)))

    pub only_told : (b : Bool) → b ≡ ((port == 0) && ((place == 0) && (taken == 0))) → (b ≡ true) ↔ MayTakeAt node sp port place
    only_told b e = (
      (λ t. by_kind node (k.Process None) only_kind (λ n. MayTakeAt n sp port place) (takes_here (sym e ∙ t))),
      (λ may. let known = to_kind node (k.Process None) only_kind (λ n. MayTakeAt n sp port place) may in e ∙ told_here known.0 known.1 known.3),
    )

  pub only_taken : (taken : ℕ) → ((q : Option ℕ) (z : Spot) → IsKept (k.Process q) z c.kept → taken ≡ length z.taken) → taken ≡ length sp.taken
  only_taken taken count = count None sp as_only.keeps
