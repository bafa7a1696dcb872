-- What an operator or a process took, beside what the meaning delivers.
use Rattle.std.proofs.Common.{◌≡◌, ℕ, zero, suc, ◌+◌, ◌<◌, ◌≤◌, List, [], ◌∷◌, map, length, take, drop, get_or, Bool, true, false, cond, ◌&&◌, refl, ap, sym, ◌∙◌, subst, arith, inl, inr}
use Rattle.std.specs.Prelude.{◌==◌, nat_le, Ok}
use Rattle.std.specs.List.{AllByRecursion}
use Rattle.std.proofs.lemmas.Bool.{cases_eq, cases_Bool}
use Rattle.std.proofs.lemmas.Bool.Decides.{nat_tests}
use Rattle.std.proofs.lemmas.List.{take-append-drop}
use Rattle.nf_value.specs.Plain.{Plain, null}
use Rattle.nf_opstream.specs.Push.{Push}
use Rattle.nf_opstream.proofs.Tally.{tally, one_if, passes, Sub, Same, tally-append, tally-map, tally_same}
use Rattle.nf_opstream.proofs.Members.{IsEq, in_larger}
use Rattle.nf_graph.specs.declared.port.Port.{Port}
use Rattle.nf_graph.specs.Rules.{Rules}
use Rattle.nf_graph.specs.Node.{PlainNode, port_in, port_at}
use Rattle.nf_graph.specs.Meaning.{Bags, delivered, pushes, is_lacking}
use Rattle.nf_graph.proofs.Bags.{length_of_sub}
use Rattle.nf_machine.specs.State.{Take, Ticket, port_of, pair_of}
use Rattle.std.specs.Ordering.{eq_by_cmp}
use Rattle.nf_value.specs.Order.{value_cmp}
use Rattle.nf_opstream.proofs.Pushes.{is_same-itself, same_from}
use Rattle.nf_machine.proofs.Good.{from_port, flying}

pub sub_take : (n : ℕ) (xs : List Plain) → Sub (take n xs) xs
sub_take n xs = record { at = λ p. (let e : passes p xs ≡ passes p (take n xs) + passes p (drop n xs) = ap (passes p) (sym (take-append-drop n xs)) ∙ tally-append (λ x. one_if (p x)) (take n xs) (drop n xs) in omega (arith, e)) }

pub tally_each : {A : Type 0} (f h : A → ℕ) (xs : List A) → AllByRecursion (λ x. f x ≡ h x) xs → tally f xs ≡ tally h xs
tally_each f h [] e = refl
tally_each f h (x ∷ xs) e = omega (arith, e.0, tally_each f h xs e.1)

-- of the ports from k on
abbrev from_on : ℕ → (ℕ × Plain → Bool) → Take → ℕ
from_on k p t = one_if (nat_le k (port_of t.slot) && p (port_of t.slot, t.item))

-- the slot is a port's
pub record Slotted (n : ℕ) (t : Take) : Type 0 where
  pub is : t.slot ≡ suc (port_of t.slot)
  pub within : port_of t.slot < n

one_port : (k a : ℕ) (b c : Bool) → (a ≡ k → b ≡ c) → one_if (nat_le k a && b) ≡ one_if ((suc a == suc k) && c) + one_if (nat_le (suc k) a && b)
one_port k a b c h = elim (cases_eq a k) [
  | inl e ↦ (let t : nat_le k a ≡ true = grind (arith, nat_tests) in let u : (suc a == suc k) ≡ true = grind (arith, nat_tests) in let v : nat_le (suc k) a ≡ false = grind (arith, nat_tests) in rw (t, u, v, h e) (omega arith))
  | inr n ↦ (let u : (suc a == suc k) ≡ false = grind (arith, nat_tests) in let w : nat_le k a ≡ nat_le (suc k) a = grind (arith, nat_tests) in rw (u, w) (omega arith))
]

split_port : (k : ℕ) (p : ℕ × Plain → Bool) (n : ℕ) (taken : List Take) → AllByRecursion (Slotted n) taken
    → tally (from_on k p) taken ≡ passes (from_port k (λ x. p (k, x))) taken + tally (from_on (suc k) p) taken
split_port k p n [] h = refl
split_port k p n (t ∷ ts) h =
    let a : from_on k p t ≡ one_if ((suc (port_of t.slot) == suc k) && p (k, t.item)) + from_on (suc k) p t =
    one_port k (port_of t.slot) (p (port_of t.slot, t.item)) (p (k, t.item)) (λ e. ap (λ (z : ℕ). p (z, t.item)) e) in
    let b : one_if (from_port k (λ x. p (k, x)) t) ≡ one_if ((suc (port_of t.slot) == suc k) && p (k, t.item)) = ap (λ (z : ℕ). one_if ((z == suc k) && p (k, t.item))) (h.0).is in
    omega (arith, a, b, split_port k p n ts h.1)

past_ports : (k : ℕ) (p : ℕ × Plain → Bool) (taken : List Take) → AllByRecursion (Slotted k) taken → tally (from_on k p) taken ≡ 0
past_ports k p [] h = refl
past_ports k p (t ∷ ts) h =
    let e : nat_le k (port_of t.slot) ≡ false = (let l = (h.0).within in grind (arith, nat_tests)) in
    rw e (omega (arith, past_ports k p ts h.1))

all_ports : (n : ℕ) (p : ℕ × Plain → Bool) (taken : List Take) → passes (λ t. p (pair_of t)) taken ≡ tally (from_on 0 p) taken
all_ports n p taken = tally_same (λ t. one_if (p (pair_of t))) (from_on 0 p) (λ t. (let e : nat_le 0 (port_of t.slot) ≡ true = grind (arith, nat_tests) in rw e refl)) taken

deliver_sub : (B : Bags) (k : ℕ) (ps : List Port) (p : ℕ × Plain → Bool) (n : ℕ) (taken : List Take) → k + length ps ≡ n → AllByRecursion (Slotted n) taken
    → ((j : ℕ) → j < length ps → (q : Plain → Bool) → passes (from_port (k + j) q) taken ≤ passes q (B (port_in ps j).from (port_in ps j).out))
    → tally (from_on k p) taken ≤ passes p (delivered B k ps)
deliver_sub B k [] p n taken e s h = let z : n ≡ k = (let y : k + 0 ≡ n = e in omega arith) in omega (arith, past_ports k p taken (subst (λ m. AllByRecursion (Slotted m) taken) z s))
deliver_sub B k (port ∷ ps) p n taken e s h =
    let e0 : k + 0 ≡ k = omega arith in
    let here : passes (from_port k (λ x. p (k, x))) taken ≤ passes (λ x. p (k, x)) (B port.from port.out) = subst (λ m. passes (from_port m (λ x. p (k, x))) taken ≤ passes (λ x. p (k, x)) (B port.from port.out)) e0 (h 0 (omega arith) (λ x. p (k, x))) in
    let rest = deliver_sub B (suc k) ps p n taken (let y : k + suc (length ps) ≡ n = e in omega arith) s (λ j l q. let i : suc k + j ≡ k + suc j = omega arith in rw i (h (suc j) (omega arith) q)) in
    omega (arith, here, rest, split_port k p n taken s, tally-append (λ x. one_if (p x)) (map (λ x. (k, x)) (B port.from port.out)) (delivered B (suc k) ps), tally-map (λ x. one_if (p x)) (λ x. (k, x)) (B port.from port.out))

deliver_same : (B : Bags) (k : ℕ) (ps : List Port) (p : ℕ × Plain → Bool) (n : ℕ) (taken : List Take) → k + length ps ≡ n → AllByRecursion (Slotted n) taken
    → ((j : ℕ) → j < length ps → (q : Plain → Bool) → passes (from_port (k + j) q) taken ≡ passes q (B (port_in ps j).from (port_in ps j).out))
    → tally (from_on k p) taken ≡ passes p (delivered B k ps)
deliver_same B k [] p n taken e s h = let z : n ≡ k = (let y : k + 0 ≡ n = e in omega arith) in past_ports k p taken (subst (λ m. AllByRecursion (Slotted m) taken) z s)
deliver_same B k (port ∷ ps) p n taken e s h =
    let e0 : k + 0 ≡ k = omega arith in
    let here : passes (from_port k (λ x. p (k, x))) taken ≡ passes (λ x. p (k, x)) (B port.from port.out) = subst (λ m. passes (from_port m (λ x. p (k, x))) taken ≡ passes (λ x. p (k, x)) (B port.from port.out)) e0 (h 0 (omega arith) (λ x. p (k, x))) in
    let rest = deliver_same B (suc k) ps p n taken (let y : k + suc (length ps) ≡ n = e in omega arith) s (λ j l q. let i : suc k + j ≡ k + suc j = omega arith in rw i (h (suc j) (omega arith) q)) in
    omega (arith, here, rest, split_port k p n taken s, tally-append (λ x. one_if (p x)) (map (λ x. (k, x)) (B port.from port.out)) (delivered B (suc k) ps), tally-map (λ x. one_if (p x)) (λ x. (k, x)) (B port.from port.out))

pub pairs_sub : (B : Bags) (nd : PlainNode) (taken : List Take) → AllByRecursion (Slotted (length nd.ports)) taken
    → ((j : ℕ) → j < length nd.ports → (q : Plain → Bool) → passes (from_port j q) taken ≤ passes q (B (port_at nd j).from (port_at nd j).out))
    → Sub (map pair_of taken) (delivered B 0 nd.ports)
pairs_sub B nd taken s h = record { at = λ p. omega (arith, tally-map (λ x. one_if (p x)) pair_of taken, all_ports 0 p taken, deliver_sub B 0 nd.ports p (length nd.ports) taken (omega arith) s (λ j l q. let i : 0 + j ≡ j = omega arith in rw i (h j l q))) }

pub pairs_same : (B : Bags) (nd : PlainNode) (taken : List Take) → AllByRecursion (Slotted (length nd.ports)) taken
    → ((j : ℕ) → j < length nd.ports → (q : Plain → Bool) → passes (from_port j q) taken ≡ passes q (B (port_at nd j).from (port_at nd j).out))
    → Same (map pair_of taken) (delivered B 0 nd.ports)
pairs_same B nd taken s h = record { at = λ p. omega (arith, tally-map (λ x. one_if (p x)) pair_of taken, all_ports 0 p taken, deliver_same B 0 nd.ports p (length nd.ports) taken (omega arith) s (λ j l q. let i : 0 + j ≡ j = omega arith in rw i (h j l q))) }

-- pushes with the rules' answers come back from their items
pub answered_back : (R : Rules) (i : ℕ) (xs : List Push) → AllByRecursion (λ x. R.answer i x.item ≡ Ok x.answer) xs → pushes R i (map (λ x. (x.port, x.item)) xs) ≡ xs
answered_back R i [] h = refl
answered_back R i (x ∷ xs) h = rw h.0 (ap (λ r. x ∷ r) (answered_back R i xs h.1))

-- no ticket of a node, so none with a take
pub none_flies : (i : ℕ) (ts : List Ticket) (p : Take → Bool) → passes (λ t. t.node == i) ts ≡ 0 → flying i p ts ≡ 0
none_flies i [] p h = refl
none_flies i (t ∷ ts) p h = elim (cases_Bool (t.node == i)) [
  | inl e ↦ absurd (let z : one_if (t.node == i) ≡ 1 = rw e refl in omega arith)
  | inr e ↦ (let z : one_if (t.node == i) ≡ 0 = rw e refl in rw e (omega (arith, none_flies i ts p (omega arith))))
]

-- ### Value ports

abbrev same_value : Plain → Plain → Bool
same_value = eq_by_cmp value_cmp

value_law : IsEq same_value
value_law = record { same = same_from; self = is_same-itself }

pub nil_of : {A : Type 0} (xs : List A) → length xs ≡ 0 → xs ≡ []
nil_of [] h = refl
nil_of (x ∷ xs) h = absurd (omega arith)

one_of : (xs : List Plain) → 0 < length xs → length xs ≤ 1 → xs ≡ get_or xs 0 null ∷ []
one_of [] h l = absurd (not_less h)
  where
    not_less : 0 < 0 → ⊥
    not_less h = omega arith
one_of (x ∷ []) h l = refl
one_of (x ∷ y ∷ xs) h l = absurd (omega arith)

-- a part of a bag of at most one item has its head
pub single_head : (xs ys : List Plain) → Sub xs ys → 0 < length xs → length ys ≤ 1 → (get_or xs 0 null ≡ get_or ys 0 null) × (0 < length ys)
single_head xs ys s h l =
    let n = length_of_sub s in
    let a = one_of xs h (omega arith) in
    let b = one_of ys (omega arith) l in
    (head_in (get_or xs 0 null) (get_or ys 0 null) (subst (λ z. Sub z (get_or ys 0 null ∷ [])) a (subst (λ z. Sub xs z) b s)), omega arith)
  where
    head_in : (x y : Plain) → Sub (x ∷ []) (y ∷ []) → x ≡ y
    head_in x y s = elim (in_larger same_value value_law x [] (y ∷ []) s) [ inl e ↦ e | inr n ↦ absurd n ]

abbrev pub bag_at : Bags → List Port → ℕ → List Plain
bag_at B ps k = B (port_in ps k).from (port_in ps k).out

abbrev pub is_single : List Port → ℕ → Bool
is_single ps k = (port_in ps k).value

pub lacks : (B : Bags) (ps : List Port) (k : ℕ) → k < length ps → is_single ps k ≡ true → bag_at B ps k ≡ [] → is_lacking B ps ≡ true
lacks B [] k l s e = absurd (omega arith)
lacks B (p ∷ ps) zero l s e = rw (s, e) refl
lacks B (p ∷ ps) (suc k) l s e = let t = lacks B ps k (omega arith) s e in rw t (by p.value (length (B p.from p.out) == 0))
  where
    by : (a b : Bool) → cond a (cond b true true) true ≡ true
    by true true = refl
    by true false = refl
    by false b = refl

pub lacks_none : (B : Bags) (ps : List Port) → ((k : ℕ) → k < length ps → is_single ps k ≡ true → 0 < length (bag_at B ps k)) → is_lacking B ps ≡ false
lacks_none B [] h = refl
lacks_none B (p ∷ ps) h =
    let t = lacks_none B ps (λ k l s. h (suc k) (omega arith) s) in
    elim (cases_Bool p.value) [
      | inl s ↦ (let n = h 0 (omega arith) s in let z : (length (B p.from p.out) == 0) ≡ false = grind (arith, nat_tests) in rw (s, z, t) refl)
      | inr s ↦ rw (s, t) refl
    ]
