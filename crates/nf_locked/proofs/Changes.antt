-- One lane's list loses or gains a ticket.
use Rattle.std.proofs.Common.{◌≡◌, ℕ, zero, suc, ◌+◌, ◌<◌, List, [], ◌∷◌, ◌++◌, refl, ap, sym, ◌∙◌, subst, arith, map, set, get_or, length}
use Rattle.std.specs.Prelude.{◌==◌}
use Rattle.std.proofs.lemmas.List.{length-map, length-set}
use Rattle.std.specs.List.{AllByRecursion, remove}
use Rattle.nf_opstream.proofs.Tally.{one_if, count_is_passes, tally-append}
use Rattle.nf_flight.specs.declared.ticket.Ticket.{Ticket}
use Rattle.nf_flight.specs.Ticket.{number_of}
use Rattle.nf_locked.specs.Leaves.{IsWithout}
use Rattle.nf_locked.specs.Out.{tally}
use Rattle.nf_locked.proofs.Returns.{Gains, Loses}

-- P of a list is P of its parts
all_parts : (P : Ticket → Type 0) (xs : List Ticket) (t : Ticket) (ys : List Ticket) → AllByRecursion P (xs ++ t ∷ ys) → P t × AllByRecursion P (xs ++ ys)
all_parts P [] t ys h = h
all_parts P (x ∷ xs) t ys h = let r = all_parts P xs t ys h.1 in (r.0, (h.0, r.1))

all_more : (P : Ticket → Type 0) (xs : List Ticket) (t : Ticket) → AllByRecursion P xs → P t → AllByRecursion P (xs ++ t ∷ [])
all_more P [] t h p = (p, tt)
all_more P (x ∷ xs) t h p = (h.0, all_more P xs t h.1 p)

tally_parts : (m : ℕ) (xs : List Ticket) (t : Ticket) (ys : List Ticket) → tally m (xs ++ ys) + one_if (number_of t == m) ≡ tally m (xs ++ t ∷ ys)
tally_parts m xs t ys =
    let a = count_is_passes (λ u. number_of u == m) (xs ++ ys) in
    let b = count_is_passes (λ u. number_of u == m) (xs ++ t ∷ ys) in
    let c = tally-append (λ u. one_if (number_of u == m)) xs ys in
    let d = tally-append (λ u. one_if (number_of u == m)) xs (t ∷ ys) in
    omega (arith, a, b, c, d)

-- the lists of some values, of which one changes: the lane's list is without the ticket then
pub loses : {V : Type 0} (f : V → List Ticket) (vs : List V) (i : ℕ) (v d : V) (t : Ticket) → i < length vs → IsWithout t (f (get_or vs i d)) (f v) → Loses t (map f vs) (map f (set vs i v))
loses f [] i v d t h w = absurd (omega (arith, h))
loses f (x ∷ vs) zero v d t h w = record {
  each = λ P all. (
      let r = all_parts P w.front t w.back (subst (AllByRecursion P) w.before all.0) in
      (r.0, (subst (AllByRecursion P) (sym w.after) r.1, all.1)));
  same = λ m. (
      let a : tally m (f v) ≡ tally m (w.front ++ w.back) = ap (tally m) w.after in
      let b : tally m (f x) ≡ tally m (w.front ++ t ∷ w.back) = ap (tally m) w.before in
      let c = tally_parts m w.front t w.back in
      omega (arith, a, b, c));
}
loses f (x ∷ vs) (suc i) v d t h w =
    let r = loses f vs i v d t (omega (arith, h)) w in record {
      each = λ P all. (let q = r.each P all.1 in (q.0, (all.0, q.1)));
      same = λ m. (let q = r.same m in omega (arith, q));
    }

-- the same, with a ticket more
pub gains : {V : Type 0} (f : V → List Ticket) (vs : List V) (i : ℕ) (v d : V) (t : Ticket) → i < length vs → f v ≡ f (get_or vs i d) ++ t ∷ [] → Gains t (map f vs) (map f (set vs i v))
gains f [] i v d t h w = absurd (omega (arith, h))
gains f (x ∷ vs) zero v d t h w = record {
  each = λ P all p. (subst (AllByRecursion P) (sym w) (all_more P (f x) t all.0 p), all.1);
  same = λ m. (
      let a : tally m (f v) ≡ tally m (f x ++ t ∷ []) = ap (tally m) w in
      let b = count_is_passes (λ u. number_of u == m) (f x ++ t ∷ []) in
      let c = tally-append (λ u. one_if (number_of u == m)) (f x) (t ∷ []) in
      let e = count_is_passes (λ u. number_of u == m) (f x) in
      omega (arith, a, b, c, e));
}
gains f (x ∷ vs) (suc i) v d t h w =
    let r = gains f vs i v d t (omega (arith, h)) w in record {
      each = λ P all p. (all.0, r.each P all.1 p);
      same = λ m. (let q = r.same m in omega (arith, q));
    }

-- the same, where the list had changed at that place before
pub regains : {V : Type 0} (f : V → List Ticket) (vs : List V) (i : ℕ) (v w : V) (t : Ticket) → i < length vs → f w ≡ f v ++ t ∷ [] → Gains t (map f (set vs i v)) (map f (set vs i w))
regains f [] i v w t h is = absurd (omega (arith, h))
regains f (x ∷ vs) zero v w t h is = record {
  each = λ P all p. (subst (AllByRecursion P) (sym is) (all_more P (f v) t all.0 p), all.1);
  same = λ m. (
      let a : tally m (f w) ≡ tally m (f v ++ t ∷ []) = ap (tally m) is in
      let b = count_is_passes (λ u. number_of u == m) (f v ++ t ∷ []) in
      let c = tally-append (λ u. one_if (number_of u == m)) (f v) (t ∷ []) in
      let e = count_is_passes (λ u. number_of u == m) (f v) in
      omega (arith, a, b, c, e));
}
regains f (x ∷ vs) (suc i) v w t h is =
    let r = regains f vs i v w t (omega (arith, h)) is in record {
      each = λ P all p. (all.0, r.each P all.1 p);
      same = λ m. (let q = r.same m in omega (arith, q));
    }

-- a list that stays as it was
pub stays_at : {V : Type 0} (f : V → List Ticket) (vs : List V) (i : ℕ) (v d : V) → i < length vs → f v ≡ f (get_or vs i d) → map f (set vs i v) ≡ map f vs
stays_at f [] i v d h is = absurd (omega (arith, h))
stays_at f (x ∷ vs) zero v d h is = ap (λ ts. ts ∷ map f vs) is
stays_at f (x ∷ vs) (suc i) v d h is = ap (λ tss. f x ∷ tss) (stays_at f vs i v d (omega (arith, h)) is)

pub length_at : {V : Type 0} (f : V → List Ticket) (vs : List V) (i : ℕ) (v : V) → length (map f (set vs i v)) ≡ length (map f vs)
length_at f vs i v = length-map (set vs i v) f ∙ (length-set vs i v ∙ sym (length-map vs f))

-- a list without the ticket at one place
pub without_at : (xs : List Ticket) (i : ℕ) (d : Ticket) → i < length xs → IsWithout (get_or xs i d) xs (remove xs i)
without_at [] i d h = absurd (omega (arith, h))
without_at (x ∷ xs) zero d h = record { front = []; back = xs; before = refl; after = refl }
without_at (x ∷ xs) (suc i) d h =
    let r = without_at xs i d (omega (arith, h)) in
    record { front = x ∷ r.front; back = r.back; before = ap (λ ys. x ∷ ys) r.before; after = ap (λ ys. x ∷ ys) r.after }

pub without_from : (xs ys : List Ticket) (i : ℕ) (t : Ticket) → i < length xs → t ≡ get_or xs i t → ys ≡ remove xs i → IsWithout t xs ys
without_from xs ys i t h is left = subst (λ u. IsWithout u xs ys) (sym is) (subst (IsWithout (get_or xs i t) xs) (sym left) (without_at xs i t h))
