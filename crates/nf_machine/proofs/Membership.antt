-- Members of lists.
use Rattle.std.proofs.Common.{◌≡◌, ℕ, zero, suc, ◌<◌, List, [], ◌∷◌, ◌++◌, map, length, get_or, Bool, true, false, ◌&&◌, refl, ap, sym, arith, inl, inr}
use Rattle.std.specs.Prelude.{◌==◌}
use Rattle.std.specs.List.{Contains}
use Rattle.std.specs.Ordering.{eq_by_cmp}
use Rattle.std.proofs.lemmas.Bool.{true≢false}
use Rattle.std.proofs.lemmas.Bool.Decides.{nat_tests}
use Rattle.nf_value.specs.Plain.{Plain}
use Rattle.nf_value.specs.Order.{value_cmp}
use Rattle.nf_opstream.proofs.Members.{In, IsEq}
use Rattle.nf_opstream.proofs.Pushes.{is_same-itself, same_from}
use Rattle.nf_graph.specs.Meaning.{Instance, same_inputs}
use Rattle.nf_graph.proofs.Lists.{inputs_law}

pub in_left : {A : Type 0} (x : A) (xs ys : List A) → In x xs → In x (xs ++ ys)
in_left x [] ys h = absurd h
in_left x (z ∷ xs) ys h = elim h [ inl e ↦ inl e | inr k ↦ inr (in_left x xs ys k) ]

pub in_right : {A : Type 0} (x : A) (xs ys : List A) → In x ys → In x (xs ++ ys)
in_right x [] ys h = h
in_right x (z ∷ xs) ys h = inr (in_right x xs ys h)

pub in_map : {A B : Type 0} (f : A → B) (x : A) (xs : List A) → In x xs → In (f x) (map f xs)
in_map f x [] h = absurd h
in_map f x (z ∷ xs) h = elim h [ inl e ↦ inl (ap f e) | inr k ↦ inr (in_map f x xs k) ]

in_at : {A : Type 0} (x : A) (xs : List A) (k : ℕ) → k < length xs → get_or xs k x ≡ x → In x xs
in_at x [] k l e = absurd (omega arith)
in_at x (z ∷ xs) zero l e = inl (sym e)
in_at x (z ∷ xs) (suc k) l e = inr (in_at x xs k (omega arith) e)

pub in_of : {A : Type 0} (x : A) (xs : List A) → Contains xs x → In x xs
in_of x xs c = in_at x xs c.0 c.1 c.2

and_true : (a b : Bool) → (a && b) ≡ true → (a ≡ true) × (b ≡ true)
and_true true b h = (refl, h)
and_true false b h = absurd (true≢false (sym h))

-- equality of instances, and of items at ports
abbrev pub same_instance : Instance → Instance → Bool
same_instance y z = same_inputs y.0 z.0 && (y.1 == z.1)

pub instance_law : IsEq same_instance
instance_law = record {
  same = λ y z h. (let p = and_true (same_inputs y.0 z.0) (y.1 == z.1) h in let a = inputs_law.same y.0 z.0 p.0 in let b : y.1 ≡ z.1 = (let q = p.1 in grind (arith, nat_tests)) in λ i. (a i, b i));
  self = λ y. (let a = inputs_law.self y.0 in let b : (y.1 == y.1) ≡ true = grind (arith, nat_tests) in rw (a, b) refl);
}

abbrev pub same_item : (ℕ × Plain) → (ℕ × Plain) → Bool
same_item y z = (y.0 == z.0) && eq_by_cmp value_cmp y.1 z.1

pub item_law : IsEq same_item
item_law = record {
  same = λ y z h. (let p = and_true (y.0 == z.0) (eq_by_cmp value_cmp y.1 z.1) h in let b = same_from y.1 z.1 p.1 in let a : y.0 ≡ z.0 = (let q = p.0 in grind (arith, nat_tests)) in λ i. (a i, b i));
  self = λ y. (let a = is_same-itself y.1 in let b : (y.0 == y.0) ≡ true = grind (arith, nat_tests) in rw (b, a) refl);
}
