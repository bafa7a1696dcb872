-- Inputs as bags of pushes, and bags of values.
use Rattle.std.proofs.Common.{◌≡◌, ℕ, ◌+◌, ◌≤◌, List, [], ◌∷◌, Bool, true, false, ◌&&◌, refl, ap, sym, ◌∙◌, arith}
use Rattle.std.specs.Prelude.{◌==◌, sum_by}
use Rattle.std.specs.Ordering.{eq_by_cmp, is_eq}
use Rattle.std.proofs.lemmas.Cmp.{tied_itself}
use Rattle.std.proofs.lemmas.Bool.{true≢false}
use Rattle.std.proofs.lemmas.Bool.Decides.{nat_tests}
use Rattle.std.proofs.lemmas.Map.Views.{tells_apart}
use Rattle.nf_value.specs.Plain.{Plain}
use Rattle.nf_value.specs.Order.{value_cmp, value_cmp_total}
use Rattle.nf_value.specs.Identity.{value_cmp_exact}
use Rattle.nf_bag.specs.Bag.{IsSubBag, IsSameBag}
use Rattle.nf_opstream.specs.Push.{Push, is_same_push, IsWithin, IsSameInput}
use Rattle.nf_opstream.proofs.Tally.{passes, Sub, Same, tally_sub, tally_of_same, sum_is_tally, count_is_passes}
use Rattle.nf_opstream.proofs.Members.{In, IsEq, sub_from_counts, in_larger}

both : (a b : Bool) → a && b ≡ true → (a ≡ true) × (b ≡ true)
both true b h = (refl, h)
both false b h = absurd (true≢false (sym h))

pub is_same-itself : (x : Plain) → eq_by_cmp value_cmp x x ≡ true
is_same-itself x = ap is_eq (tied_itself value_cmp_total x)

pub same_from : (x y : Plain) → eq_by_cmp value_cmp x y ≡ true → x ≡ y
same_from = tells_apart value_cmp_exact

same_number : (a b : ℕ) → (a == b) ≡ true → a ≡ b
same_number a b h = grind (arith, nat_tests)

number_itself : (a : ℕ) → (a == a) ≡ true
number_itself a = grind (arith, nat_tests)

abbrev pub push_eq : Push → Push → Bool
push_eq x y = is_same_push y x

pub push_law : IsEq push_eq
push_law = record {
  same = λ x y h. (
      let a = both (y.port == x.port) _ h in
      let b = both (eq_by_cmp value_cmp y.item x.item) _ a.1 in
      let e = sym (same_number y.port x.port a.0) in
      let f = sym (same_from y.item x.item b.0) in
      let g = sym (same_from y.answer x.answer b.1) in
      λ i. record { port = e i; item = f i; answer = g i });
  self = λ x. rw (number_itself x.port, is_same-itself x.item, is_same-itself x.answer) refl;
}

pub within_sub : {p q : List Push} → IsWithin p q → Sub p q
within_sub {p} {q} w = sub_from_counts push_eq push_law p q (λ x. omega (arith, w.at x, count_is_passes (push_eq x) p, count_is_passes (push_eq x) q))

pub input_sub : {p q : List Push} → IsSameInput p q → Sub p q
input_sub {p} {q} w = within_sub (record { at = λ x. omega (arith, w.at x) })

pub input_same : {p q : List Push} → IsSameInput p q → Same p q
input_same {p} {q} w =
    let s = input_sub w in
    let t : Sub q p = within_sub (record { at = λ x. omega (arith, w.at x) }) in
    record { at = λ f. omega (arith, s.at f, t.at f) }

pub sum_within : (f : Push → ℕ) (p q : List Push) → IsWithin p q → sum_by f p ≤ sum_by f q
sum_within f p q w = omega (arith, sum_is_tally f p, sum_is_tally f q, tally_sub f (within_sub w))

pub sum_of_input : (f : Push → ℕ) (p q : List Push) → IsSameInput p q → sum_by f p ≡ sum_by f q
sum_of_input f p q w = sum_is_tally f p ∙ tally_of_same f (input_same w) ∙ sym (sum_is_tally f q)

pub in_input : (x : Push) (p q : List Push) → IsWithin (x ∷ p) q → In x q
in_input x p q w = in_larger push_eq push_law x p q (within_sub w)

pub input_itself : (p : List Push) → IsSameInput p p
input_itself p = record { at = λ x. refl }

pub sub_bag : {a b : List Plain} → Sub a b → IsSubBag a b
sub_bag {a} {b} s = record { at = λ v. (let t = λ (x : Plain). eq_by_cmp value_cmp x v in omega (arith, count_is_passes t a, count_is_passes t b, s.at t)) }

pub same_bag : {a b : List Plain} → Same a b → IsSameBag a b
same_bag {a} {b} s = record { at = λ v. (let t = λ (x : Plain). eq_by_cmp value_cmp x v in count_is_passes t a ∙ s.at t ∙ sym (count_is_passes t b)) }

pub none_of_same : {A : Type 0} (a b : List A) → Same a b → a ≡ [] → b ≡ []
none_of_same a [] s e = refl
none_of_same a (y ∷ b) s e = absurd (let k = s.at (λ _. true) in let m : 0 ≡ 1 + passes (λ _. true) b = sym (ap (passes (λ _. true)) e) ∙ k in omega arith)
