-- Counts and sums over bags.
use Rattle.std.proofs.Common.{◌≡◌, ℕ, ◌+◌, ◌<◌, ◌≤◌, List, [], ◌∷◌, ◌++◌, length, Bool, true, false, cond, not, refl, ap, sym, ◌∙◌, ⊎_elim, arith}
use Rattle.std.specs.Prelude.{sum_by}
use Rattle.std.specs.Ordering.{eq_by_cmp, is_eq}
use Rattle.std.proofs.lemmas.Bool.{cases_Bool}
use Rattle.std.proofs.lemmas.Cmp.{tied_itself}
use Rattle.std.proofs.lemmas.List.Sums.{sum_by-cons, sum_by-append}
use Rattle.std.proofs.lemmas.Map.Views.{tells_apart}
use Rattle.nf_value.specs.Plain.{Plain}
use Rattle.nf_value.specs.Order.{value_cmp, value_cmp_total}
use Rattle.nf_value.specs.Identity.{value_cmp_exact}
use Rattle.nf_bag.specs.Bag.{count, IsSubBag, IsSameBag}

abbrev pub is_same : Plain → Plain → Bool
is_same = eq_by_cmp value_cmp

abbrev pub one_if : Bool → ℕ
one_if b = cond b 1 0

pub is_same-itself : (x : Plain) → is_same x x ≡ true
is_same-itself x = ap is_eq (tied_itself value_cmp_total x)

pub same_from : (x y : Plain) → is_same x y ≡ true → x ≡ y
same_from = tells_apart value_cmp_exact

pub count-cons : (v x : Plain) (xs : List Plain) → count v (x ∷ xs) ≡ one_if (is_same x v) + count v xs
count-cons v x xs = sum_by-cons (λ y. one_if (is_same y v)) x xs

pub count_append : (v : Plain) (xs ys : List Plain) → count v (xs ++ ys) ≡ count v xs + count v ys
count_append v xs ys = sum_by-append (λ y. one_if (is_same y v)) xs ys

pub count_itself : (x : Plain) (xs : List Plain) → 0 < count x (x ∷ xs)
count_itself x xs = let e : one_if (is_same x x) ≡ 1 = ap one_if (is_same-itself x) in omega (arith, count-cons x x xs, e)

-- the list without the first x
abbrev without : Plain → List Plain → List Plain
without x [] = []
without x (y ∷ ys) = cond (is_same y x) ys (y ∷ without x ys)

pub sum_by-without : (f : Plain → ℕ) (x : Plain) (xs : List Plain) → 0 < count x xs → sum_by f xs ≡ f x + sum_by f (without x xs)
sum_by-without f x [] h = absurd (omega arith)
sum_by-without f x (y ∷ ys) h =
    ⊎_elim
    (λ e. let same : y ≡ x = same_from y x e in let gone : without x (y ∷ ys) ≡ ys = ap (λ b. cond b ys (y ∷ without x ys)) e in omega (arith, sum_by-cons f y ys, ap f same, ap (sum_by f) gone))
    (λ e.
    let kept : without x (y ∷ ys) ≡ y ∷ without x ys = ap (λ b. cond b ys (y ∷ without x ys)) e in
    let none : one_if (is_same y x) ≡ 0 = ap one_if e in
    let some : 0 < count x ys = omega (arith, count-cons x y ys, none) in
    omega (arith, sum_by-cons f y ys, ap (sum_by f) kept, sum_by-cons f y (without x ys), sum_by-without f x ys some))
    (cases_Bool (is_same y x))

pub sub_sum : (f : Plain → ℕ) (a b : List Plain) → IsSubBag a b → sum_by f a ≤ sum_by f b
sub_sum f [] b h = omega arith
sub_sum f (x ∷ a) b h =
    let some : 0 < count x b = omega (arith, count_itself x a, h.at x) in
    let rest : IsSubBag a (without x b) = record { at = λ v. omega (arith, h.at v, count-cons v x a, sum_by-without (λ y. one_if (is_same y v)) x b some) } in
    omega (arith, sum_by-cons f x a, sum_by-without f x b some, sub_sum f a (without x b) rest)

pub sub_from_same : (a b : List Plain) → IsSameBag a b → IsSubBag a b
sub_from_same a b h = record { at = λ v. omega (arith, h.at v) }

pub same-sym : (a b : List Plain) → IsSameBag a b → IsSameBag b a
same-sym a b h = record { at = λ v. sym (h.at v) }

pub same-trans : (a b c : List Plain) → IsSameBag a b → IsSameBag b c → IsSameBag a c
same-trans a b c h k = record { at = λ v. h.at v ∙ k.at v }

pub same_sum : (f : Plain → ℕ) (a b : List Plain) → IsSameBag a b → sum_by f a ≡ sum_by f b
same_sum f a b h = omega (arith, sub_sum f a b (sub_from_same a b h), sub_sum f b a (sub_from_same b a (same-sym a b h)))

length_is : (xs : List Plain) → sum_by (λ _. 1) xs ≡ length xs
length_is [] = refl
length_is (x ∷ xs) = omega (arith, sum_by-cons (λ _. 1) x xs, length_is xs)

pub sub_length : (a b : List Plain) → IsSubBag a b → length a ≤ length b
sub_length a b h = omega (arith, length_is a, length_is b, sub_sum (λ _. 1) a b h)

pub same_length : (a b : List Plain) → IsSameBag a b → length a ≡ length b
same_length a b h = omega (arith, length_is a, length_is b, same_sum (λ _. 1) a b h)

pub sub_of_none : (a : List Plain) → IsSubBag a [] → a ≡ []
sub_of_none [] h = refl
sub_of_none (x ∷ a) h = absurd (omega (arith, sub_length (x ∷ a) [] h))

pub same_cancel : (c a b : List Plain) → IsSameBag (c ++ a) (c ++ b) → IsSameBag a b
same_cancel c a b h = record { at = λ v. omega (arith, count_append v c a, count_append v c b, h.at v) }

pub sub_cancel : (c a b : List Plain) → IsSubBag (c ++ a) (c ++ b) → IsSubBag a b
sub_cancel c a b h = record { at = λ v. omega (arith, count_append v c a, count_append v c b, h.at v) }

pub sub_append : (a b c d : List Plain) → IsSubBag a b → IsSubBag c d → IsSubBag (a ++ c) (b ++ d)
sub_append a b c d h k = record { at = λ v. omega (arith, count_append v a c, count_append v b d, h.at v, k.at v) }

pub same_append : (a b c d : List Plain) → IsSameBag a b → IsSameBag c d → IsSameBag (a ++ c) (b ++ d)
same_append a b c d h k = record { at = λ v. omega (arith, count_append v a c, count_append v b d, h.at v, k.at v) }

pub same_swap : (a b : List Plain) → IsSameBag (a ++ b) (b ++ a)
same_swap a b = record { at = λ v. omega (arith, count_append v a b, count_append v b a) }

pub sub_trans : (a b c : List Plain) → IsSubBag a b → IsSubBag b c → IsSubBag a c
sub_trans a b c h k = record { at = λ v. omega (arith, h.at v, k.at v) }

pub same_from_both : (a b : List Plain) → IsSubBag a b → IsSubBag b a → IsSameBag a b
same_from_both a b h k = record { at = λ v. omega (arith, h.at v, k.at v) }

-- the other values
others : Plain → List Plain → ℕ
others v xs = sum_by (λ y. one_if (not (is_same y v))) xs

one_or_other : (b : Bool) → one_if b + one_if (not b) ≡ 1
one_or_other true = refl
one_or_other false = refl

count_and_others : (v : Plain) (xs : List Plain) → count v xs + others v xs ≡ length xs
unfolding others
count_and_others v [] = refl
count_and_others v (x ∷ xs) =
    omega (arith, count-cons v x xs, sum_by-cons (λ y. one_if (not (is_same y v))) x xs, one_or_other (is_same x v), count_and_others v xs)

sub_others : (v : Plain) (a b : List Plain) → IsSubBag a b → others v a ≤ others v b
unfolding others
sub_others v a b h = sub_sum (λ y. one_if (not (is_same y v))) a b h

pub same_from_length : (a b : List Plain) → IsSubBag a b → length a ≡ length b → IsSameBag a b
same_from_length a b h e = record { at = λ v. omega (arith, h.at v, sub_others v a b h, count_and_others v a, count_and_others v b, e) }
