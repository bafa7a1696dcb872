-- Members of lists.
use Rattle.std.proofs.Common.{◌≡◌, ℕ, suc, ◌≤◌, List, [], ◌∷◌, ◌++◌, Bool, true, false, cond, ◌&&◌, refl, ap, sym, ◌∙◌, subst, arith, ◌⊎◌, inl, inr}
use Rattle.std.specs.Prelude.{◌==◌}
use Rattle.std.specs.List.{Contains, flat_map}
use Rattle.std.specs.Ordering.{eq_by_cmp, is_eq}
use Rattle.std.proofs.lemmas.Bool.{cases_Bool, true≢false}
use Rattle.std.proofs.lemmas.Bool.Decides.{nat_tests}
use Rattle.std.proofs.lemmas.Cmp.{tied_itself}
use Rattle.std.proofs.lemmas.List.Sums.{sum_by-cons}
use Rattle.std.proofs.lemmas.Map.Views.{tells_apart}
use Rattle.nf_value.specs.Plain.{Plain}
use Rattle.nf_value.specs.Order.{value_cmp, value_cmp_total}
use Rattle.nf_value.specs.Identity.{value_cmp_exact}
use Rattle.nf_opstream.specs.Push.{Push, is_same_push, times, IsWithin}

abbrev pub In : {A : Type 0} → A → List A → Type 0
In x [] = ⊥
In x (y ∷ ys) = (x ≡ y) ⊎ In x ys

pub contains : {A : Type 0} (x : A) (xs : List A) → In x xs → Contains xs x
contains x [] h = absurd h
contains x (y ∷ ys) h = elim h [
  | inl e ↦ (0, omega arith, sym e)
  | inr k ↦ (let c = contains x ys k in (suc c.0, omega (arith, c.1), c.2))
]

pub in_left : {A : Type 0} (x : A) (xs ys : List A) → In x xs → In x (xs ++ ys)
in_left x [] ys h = absurd h
in_left x (z ∷ xs) ys h = elim h [ inl e ↦ inl e | inr k ↦ inr (in_left x xs ys k) ]

pub in_right : {A : Type 0} (x : A) (xs ys : List A) → In x ys → In x (xs ++ ys)
in_right x [] ys h = h
in_right x (z ∷ xs) ys h = inr (in_right x xs ys h)

pub in_flat_map : {A B : Type 0} (g : A → List B) (x : A) (f : B) (q : List A) → In x q → In f (g x) → In f (flat_map g q)
in_flat_map g x f [] h k = absurd h
in_flat_map g x f (y ∷ q) h k = elim h [
  | inl e ↦ in_left f (g y) (flat_map g q) (subst (λ z. In f (g z)) e k)
  | inr m ↦ in_right f (g y) (flat_map g q) (in_flat_map g x f q m k)
]

both : (a b : Bool) → a && b ≡ true → (a ≡ true) × (b ≡ true)
both true b h = (refl, h)
both false b h = absurd (true≢false (sym h))

same_number : (a b : ℕ) → (a == b) ≡ true → a ≡ b
same_number a b h = grind (arith, nat_tests)

number_itself : (a : ℕ) → (a == a) ≡ true
number_itself a = grind (arith, nat_tests)

pub same_value : (x y : Plain) → eq_by_cmp value_cmp x y ≡ true → x ≡ y
same_value = tells_apart value_cmp_exact

pub value_itself : (x : Plain) → eq_by_cmp value_cmp x x ≡ true
value_itself x = ap is_eq (tied_itself value_cmp_total x)

same_push : (x y : Push) → is_same_push y x ≡ true → x ≡ y
same_push x y h =
    let a = both (y.port == x.port) _ h in
    let b = both (eq_by_cmp value_cmp y.item x.item) _ a.1 in
    let e = sym (same_number y.port x.port a.0) in
    let f = sym (same_value y.item x.item b.0) in
    let g = sym (same_value y.answer x.answer b.1) in
    (λ i. record { port = e i; item = f i; answer = g i })

push_itself : (x : Push) → is_same_push x x ≡ true
push_itself x = rw (number_itself x.port, value_itself x.item, value_itself x.answer) refl

abbrev one_if : Bool → ℕ
one_if b = cond b 1 0

in_times : (x : Push) (q : List Push) → 1 ≤ times x q → In x q
in_times x [] h = absurd (omega arith)
in_times x (y ∷ q) h = elim (cases_Bool (is_same_push y x)) [
  | inl e ↦ inl (same_push x y e)
  | inr e ↦ inr (in_times x q (let k : one_if (is_same_push y x) ≡ 0 = ap one_if e in omega (arith, sum_by-cons (λ z. one_if (is_same_push z x)) y q)))
]

times_of : (x : Push) (p : List Push) → In x p → 1 ≤ times x p
times_of x [] h = absurd h
times_of x (y ∷ p) h = elim h [
  | inl e ↦ (let k : one_if (is_same_push y x) ≡ 1 = ap (λ z. one_if (is_same_push z x)) (sym e) ∙ ap one_if (push_itself x) in omega (arith, sum_by-cons (λ z. one_if (is_same_push z x)) y p))
  | inr m ↦ omega (arith, times_of x p m, sum_by-cons (λ z. one_if (is_same_push z x)) y p)
]

-- a push is a member of each input that contains the pushes
pub in_input : (x : Push) (p q : List Push) → IsWithin p q → In x p → In x q
in_input x p q w h = in_times x q (omega (arith, w.at x, times_of x p h))
