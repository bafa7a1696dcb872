-- Things among which one that meets a test can be searched for.
use Rattle.std.proofs.Common.{◌≡◌, ℕ, zero, suc, ◌<◌, ◌≤◌, ◌⊎◌, inl, inr, ⊎_elim, List, [], ◌∷◌, refl, sym, subst, arith}
use Rattle.std.proofs.Math.Decide.{dec_lt}

-- whether one of the things of which S holds meets a test, for any test that can be decided of each of them
pub record Search {X : Type 0} (S : X → Type 0) : Type 1 where
  pub search : (P : X → Type 0) → ((x : X) → S x → Dec (P x)) → Dec ((x : X) × S x × P x)

-- x is one of these
abbrev pub Among : {X : Type 0} → List X → X → Type 0
Among [] x = ⊥
Among (y ∷ ys) x = (x ≡ y) ⊎ Among ys x

-- S holds of each of these
abbrev pub Each : {X : Type 0} → (X → Type 0) → List X → Type 0
Each S [] = Unit {0}
Each S (y ∷ ys) = S y × Each S ys

-- no thing
pub searched_none : {X : Type 0} {S : X → Type 0} → ((x : X) → S x → ⊥) → Search S
searched_none h = record { search = λ P d. no (λ q. h q.0 q.1) }

-- the same things
pub searched_same : {X : Type 0} {A S : X → Type 0} → Search A → ((x : X) → A x → S x) → ((x : X) → S x → A x) → Search S
searched_same {X} {A} {S} f into back = record { search = search }
  where
    search : (P : X → Type 0) → ((x : X) → S x → Dec (P x)) → Dec ((x : X) × S x × P x)
    search P d = elim (f.search P (λ x a. d x (into x a))) [
      | yes q ↦ yes (q.0, into q.0 q.1, q.2)
      | no n ↦ no (λ q. n (q.0, back q.0 q.1, q.2))
    ]

-- a thing, and those of A
searched_more : {X : Type 0} {A : X → Type 0} (y : X) → Search A → Search (λ x. (x ≡ y) ⊎ A x)
searched_more {X} {A} y f = record { search = search }
  where
    rest : (P : X → Type 0) → (P y → ⊥) → Dec ((x : X) × A x × P x) → Dec ((x : X) × ((x ≡ y) ⊎ A x) × P x)
    rest P m (yes q) = yes (q.0, inr q.1, q.2)
    rest P m (no n) = no (λ q. ⊎_elim (λ e. m (subst P e q.2)) (λ a. n (q.0, a, q.2)) q.1)

    search : (P : X → Type 0) → ((x : X) → (x ≡ y) ⊎ A x → Dec (P x)) → Dec ((x : X) × ((x ≡ y) ⊎ A x) × P x)
    search P d = elim (d y (inl refl)) [
      | yes p ↦ yes (y, inl refl, p)
      | no m ↦ rest P m (f.search P (λ x a. d x (inr a)))
    ]

pub searched_among : {X : Type 0} (xs : List X) → Search (Among xs)
searched_among [] = searched_none (λ x e. e)
searched_among (y ∷ ys) = searched_more y (searched_among ys)

each_among : {X : Type 0} (S : X → Type 0) (xs : List X) → Each S xs → (x : X) → Among xs x → S x
each_among S [] e x a = absurd a
each_among S (y ∷ ys) e x a = ⊎_elim (λ i. subst S (sym i) e.0) (each_among S ys e.1 x) a

-- things of which there is a list
pub searched_list : {X : Type 0} {S : X → Type 0} (xs : List X) → Each S xs → ((x : X) → S x → Among xs x) → Search S
searched_list {S = S} xs e all = searched_same (searched_among xs) (each_among S xs e) all

-- the things of A and of B
pub searched_both : {X : Type 0} {A B S : X → Type 0} → Search A → Search B → ((x : X) → A x → S x) → ((x : X) → B x → S x) → ((x : X) → S x → A x ⊎ B x) → Search S
searched_both {X} {A} {B} {S} f g left right split = record { search = search }
  where
    second : (P : X → Type 0) → (((x : X) × A x × P x) → ⊥) → Dec ((x : X) × B x × P x) → Dec ((x : X) × S x × P x)
    second P n (yes q) = yes (q.0, right q.0 q.1, q.2)
    second P n (no m) = no (λ q. ⊎_elim (λ a. n (q.0, a, q.2)) (λ b. m (q.0, b, q.2)) (split q.0 q.1))

    search : (P : X → Type 0) → ((x : X) → S x → Dec (P x)) → Dec ((x : X) × S x × P x)
    search P d = elim (f.search P (λ x a. d x (left x a))) [
      | yes q ↦ yes (q.0, left q.0 q.1, q.2)
      | no n ↦ second P n (g.search P (λ x b. d x (right x b)))
    ]

-- what follows from each thing of A
pub searched_next : {X Y : Type 0} {A : Y → Type 0} {B : Y → X → Type 0} {S : X → Type 0} → Search A → ((y : Y) → A y → Search (B y)) → ((y : Y) (x : X) → A y → B y x → S x) → ((x : X) → S x → (y : Y) × A y × B y x) → Search S
searched_next {X} {Y} {A} {B} {S} f g join split = record { search = search }
  where
    search : (P : X → Type 0) → ((x : X) → S x → Dec (P x)) → Dec ((x : X) × S x × P x)
    search P d = elim (f.search (λ y. (x : X) × B y x × P x) (λ y a. (g y a).search P (λ x b. d x (join y x a b)))) [
      | yes q ↦ yes (q.2.0, join q.0 q.2.0 q.1 q.2.1, q.2.2)
      | no n ↦ no (λ q. (let s = split q.0 q.1 in n (s.0, s.1, (q.0, s.2, q.2))))
    ]

-- a thing of the least size
pub record Least {X : Type 0} (S : X → Type 0) (size : X → ℕ) : Type 0 where
  pub it : X
  pub holds : S it
  pub least : (x : X) → S x → size it ≤ size x

pub least_from : {X : Type 0} {S : X → Type 0} → Search S → (size : X → ℕ) (n : ℕ) (x : X) → S x → size x ≤ n → Least S size
least_from f size zero x s le = record { it = x; holds = s; least = λ y t. omega (arith, le) }
least_from {X} {S} f size (suc n) x s le = elim (f.search (λ y. size y < size x) (λ y t. dec_lt (size y) (size x))) [
  | yes q ↦ least_from f size n q.0 q.1 (omega (arith, q.2, le))
  | no n ↦ record { it = x; holds = s; least = λ y t. (let h : (size y < size x) → ⊥ = λ l. n (y, t, l) in omega (arith, h)) }
]
