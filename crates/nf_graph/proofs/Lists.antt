-- Functions and lists of inputs.
use Rattle.std.proofs.Common.{◌≡◌, ℕ, suc, ◌+◌, ◌<◌, List, [], ◌∷◌, length, true, false, refl, sym, subst, arith, inl, inr}
use Rattle.std.specs.Prelude.{◌==◌}
use Rattle.std.specs.Ordering.{eq_by_cmp}
use Rattle.std.specs.Cmp.Lexicographic.{pointwise_decides}
use Rattle.std.proofs.lemmas.Bool.{cases_eq, cases_Bool}
use Rattle.std.proofs.lemmas.Bool.Decides.{nat_tests}
use Rattle.nf_value.specs.Plain.{Plain}
use Rattle.nf_value.specs.Order.{value_cmp}
use Rattle.nf_operator.proofs.Members.{IsEq}
use Rattle.nf_operator.proofs.Pushes.{is_same-itself, same_from}
use Rattle.nf_graph.specs.declared.port.Port.{Port}
use Rattle.nf_graph.specs.Node.{port_in}
use Rattle.nf_graph.specs.Meaning.{put, filled, same_inputs}

pub put_same : {A : Type 0} (f : ℕ → A) (i : ℕ) (x : A) → put f i x i ≡ x
put_same f i x = let e : (i == i) ≡ true = grind (arith, nat_tests) in rw e refl

pub put_other : {A : Type 0} (f : ℕ → A) (i : ℕ) (x : A) (j : ℕ) → (j ≡ i → ⊥) → put f i x j ≡ f j
put_other f i x j h = let e : (j == i) ≡ false = grind (arith, nat_tests) in rw e refl

-- a fact of each value, after a put
pub put_all : {A : Type 0} (P : ℕ → A → Type 0) (f : ℕ → A) (i : ℕ) (x : A) → P i x → ((j : ℕ) → (j ≡ i → ⊥) → P j (f j)) → (j : ℕ) → P j (put f i x j)
put_all P f i x here there j = elim (cases_eq j i) [
  | inl e ↦ subst (λ m. P m (put f i x m)) (sym e) (subst (P i) (sym (put_same f i x)) here)
  | inr h ↦ subst (P j) (sym (put_other f i x j h)) (there j h)
]

pub filled_same : (k : ℕ) (ps : List Port) (f h : ℕ → Plain) (x : Plain) → ((j : ℕ) → j < length ps → (port_in ps j).value ≡ true → f (k + j) ≡ h (k + j)) → filled k ps f x ≡ filled k ps h x
filled_same k [] f h x e = refl
filled_same k (p ∷ ps) f h x e =
    let tail : filled (suc k) ps f x ≡ filled (suc k) ps h x = filled_same (suc k) ps f h x (λ j l s. let i : suc k + j ≡ k + suc j = omega arith in rw i (e (suc j) (omega arith) s)) in
    elim (cases_Bool p.value) [
      | inl t ↦ (let i : k + 0 ≡ k = omega arith in let a : f k ≡ h k = subst (λ m. f m ≡ h m) i (e 0 (omega arith) t) in rw (t, a, tail) refl)
      | inr n ↦ rw (n, tail) refl
    ]

pub inputs_law : IsEq same_inputs
inputs_law = record { same = λ xs ys h. (decides xs ys).0 h; self = λ xs. (decides xs xs).1 refl }
  where
    decides : (xs ys : List Plain) → (same_inputs xs ys ≡ true → xs ≡ ys) × (xs ≡ ys → same_inputs xs ys ≡ true)
    decides = pointwise_decides (λ x y. (same_from x y, λ e. subst (λ z. eq_by_cmp value_cmp x z ≡ true) e (is_same-itself x)))
