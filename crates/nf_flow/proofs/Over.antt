-- When all nodes of a run are closed.
use Rattle.std.proofs.Common.{◌≡◌, ℕ, zero, suc, ◌+◌, ◌<◌, ◌≤◌, cond, true, false, refl, ap, sym, ◌∙◌, subst, arith, inl, inr}
use Rattle.std.specs.Prelude.{◌==◌}
use Rattle.std.proofs.lemmas.Bool.{cases_Bool, cases_eq}
use Rattle.std.proofs.lemmas.Bool.Decides.{nat_tests}
use Rattle.nf_graph.specs.Meaning.{put}
use Rattle.nf_graph.proofs.Lists.{put_same, put_other}
use Rattle.nf_machine.specs.State.{Spot}
use Rattle.nf_machine.specs.History.{closed_to}
use Rattle.nf_nodes.specs.Steps.{open_to}

pub none_open : (spots : ℕ → Spot) (n : ℕ) → (open_to spots n == 0) ≡ closed_to spots n
none_open spots zero = refl
none_open spots (suc i) = elim (cases_Bool (spots i).closed) [
  | inl t ↦ rw t (let z : 0 + open_to spots i ≡ open_to spots i = omega arith in ap (λ m. m == 0) z ∙ none_open spots i)
  | inr f ↦ rw f (more (open_to spots i))
]
  where
    more : (m : ℕ) → (1 + m == 0) ≡ false
    more m = grind (arith, nat_tests)

-- a node closes
pub one_closes : (spots : ℕ → Spot) (i : ℕ) (sp : Spot) (n : ℕ) → (spots i).closed ≡ false → sp.closed ≡ true
    → (i < n → open_to (put spots i sp) n + 1 ≡ open_to spots n) × (n ≤ i → open_to (put spots i sp) n ≡ open_to spots n)
one_closes spots i sp zero o c = ((λ l. absurd (omega arith)), (λ l. refl))
one_closes spots i sp (suc j) o c =
    let ih = one_closes spots i sp j o c in
    elim (cases_eq j i) [
      | inl e ↦ (
        (λ l. (let a = ih.1 (omega arith) in
            let b : ◌≡◌ {A = ℕ} (cond (put spots i sp j).closed 0 1) 0 = subst (λ m. ◌≡◌ {A = ℕ} (cond (put spots i sp m).closed 0 1) 0) (sym e) (ap (λ (z : Spot). cond {A = ℕ} z.closed 0 1) (put_same spots i sp) ∙ ap (λ z. cond {A = ℕ} z 0 1) c) in
            let d : ◌≡◌ {A = ℕ} (cond (spots j).closed 0 1) 1 = subst (λ m. ◌≡◌ {A = ℕ} (cond (spots m).closed 0 1) 1) (sym e) (ap (λ z. cond {A = ℕ} z 0 1) o) in omega (arith, a, b, d))),
        (λ l. absurd (omega arith)),
      )
      | inr n ↦ (let b : ◌≡◌ {A = ℕ} (cond (put spots i sp j).closed 0 1) (cond (spots j).closed 0 1) = ap (λ (z : Spot). cond {A = ℕ} z.closed 0 1) (put_other spots i sp j n) in
          ((λ l. (let m : i < j = less j l n in let a = ih.0 m in omega (arith, a, b))), (λ l. (let a = ih.1 (omega arith) in omega (arith, a, b)))))
    ]
  where
    less : (j : ℕ) → i < suc j → (j ≡ i → ⊥) → i < j
    less j l n = grind arith

-- a node changes, and is open as before
pub same_open : (spots : ℕ → Spot) (i : ℕ) (sp : Spot) (n : ℕ) → sp.closed ≡ (spots i).closed → open_to (put spots i sp) n ≡ open_to spots n
same_open spots i sp zero e = refl
same_open spots i sp (suc j) e =
    let ih = same_open spots i sp j e in
    let here : (put spots i sp j).closed ≡ (spots j).closed = elim (cases_eq j i) [
      | inl t ↦ subst (λ m. (put spots i sp m).closed ≡ (spots m).closed) (sym t) (ap (λ (z : Spot). z.closed) (put_same spots i sp) ∙ e)
      | inr f ↦ ap (λ (z : Spot). z.closed) (put_other spots i sp j f)
    ] in
    let a : ◌≡◌ {A = ℕ} (cond (put spots i sp j).closed 0 1) (cond (spots j).closed 0 1) = ap (λ z. cond {A = ℕ} z 0 1) here in omega (arith, a, ih)
