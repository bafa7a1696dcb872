-- How the counts of a process grow.
use Rattle.std.proofs.Common.{◌≡◌, ℕ, ◌+◌, ◌<◌, List, [], ◌∷◌, length, cond, refl, ap, sym, ◌∙◌, subst, arith, inl, inr}
use Rattle.std.specs.Prelude.{Some, unwrap_or, count_by, ◌&&◌}
use Rattle.std.specs.declared.cmp.Ordering.{Ordering}
use Rattle.std.specs.declared.cmp.Ordering.TheVariants.{Less, Equal, Greater}
use Rattle.std.specs.Ordering.{is_eq, ordering_then}
use Rattle.std.specs.BTreeMap.{BTreeMap, get, is_at, Updates}
use Rattle.std.proofs.lemmas.Bool.{cases_Bool}
use Rattle.std.proofs.lemmas.List.Sums.{sum_by-cons, count_by-le-length}
use Rattle.nf_value.specs.Plain.{Plain, plains_of}
use Rattle.nf_value.specs.Order.{value_cmp, items_cmp}
use Rattle.nf_value.specs.declared.value.Value.{Value}
use Rattle.nf_value.specs.declared.value.Value.TheVariants as v
use Rattle.nf_opstream.proofs.Tally.{one_if}
use Rattle.nf_graph.specs.Meaning.{same_inputs}
use Rattle.nf_graph.proofs.Lists.{inputs_law}
use Rattle.nf_spot.specs.Counts.{by_order}

both_equal : (o p : Ordering) → is_eq (ordering_then o p) ≡ (is_eq o && is_eq p)
both_equal Less p = refl
both_equal Equal p = refl
both_equal Greater p = refl

-- lists of inputs are equal keys exactly if they are the same inputs
same_key : (xs ys : List Plain) → is_eq (items_cmp (plains_of xs) (plains_of ys)) ≡ same_inputs xs ys
same_key [] [] = refl
same_key [] (y ∷ ys) = refl
same_key (x ∷ xs) [] = refl
same_key (x ∷ xs) (y ∷ ys) = both_equal (value_cmp x y) (items_cmp (plains_of xs) (plains_of ys)) ∙ ap (λ b. is_eq (value_cmp x y) && b) (same_key xs ys)

same_both : (xs ys : List Plain) → same_inputs xs ys ≡ same_inputs ys xs
same_both xs ys = elim (cases_Bool (same_inputs xs ys)) [
  | inl t ↦ subst (λ z. same_inputs xs z ≡ same_inputs z xs) (inputs_law.same xs ys t) refl
  | inr n ↦ elim (cases_Bool (same_inputs ys xs)) [
    | inl t ↦ subst (λ z. same_inputs z ys ≡ same_inputs ys z) (inputs_law.same ys xs t) refl
    | inr m ↦ n ∙ sym m
  ]
]

abbrev count_at : BTreeMap Value ℕ → List Plain → ℕ
count_at m inputs = unwrap_or (get by_order m (v.List inputs)) 0

pub counted : (old new : BTreeMap Value ℕ) (inputs : List Plain) (taken : List (List Plain)) (n m : ℕ) → ((z : List Plain) → count_at old z ≡ count_by (same_inputs z) taken)
    → n ≡ count_by (same_inputs inputs) taken → m ≡ n + 1 → Updates by_order old new (v.List inputs) (Some m) → (z : List Plain) → count_at new z ≡ count_by (same_inputs z) (inputs ∷ taken)
counted old new inputs taken n m all is more u z =
    let there : get by_order new (v.List z) ≡ cond (is_at (by_order (v.List inputs)) (v.List z)) (Some m) (get by_order old (v.List z)) = u.0 (v.List z) in
    let test : is_at (by_order (v.List inputs)) (v.List z) ≡ same_inputs z inputs = same_key inputs z ∙ same_both inputs z in
    let value : count_at new z ≡ unwrap_or (cond (same_inputs z inputs) (Some m) (get by_order old (v.List z))) 0 = ap (λ o. unwrap_or o 0) (there ∙ ap (λ b. cond b (Some m) (get by_order old (v.List z))) test) in
    let total : count_by (same_inputs z) (inputs ∷ taken) ≡ one_if (same_inputs z inputs) + count_by (same_inputs z) taken = sum_by-cons (λ x. cond (same_inputs z x) 1 0) inputs taken in
    value ∙ elim (cases_Bool (same_inputs z inputs)) [
      | inl t ↦ (let e : z ≡ inputs = inputs_law.same z inputs t in
          let same : count_by (same_inputs z) taken ≡ count_by (same_inputs inputs) taken = ap (λ r. count_by (same_inputs r) taken) e in
          let a : unwrap_or (cond (same_inputs z inputs) (Some m) (get by_order old (v.List z))) 0 ≡ m = ap (λ b. unwrap_or (cond b (Some m) (get by_order old (v.List z))) 0) t in
          let b : one_if (same_inputs z inputs) ≡ 1 = ap one_if t in omega arith)
      | inr f ↦ (let a : unwrap_or (cond (same_inputs z inputs) (Some m) (get by_order old (v.List z))) 0 ≡ count_at old z = ap (λ b. unwrap_or (cond b (Some m) (get by_order old (v.List z))) 0) f in
          let b : one_if (same_inputs z inputs) ≡ 0 = ap one_if f in
          let q = all z in omega arith)
    ]

pub count_small : (inputs : List Plain) (taken : List (List Plain)) (n total : ℕ) → n ≡ count_by (same_inputs inputs) taken → total ≡ length taken → total + 1 < 4294967296 → n + 1 < 4294967296
count_small inputs taken n total is t l = let a = count_by-le-length (same_inputs inputs) taken in omega arith
