-- What texts weigh.
use Rattle.std.proofs.Common.{◌≡◌, ℕ, suc, [], ◌∷◌, ◌+◌, ◌<◌, ◌≤◌, ◌^◌, min, nat_lt, true, false, List, length, Ok, Err, refl, ap, ◌∙◌, arith, codes, length-append, inl, inr}
use Rattle.std.proofs.lemmas.Bool.{cases_lt}
use Rattle.std.proofs.lemmas.Bool.Decides.{nat_tests}
use Rattle.nf_value.specs.Plain.{Plain, text, list, plains_of}
use Rattle.nf_value.specs.Code.{code, head_code, all_code, count}
use Rattle.nf_value.specs.Depth.{depth_of, deepest}
use Rattle.nf_value.specs.declared.fault.EvalKind.TheVariants.{TooLarge}
use Rattle.nf_texts.specs.Outcome.{limited, AreTexts}

weighs : (t : List ℕ) → length (code (text t)) ≡ length (head_code (codes "s") (length t)) + length t
weighs t = length-append (head_code (codes "s") (length t)) t

-- a text whose length, as far as it is counted, is too much
pub too_large : (t : List ℕ) (len head : ℕ) → min (length t) (2 ^ 32) ≡ len → head ≡ length (head_code (codes "s") len) → 2 ^ 24 < head + len → limited (text t) ≡ Err TooLarge
too_large t len head is h more =
    let over : 2 ^ 24 < length (code (text t)) = elim (cases_lt (length t) (2 ^ 32)) [
      | inl lt ↦ (let same : len ≡ length t = omega arith in omega (arith, weighs t, ap (λ n. length (head_code (codes "s") n)) same))
      | inr ge ↦ omega (arith, weighs t)
    ] in
    let test : nat_lt (2 ^ 24) (length (code (text t))) ≡ true = grind (arith, nat_tests) in
    rw test refl

pub not_too_large : (t : List ℕ) (len head : ℕ) → min (length t) (2 ^ 32) ≡ len → head ≡ length (head_code (codes "s") len) → head + len ≤ 2 ^ 24 → limited (text t) ≡ Ok (text t)
not_too_large t len head is h less =
    let same : len ≡ length t = omega arith in
    let under : length (code (text t)) ≤ 2 ^ 24 = omega (arith, weighs t, ap (λ n. length (head_code (codes "s") n)) same) in
    let test : nat_lt (2 ^ 24) (length (code (text t))) ≡ false = grind (arith, nat_tests) in
    rw test refl

-- a list of texts
list_weighs : (vs : List Plain) → length (code (list (plains_of vs))) ≡ length (head_code (codes "s") (length vs)) + length (all_code (plains_of vs))
list_weighs vs = length-append (head_code (codes "l") (count (plains_of vs))) (all_code (plains_of vs)) ∙ ap (λ n. length (head_code (codes "l") n) + length (all_code (plains_of vs))) (counted vs)
  where
    counted : (vs : List Plain) → count (plains_of vs) ≡ length vs
    counted [] = refl
    counted (v ∷ vs) = omega (arith, counted vs)

text_bytes : (v : Plain) → ((t : List ℕ) × (v ≡ text t)) → 1 ≤ length (code v)
text_bytes v (t, is) = omega (arith, ap (λ w. length (code w)) is, weighs t)

no_fewer : (vs : List Plain) → AreTexts vs → length vs ≤ length (all_code (plains_of vs))
no_fewer [] h = omega arith
no_fewer (v ∷ vs) h = omega (arith, length-append (code v) (all_code (plains_of vs)), text_bytes v h.0, no_fewer vs h.1)

flat : (vs : List Plain) → AreTexts vs → deepest (plains_of vs) ≡ 0
flat [] h = refl
flat (v ∷ vs) h = omega (arith, ap depth_of h.0.1, flat vs h.1)

pub list_too_large : (vs : List Plain) (count weight head : ℕ) → AreTexts vs → min (length vs) (2 ^ 32) ≡ count → min (length (all_code (plains_of vs))) (2 ^ 32) ≡ weight → head ≡ length (head_code (codes "s") count) → 2 ^ 24 < head + weight → limited (list (plains_of vs)) ≡ Err TooLarge
list_too_large vs count weight head texts c is h more =
    let over : 2 ^ 24 < length (code (list (plains_of vs))) = elim (cases_lt (length vs) (2 ^ 32)) [
      | inl lt ↦ (let same : count ≡ length vs = omega arith in omega (arith, list_weighs vs, ap (λ n. length (head_code (codes "s") n)) same))
      | inr ge ↦ omega (arith, list_weighs vs, no_fewer vs texts)
    ] in
    let test : nat_lt (2 ^ 24) (length (code (list (plains_of vs)))) ≡ true = grind (arith, nat_tests) in
    rw test refl

pub list_not_too_large : (vs : List Plain) (count weight head : ℕ) → AreTexts vs → min (length vs) (2 ^ 32) ≡ count → min (length (all_code (plains_of vs))) (2 ^ 32) ≡ weight → head ≡ length (head_code (codes "s") count) → head + weight ≤ 2 ^ 24 → limited (list (plains_of vs)) ≡ Ok (list (plains_of vs))
list_not_too_large vs count weight head texts c is h less =
    let same : count ≡ length vs = omega (arith, no_fewer vs texts) in
    let under : length (code (list (plains_of vs))) ≤ 2 ^ 24 = omega (arith, list_weighs vs, ap (λ n. length (head_code (codes "s") n)) same) in
    let test : nat_lt (2 ^ 24) (length (code (list (plains_of vs)))) ≡ false = grind (arith, nat_tests) in
    let shallow : nat_lt 64 (suc (deepest (plains_of vs))) ≡ false = ap (λ n. nat_lt 64 (suc n)) (flat vs texts) in
    rw (test, shallow) refl
