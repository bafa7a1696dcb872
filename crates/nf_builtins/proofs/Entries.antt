-- The pairs of maps.
use Rattle.std.proofs.Common.{◌≡◌, ℕ, ◌+◌, ◌<◌, ◌≤◌, List, [], ◌∷◌, length, take, drop, map, get_or, refl, ap, sym, ◌∙◌, arith, add-one, drop-cons}
use Rattle.std.proofs.lemmas.List.{length-map, take_min}
use Rattle.std.proofs.Math.Seq.{take-length}
use Rattle.nf_value.specs.Plain.{Plain, text, item, plains_of, plain_pairs_of}
use Rattle.nf_value.specs.Code.{count_pairs}
use Rattle.nf_value.specs.View.{pair_of}
use Rattle.nf_value.specs.declared.value.Value.{Value}
use Rattle.nf_builtins.specs.Maps.{keys_of, values_of}

pub count_pairs-plain_pairs_of : (ps : List (List ℕ × Plain)) → count_pairs (plain_pairs_of ps) ≡ length ps
count_pairs-plain_pairs_of [] = refl
count_pairs-plain_pairs_of (p ∷ ps) = omega (arith, count_pairs-plain_pairs_of ps)

pub pairs_left_at : (xs : List (List ℕ × Value)) (i : ℕ) (x : List ℕ × Value) → i < length xs → x ≡ get_or xs i x → map pair_of (drop i xs) ≡ pair_of x ∷ map pair_of (drop (i + 1) xs)
pairs_left_at xs i x h is = rw (add-one, drop-cons xs i x, ← is) refl

pub keys-map : (ps : List (List ℕ × Plain)) → plains_of (map (λ p. text p.0) ps) ≡ keys_of (plain_pairs_of ps)
keys-map [] = refl
keys-map (p ∷ ps) = ap (item (text p.0)) (keys-map ps)

pub values-map : (ps : List (List ℕ × Plain)) → plains_of (map (λ p. p.1) ps) ≡ values_of (plain_pairs_of ps)
values-map [] = refl
values-map (p ∷ ps) = ap (item p.1) (values-map ps)

take_whole : (xs : List (List ℕ × Value)) (i : ℕ) → length xs ≤ i → take i xs ≡ xs
take_whole xs i h = sym (take_min i xs) ∙ ap (λ k. take k xs) (omega arith) ∙ take-length xs

pub length_of_pairs : (xs : List (List ℕ × Value)) (ps : List (List ℕ × Plain)) → map pair_of xs ≡ ps → length xs ≡ count_pairs (plain_pairs_of ps)
length_of_pairs xs ps e = omega (arith, count_pairs-plain_pairs_of ps, ap length e, length-map xs pair_of)

pub keys_done : (vs : List Plain) (xs : List (List ℕ × Value)) (ps : List (List ℕ × Plain)) (i : ℕ) → vs ≡ map (λ p. text p.0) (map pair_of (take i xs)) → length xs ≤ i → map pair_of xs ≡ ps → plains_of vs ≡ keys_of (plain_pairs_of ps)
keys_done vs xs ps i e h is = ap plains_of (e ∙ ap (λ l. map (λ p. text p.0) (map pair_of l)) (take_whole xs i h) ∙ ap (map (λ p. text p.0)) is) ∙ keys-map ps

pub values_done : (vs : List Plain) (xs : List (List ℕ × Value)) (ps : List (List ℕ × Plain)) (i : ℕ) → vs ≡ map (λ p. p.1) (map pair_of (take i xs)) → length xs ≤ i → map pair_of xs ≡ ps → plains_of vs ≡ values_of (plain_pairs_of ps)
values_done vs xs ps i e h is = ap plains_of (e ∙ ap (λ l. map (λ p. p.1) (map pair_of l)) (take_whole xs i h) ∙ ap (map (λ p. p.1)) is) ∙ values-map ps
