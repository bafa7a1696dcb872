-- How long codes are.
use Rattle.std.proofs.Common.{◌≡◌, ℕ, ◌+◌, ◌*◌, min, decimal, List, [], ◌∷◌, ◌++◌, length, refl, ap, sym, ◌∙◌, arith, length-append, codes, nat_eq, not, false}
use Rattle.std.proofs.lemmas.Bool.Decides.{nat_tests}
use Rattle.hex.specs.Hex.{encode_lower, lower_digits}
use Rattle.hex.proofs.HexLemmas.{length-encode_with}
use Rattle.nf_value.specs.Plain.{Plain, list, table, plains_of, plain_pairs_of}
use Rattle.nf_value.specs.Code.{code, count, count_pairs, head_code, file_code, all_code, pairs_code}
use Rattle.nf_value.specs.Truth.{truth_of}

pub length-encode_lower : (d : List ℕ) → length (encode_lower d) ≡ 2 * length d
length-encode_lower d = length-encode_with lower_digits d

pub file_length : (n d : List ℕ) (l : ℕ) → length (file_code n d l) ≡ length (head_code (codes "p") (length n)) + length n + 2 * length d + length (decimal l) + 1
file_length n d l =
    length-append (head_code (codes "p") (length n) ++ n ++ encode_lower d ++ decimal l) (codes ";")
    ∙ ap (λ k. k + 1) (length-append (head_code (codes "p") (length n) ++ n ++ encode_lower d) (decimal l))
    ∙ ap (λ k. k + length (decimal l) + 1) (length-append (head_code (codes "p") (length n) ++ n) (encode_lower d) ∙ ap (λ k. length (head_code (codes "p") (length n) ++ n) + k) (length-encode_lower d))
    ∙ ap (λ k. k + 2 * length d + length (decimal l) + 1) (length-append (head_code (codes "p") (length n)) n)

pub file_capped : (n d : List ℕ) (l most r : ℕ) → r ≡ min (length (head_code (codes "p") (length n)) + length n + 2 * length d + length (decimal l) + 1) most → r ≡ min (length (file_code n d l)) most
file_capped n d l most r h = h ∙ ap (λ k. min k most) (sym (file_length n d l))

pub count-plains_of : (vs : List Plain) → count (plains_of vs) ≡ length vs
count-plains_of [] = refl
count-plains_of (v ∷ vs) = omega (arith, count-plains_of vs)

pub count_pairs-plain_pairs_of : (ps : List (List ℕ × Plain)) → count_pairs (plain_pairs_of ps) ≡ length ps
count_pairs-plain_pairs_of [] = refl
count_pairs-plain_pairs_of (p ∷ ps) = omega (arith, count_pairs-plain_pairs_of ps)

pub list_length : (vs : List Plain) (n : ℕ) → n ≡ length vs → length (code (list (plains_of vs))) ≡ length (head_code (codes "l") n) + length (all_code (plains_of vs))
list_length vs n is =
    ap (λ k. length (head_code (codes "l") k ++ all_code (plains_of vs))) (count-plains_of vs ∙ sym is) ∙ length-append (head_code (codes "l") n) (all_code (plains_of vs))

pub map_length : (ps : List (List ℕ × Plain)) (n : ℕ) → n ≡ length ps → length (code (table (plain_pairs_of ps))) ≡ length (head_code (codes "m") n) + length (pairs_code (plain_pairs_of ps))
map_length ps n is =
    ap (λ k. length (head_code (codes "m") k ++ pairs_code (plain_pairs_of ps))) (count_pairs-plain_pairs_of ps ∙ sym is) ∙ length-append (head_code (codes "m") n) (pairs_code (plain_pairs_of ps))

pub list_truth : (vs : List Plain) (n : ℕ) → n ≡ length vs → not (nat_eq n 0) ≡ truth_of (list (plains_of vs))
list_truth vs n is = ap (λ k. not (nat_eq k 0)) is ∙ of vs
  where
    of : (vs : List Plain) → not (nat_eq (length vs) 0) ≡ truth_of (list (plains_of vs))
    of [] = refl
    of (v ∷ vs) = let e : nat_eq (length (v ∷ vs)) 0 ≡ false = grind (arith, nat_tests) in ap not e

pub map_truth : (ps : List (List ℕ × Plain)) (n : ℕ) → n ≡ length ps → not (nat_eq n 0) ≡ truth_of (table (plain_pairs_of ps))
map_truth ps n is = ap (λ k. not (nat_eq k 0)) is ∙ of ps
  where
    of : (ps : List (List ℕ × Plain)) → not (nat_eq (length ps) 0) ≡ truth_of (table (plain_pairs_of ps))
    of [] = refl
    of (p ∷ ps) = let e : nat_eq (length (p ∷ ps)) 0 ≡ false = grind (arith, nat_tests) in ap not e
