-- Heads and items that a loop writes.
use Rattle.std.proofs.Common.{◌≡◌, ℕ, List, [], ◌∷◌, ◌++◌, length, refl, ap, sym, ◌∙◌, arith, append_assoc, append-nil}
use Rattle.nf_value.specs.Plain.{Plain, plains_of, plain_pairs_of}
use Rattle.nf_value.specs.Code.{count, count_pairs, head_code}

pub count-plains_of : (vs : List Plain) → count (plains_of vs) ≡ length vs
count-plains_of [] = refl
count-plains_of (v ∷ vs) = omega (arith, count-plains_of vs)

pub count_pairs-plain_pairs_of : (ps : List (List ℕ × Plain)) → count_pairs (plain_pairs_of ps) ≡ length ps
count_pairs-plain_pairs_of [] = refl
count_pairs-plain_pairs_of (p ∷ ps) = omega (arith, count_pairs-plain_pairs_of ps)

pub whole : (old mid out rest all l : List ℕ) (n k : ℕ) → out ++ rest ≡ mid ++ all → rest ≡ [] → mid ≡ old ++ head_code l n → k ≡ n → out ≡ old ++ (head_code l k ++ all)
whole old mid out rest all l n k inv none head same =
    sym (append-nil out) ∙ ap (λ w. out ++ w) (sym none) ∙ inv ∙ ap (λ w. w ++ all) head ∙ append_assoc old (head_code l n) all ∙ ap (λ m. old ++ (head_code l m ++ all)) (sym same)
