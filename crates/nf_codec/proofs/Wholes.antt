-- Values that are read are whole.
use Rattle.std.proofs.Common.{◌≡◌, ℕ, ℤ, pos, negsuc, ◌+◌, ◌<◌, ◌≤◌, List, [], ◌∷◌, length, drop, map, get_or, true, Some, None, refl, ap, sym, ◌∙◌, subst, arith, add-one, drop-cons}
use Rattle.std.specs.Ordering.{nat_cmp, is_lt}
use Rattle.std.specs.Cmp.Lexicographic.{slice_cmp}
use Rattle.std.proofs.lemmas.Int.{ints}
use Rattle.std.proofs.lemmas.List.{drop_all}
use mir.Val.{SFits}
use mir.Syntax.{w64}
use Rattle.nf_value.specs.Plain.{Plain, list, table, plains_of, plain_pairs_of}
use Rattle.nf_value.specs.View.{plain_of, pair_of, rising, rises}
use Rattle.nf_value.specs.declared.value.Value.{Value}
use Rattle.nf_codec.specs.Whole.{IsWhole, AreWhole, ArePairs, IsWholeText, IsWholeInt}
use Rattle.nf_codec.proofs.Counts.{count-plains_of, count_pairs-plain_pairs_of}
use Rattle.nf_codec.proofs.Written.{both}

pub int_whole : (i : ℤ) → SFits w64 i → IsWholeInt i
int_whole (pos n) h = omega (arith, ints)
int_whole (negsuc n) h = omega (arith, ints)

abbrev pub EachWhole : List Value → Type 0
EachWhole [] = Unit {0}
EachWhole (x ∷ xs) = IsWhole (plain_of x) × EachWhole xs

abbrev pub PairsWhole : List (List ℕ × Value) → Type 0
PairsWhole [] = Unit {0}
PairsWhole (x ∷ xs) = IsWholeText x.0 × IsWhole (plain_of x.1) × PairsWhole xs

pub each_more : (xs : List Value) (i : ℕ) (x : Value) → i < length xs → x ≡ get_or xs i x → IsWhole (plain_of x) → (EachWhole (drop i xs) → EachWhole xs) → EachWhole (drop (i + 1) xs) → EachWhole xs
each_more xs i x lt at whole f rest =
    let front : drop i xs ≡ x ∷ drop (i + 1) xs = rw (add-one, drop-cons xs i x, ← at) refl in
    f (subst EachWhole (sym front) (whole, rest))

pub pairs_more : (xs : List (List ℕ × Value)) (i : ℕ) (x : List ℕ × Value) → i < length xs → x ≡ get_or xs i x → IsWholeText x.0 → IsWhole (plain_of x.1) → (PairsWhole (drop i xs) → PairsWhole xs) → PairsWhole (drop (i + 1) xs) → PairsWhole xs
pairs_more xs i x lt at key whole f rest =
    let front : drop i xs ≡ x ∷ drop (i + 1) xs = rw (add-one, drop-cons xs i x, ← at) refl in
    f (subst PairsWhole (sym front) (key, whole, rest))

are_whole : (xs : List Value) → EachWhole xs → AreWhole (plains_of (map plain_of xs))
are_whole [] h = tt
are_whole (x ∷ xs) h = (h.0, are_whole xs h.1)

pub list_whole : (xs : List Value) (all : List Plain) (i : ℕ) → map plain_of xs ≡ all → length all < 18446744073709551616 → length xs ≤ i → (EachWhole (drop i xs) → EachWhole xs) → IsWhole (list (plains_of all))
list_whole xs all i is small end f =
    let each = f (subst EachWhole (sym (drop_all i xs end)) tt) in
    (omega (arith, count-plains_of all, small), subst (λ vs. AreWhole (plains_of vs)) is (are_whole xs each))

are_pairs : (k : List ℕ) (xs : List (List ℕ × Value)) → rises k (map pair_of xs) ≡ true → PairsWhole xs → ArePairs (Some k) (plain_pairs_of (map pair_of xs))
are_pairs k [] h w = tt
are_pairs k (x ∷ xs) h w =
    let b = both (is_lt (slice_cmp nat_cmp k x.0)) (rises x.0 (map pair_of xs)) h in
    (b.0, w.0, w.1, are_pairs x.0 xs b.1 w.2)

all_pairs : (xs : List (List ℕ × Value)) → rising (map pair_of xs) ≡ true → PairsWhole xs → ArePairs None (plain_pairs_of (map pair_of xs))
all_pairs [] h w = tt
all_pairs (x ∷ xs) h w = (refl, w.0, w.1, are_pairs x.0 xs h w.2)

pub table_whole : (xs : List (List ℕ × Value)) (all : List (List ℕ × Plain)) (i : ℕ) → map pair_of xs ≡ all → rising all ≡ true → length all < 18446744073709551616 → length xs ≤ i → (PairsWhole (drop i xs) → PairsWhole xs) → IsWhole (table (plain_pairs_of all))
table_whole xs all i is up small end f =
    let each = f (subst PairsWhole (sym (drop_all i xs end)) tt) in
    (omega (arith, count_pairs-plain_pairs_of all, small), subst (λ ps. ArePairs None (plain_pairs_of ps)) is (all_pairs xs (ap rising is ∙ up) each))
