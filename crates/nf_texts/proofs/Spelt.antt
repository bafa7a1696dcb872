-- How long the texts of values are.
use Rattle.std.proofs.Common.{◌≡◌, ℕ, ◌+◌, ◌<◌, ◌≤◌, ◌^◌, min, max, List, [], ◌∷◌, ◌++◌, length, map, drop, get_or, refl, ap, arith, codes, length-append, flat_map, add-one, drop-cons}
use Rattle.nf_value.specs.Plain.{Plain, PlainPairs, no_pairs, pair, plains_of, plain_pairs_of}
use Rattle.nf_value.specs.View.{plain_of, pair_of}
use Rattle.nf_value.specs.Text.{value_text, bracketed, with_commas, entries_text, item_texts, pair_texts}
use Rattle.nf_value.specs.declared.value.Value.{Value}
use Rattle.std.proofs.lemmas.List.{nil_from_length, length-drop}

-- the lengths of texts, with some bytes more for each
abbrev pub total_len : ℕ → List (List ℕ) → ℕ
total_len extra [] = 0
total_len extra (t ∷ ts) = extra + length t + total_len extra ts

spread : (between : List ℕ) (ts : List (List ℕ)) → length (flat_map (λ t. between ++ t) ts) ≡ total_len (length between) ts
spread between [] = refl
spread between (t ∷ ts) = omega (arith, length-append (between ++ t) (flat_map (λ u. between ++ u) ts), length-append between t, spread between ts)

pub brackets_len : (t : List ℕ) → length (bracketed t) ≡ length t + 2
brackets_len t = omega (arith, length-append (codes "[" ++ t) (codes "]"), length-append (codes "[") t)

-- a list in brackets has two bytes more for each item, and two where it has none
pub list_text_len : (ts : List (List ℕ)) → length (bracketed (with_commas ts)) ≡ max (total_len 2 ts) 2
list_text_len [] = refl
list_text_len (t ∷ ts) = omega (arith, brackets_len (with_commas (t ∷ ts)), length-append t (flat_map (λ u. codes ", " ++ u) ts), spread (codes ", ") ts)

abbrev pub texts_from : List Value → ℕ → List (List ℕ)
texts_from xs i = item_texts (plains_of (map plain_of (drop i xs)))

pub texts_at : (xs : List Value) (i : ℕ) (x : Value) → i < length xs → x ≡ get_or xs i x → texts_from xs i ≡ value_text (plain_of x) ∷ texts_from xs (i + 1)
texts_at xs i x h is = rw (add-one, drop-cons xs i x, ← is) refl

-- one item more of what is counted
pub item_counted : (xs : List Value) (i : ℕ) (x : Value) (sum one len next all : ℕ) → i < length xs → x ≡ get_or xs i x → one ≡ min (sum + 2) (2 ^ 32) → len ≡ min (length (value_text (plain_of x))) (2 ^ 32) → next ≡ min (one + len) (2 ^ 32) → min (sum + total_len 2 (texts_from xs i)) (2 ^ 32) ≡ all → min (next + total_len 2 (texts_from xs (i + 1))) (2 ^ 32) ≡ all
item_counted xs i x sum one len next all h is e f g inv = omega (arith, ap (total_len 2) (texts_at xs i x h is))

-- a map in brackets too, and three where it has no pairs
pub map_text_len : (ps : PlainPairs) → length (bracketed (entries_text (pair_texts ps))) ≡ max (total_len 2 (pair_texts ps)) 3
map_text_len no_pairs = refl
map_text_len (pair k v ps) =
    let t = k ++ codes ":" ++ value_text v in
    omega (arith, brackets_len (with_commas (t ∷ pair_texts ps)), length-append t (flat_map (λ u. codes ", " ++ u) (pair_texts ps)), spread (codes ", ") (pair_texts ps), length-append (k ++ codes ":") (value_text v), length-append k (codes ":"))

abbrev pub entries_from : List (List ℕ × Value) → ℕ → List (List ℕ)
entries_from xs i = pair_texts (plain_pairs_of (map pair_of (drop i xs)))

pub entries_at : (xs : List (List ℕ × Value)) (i : ℕ) (x : List ℕ × Value) → i < length xs → x ≡ get_or xs i x → entries_from xs i ≡ (x.0 ++ codes ":" ++ value_text (plain_of x.1)) ∷ entries_from xs (i + 1)
entries_at xs i x h is = rw (add-one, drop-cons xs i x, ← is) refl

pub entry_counted : (xs : List (List ℕ × Value)) (i : ℕ) (x : List ℕ × Value) (sum one two len next all : ℕ) → i < length xs → x ≡ get_or xs i x → one ≡ min (sum + 3) (2 ^ 32) → two ≡ min (one + length x.0) (2 ^ 32) → len ≡ min (length (value_text (plain_of x.1))) (2 ^ 32) → next ≡ min (two + len) (2 ^ 32) → min (sum + total_len 2 (entries_from xs i)) (2 ^ 32) ≡ all → min (next + total_len 2 (entries_from xs (i + 1))) (2 ^ 32) ≡ all
entry_counted xs i x sum one two len next all h is e f g k inv =
    omega (arith, ap (total_len 2) (entries_at xs i x h is), length-append (x.0 ++ codes ":") (value_text (plain_of x.1)), length-append x.0 (codes ":"))

no_items_left : (xs : List Value) (i : ℕ) → length xs ≤ i → total_len 2 (texts_from xs i) ≡ 0
no_items_left xs i h = ap (λ l. total_len 2 (item_texts (plains_of (map plain_of l)))) (nil_from_length (drop i xs) (omega (arith, length-drop i xs)))

no_pairs_left : (xs : List (List ℕ × Value)) (i : ℕ) → length xs ≤ i → total_len 2 (entries_from xs i) ≡ 0
no_pairs_left xs i h = ap (λ l. total_len 2 (pair_texts (plain_pairs_of (map pair_of l)))) (nil_from_length (drop i xs) (omega (arith, length-drop i xs)))

pub list_counted : (xs : List Value) (vs : List Plain) (i sum r : ℕ) → map plain_of xs ≡ vs → length xs ≤ i → r ≡ max sum 2 → sum ≤ 2 ^ 32 → min (sum + total_len 2 (texts_from xs i)) (2 ^ 32) ≡ min (total_len 2 (texts_from xs 0)) (2 ^ 32) → r ≡ min (length (bracketed (with_commas (item_texts (plains_of vs))))) (2 ^ 32)
list_counted xs vs i sum r is h e small inv =
    omega (arith, no_items_left xs i h, list_text_len (item_texts (plains_of vs)), ap (λ l. total_len 2 (item_texts (plains_of l))) is)

pub map_counted : (xs : List (List ℕ × Value)) (ps : List (List ℕ × Plain)) (i sum r : ℕ) → map pair_of xs ≡ ps → length xs ≤ i → r ≡ max sum 3 → sum ≤ 2 ^ 32 → min (sum + total_len 2 (entries_from xs i)) (2 ^ 32) ≡ min (total_len 2 (entries_from xs 0)) (2 ^ 32) → r ≡ min (length (bracketed (entries_text (pair_texts (plain_pairs_of ps))))) (2 ^ 32)
map_counted xs ps i sum r is h e small inv =
    omega (arith, no_pairs_left xs i h, map_text_len (plain_pairs_of ps), ap (λ l. total_len 2 (pair_texts (plain_pairs_of l))) is)
