-- Texts of the items that a loop has left.
use Rattle.std.proofs.Common.{◌≡◌, ℕ, ◌+◌, ◌<◌, List, [], ◌∷◌, ◌++◌, length, drop, map, get_or, refl, ap, sym, ◌∙◌, add-one, drop-cons, append_assoc, codes, flat_map}
use Rattle.nf_value.specs.Plain.{plains_of, plain_pairs_of}
use Rattle.nf_value.specs.View.{plain_of, pair_of}
use Rattle.nf_value.specs.Text.{value_text, with_commas, item_texts, pair_texts}
use Rattle.nf_value.specs.declared.value.Value.{Value}

-- texts, the first after `before`, each other after `, `
abbrev pub led : List ℕ → List (List ℕ) → List ℕ
led before [] = []
led before (t ∷ ts) = before ++ t ++ flat_map (λ u. codes ", " ++ u) ts

led-comma : (ts : List (List ℕ)) → led (codes ", ") ts ≡ flat_map (λ u. codes ", " ++ u) ts
led-comma [] = refl
led-comma (t ∷ ts) = refl

pub led-nil : (ts : List (List ℕ)) → led [] ts ≡ with_commas ts
led-nil [] = refl
led-nil (t ∷ ts) = refl

one_more : (ts : List (List ℕ)) (before t old new target : List ℕ) → new ≡ old ++ (before ++ t) → old ++ led before (t ∷ ts) ≡ target → new ++ led (codes ", ") ts ≡ target
one_more ts before t old new target added inv =
    ap (λ w. w ++ led (codes ", ") ts) added ∙ append_assoc old (before ++ t) (led (codes ", ") ts) ∙ ap (λ w. old ++ (before ++ t ++ w)) (led-comma ts) ∙ inv

abbrev pub texts : List Value → List (List ℕ)
texts xs = item_texts (plains_of (map plain_of xs))

pub item_more : (xs : List Value) (i : ℕ) (x : Value) (before old new target : List ℕ) → i < length xs → x ≡ get_or xs i x → new ≡ old ++ (before ++ value_text (plain_of x)) → old ++ led before (texts (drop i xs)) ≡ target → new ++ led (codes ", ") (texts (drop (i + 1) xs)) ≡ target
item_more xs i x before old new target lt at added inv =
    let front : drop i xs ≡ x ∷ drop (i + 1) xs = rw (add-one, drop-cons xs i x, ← at) refl in
    one_more (texts (drop (i + 1) xs)) before (value_text (plain_of x)) old new target added (ap (λ ys. old ++ led before (texts ys)) (sym front) ∙ inv)

abbrev pub entries : List (List ℕ × Value) → List (List ℕ)
entries xs = pair_texts (plain_pairs_of (map pair_of xs))

pub entry_more : (xs : List (List ℕ × Value)) (i : ℕ) (x : List ℕ × Value) (before old new target : List ℕ) → i < length xs → x ≡ get_or xs i x → new ≡ old ++ (before ++ (x.0 ++ codes ":" ++ value_text (plain_of x.1))) → old ++ led before (entries (drop i xs)) ≡ target → new ++ led (codes ", ") (entries (drop (i + 1) xs)) ≡ target
entry_more xs i x before old new target lt at added inv =
    let front : drop i xs ≡ x ∷ drop (i + 1) xs = rw (add-one, drop-cons xs i x, ← at) refl in
    one_more (entries (drop (i + 1) xs)) before (x.0 ++ codes ":" ++ value_text (plain_of x.1)) old new target added (ap (λ ys. old ++ led before (entries ys)) (sym front) ∙ inv)
