-- Names of files with blanks between them.
use Rattle.std.proofs.Common.{◌≡◌, ℕ, ◌+◌, ◌<◌, ◌≤◌, List, [], ◌∷◌, ◌++◌, length, drop, map, get_or, codes, refl, ap, sym, ◌∙◌, arith, add-one, drop-cons, append_assoc}
use Rattle.std.proofs.lemmas.List.{nil_from_length, length-drop}
use Rattle.nf_value.specs.Text.{value_text}
use Rattle.nf_value.specs.View.{plain_of}
use Rattle.nf_value.specs.declared.value.Value.{Value}
use Rattle.nf_infix.specs.Template.{after_blanks, with_blanks}

-- one more file is written
pub one_more : (xs : List Value) (i : ℕ) (x : Value) (s target : List ℕ) → i < length xs → x ≡ get_or xs i x → s ++ after_blanks (map plain_of (drop i xs)) ≡ target → ((s ++ codes " ") ++ value_text (plain_of x)) ++ after_blanks (map plain_of (drop (i + 1) xs)) ≡ target
one_more xs i x s target h is inv =
    let front : drop i xs ≡ x ∷ drop (i + 1) xs = rw (add-one, drop-cons xs i x, ← is) refl in
    let rest = after_blanks (map plain_of (drop (i + 1) xs)) in
    ap (λ l. l ++ rest) (append_assoc s (codes " ") (value_text (plain_of x))) ∙ append_assoc s (codes " " ++ value_text (plain_of x)) rest ∙ sym (ap (λ l. s ++ after_blanks (map plain_of l)) front) ∙ inv

pub all_written : (xs : List Value) (i : ℕ) (s target : List ℕ) → length xs ≤ i → s ++ after_blanks (map plain_of (drop i xs)) ≡ target → s ≡ target
all_written xs i s target h inv =
    let none : drop i xs ≡ [] = nil_from_length (drop i xs) (omega (arith, length-drop i xs)) in
    sym (append_nil s) ∙ sym (ap (λ l. s ++ after_blanks (map plain_of l)) none) ∙ inv
  where
    append_nil : (ys : List ℕ) → ys ++ [] ≡ ys
    append_nil [] = refl
    append_nil (y ∷ ys) = ap (λ l. y ∷ l) (append_nil ys)

pub first_written : (files others : List Value) (first : Value) (t : List ℕ) → files ≡ first ∷ others → (t ++ value_text (plain_of first)) ++ after_blanks (map plain_of others) ≡ t ++ with_blanks (map plain_of files)
first_written files others first t e = append_assoc t (value_text (plain_of first)) (after_blanks (map plain_of others)) ∙ ap (λ l. t ++ with_blanks (map plain_of l)) (sym e)
