-- The parts of a text as texts.
use Rattle.std.proofs.Common.{◌≡◌, ℕ, ◌+◌, ◌^◌, min, ◌==◌, Bool, true, false, List, [], ◌∷◌, ◌++◌, length, refl, ap, sym, ◌∙◌, arith, append_assoc, append-nil, length-append, flat_map}
use Rattle.std.specs.List.{slice_split}
use Rattle.std.specs.Str.{chars, IsUtf8}
use lib.Utf8.{encodes}
use Rattle.std.proofs.lemmas.Bool.Decides.{nat_tests}
use Rattle.std.proofs.lemmas.Str.{chars-nil, encodes-chars}
use Rattle.nf_value.specs.Plain.{Plain, text, plains_of}
use Rattle.nf_value.specs.Code.{code, all_code}
use Rattle.nf_texts.specs.Outcome.{AreTexts}
use Rattle.nf_texts.specs.Texts.{token_of, token_texts}

pub empty_part : (s : List ℕ) → (length s == 0) ≡ true → token_of (chars s) ≡ []
empty_part [] h = ap token_of chars-nil
empty_part (c ∷ cs) h = absurd (grind (arith, nat_tests))

pub filled_part : (s : List ℕ) → IsUtf8 s → (length s == 0) ≡ false → token_of (chars s) ≡ text s ∷ []
filled_part s u h = of (chars s) refl
  where
    of : (cs : List ℕ) → chars s ≡ cs → token_of (chars s) ≡ text s ∷ []
    of [] e = let none : s ≡ [] = sym (encodes-chars s u) ∙ ap encodes e in
        let zero : (length s == 0) ≡ true = ap (λ l. length l == 0) none in
        absurd (grind (arith, nat_tests))
    of (c ∷ cs) e =
        let test : (length (chars s) == 0) ≡ false = ap (λ l. length l == 0) e ∙ grind (arith, nat_tests) in
        rw test (ap (λ t. text t ∷ []) (encodes-chars s u))

-- a part cut off
pub part_more : (p : ℕ → Bool) (s part rest : List ℕ) → slice_split p (chars s) ≡ chars part ∷ slice_split p (chars rest) → token_texts p (chars s) ≡ token_of (chars part) ++ token_texts p (chars rest)
part_more p s part rest e = ap (flat_map token_of) e

pub part_last : (p : ℕ → Bool) (s : List ℕ) → slice_split p (chars s) ≡ chars s ∷ [] → token_texts p (chars s) ≡ token_of (chars s)
part_last p s e = ap (flat_map token_of) e ∙ append-nil (token_of (chars s))

pub codes_append : (vs ws : List Plain) → length (all_code (plains_of (vs ++ ws))) ≡ length (all_code (plains_of vs)) + length (all_code (plains_of ws))
codes_append [] ws = omega arith
codes_append (v ∷ vs) ws = omega (arith, length-append (code v) (all_code (plains_of (vs ++ ws))), length-append (code v) (all_code (plains_of vs)), codes_append vs ws)

pub one_code : (s : List ℕ) → length (all_code (plains_of (text s ∷ []))) ≡ length (code (text s))
one_code s = ap length (append-nil (code (text s)))

pub count_more : (p : ℕ → Bool) (s part rest : List ℕ) (sum one next all : ℕ) → slice_split p (chars s) ≡ chars part ∷ slice_split p (chars rest) → one ≡ length (token_of (chars part)) → next ≡ min (sum + one) (2 ^ 32) → min (sum + length (token_texts p (chars s))) (2 ^ 32) ≡ all → min (next + length (token_texts p (chars rest))) (2 ^ 32) ≡ all
count_more p s part rest sum one next all e h k inv = omega (arith, ap length (part_more p s part rest e), length-append (token_of (chars part)) (token_texts p (chars rest)))

pub weight_more : (p : ℕ → Bool) (s part rest : List ℕ) (sum one next all : ℕ) → slice_split p (chars s) ≡ chars part ∷ slice_split p (chars rest) → one ≡ min (length (all_code (plains_of (token_of (chars part))))) (2 ^ 32) → next ≡ min (sum + one) (2 ^ 32) → min (sum + length (all_code (plains_of (token_texts p (chars s))))) (2 ^ 32) ≡ all → min (next + length (all_code (plains_of (token_texts p (chars rest))))) (2 ^ 32) ≡ all
weight_more p s part rest sum one next all e h k inv =
    omega (arith, ap (λ l. length (all_code (plains_of l))) (part_more p s part rest e), codes_append (token_of (chars part)) (token_texts p (chars rest)))

pub values_more : (p : ℕ → Bool) (s part rest : List ℕ) (old new all : List Plain) → slice_split p (chars s) ≡ chars part ∷ slice_split p (chars rest) → new ≡ old ++ token_of (chars part) → old ++ token_texts p (chars s) ≡ all → new ++ token_texts p (chars rest) ≡ all
values_more p s part rest old new all e h inv =
    ap (λ l. l ++ token_texts p (chars rest)) h ∙ append_assoc old (token_of (chars part)) (token_texts p (chars rest)) ∙ ap (λ l. old ++ l) (sym (part_more p s part rest e)) ∙ inv

are_texts_after : (part : List ℕ) (vs : List Plain) → AreTexts vs → AreTexts (token_of part ++ vs)
are_texts_after [] vs h = h
are_texts_after (c ∷ cs) vs h =
    let test : (length (c ∷ cs) == 0) ≡ false = grind (arith, nat_tests) in
    rw test ((encodes (c ∷ cs), refl), h)

pub are_texts : (parts : List (List ℕ)) → AreTexts (flat_map token_of parts)
are_texts [] = tt
are_texts (p ∷ ps) = are_texts_after p (flat_map token_of ps) (are_texts ps)
