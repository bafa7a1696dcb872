-- The first and the last character of a text.
use Rattle.std.proofs.Common.{◌≡◌, ℕ, ◌<◌, ◌≤◌, nat_le, true, false, List, [], ◌∷◌, ◌++◌, length, refl, sym, ◌∙◌, ap, arith, append-nil}
use mathlib.Core.List.{reverse, reverse-reverse}
use Rattle.std.specs.Char.{encode_utf8}
use Rattle.std.specs.Str.{chars, IsUtf8}
use lib.Utf8.{encode, encodes}
use Rattle.std.proofs.lemmas.Bool.Decides.{nat_tests}
use Rattle.std.proofs.lemmas.Str.{chars-nil, chars_past_char, chars_from_encodes, encodes-append, encodes-chars}
use Rattle.std.proofs.lemmas.List.{reverse-append}
use Rattle.nf_texts.specs.Texts.{without_blanks}

pub chars_of_none : (bs front : List ℕ) → front ≡ bs → length front ≡ 0 → chars bs ≡ []
chars_of_none [] front e h = chars-nil
chars_of_none (b ∷ bs) front e h = absurd (omega (arith, ap length e))

pub chars_of_first : (bs front after rest : List ℕ) (c : ℕ) → IsUtf8 bs → front ≡ bs → front ≡ encode_utf8 c ++ after → rest ≡ after → chars bs ≡ c ∷ chars rest
chars_of_first bs front after rest c u e split same = chars_past_char bs after c u (sym e ∙ split) ∙ ap (λ r. c ∷ chars r) (sym same)

pub chars_of_last : (bs whole before rest : List ℕ) (c : ℕ) → IsUtf8 bs → IsUtf8 rest → whole ≡ bs → whole ≡ before ++ encode_utf8 c → rest ≡ before → chars bs ≡ chars rest ++ c ∷ []
chars_of_last bs whole before rest c u v e split same =
    let spelt : encodes (chars rest ++ c ∷ []) ≡ bs =
    encodes-append (chars rest) (c ∷ []) ∙ (λ k. encodes-chars rest v k ++ append-nil (encode c) k) ∙ ap (λ l. l ++ encode c) same ∙ sym split ∙ e in
    sym (chars_from_encodes (chars rest ++ c ∷ []) bs u spelt)

pub blank_first : (cs rest : List ℕ) (c : ℕ) → cs ≡ c ∷ rest → c ≤ 32 → without_blanks cs ≡ without_blanks rest
blank_first cs rest c e h = let test : nat_le c 32 ≡ true = grind (arith, nat_tests) in ap without_blanks e ∙ rw test refl

pub filled_first : (cs rest : List ℕ) (c : ℕ) → cs ≡ c ∷ rest → 32 < c → without_blanks cs ≡ cs
filled_first cs rest c e h = let test : nat_le c 32 ≡ false = grind (arith, nat_tests) in ap without_blanks e ∙ rw test (sym e)

turned : (cs front : List ℕ) (c : ℕ) → cs ≡ front ++ c ∷ [] → reverse cs ≡ c ∷ reverse front
turned cs front c e = ap reverse e ∙ reverse-append front (c ∷ [])

pub blank_last : (cs front : List ℕ) (c : ℕ) → cs ≡ front ++ c ∷ [] → c ≤ 32 → without_blanks (reverse cs) ≡ without_blanks (reverse front)
blank_last cs front c e h = blank_first (reverse cs) (reverse front) c (turned cs front c e) h

pub filled_last : (cs front : List ℕ) (c : ℕ) → cs ≡ front ++ c ∷ [] → 32 < c → reverse (without_blanks (reverse cs)) ≡ cs
filled_last cs front c e h = ap reverse (filled_first (reverse cs) (reverse front) c (turned cs front c e) h) ∙ reverse-reverse cs
