-- The characters of a text, from its front and at its first delimiter.
use Rattle.std.proofs.Common.{◌≡◌, ℕ, ◌<◌, Bool, false, ◌==◌, List, [], ◌∷◌, ◌++◌, length, take, drop, Option, None, Some, MatchOption, Bor, IsUtf8, IsCharBoundary, refl, sym, ◌∙◌, ap, subst, arith, length-drop}
use Rattle.std.specs.List.{list_any}
use Rattle.std.specs.Char.{encode_utf8}
use Rattle.std.specs.Str.{chars, NonePass, NoCharPasses}
use Rattle.std.specs.Str.Pattern.{HasCharAt}
use Rattle.std.proofs.lemmas.Str.{chars-nil, chars-append, chars_past_char, chars_from_encodes, IsUtf8-take, IsUtf8-drop, IsCharBoundary-before_ascii}
use Rattle.std.proofs.lemmas.Str.Pattern.{IsSplitOnceResult, drop_at_char}
use Rattle.std.proofs.lemmas.List.{take-append-drop}
use Rattle.nf_pattern.specs.Parting.{has, IsParted}

pub chars_of_none : (bs front : List ℕ) → front ≡ bs → length front ≡ 0 → chars bs ≡ []
chars_of_none [] front e h = chars-nil
chars_of_none (b ∷ bs) front e h = absurd (omega (arith, ap length e))

pub chars_of_first : (bs front after rest : List ℕ) (c : ℕ) → IsUtf8 bs → front ≡ bs → front ≡ encode_utf8 c ++ after → rest ≡ after → chars bs ≡ c ∷ chars rest
chars_of_first bs front after rest c u e split same = chars_past_char bs after c u (sym e ∙ split) ∙ ap (λ r. c ∷ chars r) (sym same)

none_passes : (p : ℕ → Bool) (cs : List ℕ) → NonePass p cs → list_any p cs ≡ false
none_passes p [] h = refl
none_passes p (c ∷ cs) h = rw h.0 (none_passes p cs h.1)

no_delimiter : (delimiter : ℕ) (bs : List ℕ) → IsUtf8 bs → NoCharPasses (λ d. d == delimiter) bs → has delimiter (chars bs) ≡ false
no_delimiter delimiter bs u h = let P : List ℕ → Type 0 = λ cs. has delimiter cs ≡ false in subst P (chars_from_encodes h.0 bs u h.1) (none_passes (λ d. d == delimiter) h.0 h.2)

parted_at : (delimiter : ℕ) (bs xs ys : List ℕ) (i j : ℕ) → IsUtf8 bs → delimiter < 128 → NoCharPasses (λ d. d == delimiter) (take i bs) → HasCharAt delimiter bs i j → xs ≡ take i bs → ys ≡ drop j bs → IsParted delimiter (chars bs) (chars xs) (chars ys)
parted_at delimiter bs xs ys i j u low free found xs_is ys_is =
    let at : drop i bs ≡ delimiter ∷ drop j bs = drop_at_char delimiter bs i j found low in
    let within : i < length bs = omega (arith, ap length at, length-drop i bs) in
    let cut : IsCharBoundary bs i = IsCharBoundary-before_ascii bs i within (rw (found.byte low) low) in
    let front : IsUtf8 (take i bs) = IsUtf8-take bs i u cut in
    let back : IsUtf8 (drop i bs) = IsUtf8-drop bs i u cut in
    let whole : chars bs ≡ chars (take i bs) ++ delimiter ∷ chars (drop j bs) =
    ap chars (sym (take-append-drop i bs)) ∙ chars-append (take i bs) (drop i bs) front ∙ ap (λ r. chars (take i bs) ++ r) (chars_past_char (drop i bs) (drop j bs) delimiter back found.split) in
    record {
      whole = rw (xs_is, ys_is) whole;
      first = rw xs_is (no_delimiter delimiter (take i bs) front free);
    }

pub chars_parted : (delimiter : ℕ) (bs : List ℕ) (r : Option (Bor (List ℕ) × Bor (List ℕ))) → IsUtf8 bs → IsSplitOnceResult delimiter bs r → delimiter < 128 → MatchOption r (has delimiter (chars bs) ≡ false) (λ x. IsParted delimiter (chars bs) (chars x.0.now) (chars x.1.now))
chars_parted delimiter bs None u h low = no_delimiter delimiter bs u h
chars_parted delimiter bs (Some x) u (i, j, found, xs_is, ys_is, le, ends, rest) low = parted_at delimiter bs x.0.now x.1.now i j u low found.0 found.1 xs_is ys_is
