-- What is written reads back: decimals and heads.
use Rattle.std.proofs.Common.{◌≡◌, ℕ, zero, suc, ℤ, pos, negsuc, ◌<◌, ◌≤◌, List, [], ◌∷◌, ◌++◌, length, take, drop, get_or, Bool, true, false, cond, not, ◌==◌, nat_lt, nat_le, Option, Some, None, refl, ap, sym, ◌∙◌, arith, decimal}
use Rattle.std.specs.Prelude.{◌&&◌}
use Rattle.std.specs.Char.{is_ascii_digit}
use Rattle.std.specs.Fmt.{signed_decimal}
use Rattle.std.specs.List.{take_while}
use Rattle.std.specs.Option.{option_and_then}
use Rattle.std.specs.Str.{is_utf8, all_ascii_digits}
use Rattle.std.specs.Str.Parse.{digits_value}
use Rattle.std.proofs.lemmas.Bool.{true≢false}
use Rattle.std.proofs.lemmas.Bool.Decides.{nat_tests}
use Rattle.std.proofs.lemmas.Fmt.{digits_decimal, digits_value-decimal, first_decimal, decimal_nonempty, decimal_digit}
use Rattle.std.proofs.lemmas.List.Sums.{take_while-cons}
use Rattle.std.proofs.lemmas.Str.{is_utf8-from_IsUtf8}
use Rattle.std.proofs.lemmas.List.{length-append}
use Rattle.std.proofs.Math.Seq.{take-append_seam, drop-append_seam}
use Rattle.nf_value.specs.Plain.{int}
use Rattle.nf_codec.specs.Heads.{Head, whole, is_decimal, ended_by, decimal_before, fits_positive, fits_negative, int_at, cut_text, counted_text, counted}
use Rattle.nf_codec.specs.Whole.{IsWholeText, IsWholeInt}
use Rattle.nf_codec.proofs.Numbers.{own}

pub both : (a b : Bool) → (a && b) ≡ true → (a ≡ true) × (b ≡ true)
both true b h = (refl, h)
both false b h = absurd (true≢false (sym h))

run_is : (ds rest : List ℕ) (c : ℕ) → all_ascii_digits ds ≡ true → is_ascii_digit c ≡ false → take_while is_ascii_digit (ds ++ c ∷ rest) ≡ ds
run_is [] rest c h e = take_while-cons is_ascii_digit c rest ∙ ap (λ b. cond b (c ∷ take_while is_ascii_digit rest) []) e
run_is (d ∷ ds) rest c h e =
    take_while-cons is_ascii_digit d (ds ++ c ∷ rest) ∙ ap (λ b. cond b (d ∷ take_while is_ascii_digit (ds ++ c ∷ rest)) []) (both (is_ascii_digit d) (all_ascii_digits ds) h).0
    ∙ ap (λ ys. d ∷ ys) (run_is ds rest c (both (is_ascii_digit d) (all_ascii_digits ds) h).1 e)

apart : (d : ℕ) → 48 < d → not (d == 48) ≡ true
apart d h = let e : (d == 48) ≡ false = grind (arith, nat_tests) in ap not e

no_zero : (ds : List ℕ) → 0 < length ds → 48 < get_or ds 0 0 → is_decimal ds ≡ true
no_zero [] h k = absurd (omega arith)
no_zero (d ∷ []) h k = refl
no_zero (d ∷ e ∷ ds) h k = apart d k

is_decimal-decimal : (n : ℕ) → n < 18446744073709551616 → is_decimal (decimal n) ≡ true
is_decimal-decimal zero h = ap is_decimal (decimal_digit 0 (omega arith))
is_decimal-decimal (suc n) h = no_zero (decimal (suc n)) (decimal_nonempty (suc n) h) (first_decimal (suc n) (omega arith) h)

pub decimal_back : (end n : ℕ) (rest : List ℕ) → n < 18446744073709551616 → is_ascii_digit end ≡ false → (end == end) ≡ true → decimal_before end (decimal n ++ end ∷ rest) ≡ Some (n, rest)
decimal_back end n rest h e t =
    let ds = run_is (decimal n) rest end (digits_decimal own n h) e in
    ap (λ es. cond (is_decimal es) (ended_by end (digits_value 10 es) (drop (length es) (decimal n ++ end ∷ rest))) None) ds
    ∙ ap (λ b. cond b (ended_by end (digits_value 10 (decimal n)) (drop (length (decimal n)) (decimal n ++ end ∷ rest))) None) (is_decimal-decimal n h)
    ∙ (λ i. ended_by end (digits_value-decimal own n h i) (drop-append_seam (decimal n) (end ∷ rest) i))
    ∙ ap (λ b. cond b (Some (n, rest)) None) t

pub fits : (n most : ℕ) → n < most → nat_lt n most ≡ true
fits n most h = grind (arith, nat_tests)

-- a number whose first byte is a digit has no sign
positive_back : (ds bs : List ℕ) (n : ℕ) (rest : List ℕ) → all_ascii_digits ds ≡ true → 0 < length ds → decimal_before 59 (ds ++ bs) ≡ Some (n, rest) → n < 9223372036854775808 → int_at (ds ++ bs) ≡ Some (whole (int (pos n)), rest)
positive_back [] bs n rest h some is small = absurd (omega arith)
positive_back (d ∷ ds) bs n rest h some is small =
    let digit = (both (is_ascii_digit d) (all_ascii_digits ds) h).0 in
    let signless : (d == 45) ≡ false = grind (arith, nat_tests, digit) in
    ap (λ b. cond b (option_and_then fits_negative (decimal_before 59 (ds ++ bs))) (option_and_then fits_positive (decimal_before 59 (d ∷ (ds ++ bs))))) signless
    ∙ ap (option_and_then fits_positive) is ∙ ap (λ b. cond b (Some (whole (int (pos n)), rest)) None) (fits n 9223372036854775808 small)

pub int_back : (i : ℤ) (rest : List ℕ) → IsWholeInt i → int_at (signed_decimal i ++ 59 ∷ rest) ≡ Some (whole (int i), rest)
int_back (pos n) rest h =
    let small : n < 18446744073709551616 = omega arith in
    positive_back (decimal n) (59 ∷ rest) n rest (digits_decimal own n small) (decimal_nonempty n small) (decimal_back 59 n rest small refl refl) h
int_back (negsuc n) rest h =
    let small : suc n < 18446744073709551616 = omega arith in
    ap (option_and_then fits_negative) (decimal_back 59 (suc n) rest small refl refl) ∙ ap (λ b. cond b (Some (whole (int (negsuc n)), rest)) None) (fits n 9223372036854775808 h)

abbrev chosen : Bool → Bool → ℕ → List ℕ → Option (List ℕ × List ℕ)
chosen a b n rest = cond (a && b) (Some (take n rest, drop n rest)) None

short : (t rest : List ℕ) → nat_le (length t) (length (t ++ rest)) ≡ true
short t rest = let h : length t ≤ length (t ++ rest) = omega (arith, length-append t rest) in grind (arith, nat_tests)

pub counted_text_back : (t rest : List ℕ) → IsWholeText t → counted_text (decimal (length t) ++ 58 ∷ (t ++ rest)) ≡ Some (t, rest)
counted_text_back t rest h =
    ap (option_and_then cut_text) (decimal_back 58 (length t) (t ++ rest) h.1 refl refl)
    ∙ ap (λ a. chosen a (is_utf8 (take (length t) (t ++ rest))) (length t) (t ++ rest)) (short t rest)
    ∙ ap (λ b. cond b (Some (take (length t) (t ++ rest), drop (length t) (t ++ rest))) None) (ap is_utf8 (take-append_seam t rest) ∙ is_utf8-from_IsUtf8 t h.0)
    ∙ (λ i. Some (take-append_seam t rest i, drop-append_seam t rest i))

pub counted_back : (g : ℕ → Head) (n : ℕ) (rest : List ℕ) → n < 18446744073709551616 → counted g (decimal n ++ 58 ∷ rest) ≡ Some (g n, rest)
counted_back g n rest h = ap (option_and_then (λ p. Some (g p.0, p.1))) (decimal_back 58 n rest h refl refl)
