-- Texts as bytes.
use Rattle.std.proofs.Common.{◌≡◌, ℕ, ◌+◌, ◌-◌, ◌≤◌, List, length, take, drop, Bool, true, cond, nat_le, Option, Some, None, ap, sym, ◌∙◌, subst, arith, ⊎_elim}
use Rattle.std.specs.Prelude.{◌&&◌}
use Rattle.std.specs.Option.{option_and_then}
use Rattle.std.specs.Str.{IsUtf8, is_utf8}
use Rattle.std.specs.Str.Parse.{digits_value}
use Rattle.std.proofs.lemmas.Bool.{cases_Bool}
use Rattle.std.proofs.lemmas.List.{drop-drop}
use Rattle.std.proofs.lemmas.Bool.Decides.{nat_tests}
use Rattle.std.proofs.lemmas.Str.{is_utf8-from_IsUtf8, IsUtf8-from_is_utf8}
use Rattle.nf_codec.specs.Heads.{decimal_before, cut_text, counted_text}
use Rattle.nf_codec.proofs.Numbers.{fitting, value_is, tail_is}

at_most : (n m : ℕ) → n ≤ m → nat_le n m ≡ true
at_most n m h = grind (arith, nat_tests)

counted_is : (bs : List ℕ) (k v n : ℕ) → decimal_before 58 bs ≡ Some (v, drop (k + 1) bs) → v ≡ n → counted_text bs ≡ cut_text (n, drop (k + 1) bs)
counted_is bs k v n is same = ap (option_and_then cut_text) is ∙ ap (λ m. cut_text (m, drop (k + 1) bs)) same

abbrev chosen : Bool → Bool → ℕ → List ℕ → Option (List ℕ × List ℕ)
chosen a b n rest = cond (a && b) (Some (take n rest, drop n rest)) None

part_is : (bs : List ℕ) (k n : ℕ) → take n (take (length bs - (k + 1)) (drop (k + 1) bs)) ≡ take n (drop (k + 1) bs)
part_is bs k n = ap (take n) (tail_is bs (k + 1))

pub text_found : (bs : List ℕ) (k n : ℕ) (t part : List ℕ) → decimal_before 58 bs ≡ Some (digits_value 10 (take k bs), drop (k + 1) bs) → Some n ≡ fitting (digits_value 10 (take k bs)) 18446744073709551616
    → n ≤ length (drop (k + 1) bs) → part ≡ take n (take (length bs - (k + 1)) (drop (k + 1) bs)) → t ≡ part → IsUtf8 part → counted_text bs ≡ Some (t, drop (k + 1 + n) bs)
text_found bs k n t part is fits small part_at same utf8 =
    let whole = part_at ∙ part_is bs k n in
    let good : is_utf8 (take n (drop (k + 1) bs)) ≡ true = is_utf8-from_IsUtf8 (take n (drop (k + 1) bs)) (subst IsUtf8 whole utf8) in
    counted_is bs k (digits_value 10 (take k bs)) n is (value_is (digits_value 10 (take k bs)) 18446744073709551616 n fits)
    ∙ ap (λ a. chosen a (is_utf8 (take n (drop (k + 1) bs))) n (drop (k + 1) bs)) (at_most n (length (drop (k + 1) bs)) small)
    ∙ ap (λ b. chosen true b n (drop (k + 1) bs)) good
    ∙ (λ i. Some (sym (same ∙ whole) i, drop-drop n (k + 1) bs i))

pub text_refused : (bs : List ℕ) (k n : ℕ) (part : List ℕ) → decimal_before 58 bs ≡ Some (digits_value 10 (take k bs), drop (k + 1) bs) → Some n ≡ fitting (digits_value 10 (take k bs)) 18446744073709551616
    → n ≤ length (drop (k + 1) bs) → part ≡ take n (take (length bs - (k + 1)) (drop (k + 1) bs)) → (IsUtf8 part → ⊥) → counted_text bs ≡ None
text_refused bs k n part is fits small part_at bad =
    let whole = part_at ∙ part_is bs k n in
    counted_is bs k (digits_value 10 (take k bs)) n is (value_is (digits_value 10 (take k bs)) 18446744073709551616 n fits)
    ∙ ap (λ a. chosen a (is_utf8 (take n (drop (k + 1) bs))) n (drop (k + 1) bs)) (at_most n (length (drop (k + 1) bs)) small)
    ∙ ⊎_elim
    (λ e. absurd (bad (subst IsUtf8 (sym whole) (IsUtf8-from_is_utf8 (take n (drop (k + 1) bs)) e))))
    (λ e. ap (λ b. chosen true b n (drop (k + 1) bs)) e)
    (cases_Bool (is_utf8 (take n (drop (k + 1) bs))))
