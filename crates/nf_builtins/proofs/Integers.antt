-- Texts that are numbers.
use Rattle.std.proofs.Common.{◌≡◌, ℕ, ℤ, pos, neg_ℤ, ◌<◌, ◌≤◌, ◌^◌, ◌==◌, nat_lt, nat_le, Bool, true, false, ◌&&◌, not, List, [], ◌∷◌, length, drop, Some, None, Result, Ok, Err, refl, ap, ◌∙◌, arith, if◌then◌else◌, get_or, ◌≢◌}
use Rattle.std.specs.Prelude.{slice_index}
use Rattle.std.specs.Bool.{Decides}
use Rattle.std.specs.Result.{OkIff, result_ok}
use Rattle.std.specs.Str.{all_ascii_digits}
use Rattle.std.specs.Str.Parse.{ParsesSigned, digits_value}
use Rattle.std.specs.Int.{w64}
use Rattle.std.proofs.lemmas.Str.Parse.{IsNumeralModel, numerals_by_value, tells_all_ascii_digits, parse_signed_minus, parse_signed_plain}
use Rattle.std.proofs.lemmas.Bool.{false≢true}
use Rattle.std.proofs.lemmas.Bool.Decides.{nat_tests}
use Rattle.nf_builtins.specs.Numbers.{are_digits, integer_in}

own : IsNumeralModel (λ ds. all_ascii_digits ds ≡ true) (digits_value 10)
own = numerals_by_value (λ ds. all_ascii_digits ds ≡ true) tells_all_ascii_digits

chosen : {E : Type 0} (r : Result ℤ E) (n a f : Bool) (N A F : Type 0) (v : ℤ) → Decides n N → Decides a A → Decides f F → OkIff r (A × N × F) v → result_ok r ≡ (if (n && a) && f then Some v else None)
chosen (Ok x) true true true N A F v dn da df h = ap Some h.1
chosen (Ok x) false a f N A F v dn da df h = absurd (false≢true (dn.1 h.0.1))
chosen (Ok x) true false f N A F v dn da df h = absurd (false≢true (da.1 h.0.0))
chosen (Ok x) true true false N A F v dn da df h = absurd (false≢true (df.1 h.0.2))
chosen (Err e) true true true N A F v dn da df h = absurd (h (da.0 refl, dn.0 refl, df.0 refl))
chosen (Err e) false a f N A F v dn da df h = refl
chosen (Err e) true false f N A F v dn da df h = refl
chosen (Err e) true true false N A F v dn da df h = refl

some_digits : (ds : List ℕ) → Decides (not (length ds == 0)) (0 < length ds)
some_digits ds = (λ h. grind (arith, nat_tests), λ h. grind (arith, nat_tests))

below : (n m : ℕ) → Decides (nat_lt n m) (n < m)
below n m = (λ h. grind (arith, nat_tests), λ h. grind (arith, nat_tests))

within : (n m : ℕ) → Decides (nat_le n m) (n ≤ m)
within n m = (λ h. grind (arith, nat_tests), λ h. grind (arith, nat_tests))

given : (b : Bool) → Decides b (b ≡ true)
given b = (λ h. h, λ h. h)

by_sign : {E : Type 0} (minus : Bool) (bs : List ℕ) (r : Result ℤ E) → ParsesSigned w64 10 bs r → (slice_index bs 0 == 43) ≡ false → (slice_index bs 0 == 45) ≡ minus → result_ok r ≡
    (if minus then (if are_digits (drop 1 bs) && nat_le (digits_value 10 (drop 1 bs)) (2 ^ 63) then Some (neg_ℤ (pos (digits_value 10 (drop 1 bs)))) else None)
    else (if are_digits bs && nat_lt (digits_value 10 bs) (2 ^ 63) then Some (pos (digits_value 10 bs)) else None))
by_sign true bs r h plus minus =
    chosen r (not (length (drop 1 bs) == 0)) (all_ascii_digits (drop 1 bs)) (nat_le (digits_value 10 (drop 1 bs)) (2 ^ 63)) _ _ _ _ (some_digits (drop 1 bs)) (given (all_ascii_digits (drop 1 bs))) (within (digits_value 10 (drop 1 bs)) (2 ^ 63))
    (parse_signed_minus own w64 bs r h (grind (arith, nat_tests)))
by_sign false bs r h plus minus =
    chosen r (not (length bs == 0)) (all_ascii_digits bs) (nat_lt (digits_value 10 bs) (2 ^ 63)) _ _ _ _ (some_digits bs) (given (all_ascii_digits bs)) (below (digits_value 10 bs) (2 ^ 63))
    (parse_signed_plain own w64 bs r h (grind (arith, nat_tests)) (grind (arith, nat_tests)))

-- `parse` reads the number that a text is, where no plus sign stands first
pub integer_parsed : {E : Type 0} (bs : List ℕ) (r : Result ℤ E) → ParsesSigned w64 10 bs r → (slice_index bs 0 == 43) ≡ false → result_ok r ≡ integer_in bs
integer_parsed bs r h plus = by_sign (slice_index bs 0 == 45) bs r h plus refl

never : (n f : Bool) (v : ℤ) → (if (n && false) && f then Some v else None) ≡ None
never true f v = refl
never false f v = refl

-- a text after a plus sign isn't one
pub integer_of_plus : (bs : List ℕ) → (slice_index bs 0 == 43) ≡ true → integer_in bs ≡ None
integer_of_plus [] h = refl
integer_of_plus (c ∷ cs) h =
    let is : c ≡ 43 = grind (arith, nat_tests) in
    rw is (never _ _ _)

-- the same after a test whether a plus sign stands first
tested : (bs : List ℕ) (r : Bool) → Decides r (get_or bs 0 0 ≡ 43) → (slice_index bs 0 == 43) ≡ r
tested bs true h = let e : get_or bs 0 0 ≡ 43 = h.0 refl in grind (arith, nat_tests)
tested bs false h = let ne : get_or bs 0 0 ≢ 43 = λ e. false≢true (h.1 e) in grind (arith, nat_tests)

pub integer_after_test : {E : Type 0} (bs : List ℕ) (plus : Bool) (r : Result ℤ E) → ParsesSigned w64 10 bs r → Decides plus (get_or bs 0 0 ≡ 43) → plus ≡ false → result_ok r ≡ integer_in bs
integer_after_test bs plus r h test is = integer_parsed bs r h (tested bs plus test ∙ is)

pub no_integer_after_test : (bs : List ℕ) (plus : Bool) → Decides plus (get_or bs 0 0 ≡ 43) → plus ≡ true → integer_in bs ≡ None
no_integer_after_test bs plus test is = integer_of_plus bs (tested bs plus test ∙ is)
