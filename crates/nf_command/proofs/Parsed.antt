-- Words that are numbers.
use Rattle.std.proofs.Common.{◌≡◌, ℕ, ℤ, pos, neg_ℤ, ◌+◌, ◌<◌, ◌≤◌, ◌^◌, ◌==◌, nat_lt, nat_le, Bool, true, false, ◌&&◌, not, List, [], ◌∷◌, length, drop, Some, None, Result, Ok, Err, refl, sym, ap, ◌∙◌, arith, if◌then◌else◌, get_or, ◌≢◌, ◌-◌, ◌⊎◌, inl, inr}
use Rattle.std.specs.Prelude.{slice_index, Option, MatchOption}
use Rattle.std.specs.Bool.{Decides}
use Rattle.std.specs.Result.{OkIff, result_ok}
use Rattle.std.specs.Str.{all_ascii_digits}
use Rattle.std.specs.Str.Parse.{ParsesSigned, ParsesUnsigned, digits_value}
use Rattle.std.specs.Int.{w64}
use Rattle.std.proofs.lemmas.Str.Parse.{IsNumeralModel, numerals_by_value, tells_all_ascii_digits, parse_plain, parse_signed_minus, parse_signed_plain}
use Rattle.std.proofs.lemmas.Bool.{false≢true, cases_lt}
use Rattle.std.proofs.lemmas.Bool.Decides.{nat_tests}
use Rattle.nf_command.specs.Numbers.{is_decimal, number_within, integer_in}

own : IsNumeralModel (λ ds. all_ascii_digits ds ≡ true) (digits_value 10)
own = numerals_by_value (λ ds. all_ascii_digits ds ≡ true) tells_all_ascii_digits

chosen : {E : Type 0} (r : Result ℤ E) (n a f : Bool) (N A F : Type 0) (v : ℤ) → Decides n N → Decides a A → Decides f F → OkIff r (A × N × F) v → result_ok r ≡ (if (n && a) && f then Some v else None)
chosen (Ok x) true true true N A F v dn da df h = ap Some h.1
chosen (Ok x) false a f N A F v dn da df h = absurd (false≢true (dn.1 h.0.1))
chosen (Ok x) true false f N A F v dn da df h = absurd (false≢true (da.1 h.0.0))
chosen (Ok x) true true false N A F v dn da df h = absurd (false≢true (df.1 h.0.2))
chosen (Err e) true true true N A F v dn da df h = absurd (h (da.0 refl, dn.0 refl, df.0 refl))
chosen (Err e) false a f N A F v dn da df h = refl
chosen (Err e) true false f N A F v dn da df h = refl
chosen (Err e) true true false N A F v dn da df h = refl

some_digits : (ds : List ℕ) → Decides (not (length ds == 0)) (0 < length ds)
some_digits ds = (λ h. grind (arith, nat_tests), λ h. grind (arith, nat_tests))

below : (n m : ℕ) → Decides (nat_lt n m) (n < m)
below n m = (λ h. grind (arith, nat_tests), λ h. grind (arith, nat_tests))

within : (n m : ℕ) → Decides (nat_le n m) (n ≤ m)
within n m = (λ h. grind (arith, nat_tests), λ h. grind (arith, nat_tests))

given : (b : Bool) → Decides b (b ≡ true)
given b = (λ h. h, λ h. h)

by_sign : {E : Type 0} (minus : Bool) (bs : List ℕ) (r : Result ℤ E) → ParsesSigned w64 10 bs r → (slice_index bs 0 == 43) ≡ false → (slice_index bs 0 == 45) ≡ minus → result_ok r ≡
    (if minus then (if is_decimal (drop 1 bs) && nat_le (digits_value 10 (drop 1 bs)) (2 ^ 63) then Some (neg_ℤ (pos (digits_value 10 (drop 1 bs)))) else None)
    else (if is_decimal bs && nat_lt (digits_value 10 bs) (2 ^ 63) then Some (pos (digits_value 10 bs)) else None))
by_sign true bs r h plus minus =
    chosen r (not (length (drop 1 bs) == 0)) (all_ascii_digits (drop 1 bs)) (nat_le (digits_value 10 (drop 1 bs)) (2 ^ 63)) _ _ _ _ (some_digits (drop 1 bs)) (given (all_ascii_digits (drop 1 bs))) (within (digits_value 10 (drop 1 bs)) (2 ^ 63))
    (parse_signed_minus own w64 bs r h (grind (arith, nat_tests)))
by_sign false bs r h plus minus =
    chosen r (not (length bs == 0)) (all_ascii_digits bs) (nat_lt (digits_value 10 bs) (2 ^ 63)) _ _ _ _ (some_digits bs) (given (all_ascii_digits bs)) (below (digits_value 10 bs) (2 ^ 63))
    (parse_signed_plain own w64 bs r h (grind (arith, nat_tests)) (grind (arith, nat_tests)))

-- `parse` reads the number that a text is, where no plus sign stands first
pub integer_parsed : {E : Type 0} (bs : List ℕ) (r : Result ℤ E) → ParsesSigned w64 10 bs r → (slice_index bs 0 == 43) ≡ false → result_ok r ≡ integer_in bs
integer_parsed bs r h plus = by_sign (slice_index bs 0 == 45) bs r h plus refl

never : (n f : Bool) (v : ℤ) → (if (n && false) && f then Some v else None) ≡ None
never true f v = refl
never false f v = refl

-- a text after a plus sign isn't one
pub integer_of_plus : (bs : List ℕ) → (slice_index bs 0 == 43) ≡ true → integer_in bs ≡ None
integer_of_plus [] h = refl
integer_of_plus (c ∷ cs) h =
    let is : c ≡ 43 = grind (arith, nat_tests) in
    rw is (never _ _ _)

-- the same after a test whether a plus sign stands first
tested : (bs : List ℕ) (r : Bool) → Decides r (get_or bs 0 0 ≡ 43) → (slice_index bs 0 == 43) ≡ r
tested bs true h = let e : get_or bs 0 0 ≡ 43 = h.0 refl in grind (arith, nat_tests)
tested bs false h = let ne : get_or bs 0 0 ≢ 43 = λ e. false≢true (h.1 e) in grind (arith, nat_tests)

pub integer_after_test : {E : Type 0} (bs : List ℕ) (plus : Bool) (r : Result ℤ E) → ParsesSigned w64 10 bs r → Decides plus (get_or bs 0 0 ≡ 43) → plus ≡ false → result_ok r ≡ integer_in bs
integer_after_test bs plus r h test is = integer_parsed bs r h (tested bs plus test ∙ is)

pub no_integer_after_test : (bs : List ℕ) (plus : Bool) → Decides plus (get_or bs 0 0 ≡ 43) → plus ≡ true → integer_in bs ≡ None
no_integer_after_test bs plus test is = integer_of_plus bs (tested bs plus test ∙ is)

-- ---- numbers without a sign

chosen_number : {E : Type 0} (r : Result ℕ E) (n a f : Bool) (N A F : Type 0) (v : ℕ) → Decides n N → Decides a A → Decides f F → OkIff r (A × N × F) v → result_ok r ≡ (if (n && a) && f then Some v else None)
chosen_number (Ok x) true true true N A F v dn da df h = ap Some h.1
chosen_number (Ok x) false a f N A F v dn da df h = absurd (false≢true (dn.1 h.0.1))
chosen_number (Ok x) true false f N A F v dn da df h = absurd (false≢true (da.1 h.0.0))
chosen_number (Ok x) true true false N A F v dn da df h = absurd (false≢true (df.1 h.0.2))
chosen_number (Err e) true true true N A F v dn da df h = absurd (h (da.0 refl, dn.0 refl, df.0 refl))
chosen_number (Err e) false a f N A F v dn da df h = refl
chosen_number (Err e) true false f N A F v dn da df h = refl
chosen_number (Err e) true true false N A F v dn da df h = refl

fits : (v most : ℕ) → Decides (nat_le 0 v && nat_le v most) (v < most + 1)
fits v most = (λ h. grind (arith, nat_tests), λ h. grind (arith, nat_tests))

plain_number : {E : Type 0} (bs : List ℕ) (r : Result ℕ E) → ParsesUnsigned 64 10 bs r → get_or bs 0 0 ≢ 43 → result_ok r ≡ number_within 0 (2 ^ 64 - 1) bs
plain_number bs r h plus =
    chosen_number r (not (length bs == 0)) (all_ascii_digits bs) (nat_le 0 (digits_value 10 bs) && nat_le (digits_value 10 bs) (2 ^ 64 - 1)) _ _ _ _ (some_digits bs) (given (all_ascii_digits bs)) (fits (digits_value 10 bs) (2 ^ 64 - 1))
    (parse_plain own 64 bs r h plus)

pub number_after_test : {E : Type 0} (bs : List ℕ) (plus : Bool) (r : Result ℕ E) → ParsesUnsigned 64 10 bs r → Decides plus (get_or bs 0 0 ≡ 43) → plus ≡ false → result_ok r ≡ number_within 0 (2 ^ 64 - 1) bs
number_after_test bs plus r h test is = plain_number bs r h (λ e. false≢true (sym is ∙ test.1 e))

and_false : (a : Bool) → (a && false) ≡ false
and_false true = refl
and_false false = refl

not_decimal : (bs : List ℕ) → get_or bs 0 0 ≡ 43 → is_decimal bs ≡ false
not_decimal [] h = refl
not_decimal (c ∷ cs) h = let is : c ≡ 43 = h in rw is (and_false (not (length (c ∷ cs) == 0)))

pub no_number_after_test : (bs : List ℕ) (plus : Bool) → Decides plus (get_or bs 0 0 ≡ 43) → plus ≡ true → number_within 0 (2 ^ 64 - 1) bs ≡ None
no_number_after_test bs plus test is = rw (not_decimal bs (test.0 is)) refl

-- ---- limits

-- what is no number at all is none within limits
pub outside : (d : Bool) (v low high most : ℕ) → high ≤ most → None ≡ (if d && (nat_le 0 v && nat_le v most) then Some v else None) → None ≡ (if d && (nat_le low v && nat_le v high) then Some v else None)
outside false v low high most h none = refl
outside true v low high most h none = of (cases_lt most v)
  where
    of : (most < v) ⊎ (v ≤ most) → None ≡ (if nat_le low v && nat_le v high then Some v else None)
    of (inl gt) = let e : nat_le v high ≡ false = grind (arith, nat_tests) in rw (e, and_false (nat_le low v)) refl
    of (inr le) =
        let e : nat_le v most ≡ true = grind (arith, nat_tests) in
        let f : nat_le 0 v ≡ true = grind (arith, nat_tests) in
        let g : None ≡ Some v = rw (f, e) at none in cc

pub known : (d : Bool) (v most n : ℕ) → Some n ≡ (if d && (nat_le 0 v && nat_le v most) then Some v else None) → (d ≡ true) × (n ≡ v)
known true v most n h = of (nat_le 0 v && nat_le v most) refl
  where
    of : (b : Bool) → (nat_le 0 v && nat_le v most) ≡ b → (true ≡ true) × (n ≡ v)
    of true e = let g : Some n ≡ Some v = rw e at h in (refl, cc)
    of false e = let g : Some n ≡ None = rw e at h in cc
known false v most n h = cc

-- a number is judged by the limits
pub judged_within : (low high n : ℕ) (w : List ℕ) → Some n ≡ number_within 0 (2 ^ 64 - 1) w → (if nat_le low n && nat_le n high then Some n else None) ≡ number_within low high w
judged_within low high n w h =
    let k = known (is_decimal w) (digits_value 10 w) (2 ^ 64 - 1) n h in
    ap (λ m. if nat_le low m && nat_le m high then Some m else None) k.1 ∙ rw k.0 refl

pub not_within : (low high : ℕ) (w : List ℕ) → high < 2 ^ 64 → None ≡ number_within 0 (2 ^ 64 - 1) w → None ≡ number_within low high w
not_within low high w small h = outside (is_decimal w) (digits_value 10 w) low high (2 ^ 64 - 1) (omega arith) h
