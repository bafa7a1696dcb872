-- Decimals and the numbers that they spell.
use Rattle.std.proofs.Common.{◌≡◌, ℕ, ℤ, zero, suc, negsuc, ◌+◌, ◌-◌, ◌<◌, ◌≤◌, List, [], ◌∷◌, length, take, drop, get_or, Bool, true, false, cond, ◌==◌, nat_lt, Option, Some, None, Result, Ok, Err, refl, ap, sym, ◌∙◌, subst, ⊎_elim, arith, add-one, drop-cons}
use Rattle.std.specs.Prelude.{◌&&◌}
use Rattle.std.specs.Char.{is_ascii_digit}
use Rattle.std.specs.List.{take_while, prefix_len}
use Rattle.std.proofs.lemmas.List.{length-take-le, length-drop}
use Rattle.std.proofs.Math.Seq.{take-length}
use Rattle.std.proofs.lemmas.List.Sums.{take_while-cons, prefix_len-le-length}
use Rattle.std.proofs.lemmas.Fmt.{IsAscii-from_digits}
use Rattle.std.proofs.lemmas.Str.{IsUtf8-from_ascii}
use Rattle.std.specs.Str.{IsUtf8}
use Rattle.std.specs.Result.{OkIff, result_ok}
use Rattle.std.specs.Option.{option_and_then}
use Rattle.std.specs.Str.{all_ascii_digits}
use Rattle.std.specs.Str.Parse.{digits_value, ParsesUnsigned}
use Rattle.std.proofs.lemmas.Bool.{cases_Bool, true≢false}
use Rattle.std.proofs.lemmas.Bool.Decides.{nat_tests}
use Rattle.std.proofs.lemmas.Str.Parse.{IsNumeralModel, numerals_by_value, tells_all_ascii_digits, parse_digits}
use Rattle.nf_value.specs.Plain.{int}
use Rattle.nf_codec.specs.Heads.{Head, whole, is_decimal, ended_by, decimal_before, negative_of, fits_negative, fits_positive, int_at}

count_is : (bs : List ℕ) → length (take_while is_ascii_digit bs) ≡ prefix_len is_ascii_digit bs
count_is bs = length-take-le (prefix_len is_ascii_digit bs) bs (prefix_len-le-length is_ascii_digit bs)

pub front : (bs : List ℕ) → take (length (take_while is_ascii_digit bs)) bs ≡ take_while is_ascii_digit bs
front bs = ap (λ n. take n bs) (count_is bs)

pub count_le : (bs : List ℕ) → length (take_while is_ascii_digit bs) ≤ length bs
count_le bs = omega (arith, count_is bs, prefix_len-le-length is_ascii_digit bs)

pub all_digits : (bs : List ℕ) → all_ascii_digits (take_while is_ascii_digit bs) ≡ true
all_digits [] = refl
all_digits (b ∷ bs) =
    ap all_ascii_digits (take_while-cons is_ascii_digit b bs)
    ∙ ⊎_elim
    (λ e. ap (λ t. all_ascii_digits (cond t (b ∷ take_while is_ascii_digit bs) [])) e ∙ ap (λ t. t && all_ascii_digits (take_while is_ascii_digit bs)) e ∙ all_digits bs)
    (λ e. ap (λ t. all_ascii_digits (cond t (b ∷ take_while is_ascii_digit bs) [])) e)
    (cases_Bool (is_ascii_digit b))

same_byte : (b c : ℕ) → b ≡ c → (b == c) ≡ true
same_byte b c h = grind (arith, nat_tests)

pub decimal_found : (end : ℕ) (bs : List ℕ) (k : ℕ) → k ≡ length (take_while is_ascii_digit bs) → k < length bs → get_or bs k 0 ≡ end → is_decimal (take k bs) ≡ true → decimal_before end bs ≡ Some (digits_value 10 (take k bs), drop (k + 1) bs)
decimal_found end bs k is lt at ok =
    let ds : take_while is_ascii_digit bs ≡ take k bs = sym (ap (λ n. take n bs) is ∙ front bs) in
    let rest : drop k bs ≡ get_or bs k 0 ∷ drop (k + 1) bs = rw (add-one, drop-cons bs k 0) refl in
    ap (λ n. cond (is_decimal (take_while is_ascii_digit bs)) (ended_by end (digits_value 10 (take_while is_ascii_digit bs)) (drop n bs)) None) (sym is)
    ∙ ap (λ es. cond (is_decimal es) (ended_by end (digits_value 10 es) (drop k bs)) None) ds
    ∙ ap (λ t. cond t (ended_by end (digits_value 10 (take k bs)) (drop k bs)) None) ok
    ∙ ap (ended_by end (digits_value 10 (take k bs))) rest
    ∙ ap (λ t. cond t (Some (digits_value 10 (take k bs), drop (k + 1) bs)) None) (same_byte (get_or bs k 0) end at)

pub digits_taken : (bs : List ℕ) (k : ℕ) → k ≡ length (take_while is_ascii_digit bs) → all_ascii_digits (take k bs) ≡ true
digits_taken bs k is = ap all_ascii_digits (ap (λ n. take n bs) is ∙ front bs) ∙ all_digits bs

abbrev pub fitting : ℕ → ℕ → Option ℕ
fitting v most = cond (nat_lt v most) (Some v) None

pub own : IsNumeralModel (λ ds. all_ascii_digits ds ≡ true) (digits_value 10)
own = numerals_by_value (λ ds. all_ascii_digits ds ≡ true) tells_all_ascii_digits

only : {A : Type 0} (x y : A) → Some x ≡ Some y → x ≡ y
only x y h = ap (get x) h
  where
    get : {A : Type 0} → A → Option A → A
    get d None = d
    get d (Some z) = z

pub value_is : (v most x : ℕ) → Some x ≡ fitting v most → v ≡ x
value_is v most x h =
    ⊎_elim (λ e. only v x (sym (h ∙ ap (λ t. cond t (Some v) None) e))) (λ e. absurd (apart x (h ∙ ap (λ t. cond t (Some v) None) e))) (cases_Bool (nat_lt v most))
  where
    is_there : Option ℕ → Bool
    is_there None = false
    is_there (Some y) = true

    apart : (x : ℕ) → Some x ≡ None → ⊥
    apart x h = true≢false (ap is_there h)

pub negative_is : (v x : ℕ) (rest : List ℕ) (z : ℤ) → v ≡ x → 0 < x → x ≤ 9223372036854775808 → z ≡ negsuc (x - 1) → negative_of v rest ≡ Some (whole (int z), rest)
negative_is v zero rest z is some small at = absurd (omega arith)
negative_is v (suc n) rest z is some small at =
    let fits : nat_lt n 9223372036854775808 ≡ true = grind (arith, nat_tests) in
    let same : n ≡ suc n - 1 = omega arith in
    ap (λ m. negative_of m rest) is ∙ ap (λ t. cond t (Some (whole (int (negsuc n)), rest)) None) fits ∙ ap (λ y. Some (whole (int y), rest)) (ap negsuc same ∙ sym at)

pub some_digits : (ds : List ℕ) → is_decimal ds ≡ true → 0 < length ds
some_digits [] h = absurd (true≢false (sym h))
some_digits (d ∷ ds) h = omega arith

pub some_taken : (bs : List ℕ) (k : ℕ) → is_decimal (take k bs) ≡ true → 0 < k
some_taken bs zero h = absurd (true≢false (sym h))
some_taken bs (suc k) h = omega arith

fit_from : {E : Type 0} (v most : ℕ) (r : Result ℕ E) (P : Type 0) → P → OkIff r (P × (v < most)) v → result_ok r ≡ fitting v most
fit_from v most (Ok x) P p h = let t : nat_lt v most ≡ true = grind (arith, nat_tests, h.0.1) in ap Some h.1 ∙ sym (ap (λ b. cond b (Some v) None) t)
fit_from v most (Err e) P p h =
    ⊎_elim (λ t. absurd (h (p, below v most t))) (λ t. sym (ap (λ b. cond b (Some v) None) t)) (cases_Bool (nat_lt v most))
  where
    below : (v most : ℕ) → nat_lt v most ≡ true → v < most
    below v most t = grind (arith, nat_tests)

pub parsed : {E : Type 0} (ds text : List ℕ) (r : Result ℕ E) (o : Option ℕ) → ParsesUnsigned 64 10 text r → text ≡ ds → all_ascii_digits ds ≡ true → 0 < length ds → o ≡ result_ok r → o ≡ fitting (digits_value 10 ds) 18446744073709551616
parsed ds text r o h is digits some at =
    at ∙ fit_from (digits_value 10 ds) 18446744073709551616 r (0 < length ds) some (parse_digits own 64 ds r (subst (λ t. ParsesUnsigned 64 10 t r) is h) digits)

pub digits_are_text : (ds : List ℕ) → all_ascii_digits ds ≡ true → IsUtf8 ds
digits_are_text ds h = IsUtf8-from_ascii ds (IsAscii-from_digits ds (own.to ds h))

then_negative : (o : Option (ℕ × List ℕ)) (v x : ℕ) (rest : List ℕ) (z : ℤ) → o ≡ Some (v, rest) → v ≡ x → 0 < x → x ≤ 9223372036854775808 → z ≡ negsuc (x - 1) → option_and_then fits_negative o ≡ Some (whole (int z), rest)
then_negative o v x rest z is same some small at = ap (option_and_then fits_negative) is ∙ negative_is v x rest z same some small at

pub negative_found : (bs : List ℕ) (k x : ℕ) (z : ℤ) → decimal_before 59 bs ≡ Some (digits_value 10 (take k bs), drop (k + 1) bs) → Some x ≡ fitting (digits_value 10 (take k bs)) 18446744073709551616 → 0 < x → x ≤ 9223372036854775808 → z ≡ negsuc (x - 1)
    → option_and_then fits_negative (decimal_before 59 bs) ≡ Some (whole (int z), drop (k + 1) bs)
negative_found bs k x z is fits some small at =
    then_negative (decimal_before 59 bs) (digits_value 10 (take k bs)) x (drop (k + 1) bs) z is (value_is (digits_value 10 (take k bs)) 18446744073709551616 x fits) some small at

-- the bytes from an index on
pub tail_is : (bs : List ℕ) (k : ℕ) → take (length bs - k) (drop k bs) ≡ drop k bs
tail_is bs k = ap (λ n. take n (drop k bs)) (sym (length-drop k bs)) ∙ take-length (drop k bs)

minus_at : (bs : List ℕ) (used : ℕ) (h : Head) → 0 < length bs → get_or bs 0 0 ≡ 45 → option_and_then fits_negative (decimal_before 59 (drop 1 bs)) ≡ Some (h, drop used (drop 1 bs)) → int_at bs ≡ Some (h, drop (used + 1) bs)
minus_at [] used h lt at is = absurd (omega arith)
minus_at (b ∷ bs) used h lt at is =
    ap (λ t. cond t (option_and_then fits_negative (decimal_before 59 bs)) (option_and_then fits_positive (decimal_before 59 (b ∷ bs)))) (same_byte b 45 at) ∙ is ∙ ap (λ n. Some (h, drop n (b ∷ bs))) {x = suc used} {y = used + 1} (omega arith)

-- after a minus sign
pub minus_found : (bs digits : List ℕ) (used : ℕ) (h : Head) → digits ≡ take (length bs - 1) (drop 1 bs) → 0 < length bs → get_or bs 0 0 ≡ 45 → option_and_then fits_negative (decimal_before 59 digits) ≡ Some (h, drop used digits) → int_at bs ≡ Some (h, drop (used + 1) bs)
minus_found bs digits used h part lt at is =
    minus_at bs used h lt at (subst (λ ds. option_and_then fits_negative (decimal_before 59 ds) ≡ Some (h, drop used ds)) (part ∙ tail_is bs 1) is)
