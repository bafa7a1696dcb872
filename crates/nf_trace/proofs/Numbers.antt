-- Decimal numbers without leading zeros: the longer is the greater, and of one length bytes decide.
use Rattle.std.proofs.Common.{◌≡◌, ℕ, zero, suc, ◌+◌, ◌*◌, ◌^◌, ◌<◌, ◌≤◌, ◌==◌, nat_lt, not, Bool, true, false, ◌&&◌, List, [], ◌∷◌, length, refl, sym, ◌∙◌, ap, subst, arith, lit<, ◌≢◌}
use Rattle.std.specs.Char.{digit_value, is_ascii_digit}
use Rattle.std.specs.List.{list_all}
use Rattle.std.specs.Int.{IsInRange}
use Rattle.std.specs.Str.{all_ascii_digits}
use Rattle.std.specs.Str.Parse.{AllDigits, digits_value, digits_value_after}
use Rattle.std.specs.declared.cmp.Ordering.{Ordering}
use Rattle.std.specs.declared.cmp.Ordering.TheVariants.{Less, Equal, Greater}
use Rattle.std.specs.Ordering.{nat_cmp, is_lt, ordering_then, MatchOrdering}
use Rattle.std.specs.Cmp.Lexicographic.{slice_cmp}
use Rattle.std.proofs.Math.Nat.{pow-succ', mul-le-mul_left, mul-le-mul_right, pow-le-pow_right}
use Rattle.std.proofs.lemmas.Cmp.{ranked}
use Rattle.std.proofs.lemmas.Str.{digit_value_digit}
use Rattle.std.proofs.lemmas.Str.Parse.{IsDigitsTest, tells_all_ascii_digits}
use Rattle.std.proofs.lemmas.Int.Digits.{digits_value-lt}
use Rattle.std.proofs.lemmas.Bool.{false≢true}
use Rattle.std.proofs.lemmas.Bool.Decides.{nat_tests}
use Rattle.nf_trace.specs.Reading.{is_unpadded, is_number, is_below, IsNumberOrNone}

both : (a b : Bool) → (a && b) ≡ true → (a ≡ true) × (b ≡ true)
both true true h = (refl, refl)
both true false h = absurd (false≢true h)
both false b h = absurd (false≢true h)

-- ---- digits

are_digits : (ds : List ℕ) → all_ascii_digits ds ≡ true → AllDigits 10 ds
are_digits [] h = tt
are_digits (c ∷ cs) h =
    let parts = tells_all_ascii_digits.parts c cs h in
    let e : digit_value c + 48 ≡ c = digit_value_digit c parts.0 in
    let top : c ≤ 57 = parts.0.1 in
    let low : digit_value c < 10 = omega arith in
    (low, are_digits cs parts.1)

-- the value of a digit, and its byte
digit_byte : (c : ℕ) (cs : List ℕ) → all_ascii_digits (c ∷ cs) ≡ true → digit_value c + 48 ≡ c
digit_byte c cs h = digit_value_digit c (tells_all_ascii_digits.parts c cs h).0

later_digits : (c : ℕ) (cs : List ℕ) → all_ascii_digits (c ∷ cs) ≡ true → all_ascii_digits cs ≡ true
later_digits c cs h = (tells_all_ascii_digits.parts c cs h).1

all_digits : (ds : List ℕ) → list_all is_ascii_digit ds ≡ all_ascii_digits ds
all_digits [] = refl
all_digits (c ∷ cs) = ap (λ b. is_ascii_digit c && b) (all_digits cs)

digits_of_number : (ds : List ℕ) → is_number ds ≡ true → all_ascii_digits ds ≡ true
digits_of_number ds h = sym (all_digits ds) ∙ (both (is_unpadded ds) (list_all is_ascii_digit ds) h).1

-- ---- length

least : (n : ℕ) (ds : List ℕ) → n * 10 ^ length ds ≤ digits_value_after 10 n ds
least n [] = omega arith
least n (c ∷ cs) =
    let e : 10 ^ suc (length cs) ≡ 10 * 10 ^ length cs = pow-succ' 10 (length cs) in
    let more : (n * 10 + digit_value c) * 10 ^ length cs ≤ digits_value_after 10 (n * 10 + digit_value c) cs = least (n * 10 + digit_value c) cs in
    rw e (ten n (digit_value c) (10 ^ length cs) _ more)
  where
    ten : (k d p v : ℕ) → (k * 10 + d) * p ≤ v → k * (10 * p) ≤ v
    ten k d p v h = omega arith

-- a number of more than m digits is at least 10 ^ m
at_least : (ds : List ℕ) (m : ℕ) → is_number ds ≡ true → m < length ds → 10 ^ m ≤ digits_value 10 ds
at_least [] m h lt = absurd (omega arith)
at_least (d ∷ ds) m h lt =
    let byte : digit_value d + 48 ≡ d = digit_byte d ds (digits_of_number (d ∷ ds) h) in
    let front : not (d == 48) ≡ true = (both (not (d == 48)) (list_all is_ascii_digit (d ∷ ds)) h).0 in
    let ne : d ≢ 48 = grind (arith, nat_tests) in
    let some : 1 ≤ digit_value d = omega arith in
    let low : 10 ^ m ≤ 10 ^ length ds = pow-le-pow_right (lit< tt) (omega arith) in
    let up : 1 * 10 ^ length ds ≤ digit_value d * 10 ^ length ds = mul-le-mul_right (10 ^ length ds) some in
    let e : digit_value d ≡ 0 * 10 + digit_value d = omega arith in
    let all : digit_value d * 10 ^ length ds ≤ digits_value_after 10 (digit_value d) ds = least (digit_value d) ds in
    let same : digits_value_after 10 (digit_value d) ds ≡ digits_value 10 (d ∷ ds) = ap (λ k. digits_value_after 10 k ds) e in
    omega arith

digits_of_bound : (ds : List ℕ) → IsNumberOrNone ds → all_ascii_digits ds ≡ true
digits_of_bound [] h = refl
digits_of_bound (d ∷ ds) h = digits_of_number (d ∷ ds) h

number_of_bound : (ds : List ℕ) (m : ℕ) → IsNumberOrNone ds → m < length ds → is_number ds ≡ true
number_of_bound [] m h lt = absurd (omega arith)
number_of_bound (d ∷ ds) m h lt = h

-- the shorter is below the longer
short_below : (a b : List ℕ) → all_ascii_digits a ≡ true → is_number b ≡ true → length a < length b → digits_value 10 a < digits_value 10 b
short_below a b ha hb lt =
    let up : digits_value 10 a < 10 ^ length a = digits_value-lt 10 a (are_digits a ha) in
    let low : 10 ^ length a ≤ digits_value 10 b = at_least b (length a) hb lt in
    omega arith

pub below_by_length : (a b : List ℕ) → IsNumberOrNone a → is_number b ≡ true → length a ≢ length b → nat_lt (length a) (length b) ≡ is_below a b
below_by_length a b ha hb ne = of (nat_lt (length a) (length b)) refl
  where
    of : (t : Bool) → nat_lt (length a) (length b) ≡ t → t ≡ is_below a b
    of true e =
        let lt : length a < length b = grind (arith, nat_tests) in
        let v : digits_value 10 a < digits_value 10 b = short_below a b (digits_of_bound a ha) hb lt in
        grind (arith, nat_tests)
    of false e =
        let lt : length b < length a = grind (arith, nat_tests) in
        let v : digits_value 10 b < digits_value 10 a = short_below b a (digits_of_number b hb) (number_of_bound a (length b) ha lt) lt in
        grind (arith, nat_tests)

-- ---- bytes

-- what begins lower ends lower
stays_below : (m n : ℕ) (ds es : List ℕ) → all_ascii_digits ds ≡ true → length ds ≡ length es → m < n → digits_value_after 10 m ds < digits_value_after 10 n es
stays_below m n [] [] h e lt = lt
stays_below m n [] (d ∷ es) h e lt = absurd (omega arith)
stays_below m n (c ∷ ds) [] h e lt = absurd (omega arith)
stays_below m n (c ∷ ds) (d ∷ es) h e lt =
    let low : digit_value c < 10 = (are_digits (c ∷ ds) h).0 in
    stays_below (m * 10 + digit_value c) (n * 10 + digit_value d) ds es (later_digits c ds h) (omega arith) (omega arith)

ordered : (m : ℕ) (ds es : List ℕ) → all_ascii_digits ds ≡ true → all_ascii_digits es ≡ true → length ds ≡ length es → is_lt (slice_cmp nat_cmp ds es) ≡ nat_lt (digits_value_after 10 m ds) (digits_value_after 10 m es)
ordered m [] [] h g e = grind (arith, nat_tests)
ordered m [] (d ∷ es) h g e = absurd (omega arith)
ordered m (c ∷ ds) [] h g e = absurd (omega arith)
ordered m (c ∷ ds) (d ∷ es) h g e = of (ordered (m * 10 + digit_value c) ds es (later_digits c ds h) (later_digits d es g) (omega arith)) (nat_cmp c d) (ranked c d (nat_cmp c d) refl)
  where
    same : length ds ≡ length es
    same = omega arith

    of : is_lt (slice_cmp nat_cmp ds es) ≡ nat_lt (digits_value_after 10 (m * 10 + digit_value c) ds) (digits_value_after 10 (m * 10 + digit_value c) es) → (o : Ordering) → MatchOrdering o (c < d) (c ≡ d) (d < c) → is_lt (ordering_then o (slice_cmp nat_cmp ds es)) ≡ nat_lt (digits_value_after 10 (m * 10 + digit_value c) ds) (digits_value_after 10 (m * 10 + digit_value d) es)
    of later Less lt =
        let first : digit_value c + 48 ≡ c = digit_byte c ds h in
        let second : digit_value d + 48 ≡ d = digit_byte d es g in
        let v : digits_value_after 10 (m * 10 + digit_value c) ds < digits_value_after 10 (m * 10 + digit_value d) es = stays_below (m * 10 + digit_value c) (m * 10 + digit_value d) ds es (later_digits c ds h) same (omega arith) in
        grind (arith, nat_tests)
    of later Equal eq = later ∙ ap (λ x. nat_lt (digits_value_after 10 (m * 10 + digit_value c) ds) (digits_value_after 10 (m * 10 + digit_value x) es)) eq
    of later Greater gt =
        let first : digit_value c + 48 ≡ c = digit_byte c ds h in
        let second : digit_value d + 48 ≡ d = digit_byte d es g in
        let v : digits_value_after 10 (m * 10 + digit_value d) es < digits_value_after 10 (m * 10 + digit_value c) ds = stays_below (m * 10 + digit_value d) (m * 10 + digit_value c) es ds (later_digits d es g) (sym same) (omega arith) in
        grind (arith, nat_tests)

pub below_by_bytes : (a b : List ℕ) → IsNumberOrNone a → is_number b ≡ true → length a ≡ length b → is_lt (slice_cmp nat_cmp a b) ≡ is_below a b
below_by_bytes a b ha hb e = ordered 0 a b (digits_of_bound a ha) (digits_of_number b hb) e
