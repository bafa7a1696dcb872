-- A head that is read is one that is written.
use Rattle.std.proofs.Common.{◌≡◌, ℕ, zero, suc, pos, negsuc, ◌<◌, ◌≤◌, List, [], ◌∷◌, ◌++◌, length, take, drop, get_or, Bool, true, false, cond, not, ◌==◌, nat_lt, nat_le, Option, Some, None, Result, Ok, Err, refl, ap, sym, ◌∙◌, subst, arith, codes, decimal}
use Rattle.std.specs.Prelude.{◌&&◌}
use Rattle.std.specs.Char.{is_ascii_digit}
use Rattle.std.specs.List.{take_while}
use Rattle.std.specs.Option.{option_and_then}
use Rattle.std.specs.Str.{is_utf8, bytes_eq, all_ascii_digits}
use Rattle.std.specs.Str.Parse.{digits_value}
use Rattle.std.proofs.lemmas.Bool.{true≢false}
use Rattle.std.proofs.lemmas.Bool.Decides.{nat_tests}
use Rattle.std.proofs.lemmas.Fmt.{decimal-digits_value}
use Rattle.std.proofs.lemmas.List.{length-drop, length-take-le, take-append-drop}
use Rattle.std.proofs.lemmas.Slice.Eq.{bytes_eq-Decides}
use Rattle.std.proofs.lemmas.Str.{IsUtf8-from_is_utf8}
use Rattle.hex.specs.declared.error.FromHexError.{FromHexError}
use Rattle.hex.specs.Hex.{encode_lower, decode_of, IsBytes}
use Rattle.hex.proofs.HexLemmas.{decode_of-ok}
use Rattle.nf_value.specs.Plain.{null, truth, int, text, file}
use Rattle.nf_value.specs.Code.{code, head_code}
use Rattle.nf_value.specs.Depth.{depth_of}
use Rattle.nf_codec.specs.Heads.{Head, whole, list_of, table_of, is_decimal, ended_by, decimal_before, fits_positive, negative_of, fits_negative, int_at, cut_text, counted_text, text_at, lower_only, digest_of, fits_length, file_length, file_tail, file_at, counted, head_after, head_at}
use Rattle.nf_codec.specs.Whole.{IsWhole, IsWholeText}
use Rattle.nf_codec.proofs.Numbers.{own, front, all_digits, some_digits}
use Rattle.nf_codec.proofs.Written.{both}
use Rattle.nf_codec.proofs.RoundTrip.{head_then, text_then, int_then, file_then}

abbrev pub Holds : {A : Type 0} → (A → Type 0) → Option A → Type 0
Holds P None = Unit {0}
Holds P (Some x) = P x

holds_choice : {A : Type 0} (P : A → Type 0) (b : Bool) (x y : Option A) → (b ≡ true → Holds P x) → Holds P y → Holds P (cond b x y)
holds_choice P true x y h k = h refl
holds_choice P false x y h k = k

holds_if : {A : Type 0} (P : A → Type 0) (b : Bool) (x : Option A) → (b ≡ true → Holds P x) → Holds P (cond b x None)
holds_if P b x h = holds_choice P b x None h tt

holds_then : {A B : Type 0} (Q : A → Type 0) (P : B → Type 0) (g : A → Option B) (o : Option A) → Holds Q o → ((x : A) → Q x → Holds P (g x)) → Holds P (option_and_then g o)
holds_then Q P g None h k = tt
holds_then Q P g (Some x) h k = k x h

equal : (a b : ℕ) → (a == b) ≡ true → a ≡ b
equal a b h = grind (arith, nat_tests)

below : (n most : ℕ) → nat_lt n most ≡ true → n < most
below n most h = grind (arith, nat_tests)

at_most : (n m : ℕ) → nat_le n m ≡ true → n ≤ m
at_most n m h = grind (arith, nat_tests)

-- a number is written, and the given byte after it
abbrev IsWritten : ℕ → List ℕ → ℕ × List ℕ → Type 0
IsWritten end bs p = (length p.1 ≤ length bs) × (p.0 < 18446744073709551616 → bs ≡ decimal p.0 ++ end ∷ p.1)

holds_ended : {A : Type 0} (P : A × List ℕ → Type 0) (end : ℕ) (x : A) (bs : List ℕ) → ((rest : List ℕ) → bs ≡ end ∷ rest → P (x, rest)) → Holds P (ended_by end x bs)
holds_ended P end x [] h = tt
holds_ended P end x (b ∷ bs) h = holds_if P (b == end) (Some (x, bs)) (λ t. h bs (ap (λ c. c ∷ bs) (equal b end t)))

one_zero : (ds : List ℕ) → is_decimal ds ≡ true → get_or ds 0 0 ≡ 48 → length ds ≡ 1
one_zero [] h z = absurd (true≢false (sym h))
one_zero (d ∷ []) h z = refl
one_zero (d ∷ e ∷ ds) h z = let t : (d == 48) ≡ true = grind (arith, nat_tests) in absurd (true≢false (sym h ∙ ap not t))

digits_again : (ds : List ℕ) → is_decimal ds ≡ true → all_ascii_digits ds ≡ true → digits_value 10 ds < 18446744073709551616 → decimal (digits_value 10 ds) ≡ ds
digits_again ds h all small = decimal-digits_value own ds all (some_digits ds h) (one_zero ds h) small

decimal_spelled : (end : ℕ) (bs : List ℕ) → Holds (IsWritten end bs) (decimal_before end bs)
decimal_spelled end bs =
    let ds = take_while is_ascii_digit bs in
    let after = drop (length ds) bs in
    holds_if (IsWritten end bs) (is_decimal ds) (ended_by end (digits_value 10 ds) after)
    (λ t. holds_ended (IsWritten end bs) end (digits_value 10 ds) after
    (λ rest is. (
      omega (arith, ap length is, length-drop (length ds) bs),
      λ small. sym (take-append-drop (length ds) bs) ∙ (λ i. front bs i ++ is i) ∙ ap (λ es. es ++ end ∷ rest) (sym (digits_again ds t (all_digits bs) small)),
    )))

-- the code of a value that is no list or map, or how a list or map begins; and the rest
abbrev pub Spells : List ℕ → Head → List ℕ → Type 0
Spells bs (whole v) rest = (bs ≡ code v ++ rest) × IsWhole v × (depth_of v ≡ 0)
Spells bs (list_of n) rest = (length rest < length bs) × (n < 18446744073709551616 → bs ≡ head_code (codes "l") n ++ rest)
Spells bs (table_of n) rest = (length rest < length bs) × (n < 18446744073709551616 → bs ≡ head_code (codes "m") n ++ rest)

abbrev pub IsSpelled : List ℕ → Head × List ℕ → Type 0
IsSpelled bs p = Spells bs p.0 p.1

positive_spelled : (bs : List ℕ) → Holds (IsSpelled (105 ∷ bs)) (option_and_then fits_positive (decimal_before 59 bs))
positive_spelled bs =
    holds_then (IsWritten 59 bs) (IsSpelled (105 ∷ bs)) fits_positive (decimal_before 59 bs) (decimal_spelled 59 bs)
    (λ p w. holds_if (IsSpelled (105 ∷ bs)) (nat_lt p.0 9223372036854775808) (Some (whole (int (pos p.0)), p.1))
    (λ t. let small : p.0 < 9223372036854775808 = below p.0 9223372036854775808 t in (ap (λ cs. 105 ∷ cs) (w.1 (omega arith)) ∙ sym (int_then (pos p.0) p.1), small, refl)))

minus_spelled : (bs : List ℕ) (n : ℕ) (rest : List ℕ) → IsWritten 59 bs (n, rest) → Holds (IsSpelled (105 ∷ 45 ∷ bs)) (negative_of n rest)
minus_spelled bs zero rest w = tt
minus_spelled bs (suc n) rest w =
    holds_if (IsSpelled (105 ∷ 45 ∷ bs)) (nat_lt n 9223372036854775808) (Some (whole (int (negsuc n)), rest))
    (λ t. let small : n < 9223372036854775808 = below n 9223372036854775808 t in (ap (λ cs. 105 ∷ 45 ∷ cs) (w.1 (omega arith)) ∙ sym (int_then (negsuc n) rest), small, refl))

negative_spelled : (bs : List ℕ) → Holds (IsSpelled (105 ∷ 45 ∷ bs)) (option_and_then fits_negative (decimal_before 59 bs))
negative_spelled bs = holds_then (IsWritten 59 bs) (IsSpelled (105 ∷ 45 ∷ bs)) fits_negative (decimal_before 59 bs) (decimal_spelled 59 bs) (λ p w. minus_spelled bs p.0 p.1 w)

int_spelled : (bs : List ℕ) → Holds (IsSpelled (105 ∷ bs)) (int_at bs)
int_spelled [] = tt
int_spelled (b ∷ bs) =
    holds_choice (IsSpelled (105 ∷ b ∷ bs)) (b == 45) (option_and_then fits_negative (decimal_before 59 bs)) (option_and_then fits_positive (decimal_before 59 (b ∷ bs)))
    (λ t. subst (λ c. Holds (IsSpelled (105 ∷ c ∷ bs)) (option_and_then fits_negative (decimal_before 59 bs))) (sym (equal b 45 t)) (negative_spelled bs))
    (positive_spelled (b ∷ bs))

-- the length of a whole text, the text and the rest
abbrev IsTextThen : List ℕ → List ℕ × List ℕ → Type 0
IsTextThen bs p = IsWholeText p.0 × (bs ≡ decimal (length p.0) ++ 58 ∷ (p.0 ++ p.1))

cut_spelled : (bs : List ℕ) (n : ℕ) (rest : List ℕ) → length bs < 18446744073709551616 → IsWritten 58 bs (n, rest) → n ≤ length rest → is_utf8 (take n rest) ≡ true → IsTextThen bs (take n rest, drop n rest)
cut_spelled bs n rest small w fits utf8 =
    let len : length (take n rest) ≡ n = length-take-le n rest fits in
    let few : n < 18446744073709551616 = omega (arith, w.0) in (
      (IsUtf8-from_is_utf8 (take n rest) utf8, omega (arith, len)),
      w.1 few ∙ (λ i. decimal (sym len i) ++ 58 ∷ (sym (take-append-drop n rest) i)),
    )

counted_spelled : (bs : List ℕ) → length bs < 18446744073709551616 → Holds (IsTextThen bs) (counted_text bs)
counted_spelled bs small =
    holds_then (IsWritten 58 bs) (IsTextThen bs) cut_text (decimal_before 58 bs) (decimal_spelled 58 bs)
    (λ p w. holds_if (IsTextThen bs) (nat_le p.0 (length p.1) && is_utf8 (take p.0 p.1)) (Some (take p.0 p.1, drop p.0 p.1))
    (λ t. let b = both (nat_le p.0 (length p.1)) (is_utf8 (take p.0 p.1)) t in cut_spelled bs p.0 p.1 small w (at_most p.0 (length p.1) b.0) b.1))

text_spelled : (bs : List ℕ) → length bs < 18446744073709551616 → Holds (IsSpelled (115 ∷ bs)) (text_at bs)
text_spelled bs small =
    holds_then (IsTextThen bs) (IsSpelled (115 ∷ bs)) (λ p. Some (whole (text p.0), p.1)) (counted_text bs) (counted_spelled bs small)
    (λ p w. (ap (λ cs. 115 ∷ cs) w.1 ∙ sym (text_then p.0 p.1), w.0, refl))

abbrev IsLengthThen : List ℕ → ℕ × List ℕ → Type 0
IsLengthThen bs p = (p.0 < 18446744073709551616) × (bs ≡ decimal p.0 ++ 59 ∷ p.1)

length_spelled : (bs : List ℕ) → Holds (IsLengthThen bs) (file_length bs)
length_spelled bs =
    holds_then (IsWritten 59 bs) (IsLengthThen bs) fits_length (decimal_before 59 bs) (decimal_spelled 59 bs)
    (λ p w. holds_if (IsLengthThen bs) (nat_lt p.0 18446744073709551616) (Some p) (λ t. let small = below p.0 18446744073709551616 t in (small, w.1 small)))

abbrev IsDigestOf : List ℕ → List ℕ → Type 0
IsDigestOf ds d = IsBytes d × (length d ≡ 32) × (ds ≡ encode_lower d)

digest_spelled : (ds : List ℕ) → length ds ≡ 64 → Holds (IsDigestOf ds) (digest_of ds)
digest_spelled ds len = by (decode_of ds) refl
  where
    by : (r : Result (List ℕ) FromHexError) → decode_of ds ≡ r → Holds (IsDigestOf ds) (lower_only ds r)
    by (Err e) is = tt
    by (Ok d) is =
        let ok = decode_of-ok ds d is in
        holds_if (IsDigestOf ds) (bytes_eq (encode_lower d) ds) (Some d) (λ t. (ok.3, omega (arith, ok.2, len), sym ((bytes_eq-Decides (encode_lower d) ds).0 t)))

-- a digest, the length of a file and the rest
abbrev IsTailThen : List ℕ → (List ℕ × ℕ) × List ℕ → Type 0
IsTailThen bs q = IsBytes q.0.0 × (length q.0.0 ≡ 32) × (q.0.1 < 18446744073709551616) × (bs ≡ encode_lower q.0.0 ++ (decimal q.0.1 ++ 59 ∷ q.1))

tail_spelled : (bs : List ℕ) → Holds (IsTailThen bs) (file_tail bs)
tail_spelled bs =
    holds_if (IsTailThen bs) (nat_le 64 (length bs)) (option_and_then (λ digest. option_and_then (λ p. Some ((digest, p.0), p.1)) (file_length (drop 64 bs))) (digest_of (take 64 bs)))
    (λ t. holds_then (IsDigestOf (take 64 bs)) (IsTailThen bs) (λ digest. option_and_then (λ p. Some ((digest, p.0), p.1)) (file_length (drop 64 bs))) (digest_of (take 64 bs))
    (digest_spelled (take 64 bs) (length-take-le 64 bs (at_most 64 (length bs) t)))
    (λ digest w. holds_then (IsLengthThen (drop 64 bs)) (IsTailThen bs) (λ p. Some ((digest, p.0), p.1)) (file_length (drop 64 bs)) (length_spelled (drop 64 bs))
    (λ p v. (w.0, w.1, v.0, sym (take-append-drop 64 bs) ∙ (λ i. w.2 i ++ v.1 i)))))

file_spelled : (bs : List ℕ) → length bs < 18446744073709551616 → Holds (IsSpelled (112 ∷ bs)) (file_at bs)
file_spelled bs small =
    holds_then (IsTextThen bs) (IsSpelled (112 ∷ bs)) (λ p. option_and_then (λ q. Some (whole (file p.0 q.0.0 q.0.1), q.1)) (file_tail p.1)) (counted_text bs) (counted_spelled bs small)
    (λ p w. holds_then (IsTailThen p.1) (IsSpelled (112 ∷ bs)) (λ q. Some (whole (file p.0 q.0.0 q.0.1), q.1)) (file_tail p.1) (tail_spelled p.1)
    (λ q v. (
      ap (λ cs. 112 ∷ cs) (w.1 ∙ ap (λ cs. decimal (length p.0) ++ 58 ∷ (p.0 ++ cs)) v.3) ∙ sym (file_then p.0 q.0.0 q.0.1 q.1),
      (w.0, v.0, v.1, v.2),
      refl,
    )))

list_spelled : (bs : List ℕ) → Holds (IsSpelled (108 ∷ bs)) (counted list_of bs)
list_spelled bs =
    holds_then (IsWritten 58 bs) (IsSpelled (108 ∷ bs)) (λ p. Some (list_of p.0, p.1)) (decimal_before 58 bs) (decimal_spelled 58 bs)
    (λ p w. (omega (arith, w.0), λ small. ap (λ cs. 108 ∷ cs) (w.1 small) ∙ sym (head_then p.0 p.1 108)))

table_spelled : (bs : List ℕ) → Holds (IsSpelled (109 ∷ bs)) (counted table_of bs)
table_spelled bs =
    holds_then (IsWritten 58 bs) (IsSpelled (109 ∷ bs)) (λ p. Some (table_of p.0, p.1)) (decimal_before 58 bs) (decimal_spelled 58 bs)
    (λ p w. (omega (arith, w.0), λ small. ap (λ cs. 109 ∷ cs) (w.1 small) ∙ sym (head_then p.0 p.1 109)))

-- at a letter that is told, what that letter spells
lettered : (letter c : ℕ) (bs : List ℕ) (o : Option (Head × List ℕ)) → Holds (IsSpelled (c ∷ bs)) o → (letter == c) ≡ true → Holds (IsSpelled (letter ∷ bs)) o
lettered letter c bs o h t = subst (λ b. Holds (IsSpelled (b ∷ bs)) o) (sym (equal letter c t)) h

after_spelled : (letter : ℕ) (bs : List ℕ) → length bs < 18446744073709551616 → Holds (IsSpelled (letter ∷ bs)) (head_after letter bs)
after_spelled letter bs small =
    let P : Head × List ℕ → Type 0 = IsSpelled (letter ∷ bs) in
    holds_choice P (letter == 110) _ _ (lettered letter 110 bs (Some (whole null, bs)) (refl, tt, refl))
    (holds_choice P (letter == 116) _ _ (lettered letter 116 bs (Some (whole (truth true), bs)) (refl, tt, refl))
    (holds_choice P (letter == 102) _ _ (lettered letter 102 bs (Some (whole (truth false), bs)) (refl, tt, refl))
    (holds_choice P (letter == 105) (int_at bs) _ (lettered letter 105 bs (int_at bs) (int_spelled bs))
    (holds_choice P (letter == 115) (text_at bs) _ (lettered letter 115 bs (text_at bs) (text_spelled bs small))
    (holds_choice P (letter == 112) (file_at bs) _ (lettered letter 112 bs (file_at bs) (file_spelled bs small))
    (holds_choice P (letter == 108) (counted list_of bs) _ (lettered letter 108 bs (counted list_of bs) (list_spelled bs))
    (holds_if P (letter == 109) (counted table_of bs) (lettered letter 109 bs (counted table_of bs) (table_spelled bs)))))))))

pub head_spelled : (bs : List ℕ) → length bs < 18446744073709551616 → Holds (IsSpelled bs) (head_at bs)
head_spelled [] small = tt
head_spelled (b ∷ bs) small = after_spelled b bs (omega arith)
