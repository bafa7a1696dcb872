-- A text without the line end at its end, and what stands behind its last line end.
use Rattle.std.proofs.Common.{◌≡◌, ◌≢◌, ℕ, ◌+◌, ◌-◌, ◌<◌, ◌≤◌, ◌==◌, ltb, true, not, List, [], ◌∷◌, ◌++◌, length, drop, take, get_or, Option, Some, None, MatchOption, unwrap_or, Bor, sym, ◌∙◌, ap, arith, lit<, refl, eq-eqb, ne_eqb, take_all}
use Rattle.std.specs.List.{after_last, suffix_len}
use Rattle.std.specs.Io.BufRead.{strip_last, ends_with_byte}
use Rattle.std.specs.Str.{NoCharPasses}
use Rattle.std.specs.Str.Pattern.{RFindsChar, SplitsAroundMatch}
use Rattle.std.proofs.lemmas.Bool.{and_parts, and_from, false_from_ne_true, cond-true, cond-false, lt-ltb, ltb-true, eqb-true}
use Rattle.std.proofs.lemmas.List.{get_or-drop, length-drop, take_more, get_or_push, length-append}
use Rattle.std.proofs.lemmas.List.Sums.{suffix_len_is}
use Rattle.std.proofs.lemmas.Str.Pattern.{NoCharPasses-char}
use Rattle.std.proofs.Math.Seq.{take-append_seam}

-- no byte from n on is c, and the one before n is: what stands behind the last c begins at n
after_last_is : (c : ℕ) (bs : List ℕ) (n : ℕ) → n ≤ length bs → ((k : ℕ) → n ≤ k → k < length bs → get_or bs k 0 ≢ c) → (0 < n → get_or bs (n - 1) 0 ≡ c) → drop n bs ≡ after_last (λ b. b == c) bs
after_last_is c bs n le none at =
    let e : suffix_len (λ b. not (b == c)) bs ≡ length bs - n =
    suffix_len_is (λ b. not (b == c)) bs n 0 le (λ k low high. ap not (ne_eqb (get_or bs k 0) c (none k low high))) (λ some. ap not (eq-eqb (get_or bs (n - 1) 0) c (at some))) in
    ap (λ m. drop m bs) (omega arith)

-- no byte from j on is a line end
none_from : (bs : List ℕ) (j k : ℕ) → NoCharPasses (λ d. d == 10) (drop j bs) → j ≤ k → k < length bs → get_or bs k 0 ≢ 10
none_from bs j k none low high e =
    let within : k - j < length (drop j bs) = rw length-drop (omega arith) in
    let same : j + (k - j) ≡ k = omega arith in
    NoCharPasses-char 10 (drop j bs) (k - j) none (lit< _) within (get_or-drop j bs (k - j) 0 ∙ ap (λ m. get_or bs m 0) same ∙ e)

-- the clause of `rsplit_once` at a line end
pub behind_some : (bs front back : List ℕ) → SplitsAroundMatch (RFindsChar 10) bs front back → back ≡ after_last (λ b. b == 10) bs
behind_some bs front back (i, j, found, f, b, le, lf, lb) =
    let here : j - 1 ≡ i = omega (arith, found.1.ends) in
    b ∙ after_last_is 10 bs j (omega arith) (λ k low high. none_from bs j k found.0 low high) (λ some. ap (λ m. get_or bs m 0) here ∙ found.1.byte (lit< _))

pub behind_none : (bs : List ℕ) → RFindsChar 10 bs None → bs ≡ after_last (λ b. b == 10) bs
behind_none bs none = after_last_is 10 bs 0 (omega arith) (λ k low high. NoCharPasses-char 10 bs k none (lit< _) high) (λ some. absurd (omega arith))

-- a text that ends with a line end
with_end : (xs bs : List ℕ) → bs ≡ xs ++ (10 ∷ []) → xs ≡ strip_last 10 bs
with_end xs bs e =
    let len : length bs ≡ length xs + 1 = ap length e ∙ length-append xs (10 ∷ []) in
    let before : length bs - 1 ≡ length xs = omega arith in
    let here : get_or bs (length bs - 1) 0 ≡ 10 = ap (λ m. get_or bs m 0) before ∙ ap (λ l. get_or l (length xs) 0) e ∙ get_or_push xs 10 0 (length xs) refl in
    let ends : ends_with_byte 10 bs ≡ true = and_from (ltb 0 (length bs)) (get_or bs (length bs - 1) 0 == 10) (lt-ltb 0 (length bs) (omega arith)) (eq-eqb (get_or bs (length bs - 1) 0) 10 here) in
    sym (cond-true (ends_with_byte 10 bs) (take (length bs - 1) bs) bs ends ∙ ap (λ m. take m bs) before ∙ ap (λ l. take (length xs) l) e ∙ take-append_seam xs (10 ∷ []))

-- a text whose last byte is a line end has a front before it
front_of : (bs : List ℕ) → ends_with_byte 10 bs ≡ true → bs ≡ take (length bs - 1) bs ++ (10 ∷ [])
front_of bs ends =
    let parts = and_parts (ltb 0 (length bs)) (get_or bs (length bs - 1) 0 == 10) ends in
    let some : 0 < length bs = ltb-true 0 (length bs) parts.0 in
    let here : get_or bs (length bs - 1) 0 ≡ 10 = eqb-true (get_or bs (length bs - 1) 0) 10 parts.1 in
    sym (take_all (length bs - 1 + 1) bs (omega arith)) ∙ take_more bs (length bs - 1) 0 (omega arith) ∙ ap (λ b. take (length bs - 1) bs ++ (b ∷ [])) here

-- a text that ends with none
with_none : (bs : List ℕ) → ((front : List ℕ) → bs ≢ front ++ (10 ∷ [])) → bs ≡ strip_last 10 bs
with_none bs none =
    sym (cond-false (ends_with_byte 10 bs) (take (length bs - 1) bs) bs (false_from_ne_true (ends_with_byte 10 bs) (λ ends. none (take (length bs - 1) bs) (front_of bs ends))))

-- the clause of `strip_suffix` at a line end, and `unwrap_or`
pub without_end : (d : Bor (List ℕ)) (r : Option (Bor (List ℕ))) → MatchOption r ((front : List ℕ) → d.now ≢ front ++ (10 ∷ [])) (λ x. d.now ≡ x.now ++ (10 ∷ []))
    → (unwrap_or r d).now ≡ strip_last 10 d.now
without_end d None h = with_none d.now h
without_end d (Some x) h = with_end x.now d.now h
