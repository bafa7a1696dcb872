-- Texts with blanks for tabs and line ends, character by character.
use Rattle.std.proofs.Common.{◌≡◌, ℕ, zero, suc, ◌+◌, ◌<◌, ◌≤◌, ◌==◌, ◌||◌, List, [], ◌∷◌, ◌++◌, length, get_or, map, refl, sym, ◌∙◌, ap, subst, arith, append_assoc, if◌then◌else◌, ◌⊎◌, inl, inr}
use Rattle.std.specs.Prelude.{encode_utf8}
use Rattle.std.proofs.lemmas.Str.{encode_ascii, inside_one}
use Rattle.std.proofs.lemmas.List.{map-append, append-nil}
use Rattle.std.proofs.lemmas.Bool.{cases_lt}
use Rattle.std.proofs.lemmas.Bool.Decides.{nat_tests}
use Rattle.nf_trace.specs.Task.{blank, blanked}

high_stays : (b : ℕ) → 128 ≤ b → blank b ≡ b
high_stays b h = grind (arith, nat_tests)

-- bytes past ASCII stay
high_bytes_stay : (bs : List ℕ) → ((k : ℕ) → k < length bs → 128 ≤ get_or bs k 0) → blanked bs ≡ bs
high_bytes_stay [] h = refl
high_bytes_stay (b ∷ bs) h =
    let first : blank b ≡ b = high_stays b (h 0 (omega arith)) in
    let rest : blanked bs ≡ bs = high_bytes_stay bs (λ k lt. h (suc k) (omega arith)) in
    (λ j. first j ∷ rest j)

-- the bytes of a character past ASCII are past ASCII
high_inside : (c k : ℕ) → 128 ≤ c → k < length (encode_utf8 c) → 128 ≤ get_or (encode_utf8 c) k 0
high_inside c k high lt = of (cases_lt (get_or (encode_utf8 c) k 0) 128)
  where
    of : (get_or (encode_utf8 c) k 0 < 128) ⊎ (128 ≤ get_or (encode_utf8 c) k 0) → 128 ≤ get_or (encode_utf8 c) k 0
    of (inl low) = let e : c ≡ get_or (encode_utf8 c) k 0 = inside_one c [] (encode_utf8 c) k (sym (append-nil (encode_utf8 c))) lt low in absurd (omega arith)
    of (inr h) = h

blank_low : (c : ℕ) → c < 128 → blank c < 128
blank_low c h = grind (arith, nat_tests)

-- a character, blanked
pub blanked_char : (c : ℕ) → blanked (encode_utf8 c) ≡ encode_utf8 (blank c)
blanked_char c = of (cases_lt c 128)
  where
    of : (c < 128) ⊎ (128 ≤ c) → blanked (encode_utf8 c) ≡ encode_utf8 (blank c)
    of (inl low) = ap blanked (encode_ascii c low) ∙ sym (encode_ascii (blank c) (blank_low c low))
    of (inr high) = high_bytes_stay (encode_utf8 c) (λ k lt. high_inside c k high lt) ∙ ap encode_utf8 (sym (high_stays c high))

-- one character more
pub blanked_next : (out new rest left all : List ℕ) (c : ℕ) → rest ≡ encode_utf8 c ++ left → new ≡ out ++ encode_utf8 (blank c) → out ++ blanked rest ≡ all → new ++ blanked left ≡ all
blanked_next out new rest left all c e n inv =
    ap (λ xs. xs ++ blanked left) n ∙ append_assoc out (encode_utf8 (blank c)) (blanked left)
    ∙ ap (λ xs. out ++ (xs ++ blanked left)) (sym (blanked_char c))
    ∙ ap (λ xs. out ++ xs) (sym (map-append blank (encode_utf8 c) left) ∙ ap blanked (sym e))
    ∙ inv
