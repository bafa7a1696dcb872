-- Keys as parts of pointers, character by character.
use Rattle.std.proofs.Common.{◌≡◌, ℕ, zero, suc, ◌+◌, ◌<◌, ◌≤◌, ◌==◌, ◌≢◌, List, [], ◌∷◌, ◌++◌, length, get_or, refl, sym, ◌∙◌, ap, arith, append_assoc, if◌then◌else◌, ◌⊎◌, inl, inr}
use Rattle.std.specs.Prelude.{encode_utf8, flat_map}
use Rattle.std.proofs.lemmas.Str.{encode_ascii, inside_one}
use Rattle.std.proofs.lemmas.List.{append-nil}
use Rattle.std.proofs.lemmas.Grind.{flat_map-append}
use Rattle.std.proofs.lemmas.Bool.{cases_lt}
use Rattle.std.proofs.lemmas.Bool.Decides.{nat_tests}
use Rattle.nf_params.specs.Pointer.{escape, escaped}

other_stays : (b : ℕ) → b ≢ 126 → b ≢ 47 → escape b ≡ b ∷ []
other_stays b tilde slash = grind (arith, nat_tests)

-- bytes other than `~` and `/` stay
others_stay : (bs : List ℕ) → ((k : ℕ) → k < length bs → (get_or bs k 0 ≢ 126) × (get_or bs k 0 ≢ 47)) → escaped bs ≡ bs
others_stay [] h = refl
others_stay (b ∷ bs) h =
    let first : escape b ≡ b ∷ [] = other_stays b (h 0 (omega arith)).0 (h 0 (omega arith)).1 in
    let rest : escaped bs ≡ bs = others_stay bs (λ k lt. h (suc k) (omega arith)) in
    (λ j. first j ++ rest j)

-- a byte below 128 in a character is that character
inside : (c k b : ℕ) → b < 128 → c ≢ b → k < length (encode_utf8 c) → get_or (encode_utf8 c) k 0 ≢ b
inside c k b low ne lt = λ e. (let is : c ≡ get_or (encode_utf8 c) k 0 = inside_one c [] (encode_utf8 c) k (sym (append-nil (encode_utf8 c))) lt (omega arith) in absurd (omega arith))

pub escaped_other : (c : ℕ) → c ≢ 126 → c ≢ 47 → escaped (encode_utf8 c) ≡ encode_utf8 c
escaped_other c tilde slash = others_stay (encode_utf8 c) (λ k lt. (inside c k 126 (omega arith) tilde lt, inside c k 47 (omega arith) slash lt))

-- one character more
pub escaped_next : (out new rest left all : List ℕ) (c : ℕ) → rest ≡ encode_utf8 c ++ left → new ≡ out ++ escaped (encode_utf8 c) → out ++ escaped rest ≡ all → new ++ escaped left ≡ all
escaped_next out new rest left all c e n inv =
    ap (λ xs. xs ++ escaped left) n ∙ append_assoc out (escaped (encode_utf8 c)) (escaped left)
    ∙ ap (λ xs. out ++ xs) (sym (flat_map-append escape (encode_utf8 c) left) ∙ ap escaped (sym e))
    ∙ inv
