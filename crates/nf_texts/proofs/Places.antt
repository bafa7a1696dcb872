-- Where a text stands in another, in characters.
use Rattle.std.proofs.Common.{◌≡◌, ◌≢◌, ℕ, ◌+◌, ◌<◌, nat_eq, Bool, true, false, List, [], ◌∷◌, ◌++◌, length, take, drop, Some, None, refl, ap, sym, ◌∙◌, arith, append_assoc, length-append, length-take}
use Rattle.std.proofs.Math.Seq.{take-append_seam}
use Rattle.std.specs.List.{starts_with, slice_range}
use Rattle.std.specs.Str.{chars, IsUtf8, IsCharBoundary}
use Rattle.std.specs.Str.Pattern.{FindsText}
use lib.Utf8.{encodes}
use Rattle.std.proofs.lemmas.Slice.Eq.{bytes_eq-Decides}
use Rattle.std.proofs.lemmas.List.{take-append-drop}
use Rattle.std.proofs.lemmas.List.Prefix.{front_rest}
use Rattle.std.proofs.lemmas.Str.{encodes-append, encodes-chars, chars-append, length-le-encodes, IsUtf8-take, IsUtf8-drop}
use Rattle.nf_texts.specs.Texts.{place_from, place_of}

-- what stands in front says, and what doesn't
pub front_of : (s n : List ℕ) → starts_with nat_eq s n ≡ true → s ≡ n ++ drop (length n) s
front_of s n h = sym (take-append-drop (length n) s) ∙ ap (λ f. f ++ drop (length n) s) (sym ((bytes_eq-Decides n (take (length n) s)).0 h))

pub no_front_of : (s n : List ℕ) → ((rest : List ℕ) → s ≢ n ++ rest) → starts_with nat_eq s n ≡ false
no_front_of s n h = of (starts_with nat_eq s n) refl
  where
    of : (b : Bool) → starts_with nat_eq s n ≡ b → starts_with nat_eq s n ≡ false
    of true e = absurd (h (drop (length n) s) (front_of s n e))
    of false e = e

pub is_front_of : (s n rest : List ℕ) → s ≡ n ++ rest → starts_with nat_eq s n ≡ true
is_front_of s n rest e =
    let cut : take (length n) s ≡ n = ap (take (length n)) e ∙ take-append_seam n rest in
    (bytes_eq-Decides n (take (length n) s)).1 (sym cut)

-- no characters from these on begin with n, up to the last of them
abbrev pub LacksAlong : List ℕ → List ℕ → List ℕ → Type 0
LacksAlong n ds more = (es fs : List ℕ) → ds ≡ es ++ fs → 0 < length fs → starts_with nat_eq (encodes (fs ++ more)) n ≡ false

found : (n ds more : List ℕ) (k : ℕ) → LacksAlong n ds more → starts_with nat_eq (encodes more) n ≡ true → place_from k n (ds ++ more) ≡ Some (k + length ds)
found n [] [] k lacks here = rw here (ap Some (omega arith))
found n [] (c ∷ cs) k lacks here = rw here (ap Some (omega arith))
found n (d ∷ ds) more k lacks here =
    rw (lacks [] (d ∷ ds) refl (omega arith)) (found n ds more (k + 1) (λ es fs e some. lacks (d ∷ es) fs (ap (λ l. d ∷ l) e) some) here ∙ ap Some (omega arith))

missing : (n ds : List ℕ) (k : ℕ) → ((es fs : List ℕ) → ds ≡ es ++ fs → starts_with nat_eq (encodes fs) n ≡ false) → place_from k n ds ≡ None
missing n [] k lacks = rw (lacks [] [] refl) refl
missing n (d ∷ ds) k lacks = rw (lacks [] (d ∷ ds) refl) (missing n ds (k + 1) (λ es fs e. lacks (d ∷ es) fs (ap (λ l. d ∷ l) e)))

-- what follows the bytes of the first characters
after_front : (es fs : List ℕ) → drop (length (encodes es)) (encodes (es ++ fs)) ≡ encodes fs
after_front es fs = front_rest (encodes (es ++ fs)) (encodes es) (encodes fs) (encodes-append es fs)

pub no_place : (n s : List ℕ) → IsUtf8 s → FindsText n s None → place_of n s ≡ None
no_place n s u lacks =
    missing n (chars s) 0 (λ es fs e.
    let whole : encodes (es ++ fs) ≡ s = ap encodes (sym e) ∙ encodes-chars s u in
    no_front_of (encodes fs) n (λ rest is. lacks (length (encodes es)) (omega (arith, ap length whole, ap length (encodes-append es fs), length-append (encodes es) (encodes fs)))
    rest (ap (drop (length (encodes es))) (sym whole) ∙ after_front es fs ∙ is)))

pub a_place : (n s : List ℕ) (i j : ℕ) → IsUtf8 s → FindsText n s (Some (i, j)) → IsCharBoundary s i → place_of n s ≡ Some (length (chars (take i s)))
a_place n s i j u at cut =
    let front : IsUtf8 (take i s) = IsUtf8-take s i u cut in
    let back : IsUtf8 (drop i s) = IsUtf8-drop s i u cut in
    let parted : chars s ≡ chars (take i s) ++ chars (drop i s) = ap chars (sym (take-append-drop i s)) ∙ chars-append (take i s) (drop i s) front in
    let here : starts_with nat_eq (encodes (chars (drop i s))) n ≡ true = is_front_of (encodes (chars (drop i s))) n (drop j s) (encodes-chars (drop i s) back ∙ at.1.split) in
    let lacks : LacksAlong n (chars (take i s)) (chars (drop i s)) = λ es fs e some.
    let whole : encodes (es ++ (fs ++ chars (drop i s))) ≡ s = ap encodes (sym (append_assoc es fs (chars (drop i s))) ∙ ap (λ l. l ++ chars (drop i s)) (sym e) ∙ sym parted) ∙ encodes-chars s u in
    let short : length (encodes es) < i =
    omega (arith, some, length-le-encodes fs, ap length (encodes-append es fs), length-append (encodes es) (encodes fs), ap (λ l. length (encodes l)) (sym e), ap length (encodes-chars (take i s) front), length-take i s) in
    no_front_of (encodes (fs ++ chars (drop i s))) n (λ rest is. at.0 (length (encodes es)) short rest (ap (drop (length (encodes es))) (sym whole) ∙ after_front es (fs ++ chars (drop i s)) ∙ is)) in
    ap (place_from 0 n) parted ∙ found n (chars (take i s)) (chars (drop i s)) 0 lacks here ∙ ap Some (omega arith)

pub place_found : (n s front : List ℕ) (i j k : ℕ) → IsUtf8 s → FindsText n s (Some (i, j)) → IsCharBoundary s i → front ≡ slice_range s 0 i → k ≡ length (chars front) → Some k ≡ place_of n s
place_found n s front i j k u at cut is count =
    let same : front ≡ take i s = is ∙ ap (λ m. take m s) (omega arith) in
    ap Some (count ∙ ap (λ f. length (chars f)) same) ∙ sym (a_place n s i j u at cut)
