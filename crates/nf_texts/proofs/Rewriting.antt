-- Texts in which parts are replaced.
use Rattle.std.proofs.Common.{◌≡◌, ℕ, suc, ◌+◌, ◌<◌, ◌^◌, min, nat_eq, true, List, [], ◌∷◌, ◌++◌, length, None, refl, ap, sym, ◌∙◌, subst, arith, append_assoc, append-nil, length-append}
use Rattle.std.specs.List.{starts_with}
use Rattle.std.specs.Str.Pattern.{FindsText, LacksTextAt, SplitsAroundMatch}
use Rattle.std.proofs.lemmas.List.{take-append-drop}
use Rattle.nf_texts.specs.Texts.{replaced, replaced_after}
use Rattle.nf_texts.proofs.Places.{no_front_of, is_front_of}

-- bytes that are passed over
passed : (a b xs ys : List ℕ) → replaced_after a b (length xs) (xs ++ ys) ≡ replaced a b ys
passed a b [] ys = refl
passed a b (x ∷ xs) ys = passed a b xs ys

at_match : (a b back : List ℕ) → 0 < length a → replaced a b (a ++ back) ≡ b ++ replaced a b back
at_match [] b back h = absurd (omega arith)
at_match (x ∷ xs) b back h =
    let here : starts_with nat_eq (x ∷ (xs ++ back)) (x ∷ xs) ≡ true = is_front_of (x ∷ (xs ++ back)) (x ∷ xs) back refl in
    rw here (ap (λ l. b ++ l) (ap (λ k. replaced_after (x ∷ xs) b k (xs ++ back)) (omega arith) ∙ passed (x ∷ xs) b xs back))

before_match : (a b front rest out : List ℕ) → ((k : ℕ) → k < length front → LacksTextAt a (front ++ rest) k) → replaced a b rest ≡ out → replaced a b (front ++ rest) ≡ front ++ out
before_match a b [] rest out lacks e = e
before_match a b (x ∷ front) rest out lacks e =
    rw (no_front_of (x ∷ (front ++ rest)) a (lacks 0 (omega arith))) (ap (λ l. x ∷ l) (before_match a b front rest out (λ k lt. lacks (suc k) (omega arith)) e))

pub replaced_none : (a b s : List ℕ) → FindsText a s None → replaced a b s ≡ s
replaced_none a b s lacks =
    let whole : s ++ [] ≡ s = append-nil s in
    ap (replaced a b) (sym whole) ∙ before_match a b s [] [] (λ k lt. subst (λ (l : List ℕ). LacksTextAt a l k) (sym whole) (lacks k (omega arith))) refl ∙ whole

pub replaced_split : (a b s front back : List ℕ) → 0 < length a → SplitsAroundMatch (FindsText a) s front back → replaced a b s ≡ front ++ (b ++ replaced a b back)
replaced_split a b s front back some (i, j, found, front_is, back_is, le, len, rest) =
    let whole : s ≡ front ++ (a ++ back) = sym (take-append-drop i s) ∙ (λ k. sym front_is k ++ (found.1.split ∙ ap (λ l. a ++ l) (sym back_is)) k) in
    ap (replaced a b) whole ∙ before_match a b front (a ++ back) (b ++ replaced a b back) (λ k lt. subst (λ (l : List ℕ). LacksTextAt a l k) whole (found.0 k (omega arith))) (at_match a b back some)

pub replaced_falls : (a s front back : List ℕ) → 0 < length a → SplitsAroundMatch (FindsText a) s front back → length back < length s
replaced_falls a s front back some (i, j, found, front_is, back_is, le, len, rest) = omega (arith, found.1.ends)

pub len_more : (a b s front back : List ℕ) (len one two all : ℕ) → 0 < length a → SplitsAroundMatch (FindsText a) s front back → one ≡ min (len + length front) (2 ^ 32) → two ≡ min (one + length b) (2 ^ 32) → min (len + length (replaced a b s)) (2 ^ 32) ≡ all → min (two + length (replaced a b back)) (2 ^ 32) ≡ all
len_more a b s front back len one two all some split h k inv =
    omega (arith, ap length (replaced_split a b s front back some split), length-append front (b ++ replaced a b back), length-append b (replaced a b back))

pub out_more : (a b s front back old one two all : List ℕ) → 0 < length a → SplitsAroundMatch (FindsText a) s front back → one ≡ old ++ front → two ≡ one ++ b → old ++ replaced a b s ≡ all → two ++ replaced a b back ≡ all
out_more a b s front back old one two all some split h k inv =
    ap (λ l. l ++ replaced a b back) (k ∙ ap (λ l. l ++ b) h) ∙ append_assoc (old ++ front) b (replaced a b back) ∙ append_assoc old front (b ++ replaced a b back)
    ∙ ap (λ l. old ++ l) (sym (replaced_split a b s front back some split)) ∙ inv
