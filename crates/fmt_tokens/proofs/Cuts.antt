-- A text, cut at the bytes that need care when they are printed in a string.
use Rattle.std.proofs.Common.{◌≡◌, ℕ, ◌<◌, ◌≤◌, Bool, true, false, cond, List, [], ◌∷◌, ◌++◌, length, drop, refl, ap, ◌∙◌, subst, arith}
use Rattle.std.specs.Prelude.{take_while, get_or, ◌&&◌}
use Rattle.std.specs.List.{list_all}
use Rattle.std.specs.Str.{IsUtf8, IsCharBoundary}
use Rattle.std.proofs.lemmas.List.{take_at, drop_at, length-append}
use Rattle.std.proofs.Math.Seq.{get_or-append_seam}
use Rattle.std.proofs.lemmas.List.Sums.{take_while-cons}
use Rattle.std.proofs.lemmas.Str.{IsUtf8-take, IsUtf8-drop, IsCharBoundary-after_ascii}
use Rattle.fmt_tokens.proofs.Tests.{both}

-- runs of bytes that pass the test, and after each but the last one byte that doesn't
pub data Cut (p : ℕ → Bool) : List ℕ → Type 0 where
  done : (run : List ℕ) → list_all p run ≡ true → Cut p run
  more : (run : List ℕ) (c : ℕ) (w : List ℕ) → list_all p run ≡ true → p c ≡ false → Cut p w → Cut p (run ++ c ∷ w)

kept : (p : ℕ → Bool) (b : ℕ) (run : List ℕ) → p b ≡ true → list_all p run ≡ true → list_all p (b ∷ run) ≡ true
kept p b run h k = ap (λ t. t && list_all p run) h ∙ k

longer : (p : ℕ → Bool) (b : ℕ) (w : List ℕ) → p b ≡ true → Cut p w → Cut p (b ∷ w)
longer p b w h (done run k) = done (b ∷ run) (kept p b run h k)
longer p b w h (more run c v k l m) = more (b ∷ run) c v (kept p b run h k) l m

by_first : (p : ℕ → Bool) (b : ℕ) (w : List ℕ) (t : Bool) → p b ≡ t → Cut p w → Cut p (b ∷ w)
by_first p b w true h c = longer p b w h c
by_first p b w false h c = more [] b w refl h c

pub cut : (p : ℕ → Bool) (w : List ℕ) → Cut p w
cut p [] = done [] refl
cut p (b ∷ w) = by_first p b w (p b) refl (cut p w)

-- a run before a byte that isn't of it
pub run_before : (p : ℕ → Bool) (w : List ℕ) (c : ℕ) (rest : List ℕ) → list_all p w ≡ true → p c ≡ false → take_while p (w ++ c ∷ rest) ≡ w
run_before p [] c rest h k = take_while-cons p c rest ∙ ap (λ t. cond t (c ∷ take_while p rest) []) k
run_before p (b ∷ w) c rest h k =
    let e = both (p b) (list_all p w) h in
    take_while-cons p b (w ++ c ∷ rest)
    ∙ ap (λ t. cond t (b ∷ take_while p (w ++ c ∷ rest)) []) e.0
    ∙ ap (λ v. b ∷ v) (run_before p w c rest e.1 k)

pub drop_nothing : (bs : List ℕ) → drop 0 bs ≡ bs
drop_nothing [] = refl
drop_nothing (b ∷ bs) = refl

-- a byte of ASCII stands between characters
boundary : (w : List ℕ) (c : ℕ) (rest : List ℕ) → c < 128 → IsCharBoundary (w ++ c ∷ rest) (length w)
boundary w c rest h =
    let at : get_or (w ++ c ∷ rest) (length w) 0 ≡ c = get_or-append_seam w c rest 0 in
    (omega (arith, length-append w (c ∷ rest)), λ l a. let b : 128 ≤ get_or (w ++ c ∷ rest) (length w) 0 = a in absurd (omega (arith, h, at, b)))

pub utf8_before : (w : List ℕ) (c : ℕ) (rest : List ℕ) → c < 128 → IsUtf8 (w ++ c ∷ rest) → IsUtf8 w
utf8_before w c rest h u = subst IsUtf8 (take_at w (c ∷ rest) (length w) refl) (IsUtf8-take (w ++ c ∷ rest) (length w) u (boundary w c rest h))

pub utf8_from : (w : List ℕ) (c : ℕ) (rest : List ℕ) → c < 128 → IsUtf8 (w ++ c ∷ rest) → IsUtf8 (c ∷ rest)
utf8_from w c rest h u = subst IsUtf8 (drop_at w (c ∷ rest) (length w) refl) (IsUtf8-drop (w ++ c ∷ rest) (length w) u (boundary w c rest h))

pub utf8_after : (c : ℕ) (rest : List ℕ) → c < 128 → IsUtf8 (c ∷ rest) → IsUtf8 rest
utf8_after c rest h u = subst IsUtf8 (drop_nothing rest) (IsUtf8-drop (c ∷ rest) 1 u (IsCharBoundary-after_ascii (c ∷ rest) 0 u (omega arith) h))
