-- Names and their last dots.
use Rattle.std.proofs.Common.{◌≡◌, ◌≢◌, ℕ, suc, ◌+◌, ◌<◌, ◌≤◌, ◌==◌, true, false, List, [], ◌∷◌, ◌++◌, length, take, drop, get_or, Option, Some, None, MatchOption, Bor, refl, ap, sym, ◌∙◌, arith}
use Rattle.std.specs.Str.Pattern.{RFindsChar}
use Rattle.std.specs.Str.{NoCharPasses}
use Rattle.std.proofs.lemmas.Bool.Decides.{nat_tests}
use Rattle.std.proofs.lemmas.List.{take-append-drop}
use Rattle.std.proofs.lemmas.Str.Pattern.{drop_at_char, NoCharPasses-char}
use Rattle.nf_builtins.specs.Files.{after_one, last_cut, cut_base, cut_end, base_name_of, extension_of}

no_cut : (bs : List ℕ) → ((k : ℕ) → k < length bs → get_or bs k 0 ≢ 46) → last_cut bs ≡ None
no_cut [] h = refl
no_cut (c ∷ cs) h =
    let other : (c == 46) ≡ false = (let ne : c ≢ 46 = h 0 (omega arith) in grind (arith, nat_tests)) in
    ap (after_one c cs) (no_cut cs (λ k lt. h (suc k) (omega arith))) ∙ rw other refl

cut_at : (front back : List ℕ) → last_cut back ≡ None → last_cut (front ++ 46 ∷ back) ≡ Some (front, back)
cut_at [] back h = ap (after_one 46 back) h
cut_at (c ∷ cs) back h = ap (after_one c (cs ++ 46 ∷ back)) (cut_at cs back h)

free : (bs : List ℕ) → NoCharPasses (λ d. d == 46) bs → last_cut bs ≡ None
free bs h = no_cut bs (λ k lt. NoCharPasses-char 46 bs k h (omega arith) lt)

-- what `rsplit_once` says at a dot
abbrev pub CutsAtLast : List ℕ → Option (Bor (List ℕ) × Bor (List ℕ)) → Type 0
CutsAtLast s r = MatchOption r (RFindsChar 46 s None) (λ x. (i : ℕ) × (j : ℕ) × RFindsChar 46 s (Some (i, j)) × (x.0.now ≡ take i s) × (x.1.now ≡ drop j s) × (i ≤ j) × (length x.0.now ≡ i) × (length x.1.now + j ≡ length s))

pub cut_none : (s : List ℕ) → RFindsChar 46 s None → last_cut s ≡ None
cut_none s h = free s h

pub cut_some : (s : List ℕ) (x : Bor (List ℕ) × Bor (List ℕ)) → CutsAtLast s (Some x) → last_cut s ≡ Some (x.0.now, x.1.now)
cut_some s x h =
    let at : drop h.0 s ≡ 46 ∷ drop h.1 s = drop_at_char 46 s h.0 h.1 h.2.1 (omega arith) in
    let whole : s ≡ take h.0 s ++ 46 ∷ drop h.1 s = sym (take-append-drop h.0 s) ∙ ap (λ l. take h.0 s ++ l) at in
    ap last_cut whole ∙ cut_at (take h.0 s) (drop h.1 s) (free (drop h.1 s) h.2.0) ∙ (λ k. Some (sym h.3 k, sym h.4 k))

pub base_alone : (s base back : List ℕ) → last_cut s ≡ Some (base, back) → (length base == 0) ≡ true → s ≡ base_name_of s
base_alone s base back cut h = sym (ap (cut_base s) cut ∙ rw h refl)

pub base_cut : (s base back : List ℕ) → last_cut s ≡ Some (base, back) → (length base == 0) ≡ false → base ≡ base_name_of s
base_cut s base back cut h = sym (ap (cut_base s) cut ∙ rw h refl)

pub end_alone : (s base back : List ℕ) → last_cut s ≡ Some (base, back) → (length base == 0) ≡ true → [] ≡ extension_of s
end_alone s base back cut h = sym (ap cut_end cut ∙ rw h refl)

pub end_cut : (s base back : List ℕ) → last_cut s ≡ Some (base, back) → (length base == 0) ≡ false → back ≡ extension_of s
end_cut s base back cut h = sym (ap cut_end cut ∙ rw h refl)
