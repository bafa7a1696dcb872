-- Paths and their last slashes.
use Rattle.std.proofs.Common.{◌≡◌, ◌≢◌, ℕ, suc, ◌+◌, ◌<◌, ◌≤◌, ◌==◌, true, false, List, [], ◌∷◌, ◌++◌, length, take, drop, get_or, codes, Option, Some, None, MatchOption, Bor, refl, ap, sym, ◌∙◌, arith}
use Rattle.std.specs.Str.Pattern.{RFindsChar}
use Rattle.std.specs.Str.{NoCharPasses}
use Rattle.std.proofs.lemmas.Bool.{true≢false}
use Rattle.std.proofs.lemmas.Bool.Decides.{nat_tests}
use Rattle.std.proofs.lemmas.List.{take-append-drop}
use Rattle.std.proofs.lemmas.Str.Pattern.{drop_at_char, NoCharPasses-char}
use Rattle.nf_sources.specs.Sources.{before_slash, folder_at, folder_by, root_if_empty, with_first}

no_slash : (bs : List ℕ) → ((k : ℕ) → k < length bs → get_or bs k 0 ≢ 47) → before_slash bs ≡ None
no_slash [] h = refl
no_slash (c ∷ cs) h =
    let other : (c == 47) ≡ false = (let ne : c ≢ 47 = h 0 (omega arith) in grind (arith, nat_tests)) in
    ap (with_first c) (no_slash cs (λ k lt. h (suc k) (omega arith))) ∙ rw other refl

slash_at : (front back : List ℕ) → before_slash back ≡ None → before_slash (front ++ 47 ∷ back) ≡ Some front
slash_at [] back h = ap (with_first 47) h
slash_at (c ∷ cs) back h = ap (with_first c) (slash_at cs back h)

free : (bs : List ℕ) → NoCharPasses (λ d. d == 47) bs → before_slash bs ≡ None
free bs h = no_slash bs (λ k lt. NoCharPasses-char 47 bs k h (omega arith) lt)

-- what `rsplit_once` says at a slash
abbrev CutsAtLast : List ℕ → Option (Bor (List ℕ) × Bor (List ℕ)) → Type 0
CutsAtLast s r = MatchOption r (RFindsChar 47 s None) (λ x. (i : ℕ) × (j : ℕ) × RFindsChar 47 s (Some (i, j)) × (x.0.now ≡ take i s) × (x.1.now ≡ drop j s) × (i ≤ j) × (length x.0.now ≡ i) × (length x.1.now + j ≡ length s))

cut_some : (s : List ℕ) (x : Bor (List ℕ) × Bor (List ℕ)) → CutsAtLast s (Some x) → before_slash s ≡ Some x.0.now
cut_some s x h =
    let at : drop h.0 s ≡ 47 ∷ drop h.1 s = drop_at_char 47 s h.0 h.1 h.2.1 (omega arith) in
    let whole : s ≡ take h.0 s ++ 47 ∷ drop h.1 s = sym (take-append-drop h.0 s) ∙ ap (λ l. take h.0 s ++ l) at in
    ap before_slash whole ∙ slash_at (take h.0 s) (drop h.1 s) (free (drop h.1 s) h.2.0) ∙ (λ k. Some (sym h.3 k))

root_of : (front : List ℕ) → (length front == 0) ≡ true → codes "/" ≡ root_if_empty front
root_of [] h = refl
root_of (c ∷ cs) h = absurd (let none : length (c ∷ cs) ≡ 0 = grind (arith, nat_tests) in omega arith)

front_of : (front : List ℕ) → (length front == 0) ≡ false → front ≡ root_if_empty front
front_of [] h = absurd (true≢false h)
front_of (c ∷ cs) h = refl

pub folder_none : (s : List ℕ) → RFindsChar 47 s None → [] ≡ folder_at s
folder_none s h = sym (ap folder_by (free s h))

pub folder_root : (s : List ℕ) (x : Bor (List ℕ) × Bor (List ℕ)) → CutsAtLast s (Some x) → (length x.0.now == 0) ≡ true → codes "/" ≡ folder_at s
folder_root s x h empty = root_of x.0.now empty ∙ sym (ap folder_by (cut_some s x h))

pub folder_front : (s : List ℕ) (x : Bor (List ℕ) × Bor (List ℕ)) → CutsAtLast s (Some x) → (length x.0.now == 0) ≡ false → x.0.now ≡ folder_at s
folder_front s x h some = front_of x.0.now some ∙ sym (ap folder_by (cut_some s x h))
