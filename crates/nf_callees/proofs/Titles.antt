-- Names of functions, one after another.
use Rattle.std.proofs.Common.{◌≡◌, ℕ, zero, suc, ◌+◌, ◌≤◌, true, false, List, [], ◌∷◌, drop, length, slice_get, Some, refl, sym, ap, ◌∙◌, add-one}
use Rattle.std.specs.Str.{bytes_eq}
use Rattle.std.proofs.Math.ListN.{drop_of_length-le}
use Rattle.std.proofs.lemmas.Option.{none-some, same_Some}
use Rattle.nf_builtins.specs.Natives.{is_among}

at_title : (t : List ℕ) (ts : List (List ℕ)) (i : ℕ) → slice_get ts i ≡ Some t → drop i ts ≡ t ∷ drop (suc i) ts
at_title t [] i h = absurd (none-some t h)
at_title t (u ∷ ts) zero h = ap (λ x. x ∷ ts) (same_Some _ _ h)
at_title t (u ∷ ts) (suc i) h = at_title t ts i h

pub other_title : (n t : List ℕ) (ts : List (List ℕ)) (i : ℕ) → slice_get ts i ≡ Some t → bytes_eq t n ≡ false → is_among n (drop i ts) ≡ is_among n (drop (i + 1) ts)
other_title n t ts i h other = ap (is_among n) (at_title t ts i h) ∙ rw other (ap (λ k. is_among n (drop k ts)) (sym (add-one i)))

pub this_title : (n t : List ℕ) (ts : List (List ℕ)) (i : ℕ) → slice_get ts i ≡ Some t → bytes_eq t n ≡ true → is_among n (drop i ts) ≡ true
this_title n t ts i h same = ap (is_among n) (at_title t ts i h) ∙ rw same refl

pub no_title : (n : List ℕ) (ts : List (List ℕ)) (k : ℕ) → length ts ≤ k → is_among n (drop k ts) ≡ false
no_title n ts k h = ap (is_among n) (drop_of_length-le ts h)
