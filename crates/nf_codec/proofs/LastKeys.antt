-- The last key of some pairs.
use Rattle.std.proofs.Common.{◌≡◌, ℕ, suc, ◌-◌, List, [], ◌∷◌, ◌++◌, ◌&&◌, length, map, Bool, true, false, Option, Some, None, refl, ap, sym, ◌∙◌, arith}
use Rattle.std.specs.Prelude.{slice_get}
use Rattle.std.specs.Ordering.{nat_cmp, is_lt}
use Rattle.std.specs.Cmp.Lexicographic.{slice_cmp}
use Rattle.std.proofs.lemmas.Bool.{true≢false}
use Rattle.nf_value.specs.Plain.{Plain}
use Rattle.nf_value.specs.View.{pair_of, rising, rises}
use Rattle.nf_value.specs.declared.value.Value.{Value}
use Rattle.nf_codec.specs.Fronts.{last_key}
use Rattle.nf_codec.specs.Reading.{is_above}

abbrev is_there : {A : Type 0} → Option A → Bool
is_there None = false
is_there (Some x) = true

abbrev key_of : List ℕ → Option (List ℕ × Value) → List ℕ
key_of d None = d
key_of d (Some x) = x.0

pub key_at_end : (before : Option (List ℕ)) (xs : List (List ℕ × Value)) (x : List ℕ × Value) → Some x ≡ slice_get xs (length xs - 1) → last_key before (map pair_of xs) ≡ Some x.0
key_at_end before [] x h = absurd (true≢false (ap is_there h))
key_at_end before (y ∷ []) x h = ap Some (ap (key_of x.0) (sym h))
key_at_end before (y ∷ z ∷ zs) x h =
    let down : length (y ∷ z ∷ zs) - 1 ≡ suc (length (z ∷ zs) - 1) = omega arith in
    key_at_end (Some y.0) (z ∷ zs) x (h ∙ ap (slice_get (y ∷ z ∷ zs)) down)

pub last_key-snoc : (before : Option (List ℕ)) (ps : List (List ℕ × Plain)) (p : List ℕ × Plain) → last_key before (ps ++ p ∷ []) ≡ Some p.0
last_key-snoc before [] p = refl
last_key-snoc before (q ∷ ps) p = last_key-snoc (Some q.0) ps p

rises-snoc : (k : List ℕ) (ps : List (List ℕ × Plain)) (p : List ℕ × Plain) → rises k ps ≡ true → is_above (last_key (Some k) ps) p.0 ≡ true → rises k (ps ++ p ∷ []) ≡ true
rises-snoc k [] p h a = ap (λ b. b && true) a
rises-snoc k (q ∷ ps) p h a =
    ap (λ b. b && rises q.0 (ps ++ p ∷ [])) (first (is_lt (slice_cmp nat_cmp k q.0)) (rises q.0 ps) h) ∙ rises-snoc q.0 ps p (second (is_lt (slice_cmp nat_cmp k q.0)) (rises q.0 ps) h) a
  where
    first : (a b : Bool) → (a && b) ≡ true → a ≡ true
    first true b h = refl
    first false b h = absurd (true≢false (sym h))

    second : (a b : Bool) → (a && b) ≡ true → b ≡ true
    second true b h = h
    second false b h = absurd (true≢false (sym h))

pub rising-snoc : (ps : List (List ℕ × Plain)) (p : List ℕ × Plain) → rising ps ≡ true → is_above (last_key None ps) p.0 ≡ true → rising (ps ++ p ∷ []) ≡ true
rising-snoc [] p h a = refl
rising-snoc (q ∷ ps) p h a = rises-snoc q.0 ps p h a
