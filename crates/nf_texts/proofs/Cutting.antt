-- Texts cut at separators.
use Rattle.std.proofs.Common.{◌≡◌, ℕ, ◌<◌, Bool, true, false, ◌&&◌, List, [], ◌∷◌, ◌++◌, length, drop, Option, Some, None, MatchOption, IfSome, Bor, refl, ap, sym, ◌∙◌, arith, append_assoc}
use Rattle.std.specs.List.{slice_split, onto_first}
use Rattle.std.specs.Str.{chars, IsUtf8, NonePass}
use Rattle.std.specs.Str.Pattern.{FindsBy, SplitsAroundMatch}
use lib.Utf8.{encode, encodes, scalars, scalar}
use Rattle.std.proofs.lemmas.Bool.{false≢true}
use Rattle.std.proofs.lemmas.List.{take-append-drop}
use Rattle.std.proofs.lemmas.Str.{chars_from_encodes, chars-encodes, encodes-chars, scalars-chars, len_utf8_bounds, cons_from_encodes}

split_free : (p : ℕ → Bool) (cs : List ℕ) → NonePass p cs → slice_split p cs ≡ cs ∷ []
split_free p [] h = refl
split_free p (c ∷ cs) h = rw h.0 (ap (onto_first c) (split_free p cs h.1))

split_at : (p : ℕ → Bool) (cs es : List ℕ) (c : ℕ) → NonePass p cs → p c ≡ true → slice_split p (cs ++ c ∷ es) ≡ cs ∷ slice_split p es
split_at p [] es c h passes = rw passes refl
split_at p (d ∷ cs) es c h passes = rw h.0 (ap (onto_first d) (split_at p cs es c h.1 passes))

-- characters that stand first
peeled : (ds cs rest : List ℕ) → encodes ds ≡ encodes cs ++ rest → (es : List ℕ) × (ds ≡ cs ++ es) × (encodes es ≡ rest)
peeled ds [] rest e = (ds, refl, e)
peeled ds (c ∷ cs) rest e =
    let first = cons_from_encodes ds (encodes cs ++ rest) c (e ∙ append_assoc (encode c) (encodes cs) rest) in
    let more = peeled first.0 cs rest first.2 in
    (more.0, first.1 ∙ ap (λ l. c ∷ l) more.1, more.2)

both : (a b : Bool) → (a && b) ≡ true → (a ≡ true) × (b ≡ true)
both true true h = (refl, refl)
both true false h = absurd (false≢true h)
both false b h = absurd (false≢true h)

scalars_parts : (xs ys : List ℕ) → scalars (xs ++ ys) ≡ true → (scalars xs ≡ true) × (scalars ys ≡ true)
scalars_parts [] ys h = (refl, h)
scalars_parts (x ∷ xs) ys h =
    let first = both (scalar x) (scalars (xs ++ ys)) h in
    let more = scalars_parts xs ys first.1 in
    (rw first.0 more.0, more.1)

cut_none : (p : ℕ → Bool) (s : List ℕ) → IsUtf8 s → FindsBy p s None → slice_split p (chars s) ≡ chars s ∷ []
cut_none p s u (cs, spelt, free) = ap (slice_split p) (sym (chars_from_encodes cs s u spelt)) ∙ split_free p cs free ∙ ap (λ l. l ∷ []) (chars_from_encodes cs s u spelt)

cut_some : (p : ℕ → Bool) (s front back : List ℕ) → IsUtf8 s → SplitsAroundMatch (FindsBy p) s front back → slice_split p (chars s) ≡ chars front ∷ slice_split p (chars back)
cut_some p s front back u (i, j, ((cs, spelt, free), (c, passes, at)), front_is, back_is, le, len, rest) =
    let whole : encodes (chars s) ≡ encodes cs ++ (encode c ++ drop j s) = encodes-chars s u ∙ sym (take-append-drop i s) ∙ (λ k. sym spelt k ++ at.split k) in
    let here = peeled (chars s) cs (encode c ++ drop j s) whole in
    let next = cons_from_encodes here.0 (drop j s) c here.2 in
    let parts : chars s ≡ cs ++ c ∷ next.0 = here.1 ∙ ap (λ l. cs ++ l) next.1 in
    let fine = scalars_parts cs (c ∷ next.0) (ap scalars (sym parts) ∙ scalars-chars s u) in
    let after = both (scalar c) (scalars next.0) fine.1 in
    let first : chars front ≡ cs = ap chars (front_is ∙ sym spelt) ∙ chars-encodes cs fine.0 in
    let second : chars back ≡ next.0 = ap chars (back_is ∙ sym next.2) ∙ chars-encodes next.0 after.1 in
    ap (slice_split p) parts ∙ split_at p cs next.0 c free passes ∙ (λ k. sym first k ∷ slice_split p (sym second k))

abbrev pub Cuts : (ℕ → Bool) → List ℕ → Option (Bor (List ℕ) × Bor (List ℕ)) → Type 0
Cuts p s r = MatchOption r (FindsBy p s None) (λ x. SplitsAroundMatch (FindsBy p) s x.0.now x.1.now)

pub cut_parts : (p : ℕ → Bool) (s : List ℕ) (r : Option (Bor (List ℕ) × Bor (List ℕ))) → IsUtf8 s → Cuts p s r → MatchOption r (slice_split p (chars s) ≡ chars s ∷ []) (λ x. slice_split p (chars s) ≡ chars x.0.now ∷ slice_split p (chars x.1.now))
cut_parts p s None u h = cut_none p s u h
cut_parts p s (Some x) u h = cut_some p s x.0.now x.1.now u h

pub cut_shorter : (p : ℕ → Bool) (s : List ℕ) (r : Option (Bor (List ℕ) × Bor (List ℕ))) → Cuts p s r → IfSome r (λ x. length x.1.now < length s)
cut_shorter p s None h = tt
cut_shorter p s (Some x) (i, j, (free, (c, passes, at)), front_is, back_is, le, len, rest) = omega (arith, at.ends, len_utf8_bounds c)

-- the same where a test is known to be the separators' by M
pub cut_parts_by : (M : (ℕ → Bool) → Type 0) (p : ℕ → Bool) (s : List ℕ) (r : Option (Bor (List ℕ) × Bor (List ℕ))) → M p → IsUtf8 s → MatchOption r ((k : ℕ → Bool) → M k → FindsBy k s None) (λ x. SplitsAroundMatch (λ w o. (k : ℕ → Bool) → M k → FindsBy k w o) s x.0.now x.1.now) → MatchOption r (slice_split p (chars s) ≡ chars s ∷ []) (λ x. slice_split p (chars s) ≡ chars x.0.now ∷ slice_split p (chars x.1.now))
cut_parts_by M p s None m u h = cut_parts p s None u (h p m)
cut_parts_by M p s (Some x) m u (i, j, found, front_is, back_is, le, len, rest) = cut_parts p s (Some x) u (i, j, found p m, front_is, back_is, le, len, rest)

pub cut_shorter_by : (M : (ℕ → Bool) → Type 0) (p : ℕ → Bool) (s : List ℕ) (r : Option (Bor (List ℕ) × Bor (List ℕ))) → M p → MatchOption r ((k : ℕ → Bool) → M k → FindsBy k s None) (λ x. SplitsAroundMatch (λ w o. (k : ℕ → Bool) → M k → FindsBy k w o) s x.0.now x.1.now) → IfSome r (λ x. length x.1.now < length s)
cut_shorter_by M p s None m h = tt
cut_shorter_by M p s (Some x) m (i, j, found, front_is, back_is, le, len, rest) = cut_shorter p s (Some x) (i, j, found p m, front_is, back_is, le, len, rest)
