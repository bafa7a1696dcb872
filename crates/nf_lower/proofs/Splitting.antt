-- The texts of patterns, where nothing was built for want of memory.
use Rattle.std.proofs.Common.{◌≡◌, ◌∙◌, ◌||◌, ◌<◌, ◌≤◌, ℕ, Bool, true, false, List, [], ◌∷◌, refl, sym, ap, subst, ◌⊎◌, inl, inr, arith}
use Rattle.std.specs.Prelude.{IfSome, IsSomeAnd, Option, Some, None, bytes_eq, slice_index_or}
use Rattle.std.specs.List.{All}
use Rattle.std.proofs.Math.Dec.{ltb}
use Rattle.std.proofs.lemmas.Bool.{cases_Bool, false≢true, ltb-false, ltb-true}
use Rattle.std.proofs.lemmas.List.Elements.{All-cons}
use Rattle.std.proofs.lemmas.Slice.Eq.{bytes_eq-Decides}
use Rattle.regex_syntax.specs.Brackets.{Nested}
use Rattle.regex_syntax.specs.Grammar.{Names}
use Rattle.regex.specs.Patterns.{Re, default_config}
use Rattle.nf_builtins.specs.Natives.{is_among}
use Rattle.nf_library.specs.Shelves.{AreSplit}
use Rattle.nf_pattern.specs.Whole.{IsNoPattern, IsPattern, pattern_in}
use Rattle.nf_pattern.specs.Wrapped.{wrapped}

-- the grammar reads a pattern in a text, or none
reads_or_not : (o : Option (Nested Re × Names)) → IsSomeAnd o (λ (found, names). found.depth ≤ default_config.nest_limit) ⊎ IfSome o (λ (found, names). default_config.nest_limit < found.depth)
reads_or_not None = inr tt
reads_or_not (Some x) = by (cases_Bool (ltb default_config.nest_limit x.0.depth))
  where
    by : (ltb default_config.nest_limit x.0.depth ≡ true) ⊎ (ltb default_config.nest_limit x.0.depth ≡ false) → (x.0.depth ≤ default_config.nest_limit) ⊎ (default_config.nest_limit < x.0.depth)
    by (inl h) = inr (ltb-true default_config.nest_limit x.0.depth h)
    by (inr h) = inl (ltb-false default_config.nest_limit x.0.depth h)

decided : (s : List ℕ) → IsPattern (wrapped s) ⊎ IsNoPattern (wrapped s)
decided s = reads_or_not (pattern_in (wrapped s))

-- ---- one text more

abbrev Others : List (List ℕ) → List ℕ → Type 0
Others large s = is_among s [] ≡ false → is_among s large ≡ false → IsNoPattern (wrapped s)

either_right : (a b : Bool) → (a || b) ≡ false → b ≡ false
either_right true b h = absurd (false≢true (sym h))
either_right false b h = h

self_is : (t : List ℕ) (b : Bool) → (bytes_eq t t || b) ≡ false → false ≡ true
self_is t b h = sym (ap (λ c. c || b) (sym ((bytes_eq-Decides t t).1 refl)) ∙ h)

others_too : (t : List ℕ) (large ts : List (List ℕ)) → All (Others large) ts → All (Others (t ∷ large)) ts
others_too t large ts h k d lt none_built none_large =
    (let s = slice_index_or ts k d in h k d lt none_built (either_right (bytes_eq t s) (is_among s large) none_large))

one_of : (t : List ℕ) (large : List (List ℕ)) (s : List ℕ) → IsPattern (wrapped t) → ((u : List ℕ) → is_among u large ≡ true → IsPattern (wrapped u)) → (bytes_eq t s || is_among s large) ≡ true
    → IsPattern (wrapped s)
one_of t large s here there h = by (cases_Bool (bytes_eq t s))
  where
    by : (bytes_eq t s ≡ true) ⊎ (bytes_eq t s ≡ false) → IsPattern (wrapped s)
    by (inl is) = subst (λ u. IsPattern (wrapped u)) ((bytes_eq-Decides t s).0 is) here
    by (inr is) = there s (ap (λ c. c || is_among s large) (sym is) ∙ h)

pub record Split (ts : List (List ℕ)) : Type 0 where
  pub large : List (List ℕ)
  pub are : AreSplit ts [] large

with_one : (t : List ℕ) (ts : List (List ℕ)) → IsPattern (wrapped t) ⊎ IsNoPattern (wrapped t) → Split ts → Split (t ∷ ts)
with_one t ts (inl is) x = record {
  large = t ∷ x.large;
  are = record {
    built_are = x.are.built_are;
    large_are = λ s h. one_of t x.large s is x.are.large_are h;
    others = All-cons (Others (t ∷ x.large)) t ts (λ b l. absurd (false≢true (self_is t (is_among t x.large) l))) (others_too t x.large ts x.are.others);
  };
}
with_one t ts (inr none) x = record {
  large = x.large;
  are = record { built_are = x.are.built_are; large_are = x.are.large_are; others = All-cons (Others x.large) t ts (λ b l. none) x.are.others };
}

-- any texts can be parted so
pub split_of : (ts : List (List ℕ)) → Split ts
split_of [] = record {
  large = [];
  are = record { built_are = λ s h. absurd (false≢true h); large_are = λ s h. absurd (false≢true h); others = λ k d lt. absurd (omega (arith, lt)) };
}
split_of (t ∷ ts) = with_one t ts (decided t) (split_of ts)
