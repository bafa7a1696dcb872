-- A library with the texts of its patterns: those that were built, and those that are too large.
use Rattle.std.specs.Prelude.{◌≡◌, ℕ, Bool, true, false, List, map, string_bytes}
use Rattle.std.specs.List.{All}
use Rattle.nf_builtins.specs.Natives.{is_among}
use Rattle.nf_eval.specs.Memory.{definitions_of, patterns_of}
use Rattle.nf_known.specs.Patterns.{HasTexts, has_text}
use Rattle.nf_known.specs.declared.patterns.PatternTexts.{PatternTexts}
use Rattle.nf_pattern.specs.Whole.{IsNoPattern, IsPattern}
use Rattle.nf_pattern.specs.Wrapped.{wrapped}
use Rattle.nf_library.specs.declared.shelf.Shelf.{Shelf}

-- the texts of the patterns that are too large
abbrev pub large_in : PatternTexts → List (List ℕ)
large_in x = map string_bytes x.large.keys

-- the grammar of `regex` reads a pattern in each text that is one of these
abbrev pub ArePatterns : (List ℕ → Bool) → Type 0
ArePatterns has = (s : List ℕ) → has s ≡ true → IsPattern (wrapped s)

-- The patterns of these texts are parted: those that were built, and those that are too large. In any other of the texts the grammar of
-- `regex` reads no pattern
pub record AreSplit (texts built large : List (List ℕ)) : Type 0 where
  pub built_are : ArePatterns (λ s. is_among s built)
  pub large_are : ArePatterns (λ s. is_among s large)
  pub others : All (λ s. is_among s built ≡ false → is_among s large ≡ false → IsNoPattern (wrapped s)) texts

-- ---- patterns are added

-- the pattern of a text was built, or is too large, or the grammar reads none in it
abbrev pub Settles : PatternTexts → List ℕ → Type 0
Settles x s = has_text s x.built.keys ≡ false → has_text s x.large.keys ≡ false → IsNoPattern (wrapped s)

-- the texts are those of the library's patterns, and others that are too large
pub record IsShelf (x : Shelf) : Type 0 where
  pub texts : HasTexts x.texts.built.keys (patterns_of x.library)
  pub built : ArePatterns (λ s. has_text s x.texts.built.keys)
  pub large : ArePatterns (λ s. has_text s x.texts.large.keys)

-- the functions stay, and all that was settled stays so
pub record Grows (old new : Shelf) : Type 0 where
  pub functions : definitions_of new.library ≡ definitions_of old.library
  pub shelf : IsShelf old → IsShelf new
  pub stays : (s : List ℕ) → Settles old.texts s → Settles new.texts s

-- the patterns of these texts are settled
pub record Adds (texts : List (List ℕ)) (old new : Shelf) : Type 0 where
  pub grows : Grows old new
  pub has : All (Settles new.texts) texts
