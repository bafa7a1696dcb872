-- Texts in memory as lists of characters.
use Rattle.std.specs.Prelude.{ℕ, List, [], ◌∷◌, Option, Some, None}
use Rattle.std.specs.Borrow.{Bor}
use Rattle.std.specs.Str.{chars}
use Rattle.nf_paths.specs.Pairs as pairs
use Rattle.nf_paths.specs.declared.pattern.PairPattern.{PairPattern}

abbrev pub text_of : Bor (List ℕ) → List ℕ
text_of t = chars t.now

abbrev pub parts_of : Bor (List ℕ) × Bor (List ℕ) → List ℕ × List ℕ
parts_of x = (chars x.0.now, chars x.1.now)

abbrev pub pattern_of : PairPattern → pairs.PairPattern
pattern_of p = record { front = chars p.front.now; between = chars p.between.now; first = chars p.first.now; second = chars p.second.now; back = chars p.back.now }

-- the two parts of a list of two
abbrev pub two_of : List (List ℕ) → Option (List ℕ × List ℕ)
two_of (a ∷ b ∷ []) = Some (a, b)
two_of [] = None
two_of (a ∷ []) = None
two_of (a ∷ b ∷ c ∷ more) = None

abbrev pub first_of : List ℕ → Option ℕ
first_of [] = None
first_of (c ∷ cs) = Some c
