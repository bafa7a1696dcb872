-- Patterns of pairs, part by part.
use Rattle.std.proofs.Common.{◌≡◌, ℕ, true, false, List, [], ◌∷◌, Option, None, Some, Bor, option_map, refl, sym, ◌∙◌, ap}
use Rattle.nf_pattern.specs.Glob.{star, opening, closing, pieces}
use Rattle.nf_paths.specs.Pairs.{PairPattern, parted_at, checked, is_pair_pattern, with_pieces, with_inside, with_between, with_front, pair_pattern}
use Rattle.nf_paths.specs.Texts.{parts_of, two_of}

-- what a call that parts a text found
pub found : (d : ℕ) (cs : List ℕ) (r : Option (Bor (List ℕ) × Bor (List ℕ))) (x : Bor (List ℕ) × Bor (List ℕ)) → option_map parts_of r ≡ parted_at d cs → r ≡ Some x → parted_at d cs ≡ Some (parts_of x)
found d cs r x h e = sym h ∙ ap (option_map parts_of) e

pub nothing_found : (d : ℕ) (cs : List ℕ) (r : Option (Bor (List ℕ) × Bor (List ℕ))) → option_map parts_of r ≡ parted_at d cs → r ≡ None → parted_at d cs ≡ None
nothing_found d cs r h e = sym h ∙ ap (option_map parts_of) e

abbrev pub checked_pieces : List ℕ → List ℕ → List ℕ → Option (List ℕ × List ℕ) → Option PairPattern
checked_pieces front between back None = None
checked_pieces front between back (Some w) = checked (record { front = front; between = between; first = w.0; second = w.1; back = back })

by_two : (front between back : List ℕ) (ps : List (List ℕ)) → with_pieces front between back ps ≡ checked_pieces front between back (two_of ps)
by_two front between back [] = refl
by_two front between back (a ∷ []) = refl
by_two front between back (a ∷ b ∷ []) = refl
by_two front between back (a ∷ b ∷ c ∷ more) = refl

pub pattern_by : (component : List ℕ) (x y z : List ℕ × List ℕ) (w : Option (List ℕ × List ℕ)) → parted_at star component ≡ Some x → parted_at opening x.1 ≡ Some y → parted_at closing y.1 ≡ Some z
    → two_of (pieces z.0) ≡ w → pair_pattern component ≡ checked_pieces x.0 y.0 z.1 w
pattern_by component x y z w a b c d =
    ap with_front a ∙ ap (with_between x.0) b ∙ ap (with_inside x.0 y.0) c ∙ by_two x.0 y.0 z.1 (pieces z.0) ∙ ap (checked_pieces x.0 y.0 z.1) d

pub checked_is : (p : PairPattern) → is_pair_pattern p ≡ true → checked p ≡ Some p
checked_is p h = rw h refl

pub unchecked_is : (p : PairPattern) → is_pair_pattern p ≡ false → checked p ≡ None
unchecked_is p h = rw h refl
