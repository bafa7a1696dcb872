-- Reading a child's output piece by piece.
use Rattle.std.proofs.Common.{◌≡◌, ℕ, List, ◌++◌, ap, ◌∙◌, arith, length-append}
use Rattle.std.specs.declared.option.Option.{Option}
use Rattle.std.specs.Io.KnownBytes.{Consumes, Keeps}
use Rattle.std.proofs.KnownBytes.{Consumes-trans, Consumes-kept}
use Rattle.nf_lane.specs.Child.{kept_of, kept_with}

-- what is kept of more bytes is kept of all of them
pub kept_with-kept_of : (bytes more : List ℕ) → kept_with (kept_of bytes) more ≡ kept_of (bytes ++ more)
kept_with-kept_of bytes more = grind (arith, length-append)

-- a piece more was read
pub read_more : (o p r : Option (List ℕ)) (kept next : Option (List ℕ)) (part : List ℕ) → ((bytes : List ℕ) × Consumes o p bytes × (kept ≡ kept_of bytes)) → Consumes p r part → next ≡ kept_with kept part
    → (bytes : List ℕ) × Consumes o r bytes × (next ≡ kept_of bytes)
read_more o p r kept next part (bytes, taken, is) read more =
    (bytes ++ part, Consumes-trans o p r bytes part taken read, more ∙ ap (λ k. kept_with k part) is ∙ kept_with-kept_of bytes part)

-- nothing was read
pub read_none : (o p r : Option (List ℕ)) (kept next : Option (List ℕ)) → ((bytes : List ℕ) × Consumes o p bytes × (kept ≡ kept_of bytes)) → Keeps p r → next ≡ kept
    → (bytes : List ℕ) × Consumes o r bytes × (next ≡ kept_of bytes)
read_none o p r kept next (bytes, taken, is) read same = (bytes, Consumes-kept o p r bytes taken read, same ∙ is)
