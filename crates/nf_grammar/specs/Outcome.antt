-- How the parsing of a part ends: with one tree, or at one place.
use Rattle.std.specs.Prelude.{◌≡◌, ℕ, ◌≤◌, List, length}
use Rattle.nf_grammar.specs.Gram.{Gram}
use Rattle.nf_grammar.specs.Reads.{Reads, Stands, Deep}

-- `got v rest left`: the tree, the tokens after it, and how many are left where the farthest reading stands; `unexpected left`: no tree,
-- and the farthest reading stands there; `too_deep left`: a limit is passed there
pub data Out (T V : Type 0) : Type 0 where
  got : V → List T → ℕ → Out T V
  unexpected : ℕ → Out T V
  too_deep : ℕ → Out T V

-- the part spells this tree and no other, and no reading passes a limit or stands further on
pub record Got {T V L : Type 0} (rules : L → Gram T V L) (g : Gram T V L) (ts : List T) (v : V) (rest : List T) (left : ℕ) : Type 0 where
  pub reads : Reads rules g ts v rest
  pub only : (w : V) (r : List T) → Reads rules g ts w r → (w ≡ v) × (r ≡ rest)
  pub stands : (r : List T) × Stands rules g ts r × (length r ≡ left)
  pub farthest : (r : List T) → Stands rules g ts r → left ≤ length r
  pub shallow : (r : List T) → Deep rules g ts r → ⊥

-- the part spells no tree
pub record Unexpected {T V L : Type 0} (rules : L → Gram T V L) (g : Gram T V L) (ts : List T) (left : ℕ) : Type 0 where
  pub none : (w : V) (r : List T) → Reads rules g ts w r → ⊥
  pub stands : (r : List T) × Stands rules g ts r × (length r ≡ left)
  pub farthest : (r : List T) → Stands rules g ts r → left ≤ length r
  pub shallow : (r : List T) → Deep rules g ts r → ⊥

-- a reading passes a limit there, and none does before; no tree ends before
pub record TooDeep {T V L : Type 0} (rules : L → Gram T V L) (g : Gram T V L) (ts : List T) (left : ℕ) : Type 0 where
  pub deep : (r : List T) × Deep rules g ts r × (length r ≡ left)
  pub earliest : (r : List T) → Deep rules g ts r → length r ≤ left
  pub beyond : (w : V) (r : List T) → Reads rules g ts w r → length r ≤ left

abbrev pub IsOutcome : {T V L : Type 0} → (L → Gram T V L) → Gram T V L → List T → Out T V → Type 0
IsOutcome rules g ts (got v rest left) = Got rules g ts v rest left
IsOutcome rules g ts (unexpected left) = Unexpected rules g ts left
IsOutcome rules g ts (too_deep left) = TooDeep rules g ts left

pub record Outcome {T V L : Type 0} (rules : L → Gram T V L) (g : Gram T V L) (ts : List T) (o : Out T V) : Type 0 where
  pub ends : IsOutcome rules g ts o
