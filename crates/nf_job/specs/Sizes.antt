-- Sizes that fit 64 bits, and what equal job texts have in common.
use Rattle.std.specs.Prelude.{◌≡◌, ℕ, ◌<◌, ◌^◌, List, length}
use Rattle.std.specs.Int.Signed.{mag}
use Rattle.hex.specs.Hex.{IsBytes}
use Rattle.nf_value.specs.Plain.{Plain, null, truth, int, text, file, list, table, Plains, no_items, item, PlainPairs, no_pairs, pair}
use Rattle.nf_value.specs.Code.{count, count_pairs}
use Rattle.nf_job.specs.declared.parts.JobParts.{JobParts}

-- the sizes of these parts fit 64 bits
pub record IsSized (p : JobParts) : Type 0 where
  pub process : length p.process < 2 ^ 64
  pub script : length p.script < 2 ^ 64
  pub inputs : length p.inputs < 2 ^ 64
  pub n : p.n < 2 ^ 64
  pub attempt : p.attempt < 2 ^ 64

-- the name and the length fit 64 bits, and the digest has 32 bytes
pub record IsFitFile (n d : List ℕ) (l : ℕ) : Type 0 where
  pub name : length n < 2 ^ 64
  pub bytes : IsBytes d
  pub digest : length d ≡ 32
  pub len : l < 2 ^ 64

abbrev mutual
  -- each number, length and count in the value fits 64 bits
  pub IsFit : Plain → Type 0
  IsFit null = Unit {0}
  IsFit (truth b) = Unit {0}
  IsFit (int i) = mag i < 2 ^ 63
  IsFit (text t) = length t < 2 ^ 64
  IsFit (file n d l) = IsFitFile n d l
  IsFit (list vs) = (count vs < 2 ^ 64) × AllFit vs
  IsFit (table ps) = (count_pairs ps < 2 ^ 64) × PairsFit ps

  pub AllFit : Plains → Type 0
  AllFit no_items = Unit {0}
  AllFit (item v vs) = IsFit v × AllFit vs

  pub PairsFit : PlainPairs → Type 0
  PairsFit no_pairs = Unit {0}
  PairsFit (pair k v ps) = (length k < 2 ^ 64) × IsFit v × PairsFit ps

-- both jobs are the same attempt at the same task
pub record SameAttempt (p q : JobParts) : Type 0 where
  pub process : p.process ≡ q.process
  pub script : p.script ≡ q.script
  pub inputs : p.inputs ≡ q.inputs
  pub n : p.n ≡ q.n
  pub attempt : p.attempt ≡ q.attempt

-- the same, with the inputs as lists
pub record SameInstance (p q : JobParts) (vs ws : List Plain) : Type 0 where
  pub process : p.process ≡ q.process
  pub inputs : vs ≡ ws
  pub n : p.n ≡ q.n
  pub attempt : p.attempt ≡ q.attempt
