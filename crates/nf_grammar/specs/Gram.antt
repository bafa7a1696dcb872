-- What the rules of a grammar are made of. T is the type of its tokens, V that of what they stand for, and L that of its rules.
use Rattle.std.specs.Prelude.{ℕ, Bool, List, Option}

pub data Gram (T V L : Type 0) : Type 0 where
  -- one token, and what it stands for; the test says whether it would pass a limit
  token : Bool → (T → Option V) → Gram T V L
  -- no token
  gives : V → Gram T V L
  -- the one, then the other, which may depend on what was read
  bind : Gram T V L → (V → Gram T V L) → Gram T V L
  -- either arm
  either : Gram T V L → Gram T V L → Gram T V L
  -- only where the tokens that come pass the test
  only_where : (List T → Bool) → Gram T V L → Gram T V L
  -- any number of parts, from a count and what was read so far; ends only where the test holds
  many : (List T → Bool) → (ℕ → V → Gram T V L) → ℕ → V → Gram T V L
  -- a rule of the grammar
  rule : L → Gram T V L

infixl 10 ◌>>=◌
abbrev pub ◌>>=◌ : {T V L : Type 0} → Gram T V L → (V → Gram T V L) → Gram T V L
g >>= k = bind g k
