-- Tests on the tokens that come, and parts that grammars share.
use Rattle.std.specs.Prelude.{Bool, true, false, List, [], ◌∷◌, Option, Some, None}

abbrev pub none_of : {V : Type 0} → Option V → Bool
none_of None = true
none_of (Some v) = false

-- the next token isn't this one
abbrev pub no_next : {T V : Type 0} → (T → Option V) → List T → Bool
no_next p [] = true
no_next p (x ∷ xs) = none_of (p x)
