-- What two states of one object tell.
use Rattle.std.specs.Prelude.{None, Some}
use Rattle.std.specs.declared.option.Option.{Option}

-- a fact of both contents, if they are told; either both are told or neither is
abbrev pub Both : {A : Type 0} → Option A → Option A → (A → A → Type 0) → Type 0
Both None None P = Unit {0}
Both (Some a) (Some b) P = P a b
Both None (Some b) P = ⊥
Both (Some a) None P = ⊥
