-- The things that the names of a body stand for in memory, whatever the script means.
use Rattle.std.specs.Prelude.{◌≡◌, ℕ, List, [], ◌∷◌, ◌⊎◌, Some}
use Rattle.nf_scopes.specs.declared.names.BodyNames.{BodyNames}
use Rattle.nf_scopes.specs.declared.things.Thing.{Thing}
use Rattle.nf_scopes.specs.Tables.{Table, held}
use Rattle.nf_scopes.specs.Standing.{tables_of}

-- in one of these tables the name stands for the thing
abbrev pub OneHas : List Table → List ℕ → Thing → Type 0
OneHas [] n t = ⊥
OneHas (es ∷ more) n t = (held n es ≡ Some t) ⊎ OneHas more n t

-- in the names of a body
abbrev pub Holds : BodyNames → List ℕ → Thing → Type 0
Holds x n t = OneHas (x.names.entries ∷ tables_of x) n t

-- what is held afterwards was held before
pub record HoldsNoMore (old new : BodyNames) : Type 0 where
  pub each : (n : List ℕ) (t : Thing) → Holds new n t → Holds old n t

-- what is held afterwards was held before, or is this thing
pub record HoldsAlso (old : BodyNames) (thing : Thing) (new : BodyNames) : Type 0 where
  pub each : (n : List ℕ) (t : Thing) → Holds new n t → Holds old n t ⊎ (t ≡ thing)
