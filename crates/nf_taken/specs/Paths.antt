-- Paths of sources.
use Rattle.std.specs.Prelude.{ℕ, Bool, List}
use Rattle.nf_value.specs.Plain.{Plain}
use Rattle.nf_value.specs.declared.place.Place.{Place}
use Rattle.nf_meaning.specs.Sources.{PathArgs, path_wanted}
use Rattle.nf_meaning.specs.Walk as walk
use Rattle.nf_meaning.specs.Walk.{Walk, ◌>>=◌, gives}

-- the path that a value is, with what was known before
abbrev pub path_walk : (List ℕ → Bool) → Place → Plain → PathArgs → Walk PathArgs
path_walk fits p v so_far = path_wanted fits p v >>= λ t. gives (record so_far { path = t })

-- the files of it that are wanted
abbrev pub wanted_as : Bool → PathArgs → walk.Want
wanted_as pairs x = record { path = x.path; must = x.must; pairs = pairs }
