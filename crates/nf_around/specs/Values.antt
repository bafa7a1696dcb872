-- The values of names as expressions see them.
use Rattle.std.specs.Prelude.{ℕ, Bool, false, List, [], ◌∷◌, codes, Option, Some, None}
use Rattle.std.specs.Borrow.{Bor}
use Rattle.nf_value.specs.Plain.{Plain, null}
use Rattle.nf_value.specs.View.{plain_of}
use Rattle.nf_value.specs.declared.value.Value.{Value}
use Rattle.nf_meaning.specs.Names.{Reading, before_run, in_run, unread}
use Rattle.nf_meaning.specs.Things.{Thing, holds_file, value_seen, value_before_run}
use Rattle.nf_around.specs.declared.everywhere.Everywhere.{Everywhere}

-- the value that is there, or null
abbrev pub or_null : Option (Bor Value) → Plain
or_null None = null
or_null (Some v) = plain_of v.now

-- the value of a thing, by how its name is read
abbrev pub seen_as : Reading → Thing → Plain
seen_as before_run t = value_before_run t
seen_as in_run t = value_seen t
seen_as unread t = value_seen t

-- whether a value is none in expressions that are read so
abbrev pub is_hidden_by : Reading → Plain → Bool
is_hidden_by before_run v = holds_file v
is_hidden_by in_run v = false
is_hidden_by unread v = false

-- the names that have a value everywhere, with their values
abbrev pub values_of : Everywhere → List (List ℕ × Plain)
values_of x =
    (codes "params", plain_of x.params) ∷ (codes "projectDir", plain_of x.folder) ∷ (codes "baseDir", plain_of x.folder)
    ∷ (codes "launchDir", plain_of x.launch) ∷ []
