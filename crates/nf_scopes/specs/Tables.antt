-- Tables of names in memory.
use Rattle.std.specs.Prelude.{◌≡◌, ℕ, List, [], ◌∷◌, bytes_eq, string_bytes, String, is_some, if◌then◌else◌, false}
use Rattle.std.specs.Prelude.{Option, Some, None}
use Rattle.std.specs.Global.{Global}
use Rattle.std.specs.Map.{lookup}
use Rattle.nf_graph.specs.Meaning.{Bags}
use Rattle.nf_meaning.specs.Things as meaning
use Rattle.nf_meaning.specs.Things.{thing_named}
use Rattle.nf_meaning.specs.Stands.{ThingStands}
use Rattle.nf_scopes.specs.declared.things.Thing.{Thing}
use Rattle.nf_scopes.specs.Things.{thing_of}

-- names with what they stand for, in no order that matters
abbrev pub Table : Type 0
Table = List (String Global × Thing)

-- what a name stands for in a table
abbrev pub held : List ℕ → Table → Option Thing
held n es = lookup (λ k. bytes_eq n (string_bytes k)) es

-- a table in which one name stands for another thing, or is new
abbrev pub Puts : List ℕ → Thing → Table → Table → Type 0
Puts key t old new = (n : List ℕ) → held n new ≡ (if bytes_eq key n then Some t else held n old)

-- names in the meaning of a script, the latest first
abbrev pub Names : Type 0
Names = List (List ℕ × meaning.Thing)

abbrev pub FoundStands : Bags → Option Thing → Option meaning.Thing → Type 0
FoundStands bags None None = Unit {0}
FoundStands bags (Some t) (Some u) = ThingStands bags (thing_of t) u
FoundStands bags None (Some u) = ⊥
FoundStands bags (Some t) None = ⊥

-- each name stands for the same in both
abbrev pub TableStands : Bags → Table → Names → Type 0
TableStands bags es bs = (n : List ℕ) → FoundStands bags (held n es) (thing_named n bs)

-- none of these tables has the name
abbrev pub NoneHas : List ℕ → List Table → Type 0
NoneHas key [] = Unit {0}
NoneHas key (es ∷ more) = (is_some (held key es) ≡ false) × NoneHas key more
