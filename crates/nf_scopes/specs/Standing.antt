-- Where the names of a body in memory stand for those of its meaning.
use Rattle.std.specs.Prelude.{◌≡◌, ℕ, ◌+◌, List, [], ◌∷◌, ◌++◌, map, length, Bool, Option}
use Rattle.nf_builtins.specs.Natives.{is_among}
use Rattle.nf_graph.specs.Meaning.{Bags}
use Rattle.nf_meaning.specs.Stands.{ThingStands}
use Rattle.nf_meaning.specs.Things as meaning
use Rattle.nf_meaning.specs.Things.{thing_named}
use Rattle.nf_meaning.specs.Walk.{Scope, things_in}
use Rattle.nf_scopes.specs.declared.names.BodyNames.{BodyNames}
use Rattle.nf_scopes.specs.declared.things.Thing.{Thing}
use Rattle.nf_scopes.specs.Tables.{Table, Names, TableStands, FoundStands}
use Rattle.nf_scopes.specs.Things.{thing_of}

-- the names that were bound in each of some braces, the outermost braces first
abbrev pub Braces : Type 0
Braces = List (List (List ℕ))

-- The names that `def` bound in the braces that are open: for each the names that were bound in it, and their table, the
-- outermost braces first. In the meaning they stand in one list, the latest first
abbrev pub BlocksStand : Bags → Braces → List Table → Names → Type 0
BlocksStand bags [] [] own = own ≡ []
BlocksStand bags (ns ∷ nss) (es ∷ ess) own =
    (inner : Names) × (outer : Names) × (own ≡ inner ++ outer) × (map (λ b. b.0) outer ≡ ns) × TableStands bags es outer
    × BlocksStand bags nss ess inner
BlocksStand bags [] (es ∷ ess) own = ⊥
BlocksStand bags (ns ∷ nss) [] own = ⊥

abbrev pub tables_of : BodyNames → List Table
tables_of x = map (λ m. m.entries) x.outer.items ++ x.inner.entries ∷ []

-- `around` are the braces around the innermost ones
pub record NamesStand (bags : Bags) (around : Braces) (x : BodyNames) (s : Scope) : Type 0 where
  pub braces : BlocksStand bags (around ++ s.defined ∷ []) (tables_of x) s.own
  pub names : TableStands bags x.names.entries s.names

abbrev pub total : Braces → ℕ
total [] = 0
total (ns ∷ nss) = length ns + total nss

-- so many names were bound in the braces that are open
pub record HasBound (around : Braces) (s : Scope) : Type 0 where
  pub count : length s.own ≡ total (around ++ s.defined ∷ [])

-- the names of a body that begins: the workflow's own, of this table
abbrev pub BeginsWith : Table → BodyNames → Type 0
BeginsWith es x = (bags : Bags) (s : Scope) → s.own ≡ [] → s.defined ≡ [] → TableStands bags es s.names
    → NamesStand bags [] x s

-- what is found under a name is what it stands for in the meaning, wherever these names stand for a scope
abbrev pub Finds : BodyNames → List ℕ → Option Thing → Type 0
Finds x n found = (bags : Bags) (around : Braces) (s : Scope) → NamesStand bags around x s
    → FoundStands bags found (thing_named n (things_in s))

-- whether the innermost braces bound a name, wherever these names stand for a scope
abbrev pub TellsDefined : BodyNames → List ℕ → Bool → Type 0
TellsDefined x n is = (bags : Bags) (around : Braces) (s : Scope) → NamesStand bags around x s → is ≡ is_among n s.defined

-- a name comes to stand for a thing, as `bound` says of scopes
abbrev pub Binds : (Scope → meaning.Thing → Scope) → Thing → BodyNames → BodyNames → Type 0
Binds bound thing old new = (bags : Bags) (around : Braces) (s : Scope) (t : meaning.Thing) → ThingStands bags (thing_of thing) t
    → NamesStand bags around old s → NamesStand bags around new (bound s t)
