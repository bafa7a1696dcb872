-- Names of inputs, one after another: the first that stands a second time is at fault.
use Rattle.std.specs.Prelude.{◌≡◌, ℕ, List, ◌∷◌, if◌then◌else◌, Result, Ok, Err}
use Rattle.nf_value.specs.declared.place.Place.{Place}
use Rattle.nf_builtins.specs.Natives.{is_among}
use Rattle.nf_ast.specs.Tree as tree
use Rattle.nf_ast.specs.Tree.{Tree, cons, place_of}
use Rattle.nf_placed.specs.Body.{name_in}
use Rattle.nf_meaning.specs.declared.fault.LowerFault.{LowerFault}
use Rattle.nf_meaning.specs.declared.fault.LowerFault.TheVariants.{TwiceDefined}
use Rattle.nf_meaning.specs.Lowered.{Lowered, ◌>>=◌}
use Rattle.nf_lowered.specs.Given.{Gives}
use Rattle.nf_called.specs.declared.names.Names.{Names}

-- one more name, with the names before it, the latest first
abbrev pub named : Place → List ℕ → List (List ℕ) → Lowered (List (List ℕ))
named p n before = if is_among n before then Err (TwiceDefined p) else Ok (n ∷ before)

abbrev pub names_named : Tree → List (List ℕ) → Lowered (List (List ℕ))
names_named (tree.section p xs) before = names_named xs before
names_named (tree.tuple p xs) before = names_named xs before
names_named (tree.val p n) before = named (place_of n) (name_in n) before
names_named (tree.path p n) before = named (place_of n) (name_in n) before
names_named (cons a more) before = names_named a before >>= names_named more
names_named _ before = Ok before

-- the names in memory are these
pub record Knows (x : Names) (before : List (List ℕ)) : Type 0 where
  pub same : (n : List ℕ) → is_among n x.names.items ≡ is_among n before

-- what is given says nothing
abbrev pub IsAnything : Unit {0} → Unit {0} → Type 0
IsAnything x y = Unit {0}

-- whatever names were known, those after it are what is due of them
abbrev pub NamesGo : Names → (List (List ℕ) → Lowered (List (List ℕ))) → Names → Result (Unit {0}) LowerFault → Type 0
NamesGo old due new r = (before : List (List ℕ)) → Knows old before → Gives (λ _ after. Knows new after) (due before) r
