-- The names around an expression.
use Rattle.std.specs.Prelude.{◌≡◌, ℕ, Bool, true, false, List, [], ◌∷◌, None, codes}
use Rattle.nf_value.specs.declared.place.Place.{Place}
use Rattle.nf_builtins.specs.Natives.{is_among}
use Rattle.nf_graph.specs.Meaning.{Bags}
use Rattle.nf_meaning.specs.Names.{Known, Reading, bound_fault, free_fault}
use Rattle.nf_meaning.specs.Functions.{no_names_known}
use Rattle.nf_meaning.specs.Things.{thing_named}
use Rattle.nf_meaning.specs.Walk.{Scope, things_in}
use Rattle.nf_scopes.specs.declared.names.BodyNames.{BodyNames}
use Rattle.nf_scopes.specs.Standing.{NamesStand}
use Rattle.nf_known.specs.declared.around.Around.{Around}
use Rattle.nf_known.specs.declared.around.Around.TheVariants as around
use Rattle.nf_known.specs.declared.around.Bound.{Bound}
use Rattle.nf_known.specs.declared.around.Bound.TheVariants as bound

-- the parameters, and the folders
abbrev pub everywhere_names : List (List ℕ)
everywhere_names = codes "params" ∷ codes "projectDir" ∷ codes "baseDir" ∷ codes "launchDir" ∷ []

-- those alone
abbrev pub names_everywhere : Known
names_everywhere = record { things = []; everywhere = everywhere_names }

-- the names of a body, in some bags, and those that stand for values everywhere
pub record KnowsBody (x : BodyNames) (k : Known) : Type 0 where
  pub bags : Bags
  pub around : List (List (List ℕ))
  pub scope : Scope
  pub stand : NamesStand bags around x scope
  pub things : k.things ≡ things_in scope
  pub everywhere : k.everywhere ≡ everywhere_names

abbrev pub Knows : Around → Known → Type 0
Knows around.Nothing k = k ≡ no_names_known
Knows around.Everywhere k = k ≡ names_everywhere
Knows (around.Body x) k = KnowsBody x.now k

-- what is wrong with a name that is read: it is bound, or only what it leads to counts
abbrev pub IsBoundAs : Reading → Place → List ℕ → Known → Bound → Type 0
IsBoundAs r p n k (bound.Here f) =
    (leads : Bool) → bound_fault (thing_named n k.things) (is_among n k.everywhere) leads r p ≡ f
IsBoundAs r p n k bound.Free =
    (leads : Bool) → bound_fault (thing_named n k.things) (is_among n k.everywhere) leads r p ≡ free_fault leads r p

-- nothing is wrong with a name that is known everywhere
abbrev pub bound_if : Bool → Bound
bound_if true = bound.Here None
bound_if false = bound.Free
