-- Bodies of workflows in memory.
use Rattle.std.specs.Prelude.{◌≡◌, ℕ, List}
use Rattle.nf_graph.specs.Meaning.{Bags}
use Rattle.nf_meaning.specs.Expressions as meaning
use Rattle.nf_meaning.specs.Walk.{Around, Scope}
use Rattle.nf_callees.specs.Found.{defined_in}
use Rattle.nf_scopes.specs.Standing.{Braces, NamesStand}
use Rattle.nf_leading.specs.declared.leading.InBody.{InBody}
use Rattle.nf_leading.specs.declared.leading.Leading.{Leading}

abbrev pub leading_of : Leading → meaning.Leading
leading_of x = record { alone = x.alone; called = x.called }

-- The names in memory are those of this scope, and the definitions those around it. `titles_of` says which functions the
-- program has
pub record IsBody {N : Type 0} (titles_of : N → List (List ℕ)) (x : InBody N) (a : Around) (s : Scope) : Type 0 where
  pub bags : Bags
  pub braces : Braces
  pub names : NamesStand bags braces x.names.now s
  pub definitions : a.definitions ≡ defined_in x.definitions.now
  pub titles : a.given.program.titles ≡ titles_of x.natives.now
