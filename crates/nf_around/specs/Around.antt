-- What bodies in memory have around them, and what their expressions see.
use Rattle.std.specs.Prelude.{◌≡◌, ℕ, List, Option, codes}
use Rattle.nf_value.specs.Plain.{Plain, table, text, plain_pairs_of}
use Rattle.nf_value.specs.View.{plain_of}
use Rattle.nf_value.specs.declared.value.Value.{Value}
use Rattle.nf_eval.specs.Evaluation.{functions_of}
use Rattle.nf_eval.specs.Memory as memory
use Rattle.nf_eval.specs.Memory.{patterns_of}
use Rattle.nf_eval.specs.declared.library.Library.{Library}
use Rattle.nf_graph.specs.Meaning.{Bags}
use Rattle.nf_meaning.specs.Given.{Given}
use Rattle.nf_meaning.specs.Functions.{in_order}
use Rattle.nf_meaning.specs.Script.{definitions_of}
use Rattle.nf_meaning.specs.Walk as walk
use Rattle.nf_meaning.specs.Walk.{known_in}
use Rattle.nf_scopes.specs.Standing.{NamesStand}
use Rattle.nf_scopes.specs.declared.names.BodyNames.{BodyNames}
use Rattle.nf_tasks.specs.Memory as tasks
use Rattle.nf_tasks.specs.Memory.{Program, program}
use Rattle.nf_known.specs.Known.{Question, IsKnownScript}
use Rattle.nf_known.specs.declared.names.KnownScript.{KnownScript}
use Rattle.nf_around.specs.declared.everywhere.Everywhere.{Everywhere}
use Rattle.nf_around.specs.declared.surroundings.Surroundings.{Surroundings}
use Rattle.nf_around.specs.declared.view.View.{View}
use Rattle.nf_around.specs.Values.{values_of}

-- the program, the patterns, the functions, and the names that have a value everywhere
pub record IsEverywhere (x : Everywhere) (n : Program) (a : walk.Around) : Type 0 where
  pub program : a.given.program ≡ n
  pub patterns : a.given.patterns ≡ patterns_of x.library.value
  pub functions : a.functions
      ≡ functions_of (memory.definitions_of x.library.value) (patterns_of x.library.value) n.titles n.answer
  pub values : a.everywhere ≡ values_of x

-- the names of a body in memory are those of its meaning
pub record NamesSeen (x : BodyNames) (s : walk.Scope) : Type 0 where
  pub bags : Bags
  pub braces : List (List (List ℕ))
  pub stand : NamesStand bags braces x s

-- a view of a body
pub record Sees (x : View) (n : Program) (a : walk.Around) (s : walk.Scope) : Type 0 where
  pub everywhere : IsEverywhere x.everywhere.now n a
  pub names : NamesSeen x.names.now s

-- The surroundings in memory are those of the bodies of a script. `titles_of` and `answer_of` say what the program's
-- functions are
pub record IsAround {N : Type 0} (titles_of : N → List (List ℕ)) (answer_of : N → ℕ → List Plain → Option Plain)
    (x : Surroundings N) (a : walk.Around) : Type 0 where
  pub script : IsKnownScript titles_of x.known a.given
  pub everywhere : IsEverywhere x.everywhere (program (titles_of x.natives.now) (answer_of x.natives.now)) a
  pub definitions : a.definitions ≡ definitions_of a.given.tops

-- a body with these names, in such surroundings
pub record IsBody {N : Type 0} (titles_of : N → List (List ℕ)) (answer_of : N → ℕ → List Plain → Option Plain)
    (x : Surroundings N) (names : BodyNames) (a : walk.Around) (s : walk.Scope) : Type 0 where
  pub around : IsAround titles_of answer_of x a
  pub seen : NamesSeen names s

-- what is asked of an expression of a body
abbrev pub asked_in : walk.Around → walk.Scope → Question
asked_in a s = record { given = a.given; known = known_in a s }

-- ---- what the meaning of a script rests on

-- the script, the program, and a library with the script's functions and the patterns that are built
pub record HasGiven {N : Type 0} (titles_of : N → List (List ℕ)) (answer_of : N → ℕ → List Plain → Option Plain)
    (x : KnownScript N) (natives : N) (l : Library) (g : Given) : Type 0 where
  pub script : IsKnownScript titles_of x g
  pub program : g.program ≡ tasks.program (titles_of natives) (answer_of natives)
  pub patterns : g.patterns ≡ patterns_of l
  pub functions : memory.definitions_of l ≡ in_order (definitions_of g.tops).functions

-- the parameters that are set, and the folders of the script and of the run, as values
pub record HasFolders (params folder launch : Value) (g : Given) (ps : List (List ℕ × Plain)) : Type 0 where
  pub set : plain_of params ≡ table (plain_pairs_of ps)
  pub script : plain_of folder ≡ text g.folder
  pub run : plain_of launch ≡ text (codes ".")
