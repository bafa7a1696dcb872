-- A script that is run, and what it means over the files that its sources read.
use Rattle.std.specs.Prelude.{◌≡◌, ℕ, List, Ok}
use Rattle.std.specs.declared.option.Option.{Option}
use Rattle.nf_ast.specs.Tree.{Tree}
use Rattle.nf_host.specs.Files.{Files}
use Rattle.nf_tasks.specs.Memory.{Program}
use Rattle.nf_lowered.specs.Given.{HasFault}
use Rattle.nf_meaning.specs.declared.fault.LowerFault.{LowerFault}
use Rattle.nf_meaning.specs.Given.{Found, Given, Outcomes}
use Rattle.nf_meaning.specs.Lowered.{Lowered}
use Rattle.nf_meaning.specs.Meaning.{ScriptMeaning}
use Rattle.nf_meaning.specs.Script.{meaning_of, wants_of}
use Rattle.nf_meaning.specs.Walk.{Want}
use Rattle.nf_found.specs.All.{AreAllFound, IsFirst}
use Rattle.nf_library.specs.Patterns.{pattern_texts}
use Rattle.nf_library.specs.Shelves.{AreSplit}
use Rattle.nf_carried.specs.Run.{Run}
use Rattle.nf_request.specs.Wishes.{Params}

-- a script with all that stands outside of it, but for the files that its sources read
pub record Script : Type 0 where
  pub tree : Tree
  -- the parameters that are set from outside
  pub params : Params
  -- its own folder, and the work folder
  pub folder : List ℕ
  pub work : List ℕ
  -- the functions that the program adds
  pub program : Program

-- Which of a script's patterns `regex` built, and which are too large for it, no clause says: there are some
pub record Patterns (t : Tree) : Type 0 where
  pub built : List (List ℕ)
  pub large : List (List ℕ)
  pub split : AreSplit (pattern_texts t) built large

-- what its meaning rests on, with these files, under these outcomes of its tasks
abbrev pub given_with : (x : Script) → Patterns x.tree → List Found → Outcomes → Given
given_with x p found o = record {
  tops = x.tree;
  params = x.params;
  folder = x.folder;
  found = found;
  program = x.program;
  patterns = p.built;
  large = p.large;
  outcomes = o;
}

-- ---- its files

-- its sources read these paths, whatever files are found and whatever its tasks give
abbrev pub Reads : (x : Script) → Patterns x.tree → List Want → Type 0
Reads x p ws = (found : List Found) (o : Outcomes) → wants_of (given_with x p found o) ≡ Ok ws

-- the files that its sources read, as they stood among the host's files
pub record Sources (x : Script) (told : Option Files) : Type 0 where
  pub patterns : Patterns x.tree
  pub wants : List Want
  pub read : Reads x patterns wants
  pub found : List Found
  pub are_found : AreAllFound x.work told wants found

-- P holds of one of its sources; for those before it files were found
pub record IsAtSource (x : Script) (told : Option Files) (P : Want → Type 0) : Type 0 where
  pub patterns : Patterns x.tree
  pub wants : List Want
  pub read : Reads x patterns wants
  pub first : IsFirst x.work told wants P

-- ---- its meaning

-- what it means over these files, under outcomes of its tasks
abbrev pub meaning_over : (x : Script) {told : Option Files} → Sources x told → Outcomes → Lowered ScriptMeaning
meaning_over x s o = meaning_of (given_with x s.patterns s.found o)

-- the run is one of this script over these files
abbrev pub IsRunOf : (x : Script) {told : Option Files} → Sources x told → Run → Type 0
IsRunOf x s run = (o : Outcomes) → meaning_over x s o ≡ Ok (run.meaning o)

-- its first fault, which it has whatever files are found and whatever its tasks give
pub record HasFirstFault (x : Script) (f : LowerFault) : Type 0 where
  pub patterns : Patterns x.tree
  pub has : (found : List Found) (o : Outcomes) → HasFault (meaning_of (given_with x patterns found o)) f
