-- What is around all bodies of a script, in memory and in its meaning.
use Rattle.std.specs.Prelude.{◌≡◌, ℕ, List, [], Option, Some, None, Err}
use Rattle.std.specs.Borrow.{Bor}
use Rattle.nf_value.specs.Plain.{Plain}
use Rattle.nf_value.specs.declared.file.FileRef.{FileRef}
use Rattle.nf_value.specs.declared.place.Place.{Place}
use Rattle.nf_ast.specs.Tree.{Tree}
use Rattle.nf_meaning.specs.declared.fault.LowerFault.TheVariants.{CallCycle}
use Rattle.nf_meaning.specs.CallPaths.{NamesArePlain}
use Rattle.nf_meaning.specs.Given.{files_at}
use Rattle.nf_meaning.specs.Script.{around_at}
use Rattle.nf_meaning.specs.Things.{Channel}
use Rattle.nf_meaning.specs.Walk.{Around, State}
use Rattle.nf_plan.specs.Runs.{Run}
use Rattle.nf_callees.specs.Found.{defined_in, held}
use Rattle.nf_around.specs.Around.{IsAround}
use Rattle.nf_around.specs.Processes.{StandSomewhere}
use Rattle.nf_lowering.specs.declared.state.Lowering.{Lowering}
use Rattle.nf_lowering.specs.State.{IsLowering}
use Rattle.nf_walked.specs.declared.walker.Walker.{Walker}

-- the files of a path that was looked for
abbrev pub files_of : Option (Bor (List FileRef)) → List FileRef
files_of None = []
files_of (Some fs) = fs.now

-- so many calls of workflows may still lead on from here, each in the body of the one before
pub record CanCall (left : ℕ) (a : Around) : Type 0 where
  pub outermost : Around
  pub is : a ≡ around_at outermost left
  pub none : (p : Place) (n : List ℕ) (t : Tree) (cs : List Channel) (s : State)
      → outermost.enter p n t cs s ≡ Err (CallCycle p)

-- what is known of a run and of what is around all bodies
pub record Knows {N : Type 0} (titles_of : N → List (List ℕ)) (answer_of : N → ℕ → List Plain → Option Plain)
    (x : Walker N) (r : Run) (a : Around) : Type 0 where
  pub around : IsAround titles_of answer_of x.around.now a
  pub definitions : a.definitions ≡ defined_in x.definitions.now
  pub program : r.program ≡ a.given.program
  pub outcomes : r.by_path ≡ a.given.outcomes
  pub found : (path : List ℕ) → files_of (held path x.found.now.entries) ≡ files_at path a.given.found
  pub calls : CanCall x.left a

-- the program's functions answer as they say, what is around all bodies is that of some script, no name that is called
-- has a colon, and what lies in memory is in order
pub record CanWalk {N : Type 0} (titles_of : N → List (List ℕ)) (answer_of : N → ℕ → List Plain → Option Plain)
    (keeps_of : N → Type 0) (x : Walker N) (z : Lowering) : Type 0 where
  pub natives : keeps_of x.around.now.natives.now
  pub somewhere : StandSomewhere titles_of answer_of x.around.now
  pub plain : NamesArePlain (defined_in x.definitions.now)
  pub lowering : IsLowering z
