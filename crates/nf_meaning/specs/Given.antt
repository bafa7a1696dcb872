-- What the meaning of a script rests on, and what the script defines at its top.
use Rattle.std.specs.Prelude.{ℕ, List, [], ◌∷◌, Option, Some, None, bytes_eq, if◌then◌else◌}
use Rattle.nf_value.specs.Plain.{Plain}
use Rattle.nf_value.specs.declared.file.FileRef.{FileRef}
use Rattle.nf_ast.specs.Tree.{Tree}
use Rattle.nf_tasks.specs.Evaluation.{Definition}
use Rattle.nf_job.specs.declared.report.Report.{Report}
use Rattle.nf_tasks.specs.Memory.{Program}

-- the files that match the path of a source, in the order of their names
pub record Found : Type 0 where
  pub path : List ℕ
  pub files : List FileRef

-- for each instance (the call's path, the inputs and their number) the reports of its attempts
abbrev pub Outcomes : Type 0
Outcomes = List ℕ → List Plain → ℕ → List Report

pub record Given : Type 0 where
  pub tops : Tree
  -- parameters that are set from outside, which win over the script's; in the order of their names
  pub params : List (List ℕ × Plain)
  -- the folder of the script
  pub folder : List ℕ
  pub found : List Found
  -- the functions that the program adds
  pub program : Program
  -- the texts of the patterns that are built, and of those that are too large
  pub patterns : List (List ℕ)
  pub large : List (List ℕ)
  pub outcomes : Outcomes

-- the definitions of a script by their names, in the order of the text
pub record Definitions : Type 0 where
  pub processes : List (List ℕ × Tree)
  pub workflows : List (List ℕ × Tree)
  pub functions : List Definition
  -- the parameters of each function
  pub parameters : List (List ℕ × Tree)

abbrev pub tree_named : List ℕ → List (List ℕ × Tree) → Option Tree
tree_named n [] = None
tree_named n (b ∷ bs) = if bytes_eq b.0 n then Some b.1 else tree_named n bs

abbrev pub function_named : List ℕ → List Definition → Option Definition
function_named n [] = None
function_named n (d ∷ ds) = if bytes_eq d.name n then Some d else function_named n ds

-- the files of a path; none where it wasn't looked for
abbrev pub files_at : List ℕ → List Found → List FileRef
files_at path [] = []
files_at path (x ∷ xs) = if bytes_eq x.path path then x.files else files_at path xs
