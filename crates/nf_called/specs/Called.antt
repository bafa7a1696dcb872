-- Where a process in memory is the one of a call.
use Rattle.std.specs.Prelude.{◌≡◌, ℕ, List, map, Err}
use Rattle.nf_ast.specs.Tree as tree
use Rattle.nf_ast.specs.Tree.{Tree}
use Rattle.nf_tasks.specs.Meaning.{Formula}
use Rattle.nf_tasks.specs.Memory.{Program, formula_of, process_of}
use Rattle.nf_tasks.specs.declared.process.ProcessSpec.{ProcessSpec}
use Rattle.nf_tasks.specs.declared.process.TaskScript.{TaskScript}
use Rattle.nf_meaning.specs.declared.fault.LowerFault.TheVariants.{BadOption}
use Rattle.nf_meaning.specs.Lowered.{Lowered}
use Rattle.nf_meaning.specs.Places.{begins_at}
use Rattle.nf_meaning.specs.Directives.{Inside, formula}
use Rattle.nf_meaning.specs.Processes.{process_with, script_part}
use Rattle.nf_meaning.specs.Tasks.{CalledProcess}

-- the definition of a process whose expressions see this, as a call of this path has it
abbrev pub process_in : Inside → List ℕ → Tree → Lowered CalledProcess
process_in x path (tree.process p n ds ins os task stub) = process_with x path ds ins os task
process_in x path e = Err (BadOption (begins_at e))

-- it means the same, and its outputs have the same names
pub record IsCalled (n : Program) (s : ProcessSpec) (c : CalledProcess) : Type 0 where
  pub process : process_of n s ≡ c.process
  pub labels : map (λ o. o.emit) s.outputs.items ≡ c.labels

abbrev pub script_of : Inside → Tree → Lowered Formula
script_of x task = formula x (script_part task).place (script_part task).body

pub record IsScript (n : Program) (task : Tree) (s : TaskScript) (f : Formula) : Type 0 where
  pub place : s.place ≡ (script_part task).place
  pub body : formula_of n s.body ≡ f
