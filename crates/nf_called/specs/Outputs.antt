-- The outputs of a process in memory.
use Rattle.std.specs.Prelude.{◌≡◌, ℕ, List, map, length, Option, Some, None}
use Rattle.nf_ast.specs.declared.tops.Outputs.{Outputs}
use Rattle.nf_ast.specs.Tree as tree
use Rattle.nf_ast.specs.Tree.{Tree, cons}
use Rattle.nf_tasks.specs.Meaning.{Formula, PartMeaning, ShapeMeaning}
use Rattle.nf_tasks.specs.Memory.{Program, part_of, shape_of, output_of}
use Rattle.nf_tasks.specs.declared.process.Output.{Output}
use Rattle.nf_tasks.specs.declared.process.OutputPart.{OutputPart}
use Rattle.nf_tasks.specs.declared.process.OutputShape.{OutputShape}
use Rattle.nf_meaning.specs.Lowered.{Lowered, ◌>>=◌}
use Rattle.nf_meaning.specs.Places.{begins_at}
use Rattle.nf_meaning.specs.Directives.{Inside, expression, expression_wanted}
use Rattle.nf_meaning.specs.Processes.{NamedOutput, named_output, outputs_of, labels_of}

-- how many outputs a process has
abbrev pub output_count : Option Outputs → ℕ
output_count None = 0
output_count (Some section) = length section.outputs.items

-- an expression that is no closure
abbrev pub wanted_expression : Inside → Tree → Lowered Formula
wanted_expression x e = expression_wanted (begins_at e) e >>= expression x

-- an output, behind outputs of these names
abbrev pub output_in : Inside → List (List ℕ) → Tree → Lowered NamedOutput
output_in x before (tree.output v os) = named_output x before v os
output_in x before e = named_output x before e tree.empty

abbrev pub IsPartOf : Program → OutputPart → PartMeaning → Type 0
IsPartOf n x m = part_of n x ≡ m

abbrev pub ArePartsOf : Program → List OutputPart → List PartMeaning → Type 0
ArePartsOf n xs ms = map (part_of n) xs ≡ ms

abbrev pub IsShapeOf : Program → OutputShape → ShapeMeaning → Type 0
IsShapeOf n x m = shape_of n x ≡ m

pub record IsOutput (n : Program) (o : Output) (m : NamedOutput) : Type 0 where
  pub label : o.emit ≡ m.label
  pub output : output_of n o ≡ m.output

pub record AreOutputs (n : Program) (os : List Output) (ms : List NamedOutput) : Type 0 where
  pub labels : map (λ o. o.emit) os ≡ labels_of ms
  pub outputs : map (output_of n) os ≡ outputs_of ms
