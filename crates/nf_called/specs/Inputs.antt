-- The inputs of a process, one by one.
use Rattle.nf_ast.specs.Tree.{Tree}
use Rattle.nf_tasks.specs.declared.inputs.Input.{Input}
use Rattle.nf_meaning.specs.Places.{begins_at}
use Rattle.nf_meaning.specs.Processes.{input_shape}

-- an input with the place of its first word
abbrev pub input_of : Tree → Input
input_of e = record { place = begins_at e; shape = input_shape e }
