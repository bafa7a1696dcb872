-- What a name is where it is called.
use Rattle.nf_ast.specs.Tops.{view_process, view_workflow}
use Rattle.nf_meaning.specs.Names.{Called, a_process, a_workflow, a_function, a_file, an_operator, unknown}
use Rattle.nf_callees.specs.declared.callee.Callee.{Callee}
use Rattle.nf_callees.specs.declared.callee.Callee.TheVariants as callee

abbrev pub called_of : Callee → Called
called_of (callee.Process p) = a_process (view_process p.now)
called_of (callee.Workflow w) = a_workflow (view_workflow w.now)
called_of callee.Function = a_function
called_of callee.File = a_file
called_of (callee.Operator r) = an_operator r
called_of callee.Unknown = unknown
