-- The tree of what stands at the top of a script.
use Rattle.std.specs.Prelude.{Option, Some, None, map}
use Rattle.nf_ast.specs.declared.tops.Script.{Script}
use Rattle.nf_ast.specs.declared.tops.Top.{Top}
use Rattle.nf_ast.specs.declared.tops.Top.TheVariants as top
use Rattle.nf_ast.specs.declared.tops.Process.{Process}
use Rattle.nf_ast.specs.declared.tops.Directive.{Directive}
use Rattle.nf_ast.specs.declared.tops.Inputs.{Inputs}
use Rattle.nf_ast.specs.declared.tops.Input.{Input}
use Rattle.nf_ast.specs.declared.tops.Input.TheVariants as input
use Rattle.nf_ast.specs.declared.tops.InputPart.{InputPart}
use Rattle.nf_ast.specs.declared.tops.InputPart.TheVariants as input_part
use Rattle.nf_ast.specs.declared.tops.Outputs.{Outputs}
use Rattle.nf_ast.specs.declared.tops.Output.{Output}
use Rattle.nf_ast.specs.declared.tops.OutputValue.{OutputValue}
use Rattle.nf_ast.specs.declared.tops.OutputValue.TheVariants as output_value
use Rattle.nf_ast.specs.declared.tops.OutputPart.{OutputPart}
use Rattle.nf_ast.specs.declared.tops.OutputPart.TheVariants as output_part
use Rattle.nf_ast.specs.declared.tops.Task.{Task}
use Rattle.nf_ast.specs.declared.tops.Task.TheVariants as task
use Rattle.nf_ast.specs.declared.tops.Section.{Section}
use Rattle.nf_ast.specs.declared.tops.Workflow.{Workflow}
use Rattle.nf_ast.specs.declared.tops.WorkflowBody.{WorkflowBody}
use Rattle.nf_ast.specs.declared.tops.WorkflowBody.TheVariants as body
use Rattle.nf_ast.specs.declared.tops.Parts.{Parts}
use Rattle.nf_ast.specs.declared.tops.Take.{Take}
use Rattle.nf_ast.specs.declared.tops.Emits.{Emits}
use Rattle.nf_ast.specs.declared.tops.Emit.{Emit}
use Rattle.nf_ast.specs.declared.tops.Emit.TheVariants as emit
use Rattle.nf_ast.specs.declared.tops.Function.{Function}
use Rattle.nf_ast.specs.declared.tops.Parameter.{Parameter}
use Rattle.nf_ast.specs.Tree as tree
use Rattle.nf_ast.specs.Tree.{Tree, empty, name}
use Rattle.nf_ast.specs.View.{view, view_stmts, view_arg, view_label, trees, names, name_tree}

-- a part that may be absent
abbrev pub maybe : {X : Type 0} → (X → Tree) → Option X → Tree
maybe f None = empty
maybe f (Some x) = f x

abbrev pub view_directive : Directive → Tree
view_directive x = tree.directive (name x.place x.name) (trees (map view_arg x.args.items))

abbrev pub view_input_part : InputPart → Tree
view_input_part (input_part.Val p q n) = tree.val p (name q n)
view_input_part (input_part.Path p q n) = tree.path p (name q n)
view_input_part (input_part.Stdin p) = tree.stdin p

abbrev pub view_input : Input → Tree
view_input (input.One x) = view_input_part x
view_input (input.Tuple p xs) = tree.tuple p (trees (map view_input_part xs.items))

abbrev pub view_inputs : Inputs → Tree
view_inputs x = tree.section x.place (trees (map view_input x.inputs.items))

abbrev pub view_output_part : OutputPart → Tree
view_output_part (output_part.Val p e) = tree.val p (view e)
view_output_part (output_part.Path p e) = tree.path p (view e)
view_output_part (output_part.Stdout p) = tree.stdout p

abbrev pub view_output_value : OutputValue → Tree
view_output_value (output_value.One x) = view_output_part x
view_output_value (output_value.Tuple p xs) = tree.tuple p (trees (map view_output_part xs.items))

abbrev pub view_output : Output → Tree
view_output x = tree.output (view_output_value x.value) (trees (map view_label x.options.items))

abbrev pub view_outputs : Outputs → Tree
view_outputs x = tree.section x.place (trees (map view_output x.outputs.items))

abbrev pub view_section : Section → Tree
view_section x = tree.section x.place (view_stmts x.body.items)

abbrev pub view_task : Task → Tree
view_task (task.Script x) = view_section x
view_task (task.Text e) = view e

abbrev pub view_process : Process → Tree
view_process x = tree.process x.place (name x.name_place x.name) (trees (map view_directive x.directives.items)) (maybe view_inputs x.inputs) (maybe view_outputs x.outputs) (view_task x.task) (maybe view_section x.stub)

abbrev pub view_take : Take → Tree
view_take x = tree.section x.place (names x.names.items)

abbrev pub view_emit : Emit → Tree
view_emit (emit.Named p n e) = tree.assign (name p n) (view e)
view_emit (emit.Alone e) = view e

abbrev pub view_emits : Emits → Tree
view_emits x = tree.section x.place (trees (map view_emit x.emits.items))

abbrev pub view_parts : Parts → Tree
view_parts x = tree.parts (maybe view_take x.take) (view_section x.main) (maybe view_emits x.emit)

abbrev pub view_workflow_body : WorkflowBody → Tree
view_workflow_body (body.Statements xs) = view_stmts xs.items
view_workflow_body (body.Parts x) = view_parts x

abbrev pub view_workflow : Workflow → Tree
view_workflow x = tree.workflow x.place (maybe name_tree x.name) (view_workflow_body x.body)

abbrev pub view_function : Function → Tree
view_function x = tree.function x.place (name x.name_place x.name) (names x.params.items) (view_stmts x.body.items)

abbrev pub view_parameter : Parameter → Tree
view_parameter x = tree.parameter x.place (name x.name_place x.name) (view x.value)

abbrev pub view_top : Top → Tree
view_top (top.Process x) = view_process x
view_top (top.Workflow x) = view_workflow x
view_top (top.Function x) = view_function x
view_top (top.Parameter x) = view_parameter x
view_top (top.Println p e) = tree.println p (view e)
view_top (top.Log p q n e) = tree.log p (name q n) (view e)
view_top (top.Dsl p) = tree.dsl p

abbrev pub view_script : Script → Tree
view_script x = trees (map view_top x.tops.items)
