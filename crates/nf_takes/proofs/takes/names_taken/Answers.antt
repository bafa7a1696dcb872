use Rattle.std.proofs.Common.{◌≡◌, ◌∙◌, Some, map, ap, sym, rules}
use Rattle.nf_ast.specs.View.{name_tree, view_stmt}
use Rattle.nf_ast.specs.Tops.{view_workflow_body}
use Rattle.nf_ast.specs.declared.tops.WorkflowBody.{WorkflowBody}
use Rattle.nf_meaning.specs.Script.{take_in}
use Rattle.nf_takes.proofs.Taken.{none_taken, taken_some}
use Rattle.nf_takes.proofs.takes.names_taken.Goals as goal

pub returns-in-Statements : goal.returns-in-Statements
returns-in-Statements c =
    none_taken (map view_stmt c.in-Statements.field-0.items) ∙ ap (λ (b : WorkflowBody). take_in (view_workflow_body b)) (sym c.in-Statements.is)

pub returns-in-Some : goal.returns-in-Some
returns-in-Some c =
    let p = c.in-Parts.parts in
    let t = c.in-Some.take in
    let is : p.take ≡ Some t = search rules in
    ap (map name_tree) (search rules) ∙ taken_some p t is ∙ ap (λ (b : WorkflowBody). take_in (view_workflow_body b)) (sym c.in-Parts.is)
