use Rattle.std.proofs.Common.{◌∙◌, List, ap, map, sym, subst}
use Rattle.std.proofs.lemmas.Result.{on_ok_weaker}
use Rattle.std.specs.Prelude.{ℕ, OnOk}
use Rattle.nf_ast.specs.Tops.{maybe, view_emits, view_workflow_body}
use Rattle.nf_ast.specs.View.{view_stmt, view_stmts}
use Rattle.nf_ast.specs.declared.expr.Stmt.{Stmt}
use Rattle.nf_ast.specs.declared.tops.WorkflowBody.{WorkflowBody}
use Rattle.nf_library.specs.Patterns.{emits_patterns, patterns_in, workflow_patterns}
use Rattle.nf_library.specs.Shelves.{Adds}
use Rattle.nf_library.proofs.Parted.{workflow_alone}
use Rattle.nf_library.proofs.Shelved.{adds_then}
use Rattle.nf_library.proofs.places.add_workflow.Goals as goal

pub returns-in-Statements : goal.returns-in-Statements
returns-in-Statements c =
    let P : List (List ℕ) → Type 0 = λ ss. OnOk c.add_stmts.result (Adds ss c.args.shelf.now c.add_stmts.new.shelf) in
    let stmts = c.in-Statements.stmts.items in
    subst P (ap (λ ss. patterns_in (view_stmts ss)) c.deref.ensures.value ∙ sym (ap (λ b. workflow_patterns (view_workflow_body b)) c.in-Statements.is ∙ workflow_alone (map view_stmt stmts)))
    c.add_stmts.ensures

pub returns-in_ok-add_stmts-in-Parts : goal.returns-in_ok-add_stmts-in-Parts
returns-in_ok-add_stmts-in-Parts c =
    let parts = c.in-Parts.parts in
    let P : List Stmt → Type 0 = λ ss. Adds (patterns_in (view_stmts ss)) c.args.shelf.now c.add_stmts-in-Parts.new.shelf in
    let Q : WorkflowBody → Type 0 = λ b. OnOk c.add_emits.result (Adds (workflow_patterns (view_workflow_body b)) c.args.shelf.now c.add_emits.new.shelf) in
    subst Q (sym c.in-Parts.is)
    (on_ok_weaker c.add_emits.result
    (adds_then (patterns_in (view_stmts parts.main.body.items)) (emits_patterns (maybe view_emits parts.emit)) c.args.shelf.now c.add_stmts-in-Parts.new.shelf c.add_emits.new.shelf
    (subst P c.deref-in-Parts.ensures.value c.in_ok-add_stmts-in-Parts.ensures)) c.add_emits.ensures)
