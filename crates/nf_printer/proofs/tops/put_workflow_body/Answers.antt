use Rattle.std.proofs.Common.{◌≡◌, ◌++◌, map, false, ap, ◌∙◌, sym, rules}
use Rattle.std.specs.Prelude.{OnOk}
use Rattle.std.proofs.lemmas.Result.{on_ok_weaker}
use Rattle.nf_ast.specs.View.{view_stmt, trees}
use Rattle.nf_ast.specs.Tops.{view_workflow_body}
use Rattle.nf_writer.specs.Ink.{inked}
use Rattle.nf_printer.specs.Bodies.{first_before}
use Rattle.nf_printer.specs.Exprs.{parts}
use Rattle.nf_printer.specs.Tops.{workflow_parts}
use Rattle.nf_writer.specs.Styles.{layout_of}
use Rattle.nf_printer.proofs.Bodies.{workflow_statements}
use Rattle.nf_printer.proofs.tops.put_workflow_body.Goals as goal

pub returns-in-Statements : goal.returns-in-Statements
returns-in-Statements c =
    let o = c.args.out.now in
    let l = layout_of c.args.margin.now in
    let xs = map view_stmt c.in-Statements.stmts.items in
    let is : view_workflow_body c.args.body.now ≡ trees xs = search rules in
    let put : OnOk c.put_stmts.result (c.put_stmts.new.out ≡ o ++ inked (parts (trees xs) l (first_before false l))) = search rules in
    on_ok_weaker c.put_stmts.result (λ p. p ∙ ap (λ k. o ++ inked (parts (trees xs) k (first_before false k))) c.requires ∙ ap (λ v. o ++ inked v) (sym (ap workflow_parts is ∙ workflow_statements xs))) put
