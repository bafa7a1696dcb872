use Rattle.std.proofs.Common.{◌≡◌, Err, refl, subst, rules}
use Rattle.nf_ast.specs.View.{view_stmts}
use Rattle.nf_meaning.specs.Directives.{formula}
use Rattle.nf_lowered.specs.Given.{HasFault, HasValue}
use Rattle.nf_called.specs.Formulas.{IsFormula}
use Rattle.nf_called.proofs.Whole.{section_fault, section_given, text_fault, text_given}
use Rattle.nf_called.proofs.process.script_of.Goals as goal

pub returns-in_err-statements-in-Script : goal.returns-in_err-statements-in-Script
returns-in_err-statements-in-Script g c =
    let x = g.F.Formulas.inside c.args.formulas.now in
    let s = c.in-Script.section in
    let e = c.in_err-statements-in-Script.field-0.0 in
    let err : c.from_residual.result ≡ Err e = search rules in
    rw err (section_fault x c.args.task.now s c.in-Script.is e (subst (λ l. HasFault (formula x s.place (view_stmts l)) e) c.deref.ensures.value c.in_err-statements-in-Script.ensures))

pub returns-in_ok-statements-in-Script : goal.returns-in_ok-statements-in-Script
returns-in_ok-statements-in-Script g c =
    let x = g.F.Formulas.inside c.args.formulas.now in
    let n = g.F.Formulas.program c.args.formulas.now in
    let s = c.in-Script.section in
    let body = c.in_ok-statements-in-Script.field-0 in
    section_given x c.args.task.now n s c.in-Script.is _ refl (subst (λ l. HasValue (formula x s.place (view_stmts l)) (IsFormula n body)) c.deref.ensures.value c.in_ok-statements-in-Script.ensures)

pub returns-in_err-expression-in-Text : goal.returns-in_err-expression-in-Text
returns-in_err-expression-in-Text g c =
    let x = g.F.Formulas.inside c.args.formulas.now in
    let e = c.in_err-expression-in-Text.field-0.0 in
    let err : c.from_residual-in_err-expression-in-Text.result ≡ Err e = search rules in
    rw err (text_fault x c.args.task.now c.in-Text.expr c.in-Text.is c.stands_alone.ensures e c.in_err-expression-in-Text.ensures)

pub returns-in_ok-expression-in-Text : goal.returns-in_ok-expression-in-Text
returns-in_ok-expression-in-Text g c =
    let x = g.F.Formulas.inside c.args.formulas.now in
    let n = g.F.Formulas.program c.args.formulas.now in
    text_given x c.args.task.now n c.in-Text.expr c.in-Text.is c.stands_alone.ensures _ c.begins_at.ensures c.in_ok-expression-in-Text.ensures
