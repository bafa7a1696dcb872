use Rattle.std.proofs.Common.{◌≡◌, Err, rules}
use Rattle.nf_called.proofs.Listed.{val_part, val_fault, path_part, path_fault}
use Rattle.nf_called.proofs.outputs.part_of.Goals as goal

pub returns-in_err-wanted-in-Val : goal.returns-in_err-wanted-in-Val
returns-in_err-wanted-in-Val g c =
    let x = g.F.Formulas.inside c.args.formulas.now in
    let e = c.in_err-wanted-in-Val.field-0.0 in
    let err : c.from_residual.result ≡ Err e = search rules in
    rw err (val_fault x c.args.part.now c.in-Val.field-0 c.in-Val.expr c.in-Val.is e c.in_err-wanted-in-Val.ensures)

pub returns-in_ok-wanted-in-Val : goal.returns-in_ok-wanted-in-Val
returns-in_ok-wanted-in-Val g c =
    let x = g.F.Formulas.inside c.args.formulas.now in
    let n = g.F.Formulas.program c.args.formulas.now in
    val_part x c.args.part.now c.in-Val.field-0 c.in-Val.expr n c.in-Val.is c.in_ok-wanted-in-Val.field-0 c.in_ok-wanted-in-Val.ensures

pub returns-in_err-wanted-in-Path : goal.returns-in_err-wanted-in-Path
returns-in_err-wanted-in-Path g c =
    let x = g.F.Formulas.inside c.args.formulas.now in
    let e = c.in_err-wanted-in-Path.field-0.0 in
    let err : c.from_residual-in_err-wanted-in-Path.result ≡ Err e = search rules in
    rw err (path_fault x c.args.part.now c.in-Path.field-0 c.in-Path.expr c.in-Path.is e c.in_err-wanted-in-Path.ensures)

pub returns-in_ok-wanted-in-Path : goal.returns-in_ok-wanted-in-Path
returns-in_ok-wanted-in-Path g c =
    let x = g.F.Formulas.inside c.args.formulas.now in
    let n = g.F.Formulas.program c.args.formulas.now in
    path_part x c.args.part.now c.in-Path.field-0 c.in-Path.expr n c.in-Path.is c.in_ok-wanted-in-Path.field-0 c.in_ok-wanted-in-Path.ensures
