use Rattle.std.proofs.Common.{◌≡◌, Err, map, subst, rules}
use Rattle.nf_ast.specs.Tops.{view_output_part}
use Rattle.nf_ast.specs.View.{trees}
use Rattle.nf_meaning.specs.Processes.{output_parts}
use Rattle.nf_lowered.specs.Given.{HasFault, HasValue}
use Rattle.nf_called.specs.Outputs.{ArePartsOf}
use Rattle.nf_called.proofs.Listed.{one_fault, one_given, tuple_fault, tuple_given}
use Rattle.nf_called.proofs.outputs.shape_of.Goals as goal

pub returns-in_err-part_of-in-One : goal.returns-in_err-part_of-in-One
returns-in_err-part_of-in-One g c =
    let x = g.F.Formulas.inside c.args.formulas.now in
    let e = c.in_err-part_of-in-One.field-0.0 in
    let err : c.from_residual.result ≡ Err e = search rules in
    rw err (one_fault x c.args.value.now c.in-One.part c.in-One.is e c.in_err-part_of-in-One.ensures)

pub returns-in_ok-part_of-in-One : goal.returns-in_ok-part_of-in-One
returns-in_ok-part_of-in-One g c =
    let x = g.F.Formulas.inside c.args.formulas.now in
    let n = g.F.Formulas.program c.args.formulas.now in
    one_given x c.args.value.now n c.in-One.part c.in-One.is c.in_ok-part_of-in-One.field-0 c.in_ok-part_of-in-One.ensures

pub returns-in_err-parts_of-in-Tuple : goal.returns-in_err-parts_of-in-Tuple
returns-in_err-parts_of-in-Tuple g c =
    let x = g.F.Formulas.inside c.args.formulas.now in
    let e = c.in_err-parts_of-in-Tuple.field-0.0 in
    let err : c.from_residual-in_err-parts_of-in-Tuple.result ≡ Err e = search rules in
    rw err (tuple_fault x c.args.value.now c.in-Tuple.field-0 c.in-Tuple.parts c.in-Tuple.is e
    (subst (λ l. HasFault (output_parts x (trees (map view_output_part l))) e) c.deref.ensures.value c.in_err-parts_of-in-Tuple.ensures))

pub returns-in_ok-parts_of-in-Tuple : goal.returns-in_ok-parts_of-in-Tuple
returns-in_ok-parts_of-in-Tuple g c =
    let x = g.F.Formulas.inside c.args.formulas.now in
    let n = g.F.Formulas.program c.args.formulas.now in
    let ys = c.in_ok-parts_of-in-Tuple.field-0 in
    tuple_given x c.args.value.now n c.in-Tuple.field-0 c.in-Tuple.parts c.in-Tuple.is ys
    (subst (λ l. HasValue (output_parts x (trees (map view_output_part l))) (ArePartsOf n ys.items)) c.deref.ensures.value c.in_ok-parts_of-in-Tuple.ensures)
