use Rattle.std.proofs.Common.{◌≡◌, Err, map, rules, refl}
use Rattle.nf_ast.specs.Tops.{view_output_value}
use Rattle.nf_ast.specs.View.{trees, view_label}
use Rattle.nf_called.specs.Options.{labels_of}
use Rattle.nf_called.proofs.Listed.{output_given, shape_fault, options_fault}
use Rattle.nf_tasks.specs.declared.process.Output.{Output}
use Rattle.nf_called.proofs.outputs.output_in.Goals as goal

pub returns-in_err-shape : goal.returns-in_err-shape
returns-in_err-shape g c =
    let x = g.F.Formulas.inside c.args.formulas.now in
    let e = c.in_err-shape.field-0.0 in
    let err : c.from_residual.result ≡ Err e = search rules in
    rw err (shape_fault x (labels_of c.args.before.now) (view_output_value c.args.output.now.value) (trees (map view_label c.args.output.now.options.items)) e c.in_err-shape.ensures)

pub returns-in_err-options : goal.returns-in_err-options
returns-in_err-options g c =
    let x = g.F.Formulas.inside c.args.formulas.now in
    let n = g.F.Formulas.program c.args.formulas.now in
    let e = c.in_err-options.field-0.0 in
    let err : c.from_residual-in_err-options.result ≡ Err e = search rules in
    rw err (options_fault x (labels_of c.args.before.now) (view_output_value c.args.output.now.value) (trees (map view_label c.args.output.now.options.items)) n c.in_ok-shape.shape e c.in_ok-shape.ensures (search rules))

pub returns : goal.returns
returns g c =
    let x = g.F.Formulas.inside c.args.formulas.now in
    let n = g.F.Formulas.program c.args.formulas.now in
    let made : Output = record { place = c.value_place.result; emit = c.in_ok-options.options.label; optional = c.in_ok-options.options.optional; shape = c.in_ok-shape.shape } in
    output_given x (labels_of c.args.before.now) (view_output_value c.args.output.now.value) (trees (map view_label c.args.output.now.options.items)) n c.in_ok-shape.shape c.in_ok-options.options made
    c.in_ok-shape.ensures (search rules) refl refl c.value_place.ensures refl
