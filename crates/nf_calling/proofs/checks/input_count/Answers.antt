use Rattle.std.proofs.Common.{◌≡◌, ◌∙◌, Option, length, sym, ap, arith}
use Rattle.nf_ast.specs.Tops.{maybe, view_inputs}
use Rattle.nf_ast.specs.declared.tops.Inputs.{Inputs}
use Rattle.nf_meaning.specs.Processes.{inputs_in}
use Rattle.nf_calling.proofs.Counts.{inputs_count}
use Rattle.nf_calling.proofs.checks.input_count.Goals as goal

pub returns-in-Some : goal.returns-in-Some
returns-in-Some c =
    let xs = c.in-Some.section.inputs in
    let e : length (inputs_in (maybe view_inputs c.args.process.now.inputs)) ≡ length xs.items =
    ap (λ (o : Option Inputs). length (inputs_in (maybe view_inputs o))) c.in-Some.is ∙ inputs_count xs.items in
    omega (arith, e, c.len.ensures, xs.ok.0)

pub returns-in-None : goal.returns-in-None
returns-in-None c = sym (ap (λ (o : Option Inputs). length (inputs_in (maybe view_inputs o))) c.in-None.is)
