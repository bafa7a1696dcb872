use Rattle.std.proofs.Common.{◌≡◌, ◌∙◌, List, [], ◌∷◌, ◌++◌, Err, ap, arith, length, length-append, subst, sym, rules}
use Rattle.nf_ast.specs.Tops.{view_output}
use Rattle.nf_tasks.specs.declared.process.Output.{Output}
use Rattle.nf_meaning.specs.Processes.{outputs_in}
use Rattle.nf_lowered.specs.Given.{HasFault, HasValue}
use Rattle.nf_called.specs.Options.{labels_of}
use Rattle.nf_called.specs.Outputs.{AreOutputs, IsOutput, output_in}
use Rattle.nf_called.proofs.Listed.{output_end, output_fault, output_pushed, outputs_more}
use Rattle.nf_called.proofs.Turns.{behind, behind_none, rest}
use Rattle.nf_called.proofs.outputs.all_outputs.Goals as goal

pub loop-output-init : goal.loop-output-init
loop-output-init g c =
    let x = g.F.Formulas.inside c.args.formulas.now in
    let xs = c.args.outputs.now in
    let none : c.new-list.result.items ≡ [] = search rules in (
      [],
      record { labels = search rules; outputs = search rules },
      ap (λ (os : List Output). behind [] (outputs_in x (labels_of os) (rest view_output xs 0))) none ∙ behind_none (outputs_in x [] (rest view_output xs 0)),
      search rules,
    )

pub returns-in_err-output-clause-means : goal.returns-in_err-output-clause-means
returns-in_err-output-clause-means g c =
    let x = g.F.Formulas.inside c.args.formulas.now in
    let n = g.F.Formulas.program c.args.formulas.now in
    let inv = c.loop-output.invariant in
    let e = c.in_err-output.field-0.0 in
    let err : c.from_residual.result ≡ Err e = search rules in
    let fault : HasFault (output_in x (labels_of c.loop-output.list.items) (view_output c.output-item.result)) e = search rules in
    rw err (output_fault n x c.args.outputs.now c.loop-output.output-index c.output-item.result c.loop-output-test.true c.output-item.is c.loop-output.list.items inv.0 _ e inv.2 fault)

pub loop-output-preserved : goal.loop-output-preserved
loop-output-preserved g c =
    let x = g.F.Formulas.inside c.args.formulas.now in
    let n = g.F.Formulas.program c.args.formulas.now in
    let inv = c.loop-output.invariant in
    let o = c.in_ok-output.output in
    let v : HasValue (output_in x (labels_of c.loop-output.list.items) (view_output c.output-item.result)) (IsOutput n o) = search rules in
    let pushed : c.push.new.self.items ≡ c.loop-output.list.items ++ o ∷ [] = search rules in (
      inv.0 ++ v.value ∷ [],
      subst (λ os. AreOutputs n os (inv.0 ++ v.value ∷ [])) (sym pushed) (outputs_more n c.loop-output.list.items o inv.0 v.value inv.1 v.fits),
      output_pushed n x c.args.outputs.now c.loop-output.output-index c.output-item.result c.loop-output-test.true c.output-item.is c.loop-output.list.items o _ inv.0 v.value _ v.fits v.is pushed inv.2,
      omega (arith, simp length-append at (ap length pushed), inv.3),
    )

pub returns-clause-means : goal.returns-clause-means
returns-clause-means g c =
    let x = g.F.Formulas.inside c.args.formulas.now in
    let inv = c.loop-output.invariant in
    record {
      value = inv.0;
      is = output_end x c.args.outputs.now c.loop-output.output-index c.loop-output.list.items inv.0 _ c.loop-output-test.false inv.2;
      fits = inv.1;
    }
