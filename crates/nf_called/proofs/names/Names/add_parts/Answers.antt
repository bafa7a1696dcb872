use Rattle.std.proofs.Common.{◌≡◌, Err, refl, rules}
use Rattle.nf_ast.specs.Tops.{view_input_part}
use Rattle.nf_called.specs.Names.{names_named}
use Rattle.nf_called.proofs.Turns.{state_turn, state_fault, state_end}
use Rattle.nf_called.proofs.names.Names.add_parts.Goals as goal

pub loop-part-init : goal.loop-part-init
loop-part-init c = λ first knows. (first, knows, refl)

pub returns-in_err-add_part : goal.returns-in_err-add_part
returns-in_err-add_part c = λ first knows.
    let inv = c.loop-part.invariant first knows in
    let e = c.in_err-add_part.field-0.0 in
    let err : c.from_residual.result ≡ Err e = search rules in
    rw err (state_fault view_input_part names_named names_named (λ a more s. refl) c.args.parts.now c.loop-part.part-index c.part-item.result inv.0 _ e c.loop-part-test.true c.part-item.is inv.2 (c.in_err-add_part.ensures inv.0 inv.1))

pub loop-part-preserved : goal.loop-part-preserved
loop-part-preserved c = λ first knows.
    let inv = c.loop-part.invariant first knows in
    let v = c.in_ok-add_part.ensures inv.0 inv.1 in
    (v.value, v.fits, state_turn view_input_part names_named names_named (λ a more s. refl) c.args.parts.now c.loop-part.part-index c.part-item.result inv.0 v.value _ c.loop-part-test.true c.part-item.is v.is inv.2)

pub returns : goal.returns
returns c = λ first knows.
    let inv = c.loop-part.invariant first knows in
    record {
      value = inv.0;
      is = state_end view_input_part names_named (λ s. refl) c.args.parts.now c.loop-part.part-index inv.0 _ c.loop-part-test.false inv.2;
      fits = inv.1;
    }
