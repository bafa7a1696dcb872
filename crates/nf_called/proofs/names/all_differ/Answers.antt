use Rattle.std.proofs.Common.{◌≡◌, ◌∙◌, [], Err, ap, map, refl, rules}
use Rattle.nf_ast.specs.Tops.{view_input}
use Rattle.nf_ast.specs.View.{trees}
use Rattle.nf_meaning.specs.Lowered.{◌>>=◌}
use Rattle.nf_lowered.proofs.Joining.{fault_on}
use Rattle.nf_called.specs.Names.{names_named}
use Rattle.nf_called.proofs.Once.{twice_is}
use Rattle.nf_called.proofs.Steps.{fault_as, nothing}
use Rattle.nf_called.proofs.Turns.{state_turn, state_fault, state_end}
use Rattle.nf_called.proofs.names.all_differ.Goals as goal

pub loop-input-init : goal.loop-input-init
loop-input-init c = ([], record { same = λ n. search rules }, refl)

pub returns-in_err-add_all : goal.returns-in_err-add_all
returns-in_err-add_all c =
    let xs = c.args.inputs.now in
    let t = trees (map view_input xs) in
    let inv = c.loop-input.invariant in
    let e = c.in_err-add_all.field-0.0 in
    let err : c.from_residual.result ≡ Err e = search rules in
    rw err (fault_as _ _ e (twice_is t) (fault_on (names_named t []) (λ ns. nothing) e
    (state_fault view_input names_named names_named (λ a more s. refl) xs c.loop-input.input-index c.input-item.result inv.0 (names_named t []) e c.loop-input-test.true c.input-item.is inv.2 (c.in_err-add_all.ensures inv.0 inv.1))))

pub loop-input-preserved : goal.loop-input-preserved
loop-input-preserved c =
    let inv = c.loop-input.invariant in
    let v = c.in_ok-add_all.ensures inv.0 inv.1 in
    (v.value, v.fits, state_turn view_input names_named names_named (λ a more s. refl) c.args.inputs.now c.loop-input.input-index c.input-item.result inv.0 v.value _ c.loop-input-test.true c.input-item.is v.is inv.2)

pub returns : goal.returns
returns c =
    let xs = c.args.inputs.now in
    let t = trees (map view_input xs) in
    let inv = c.loop-input.invariant in
    let whole = state_end view_input names_named (λ s. refl) xs c.loop-input.input-index inv.0 (names_named t []) c.loop-input-test.false inv.2 in
    record { value = tt; is = twice_is t ∙ ap (λ w. w >>= λ ns. nothing) whole; fits = tt }
