use Rattle.std.proofs.Common.{◌≡◌, ◌+◌, ◌∙◌, Err, ap, map, refl, subst, sym, rules}
use Rattle.nf_ast.specs.View.{trees, view_arg}
use Rattle.nf_meaning.specs.Directives.{folder_in, folders, with_arg, with_args}
use Rattle.nf_lowered.proofs.Joining.{fault_on}
use Rattle.nf_called.specs.Publishing.{IsOneOf, Lacks, and_folder}
use Rattle.nf_called.proofs.Folders.{args_step, first_publish, folder_there, folders_step, publish_fault, publish_given}
use Rattle.nf_called.proofs.Turns.{next, rest, state_end, state_fault, state_turn}
use Rattle.nf_called.proofs.publishing.publish.Goals as goal

pub returns-in_err-check_folder : goal.returns-in_err-check_folder
returns-in_err-check_folder g c =
    let x = g.F.Formulas.inside c.args.formulas.now in
    let p = c.args.place in
    let xs = trees (map view_arg c.args.args.now) in
    let e = c.in_err-check_folder.field-0.0 in
    let err : c.from_residual.result ≡ Err e = search rules in
    rw err (fault_on (folder_in p (folders xs)) (λ t. with_args x xs (first_publish x p t)) e c.in_err-check_folder.ensures)

pub loop-arg-init : goal.loop-arg-init
loop-arg-init g c =
    let x = g.F.Formulas.inside c.args.formulas.now in
    let v = c.in_ok-check_folder.ensures in
    (v.value, first_publish x c.args.place v.value, v.fits, record { place = refl; folder = tt; pattern = refl }, subst IsOneOf (sym v.fits) tt, refl)

pub returns-in_err-add : goal.returns-in_err-add
returns-in_err-add g c =
    let x = g.F.Formulas.inside c.args.formulas.now in
    let p = c.args.place in
    let xs = trees (map view_arg c.args.args.now) in
    let v = c.in_ok-check_folder.ensures in
    let inv = c.loop-arg.invariant in
    let e = c.in_err-add.field-0.0 in
    let err : c.from_residual-in_err-add.result ≡ Err e = search rules in
    rw err (publish_fault x p xs v.value inv.0 v.is v.fits inv.2 e
    (state_fault view_arg (with_args x) (with_arg x) (args_step x) c.args.args.now c.loop-arg.arg-index c.arg-item.result inv.1 _ e c.loop-arg-test.true c.arg-item.is inv.5 (c.in_err-add.ensures.meant inv.1 inv.3)))

pub loop-arg-preserved : goal.loop-arg-preserved
loop-arg-preserved g c =
    let x = g.F.Formulas.inside c.args.formulas.now in
    let inv = c.loop-arg.invariant in
    let v = c.in_ok-add.ensures.meant inv.1 inv.3 in
    let more = rest view_arg c.args.args.now (c.loop-arg.arg-index + 1) in
    let now : folders (rest view_arg c.args.args.now c.loop-arg.arg-index) ≡ and_folder (view_arg c.arg-item.result) (folders more) =
    ap folders (next view_arg c.args.args.now c.loop-arg.arg-index c.arg-item.result c.loop-arg-test.true c.arg-item.is) ∙ folders_step (view_arg c.arg-item.result) more in (
      inv.0,
      v.value,
      inv.2,
      v.fits,
      c.in_ok-add.ensures.folder (folders more) (subst (Lacks c.loop-arg.so_far.folder) now inv.4),
      state_turn view_arg (with_args x) (with_arg x) (args_step x) c.args.args.now c.loop-arg.arg-index c.arg-item.result inv.1 v.value _ c.loop-arg-test.true c.arg-item.is v.is inv.5,
    )

pub unwrap-folder-requires : goal.unwrap-folder-requires
unwrap-folder-requires g c = folder_there c.loop-arg.so_far.folder c.args.args.now c.loop-arg.arg-index c.loop-arg-test.false c.loop-arg.invariant.4

pub returns : goal.returns
returns g c =
    let x = g.F.Formulas.inside c.args.formulas.now in
    let n = g.F.Formulas.program c.args.formulas.now in
    let p = c.args.place in
    let xs = trees (map view_arg c.args.args.now) in
    let v = c.in_ok-check_folder.ensures in
    let inv = c.loop-arg.invariant in
    publish_given x p xs v.value inv.0 v.is v.fits inv.2 n c.loop-arg.so_far c.unwrap-folder.result inv.1 _ inv.3 c.unwrap-folder.ensures
    (state_end view_arg (with_args x) (λ s. refl) c.args.args.now c.loop-arg.arg-index inv.1 _ c.loop-arg-test.false inv.5) refl refl refl
