use Rattle.std.proofs.Common.{◌≡◌, ◌∙◌, ◌∷◌, [], Err, ap, map, sym, rules}
use Rattle.nf_ast.specs.View.{trees, view, view_arg}
use Rattle.nf_meaning.specs.Directives.{expression_wanted, folder_in, folders}
use Rattle.nf_lowered.proofs.Joining.{fault_is}
use Rattle.nf_called.specs.Leaves.{IsIt}
use Rattle.nf_called.specs.Publishing.{IsOnly, folder_list}
use Rattle.nf_called.proofs.Folders.{folder_end, folder_fault, folder_turn}
use Rattle.nf_called.proofs.Steps.{gives_as, gives_map}
use Rattle.nf_called.proofs.publishing.check_folder.Goals as goal

pub returns-in_err-folder : goal.returns-in_err-folder
returns-in_err-folder c =
    let e = c.in_err-folder.field-0.0 in
    let err : c.from_residual.result ≡ Err e = search rules in
    rw err (fault_is _ e (folder_fault c.args.place c.args.args.now c.loop-arg.arg-index c.arg-item.result (folder_list c.loop-arg.folder) _ e c.loop-arg-test.true c.arg-item.is c.in_err-folder.ensures c.loop-arg.invariant))

pub loop-arg-preserved : goal.loop-arg-preserved
loop-arg-preserved c =
    folder_turn c.args.args.now c.loop-arg.arg-index c.arg-item.result (folder_list c.loop-arg.folder) (folder_list c.in_ok-folder.folder) _ c.loop-arg-test.true c.arg-item.is c.in_ok-folder.ensures c.loop-arg.invariant

pub returns-in-Some : goal.returns-in-Some
returns-in-Some c =
    let xs = trees (map view_arg c.args.args.now) in
    let t = view c.in-Some.folder.now in
    let one : folders xs ≡ t ∷ [] = folder_end c.args.args.now c.loop-arg.arg-index (folder_list c.loop-arg.folder) (folders xs) c.loop-arg-test.false c.loop-arg.invariant ∙ ap folder_list c.in-Some.is in
    gives_as (IsOnly xs) (folder_in c.args.place (folders xs)) (expression_wanted c.args.place t) c.check_expression.result (ap (folder_in c.args.place) one)
    (gives_map (IsIt t) (IsOnly xs) _ c.check_expression.result (λ u e is. one ∙ ap (λ y. y ∷ []) (sym is)) c.check_expression.ensures)

pub returns-in-None : goal.returns-in-None
returns-in-None c =
    let xs = trees (map view_arg c.args.args.now) in
    let none : folders xs ≡ [] = folder_end c.args.args.now c.loop-arg.arg-index (folder_list c.loop-arg.folder) (folders xs) c.loop-arg-test.false c.loop-arg.invariant ∙ ap folder_list c.in-None.is in
    ap (folder_in c.args.place) none
