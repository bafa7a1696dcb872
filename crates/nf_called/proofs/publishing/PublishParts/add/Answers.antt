use Rattle.std.proofs.Common.{◌≡◌, Err, ap, subst, sym, rules}
use Rattle.std.specs.Prelude.{Some}
use Rattle.nf_ast.specs.declared.expr.Arg.{the_lemmas}
use Rattle.nf_ast.specs.Tree as tree
use Rattle.nf_ast.specs.View.{name_tree, view, view_arg}
use Rattle.nf_meaning.specs.Directives.{with_arg}
use Rattle.nf_called.specs.Publishing.{IsSoFar, Lacks, and_folder}
use Rattle.nf_called.proofs.Folders.{folder_given, folder_refused}
use Rattle.nf_called.proofs.Steps.{fault_as, gives_as, on_ok, value_as}
use Rattle.nf_called.proofs.publishing.PublishParts.add.Goals as goal

pub returns-in-Some-clause-meant : goal.returns-in-Some-clause-meant
returns-in-Some-clause-meant g c = λ m so.
    let x = g.F.Formulas.inside c.args.formulas.now in
    let n = g.F.Formulas.program c.args.formulas.now in
    let a = c.args.arg.now in
    let seen : view_arg a ≡ tree.named (name_tree (c.in-Some.place, c.in-Some.name)) (view a.value) = search (rules, the_lemmas) in
    gives_as (λ _ d. IsSoFar n c.add_option.new.self d) _ _ c.add_option.result (ap (λ t. with_arg x t m) seen) (c.add_option.ensures.meant m so)

pub returns-in-Some-clause-folder : goal.returns-in-Some-clause-folder
returns-in-Some-clause-folder g c =
    let a = c.args.arg.now in
    let seen : view_arg a ≡ tree.named (name_tree (c.in-Some.place, c.in-Some.name)) (view a.value) = search (rules, the_lemmas) in
    on_ok c.add_option.result _ (λ later lacks. subst (λ o. Lacks o later) (sym c.add_option.ensures.folder) (subst (λ t. Lacks c.args.self.now.folder (and_folder t later)) seen lacks))

pub returns-in_ok-expression-in-None-clause-folder : goal.returns-in_ok-expression-in-None-clause-folder
returns-in_ok-expression-in-None-clause-folder g c = λ later lacks. tt

pub returns-in_err-expression-in-None-clause-meant : goal.returns-in_err-expression-in-None-clause-meant
returns-in_err-expression-in-None-clause-meant g c = λ m so.
    let x = g.F.Formulas.inside c.args.formulas.now in
    let n = g.F.Formulas.program c.args.formulas.now in
    let a = c.args.arg.now in
    let seen : view_arg a ≡ view a.value = search (rules, the_lemmas) in
    let e = c.in_err-expression-in-None.field-0.0 in
    let err : c.from_residual.result ≡ Err e = search rules in
    rw err (fault_as _ _ e (ap (λ t. with_arg x t m) seen) (folder_refused n x m c.args.self.now so (view a.value) e c.stands_alone.ensures c.in_err-expression-in-None.ensures))

pub returns-in_ok-expression-in-None-clause-meant : goal.returns-in_ok-expression-in-None-clause-meant
returns-in_ok-expression-in-None-clause-meant g c = λ m so.
    let x = g.F.Formulas.inside c.args.formulas.now in
    let n = g.F.Formulas.program c.args.formulas.now in
    let a = c.args.arg.now in
    let f = c.in_ok-expression-in-None.field-0 in
    let seen : view_arg a ≡ view a.value = search (rules, the_lemmas) in
    value_as (IsSoFar n (record c.args.self.now { folder = Some f })) _ _ (ap (λ t. with_arg x t m) seen)
    (folder_given n x m c.args.self.now so (view a.value) f c.stands_alone.ensures c.in_ok-expression-in-None.ensures)
