use Rattle.std.proofs.Common.{◌≡◌, ◌∙◌, ◌++◌, [], true, false, ap, append-nil, sym, rules}
use Rattle.std.specs.Prelude.{Some, is_some}
use Rattle.nf_ast.specs.declared.expr.Arg.{the_lemmas}
use Rattle.nf_ast.specs.View.{view, view_arg, with_name}
use Rattle.nf_meaning.specs.Directives.{folder_in}
use Rattle.nf_called.specs.Publishing.{and_folder, folder_list}
use Rattle.nf_called.proofs.ByName.{plain_arg}
use Rattle.nf_called.proofs.Folders.{alone_folder, named_none}
use Rattle.nf_called.proofs.publishing.and_folder.Goals as goal

pub returns-then-is_some : goal.returns-then-is_some
returns-then-is_some c =
    let a = c.args.arg.now in
    let seen : view_arg a ≡ with_name a.name (view a.value) = search (rules, the_lemmas) in
    let named : is_some a.name ≡ true = search rules in
    let old = folder_list c.args.before in
    sym (ap (λ t. old ++ and_folder t []) seen ∙ ap (λ l. old ++ l) (named_none a.name (view a.value) [] named) ∙ append-nil old)

pub returns-in-None : goal.returns-in-None
returns-in-None c =
    let a = c.args.arg.now in
    let seen : view_arg a ≡ with_name a.name (view a.value) = search (rules, the_lemmas) in
    let plain : is_some a.name ≡ false = search rules in
    sym (ap (λ o. folder_list o ++ and_folder (view_arg a) []) c.in-None.is ∙ ap (λ t. and_folder t []) (seen ∙ plain_arg a.name (view a.value) plain) ∙ alone_folder (view a.value) [] c.stands_alone.ensures)

pub returns-in-Some : goal.returns-in-Some
returns-in-Some c = λ later.
    let a = c.args.arg.now in
    let seen : view_arg a ≡ with_name a.name (view a.value) = search (rules, the_lemmas) in
    let plain : is_some a.name ≡ false = search rules in
    ap (λ o. folder_in c.args.place (folder_list o ++ and_folder (view_arg a) later)) c.in-Some.is
    ∙ ap (λ l. folder_in c.args.place (folder_list (Some c.in-Some.field-0) ++ l)) (ap (λ t. and_folder t later) (seen ∙ plain_arg a.name (view a.value) plain) ∙ alone_folder (view a.value) later c.stands_alone.ensures)
