use Rattle.std.proofs.Common.{◌≡◌, ◌∷◌, map, ap, sym, rules}
use Rattle.nf_ast.specs.declared.expr.Postfix.{the_lemmas}
use Rattle.nf_ast.specs.Tree as tree
use Rattle.nf_ast.specs.Tree.{Tree}
use Rattle.nf_ast.specs.View.{view, view_postfix, view_closure, view_arg, trees}
use Rattle.nf_eval.specs.Chains.{closure_next}
use Rattle.nf_eval.proofs.shapes.is_with.Goals as goal

pub returns-in-With : goal.returns-in-With
returns-in-With c more after =
    let is : view_postfix c.args.next.now ≡ tree.call_with tree.empty (view_closure c.in-With.field-0) = search (rules, the_lemmas) in
    ap (λ (v : Tree). closure_next (v ∷ more) after) (sym is)

pub returns-in-Property : goal.returns-in-Property
returns-in-Property c more after =
    let is : view_postfix c.args.next.now ≡ tree.property tree.empty (tree.name c.in-Property.field-0 c.in-Property.field-1) = search (rules, the_lemmas) in
    ap (λ (v : Tree). closure_next (v ∷ more) after) (sym is)

pub returns-in-SafeProperty : goal.returns-in-SafeProperty
returns-in-SafeProperty c more after =
    let is : view_postfix c.args.next.now ≡ tree.safe_property tree.empty (tree.name c.in-SafeProperty.field-0 c.in-SafeProperty.field-1) = search (rules, the_lemmas) in
    ap (λ (v : Tree). closure_next (v ∷ more) after) (sym is)

pub returns-in-Index : goal.returns-in-Index
returns-in-Index c more after =
    let is : view_postfix c.args.next.now ≡ tree.index c.in-Index.field-0 tree.empty (view c.in-Index.field-1) = search (rules, the_lemmas) in
    ap (λ (v : Tree). closure_next (v ∷ more) after) (sym is)

pub returns-in-Call : goal.returns-in-Call
returns-in-Call c more after =
    let is : view_postfix c.args.next.now ≡ tree.call c.in-Call.field-0 tree.empty (trees (map view_arg c.in-Call.field-1.items)) = search (rules, the_lemmas) in
    ap (λ (v : Tree). closure_next (v ∷ more) after) (sym is)
