use Rattle.std.proofs.Common.{◌≡◌, ◌∙◌, [], arith, ap, map, rules, sym}
use Rattle.nf_ast.specs.declared.expr.Expr.{the_lemmas}
use Rattle.nf_ast.specs.Tree as tree
use Rattle.nf_ast.specs.View.{conditional, operands, postfix, prefixes, view, view_branch, view_operand, view_postfix}
use Rattle.nf_taken.specs.Shapes.{shape_in, view_shape}
use Rattle.nf_taken.proofs.Shaping.{last_shape, prefixed, with_parts, with_turns, without_operands, without_parts, without_turns}
use Rattle.nf_taken.proofs.shapes.+read_shape.Goals as goal

pub returns-in-len1-up : goal.returns-in-len1-up
returns-in-len1-up t c =
    let ops = c.as_slice.result.now in
    let e = view c.in-Prefix.of.value in
    let is : view c.args.expr.now ≡ prefixes c.in-Prefix.prefixes.items e = search (rules, the_lemmas) in
    prefixed (view c.args.expr.now) e ops (is ∙ ap (λ xs. prefixes xs e) (sym c.as_slice.ensures.value)) (omega (arith, c.in-len1-up.len_at_least))

pub returns-in-empty-as_slice : goal.returns-in-empty-as_slice
returns-in-empty-as_slice t c =
    let xs = c.as_slice-in-Infix.result.now in
    let e = view c.in-Infix.first.value in
    let is : view c.args.expr.now ≡ operands e (map view_operand c.in-Infix.rest.items) = search (rules, the_lemmas) in
    let same : c.deref-in-empty-as_slice.result.now ≡ c.in-Infix.first.value = search rules in
    without_operands (view c.args.expr.now) e xs (view_shape c.read_shape-in-empty-as_slice.result) (is ∙ ap (λ ys. operands e (map view_operand ys)) (sym c.as_slice-in-Infix.ensures.value))
    (omega (arith, c.in-empty-as_slice.len_below)) (c.read_shape-in-empty-as_slice.ensures ∙ ap (λ x. shape_in (view x)) same)

pub returns-in-len1-up-as_slice : goal.returns-in-len1-up-as_slice
returns-in-len1-up-as_slice t c =
    let xs = c.as_slice-in-Infix.result.now in
    let a = view c.in-Infix.first.value in
    let x = c.last-item.result in
    let is : view c.args.expr.now ≡ operands a (map view_operand c.in-Infix.rest.items) = search (rules, the_lemmas) in
    let one : view_operand x ≡ tree.binary x.place x.operator tree.empty (view x.expr) = search (rules, the_lemmas) in
    c.sign_shape.ensures
    ∙ last_shape (view c.args.expr.now) a xs x (view x.expr) (is ∙ ap (λ ys. operands a (map view_operand ys)) (sym c.as_slice-in-Infix.ensures.value)) (omega (arith, c.in-len1-up-as_slice.len_at_least)) c.last-item.is one

pub returns-in-empty-as_slice-2 : goal.returns-in-empty-as_slice-2
returns-in-empty-as_slice-2 t c =
    let xs = c.as_slice-in-Conditional.result.now in
    let e = view c.in-Conditional.first.value in
    let is : view c.args.expr.now ≡ conditional [] e (map view_branch c.in-Conditional.rest.items) = search (rules, the_lemmas) in
    let same : c.deref-in-empty-as_slice-2.result.now ≡ c.in-Conditional.first.value = search rules in
    without_turns view_branch (view c.args.expr.now) e xs (view_shape c.read_shape-in-empty-as_slice-2.result) (is ∙ ap (λ ys. conditional [] e (map view_branch ys)) (sym c.as_slice-in-Conditional.ensures.value))
    (omega (arith, c.in-empty-as_slice-2.len_below)) (c.read_shape-in-empty-as_slice-2.ensures ∙ ap (λ x. shape_in (view x)) same)

pub returns-in-len1-up-as_slice-2 : goal.returns-in-len1-up-as_slice-2
returns-in-len1-up-as_slice-2 t c =
    let e = view c.in-Conditional.first.value in
    let is : view c.args.expr.now ≡ conditional [] e (map view_branch c.in-Conditional.rest.items) = search (rules, the_lemmas) in
    with_turns view_branch (view c.args.expr.now) e c.as_slice-in-Conditional.result.now (is ∙ ap (λ ys. conditional [] e (map view_branch ys)) (sym c.as_slice-in-Conditional.ensures.value)) (omega (arith, c.in-len1-up-as_slice-2.len_at_least))

pub returns-in-empty-as_slice-3 : goal.returns-in-empty-as_slice-3
returns-in-empty-as_slice-3 t c =
    let xs = c.as_slice-in-Postfix.result.now in
    let e = view c.in-Postfix.first.value in
    let is : view c.args.expr.now ≡ postfix e (map view_postfix c.in-Postfix.rest.items) = search (rules, the_lemmas) in
    let same : c.deref-in-empty-as_slice-3.result.now ≡ c.in-Postfix.first.value = search rules in
    without_parts view_postfix (view c.args.expr.now) e xs (view_shape c.read_shape-in-empty-as_slice-3.result) (is ∙ ap (λ ys. postfix e (map view_postfix ys)) (sym c.as_slice-in-Postfix.ensures.value))
    (omega (arith, c.in-empty-as_slice-3.len_below)) (c.read_shape-in-empty-as_slice-3.ensures ∙ ap (λ x. shape_in (view x)) same)

pub returns-in-len1-up-as_slice-3 : goal.returns-in-len1-up-as_slice-3
returns-in-len1-up-as_slice-3 t c =
    let e = view c.in-Postfix.first.value in
    let is : view c.args.expr.now ≡ postfix e (map view_postfix c.in-Postfix.rest.items) = search (rules, the_lemmas) in
    with_parts view_postfix (view c.args.expr.now) e c.as_slice-in-Postfix.result.now (is ∙ ap (λ ys. postfix e (map view_postfix ys)) (sym c.as_slice-in-Postfix.ensures.value)) (omega (arith, c.in-len1-up-as_slice-3.len_at_least))
