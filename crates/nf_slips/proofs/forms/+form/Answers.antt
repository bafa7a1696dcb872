use Rattle.std.proofs.Common.{◌≡◌, ◌+◌, length, ◌∷◌, [], true, map, drop, sym, ap, ◌∙◌, rules, arith}
use Rattle.std.proofs.lemmas.Bool.{ltb-true, ltb-false}
use Rattle.nf_ast.specs.declared.expr.Expr.{the_lemmas}
use Rattle.nf_ast.specs.Tree as tree
use Rattle.nf_ast.specs.View.{view, view_operand, view_branch, view_postfix, prefixes, operands, conditional, postfix}
use Rattle.nf_slips.specs.Forms.{form_of, of_two, adds_up, is_expression}
use Rattle.nf_slips.specs.Memory.{is_nil, view_form, operand_forms, part_form, part_forms}
use Rattle.nf_slips.proofs.Expressions.{prefixes_expression, operands_expression, branches_expression, parts_expression}
use Rattle.nf_slips.proofs.Formed.{operands_form, parts_form, prefixes_alone, branches_alone, chained}
use Rattle.nf_slips.proofs.Bodies.{other_args}
use Rattle.nf_slips.proofs.Steps.{carried}
use Rattle.nf_slips.proofs.forms.+form.Goals as goal
use Rattle.nf_slips.proofs.forms.+form.Goals.{args_form-in_default-via-then-args-lt2, args_form-in_default-via-else-args-lt2+else-args-lt3}

pub read_form-returns-in-Prefix-clause-form : goal.read_form-returns-in-Prefix-clause-form
read_form-returns-in-Prefix-clause-form t c =
    let e = view c.args.expr.now in
    let a = view c.in-Prefix.of.value in
    let ys = c.in-Prefix.operators.items in
    let is : e ≡ prefixes ys a = search (rules, the_lemmas) in
    let inner : view_form c.read_form.result ≡ form_of a = search rules in
    let none : c.has_none.result ≡ is_nil ys = search rules in
    chained e (prefixes ys a) c.has_none.result (is_nil ys) (view_form c.alone.result) (view_form c.read_form.result) (form_of a) is (prefixes_alone ys a) c.alone.ensures none inner

pub read_form-returns-in-Prefix-clause-expression : goal.read_form-returns-in-Prefix-clause-expression
read_form-returns-in-Prefix-clause-expression t c =
    let e = view c.args.expr.now in
    let a = view c.in-Prefix.of.value in
    let ys = c.in-Prefix.operators.items in
    let is : e ≡ prefixes ys a = search (rules, the_lemmas) in
    let inner : is_expression a ≡ true = search rules in
    ap is_expression is ∙ prefixes_expression ys a inner

pub read_form-returns-in-Infix-clause-form : goal.read_form-returns-in-Infix-clause-form
read_form-returns-in-Infix-clause-form t c =
    let e = view c.args.expr.now in
    let a = view c.in-Infix.first.value in
    let ws = map view_operand c.in-Infix.rest.items in
    let is : e ≡ operands a ws = search (rules, the_lemmas) in
    let inner : view_form c.read_form-in-Infix.result ≡ form_of a = search rules in
    let all : view_form c.operands_form.result ≡ operand_forms (view_form c.read_form-in-Infix.result) ws = search rules in
    all ∙ ap (λ f. operand_forms f ws) inner ∙ sym (ap form_of is ∙ operands_form a ws)

pub read_form-returns-in-Infix-clause-expression : goal.read_form-returns-in-Infix-clause-expression
read_form-returns-in-Infix-clause-expression t c =
    let e = view c.args.expr.now in
    let a = view c.in-Infix.first.value in
    let ws = map view_operand c.in-Infix.rest.items in
    let is : e ≡ operands a ws = search (rules, the_lemmas) in
    let inner : is_expression a ≡ true = search rules in
    ap is_expression is ∙ operands_expression a ws inner

pub read_form-returns-in-Conditional-clause-form : goal.read_form-returns-in-Conditional-clause-form
read_form-returns-in-Conditional-clause-form t c =
    let e = view c.args.expr.now in
    let a = view c.in-Conditional.first.value in
    let ys = c.in-Conditional.rest.items in
    let is : e ≡ conditional [] a (map view_branch ys) = search (rules, the_lemmas) in
    let inner : view_form c.read_form-in-Conditional.result ≡ form_of a = search rules in
    let none : c.has_none-in-Conditional.result ≡ is_nil ys = search rules in
    chained e (conditional [] a (map view_branch ys)) c.has_none-in-Conditional.result (is_nil ys) (view_form c.alone-in-Conditional.result) (view_form c.read_form-in-Conditional.result) (form_of a) is (branches_alone a ys) c.alone-in-Conditional.ensures none inner

pub read_form-returns-in-Conditional-clause-expression : goal.read_form-returns-in-Conditional-clause-expression
read_form-returns-in-Conditional-clause-expression t c =
    let e = view c.args.expr.now in
    let a = view c.in-Conditional.first.value in
    let ws = map view_branch c.in-Conditional.rest.items in
    let is : e ≡ conditional [] a ws = search (rules, the_lemmas) in
    let inner : is_expression a ≡ true = search rules in
    ap is_expression is ∙ branches_expression a ws inner

pub read_form-returns-in-Postfix-clause-form : goal.read_form-returns-in-Postfix-clause-form
read_form-returns-in-Postfix-clause-form t c =
    let e = view c.args.expr.now in
    let a = view c.in-Postfix.first.value in
    let ys = c.in-Postfix.rest.items in
    let ws = map view_postfix ys in
    let is : e ≡ postfix a ws = search (rules, the_lemmas) in
    let inner : view_form c.read_form-in-Postfix.result ≡ form_of a = search rules in
    let all : view_form c.parts_form.result ≡ part_forms (view_form c.read_form-in-Postfix.result) ws = search rules in
    all ∙ ap (λ f. part_forms f ws) inner ∙ sym (ap form_of is ∙ parts_form a ys)

pub read_form-returns-in-Postfix-clause-expression : goal.read_form-returns-in-Postfix-clause-expression
read_form-returns-in-Postfix-clause-expression t c =
    let e = view c.args.expr.now in
    let a = view c.in-Postfix.first.value in
    let ys = c.in-Postfix.rest.items in
    let is : e ≡ postfix a (map view_postfix ys) = search (rules, the_lemmas) in
    let inner : is_expression a ≡ true = search rules in
    ap is_expression is ∙ parts_expression a ys inner

pub operands_form-loop-operand-preserved : goal.operands_form-loop-operand-preserved
operands_form-loop-operand-preserved t c =
    let x = c.operand-item.result in
    let more = map view_operand (drop (c.loop-operand.operand-index + 1) c.args.rest.now) in
    let f = view_form c.loop-operand.so_far in
    let is : view_operand x ≡ tree.binary x.place x.operator tree.empty (view x.expr) = search (rules, the_lemmas) in
    let two : view_form c.of_two-so_far.result ≡ of_two (adds_up x.operator) f (form_of (view x.expr)) = search rules in
    carried (λ ys. operand_forms f (map view_operand ys)) (λ ys. operand_forms (view_form c.of_two-so_far.result) (map view_operand ys)) c.args.rest.now c.loop-operand.operand-index x _ c.loop-operand-test.true c.operand-item.is (ap (λ w. operand_forms f (w ∷ more)) is ∙ ap (λ g. operand_forms g more) (sym two)) c.loop-operand.invariant

pub parts_form-loop-part-preserved : goal.parts_form-loop-part-preserved
parts_form-loop-part-preserved t c =
    let x = c.part-item.result in
    let more = map view_postfix (drop (c.loop-part.part-index + 1) c.args.rest.now) in
    let f = view_form c.loop-part.so_far in
    let one : view_form c.with_part-so_far.result ≡ part_form f (view_postfix x) = search rules in
    carried (λ ys. part_forms f (map view_postfix ys)) (λ ys. part_forms (view_form c.with_part-so_far.result) (map view_postfix ys)) c.args.rest.now c.loop-part.part-index x _ c.loop-part-test.true c.part-item.is (ap (λ g. part_forms g more) (sym one)) c.loop-part.invariant

pub args_form-returns-in_default : goal.args_form-returns-in_default
args_form-returns-in_default t c =
    let apart : length c.args.args.now ≡ 2 → ⊥ = λ e. elim c.in_default.branch [
      | args_form-in_default-via-then-args-lt2 w ↦ omega (arith, e, ltb-true, ltb-false)
      | args_form-in_default-via-else-args-lt2+else-args-lt3 w ↦ omega (arith, e, ltb-true, ltb-false)
    ] in
    sym (other_args c.args.args.now apart)
