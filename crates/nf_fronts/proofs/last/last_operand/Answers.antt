use Rattle.std.proofs.Common.{◌≡◌, ◌∙◌, ◌-◌, length, map, take, sym, ap, rules, arith}
use Rattle.std.specs.Prelude.{not}
use Rattle.nf_ast.specs.declared.expr.Expr.{the_lemmas}
use Rattle.nf_ast.specs.Tree as tree
use Rattle.nf_ast.specs.Tree.{Tree}
use Rattle.nf_ast.specs.View.{operands, view, view_operand}
use Rattle.nf_fronts.specs.Lasts.{is_other}
use Rattle.nf_fronts.proofs.Rows.{a_pipe, last_of_row, last_operand_is}
use Rattle.nf_fronts.proofs.last.last_operand.Goals as goal

pub returns-then-is_pipe : goal.returns-then-is_pipe
returns-then-is_pipe c =
    let all = c.args.rest.now in
    let o = c.operand-item.result in
    let a = view c.args.first.now in
    let before = operands a (map view_operand (take (length all - 1) all)) in
    let is : view_operand o ≡ tree.binary o.place o.operator tree.empty (view o.expr) = search (rules, the_lemmas) in
    let pipe = a_pipe o.operator (sym c.is_pipe.ensures ∙ c.if-is_pipe.true) in
    last_operand_is a all (take (length all - 1) all) o o.place o.operator (view o.expr) (last_of_row all o (omega (arith, c.in-len1-up.len_at_least)) c.operand-item.is) is
    ∙ ap (λ k. tree.binary o.place k before (view o.expr)) pipe

pub returns-else-is_pipe : goal.returns-else-is_pipe
returns-else-is_pipe c =
    let all = c.args.rest.now in
    let o = c.operand-item.result in
    let a = view c.args.first.now in
    let is : view_operand o ≡ tree.binary o.place o.operator tree.empty (view o.expr) = search (rules, the_lemmas) in
    ap is_other (last_operand_is a all (take (length all - 1) all) o o.place o.operator (view o.expr) (last_of_row all o (omega (arith, c.in-len1-up.len_at_least)) c.operand-item.is) is)
    ∙ ap not (sym c.is_pipe.ensures ∙ c.if-is_pipe.false)
