use Rattle.std.proofs.Common.{◌≡◌, ◌∙◌, ◌<◌, List, length, ap, rules, arith}
use Rattle.nf_ast.specs.declared.expr.Expr.{the_lemmas}
use Rattle.nf_ast.specs.declared.expr.Prefix.{Prefix}
use Rattle.nf_ast.specs.View.{prefixes, view}
use Rattle.nf_fronts.specs.Lasts.{is_other}
use Rattle.nf_fronts.proofs.Rows.{prefixed}
use Rattle.nf_fronts.proofs.last.+last_of.Goals as goal

pub returns-in-len1-up : goal.returns-in-len1-up
returns-in-len1-up t c =
    let ops = c.in-Prefix.operators.items in
    let a = view c.in-Prefix.of.value in
    let is : view c.args.expr.now ≡ prefixes ops a = search (rules, the_lemmas) in
    let some : 0 < length ops = omega (arith, c.in-len1-up.len_at_least, ap (λ (xs : List Prefix). length xs) c.as_slice.ensures.value) in
    ap is_other is ∙ prefixed ops a some
