use Rattle.std.proofs.Common.{◌-◌, length, take, sym, subst, arith}
use Rattle.nf_ast.specs.Tree.{Tree}
use Rattle.nf_ast.specs.View.{view}
use Rattle.nf_fronts.specs.Lasts.{IsLast}
use Rattle.nf_fronts.proofs.Rows.{last_of_row, last_part_is}
use Rattle.nf_fronts.proofs.last.last_part.Goals as goal

pub returns-in-len1-up : goal.returns-in-len1-up
returns-in-len1-up c =
    let all = c.args.rest.now in
    let x = c.part-item.result in
    let whole = last_part_is (view c.args.first.now) all (take (length all - 1) all) x (last_of_row all x (omega (arith, c.in-len1-up.len_at_least)) c.part-item.is) in
    let P : Tree → Type 0 = λ t. IsLast t c.with_part.result in
    subst P (sym whole) c.with_part.ensures
