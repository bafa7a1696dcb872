use Rattle.std.proofs.Common.{◌≡◌, if◌then◌else◌, None, sym, ap, rules}
use Rattle.nf_ast.specs.View.{view}
use Rattle.nf_totals.specs.Totals.{are_both}
use Rattle.nf_totals.proofs.Folded.{none_over, total_if}
use Rattle.nf_totals.proofs.Named.{is_total}
use Rattle.nf_totals.proofs.totals.expr_total.Goals as goal

pub returns-then-are_both : goal.returns-then-are_both
returns-then-are_both c =
    let m = c.args.first.now in
    let n = c.args.second.now in
    let l = c.in-Total.left.now in
    let r = c.in-Total.right.now in
    let k = c.total_mark-total.result in
    let is : c.are_both.result ≡ are_both m n l r = search rules in
    total_if m n (view c.args.expr.now) l r k k c.are_both.result c.in-Total.ensures.form c.total_mark-total.ensures is (sym (ap (λ b. if b then k else None) c.if-are_both.true))

pub returns-else-are_both : goal.returns-else-are_both
returns-else-are_both c =
    let m = c.args.first.now in
    let n = c.args.second.now in
    let l = c.in-Total.left.now in
    let r = c.in-Total.right.now in
    let k = c.total_mark-total.result in
    let is : c.are_both.result ≡ are_both m n l r = search rules in
    total_if m n (view c.args.expr.now) l r k None c.are_both.result c.in-Total.ensures.form c.total_mark-total.ensures is (sym (ap (λ b. if b then k else None) c.if-are_both.false))

pub returns-in-Name : goal.returns-in-Name
returns-in-Name c = sym (none_over c.args.first.now c.args.second.now (view c.args.expr.now) (sym (ap is_total c.in-Name.ensures.form)))

pub returns-in-Number : goal.returns-in-Number
returns-in-Number c = sym (none_over c.args.first.now c.args.second.now (view c.args.expr.now) (sym (ap is_total c.in-Number.ensures.form)))

pub returns-in-Closure : goal.returns-in-Closure
returns-in-Closure c = sym (none_over c.args.first.now c.args.second.now (view c.args.expr.now) (sym (ap is_total c.in-Closure.ensures.form)))

pub returns-in-Extreme : goal.returns-in-Extreme
returns-in-Extreme c = sym (none_over c.args.first.now c.args.second.now (view c.args.expr.now) (sym (ap is_total c.in-Extreme.ensures.form)))

pub returns-in-Other : goal.returns-in-Other
returns-in-Other c = sym (none_over c.args.first.now c.args.second.now (view c.args.expr.now) (sym (ap is_total c.in-Other.ensures.form)))
