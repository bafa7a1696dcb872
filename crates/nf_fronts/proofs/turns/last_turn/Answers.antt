use Rattle.std.proofs.Common.{◌≡◌, ◌∙◌, ◌-◌, [], ◌∷◌, length, map, take, drop, sym, ap, subst, rules, arith}
use Rattle.nf_ast.specs.declared.expr.Expr.{the_lemmas}
use Rattle.nf_ast.specs.Tree.{Tree}
use Rattle.nf_ast.specs.View.{BranchTree, asked, conditional, framed, view, view_branch}
use Rattle.nf_fronts.specs.Lasts.{IsLast, is_other}
use Rattle.nf_fronts.proofs.Conditionals.{elvis_first, else_first}
use Rattle.nf_fronts.proofs.Rows.{first_of}
use Rattle.nf_fronts.proofs.turns.last_turn.Goals as goal

pub returns-in-Then : goal.returns-in-Then
returns-in-Then c =
    let all = c.args.rest.now in
    let x = c.branch-item.result in
    let a = view c.args.first.now in
    let more = map view_branch (take (length all - 1) (drop 1 all)) in
    let row = ap (map view_branch) (first_of all x (omega (arith, c.in-len1-up.len_at_least)) c.branch-item.is) in
    let is : view_branch x ≡ record { place = x.place; operator = x.operator; expr = view x.expr } = search (rules, the_lemmas) in
    let whole : conditional [] a (map view_branch all) ≡ conditional (asked x.place a ∷ []) (view x.expr) more =
    ap (conditional [] a) row
    ∙ ap (λ (b : BranchTree). conditional (framed b.place b.operator [] a) b.expr more) is
    ∙ ap (λ o. conditional (framed x.place o [] a) (view x.expr) more) c.in-Then.is in
    let P : Tree → Type 0 = λ t. IsLast t c.condition.result in
    subst P (sym whole) c.condition.ensures

pub returns-in-Elvis : goal.returns-in-Elvis
returns-in-Elvis c =
    let all = c.args.rest.now in
    let x = c.branch-item.result in
    let a = view c.args.first.now in
    let more = map view_branch (take (length all - 1) (drop 1 all)) in
    let row = ap (map view_branch) (first_of all x (omega (arith, c.in-len1-up.len_at_least)) c.branch-item.is) in
    let is : view_branch x ≡ record { place = x.place; operator = x.operator; expr = view x.expr } = search (rules, the_lemmas) in
    ap (λ ys. is_other (conditional [] a ys)) row ∙ elvis_first a (view_branch x) more (ap (λ (b : BranchTree). b.operator) is ∙ c.in-Elvis.is)

pub returns-in-Else : goal.returns-in-Else
returns-in-Else c =
    let all = c.args.rest.now in
    let x = c.branch-item.result in
    let a = view c.args.first.now in
    let more = map view_branch (take (length all - 1) (drop 1 all)) in
    let row = ap (map view_branch) (first_of all x (omega (arith, c.in-len1-up.len_at_least)) c.branch-item.is) in
    let is : view_branch x ≡ record { place = x.place; operator = x.operator; expr = view x.expr } = search (rules, the_lemmas) in
    ap (λ ys. is_other (conditional [] a ys)) row ∙ else_first a (view_branch x) more (ap (λ (b : BranchTree). b.operator) is ∙ c.in-Else.is)
