use Rattle.std.proofs.Common.{◌≡◌, ◌∙◌, ◌-◌, [], List, length, map, take, drop, ap, subst, rules, arith}
use Rattle.std.proofs.lemmas.List.{nil_from_length}
use Rattle.nf_ast.specs.declared.expr.Expr.{the_lemmas}
use Rattle.nf_ast.specs.declared.expr.Branch.{Branch}
use Rattle.nf_ast.specs.Tree as tree
use Rattle.nf_ast.specs.View.{BranchTree, conditional, view, view_branch}
use Rattle.nf_fronts.specs.Arms.{AreArms}
use Rattle.nf_fronts.proofs.Conditionals.{arm_alone, three_arms, two_arms}
use Rattle.nf_fronts.proofs.Rows.{first_of}
use Rattle.nf_fronts.proofs.turns.condition.Goals as goal

pub returns-in-empty : goal.returns-in-empty
returns-in-empty c =
    let all = map view_branch c.args.rest.now in
    let arm = map view_branch c.arms.result.0.now in
    let none : c.arms.result.1.now ≡ [] = nil_from_length _ (omega (arith, c.in-empty.len_below)) in
    let P : List Branch → Type 0 = λ ys. AreArms all arm (map view_branch ys) in
    arm_alone c.args.place (view c.args.asked_of.now) (view c.args.first.now) all arm (subst P none c.arms.ensures)

pub returns-in_default-empty : goal.returns-in_default-empty
returns-in_default-empty c =
    let all = map view_branch c.args.rest.now in
    let arm = map view_branch c.arms.result.0.now in
    let other = c.arms.result.1.now in
    let x = c.second-item.result in
    let ys = take (length other - 1) (drop 1 other) in
    let row = first_of other x (omega (arith, c.in-len1-up.len_at_least)) c.second-item.is in
    let P : List Branch → Type 0 = λ zs. AreArms all arm (map view_branch zs) in
    let none : c.arms-in-len1-up.result.1.now ≡ [] = nil_from_length _ (omega (arith, c.in_default-empty.len_below)) in
    let Q : List Branch → Type 0 = λ zs. AreArms (map view_branch ys) (map view_branch c.arms-in-len1-up.result.0.now) (map view_branch zs) in
    let is : view_branch x ≡ record { place = x.place; operator = x.operator; expr = view x.expr } = search (rules, the_lemmas) in
    two_arms c.args.place (view c.args.asked_of.now) (view c.args.first.now) all arm (view_branch x) (map view_branch ys) (map view_branch c.arms-in-len1-up.result.0.now) (subst P row c.arms.ensures) (subst Q none c.arms-in-len1-up.ensures)
    ∙ ap (λ (b : BranchTree). tree.conditional c.args.place (view c.args.asked_of.now) (conditional [] (view c.args.first.now) arm) (conditional [] b.expr (map view_branch ys))) is

pub returns-in_default-len1-up : goal.returns-in_default-len1-up
returns-in_default-len1-up c =
    let all = map view_branch c.args.rest.now in
    let arm = map view_branch c.arms.result.0.now in
    let other = c.arms.result.1.now in
    let x = c.second-item.result in
    let ys = take (length other - 1) (drop 1 other) in
    let row = first_of other x (omega (arith, c.in-len1-up.len_at_least)) c.second-item.is in
    let P : List Branch → Type 0 = λ zs. AreArms all arm (map view_branch zs) in
    let last = c.arms-in-len1-up.result.1.now in
    let z = c._third-item.result in
    let zs = take (length last - 1) (drop 1 last) in
    let rest = first_of last z (omega (arith, c.in_default-len1-up.len_at_least)) c._third-item.is in
    let more = map view_branch c.arms-in-len1-up.result.0.now in
    let Q : List Branch → Type 0 = λ ws. AreArms (map view_branch ys) more (map view_branch ws) in
    three_arms c.args.place (view c.args.asked_of.now) (view c.args.first.now) all arm (view_branch x) (view_branch z) (map view_branch ys) more (map view_branch zs) (subst P row c.arms.ensures) (subst Q rest c.arms-in-len1-up.ensures)
