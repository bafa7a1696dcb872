use Rattle.std.proofs.Common.{◌≡◌, sym, arith, rules}
use Rattle.nf_ast.specs.View.{view_body}
use Rattle.nf_totals.specs.Totals.{total_alone}
use Rattle.nf_totals.proofs.Bodies.{other_params, two_params}
use Rattle.nf_totals.proofs.totals.total_in.Goals as goal

pub returns-in-len2 : goal.returns-in-len2
returns-in-len2 c =
    let body = view_body c.args.body.now in
    let same : c.body_total.result ≡ total_alone c.first-item.result.1 c.second-item.result.1 body = search rules in
    two_params c.args.params.now c.first-item.result c.second-item.result body c.body_total.result (omega (arith, c.in-len2.len_at_least, c.in-len2.len_below)) c.first-item.is c.second-item.is same

pub returns-in_default : goal.returns-in_default
returns-in_default c = sym (other_params c.args.params.now (view_body c.args.body.now) (λ h. omega arith))

pub returns-in_default-2 : goal.returns-in_default-2
returns-in_default-2 c = sym (other_params c.args.params.now (view_body c.args.body.now) (λ h. omega arith))
