use Rattle.std.proofs.Common.{◌≡◌, ◌∙◌, refl, Err, rules}
use Rattle.nf_eval.specs.Memory.{seen}
use Rattle.nf_eval.specs.Chains.{value_at}
use Rattle.nf_eval.proofs.Evaluating.{refused, refused_at}
use Rattle.nf_eval.proofs.Chaining.{ready, safe_stands, safe_refused}
use Rattle.nf_eval.proofs.reading.safe_property.Goals as goal

pub returns-in_err-of : goal.returns-in_err-of
returns-in_err-of c titles answer closure t st has =
    let env = seen c.args.around.now titles answer in
    let is : c.from_residual.result ≡ Err c.in_err-of.field-0.0 = search rules in
    safe_refused closure t env c.args.place c.args.name c.in_err-of.field-0.0 c.from_residual.result is (refused_at _ (value_at c.args.before env) c.in_err-of.field-0.0 (st.is_value has) (refused (value_at c.args.before env) c.in_err-of.field-0.0 (c.in_err-of.ensures titles answer)))

pub returns : goal.returns
returns c titles answer closure t st has = ready closure _ _ _ (safe_stands t (seen c.args.around.now titles answer) c.args.place c.args.name c.in_ok-of.of (st.is_value has ∙ c.in_ok-of.ensures titles answer)) refl
