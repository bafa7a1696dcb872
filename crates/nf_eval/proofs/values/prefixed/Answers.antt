use Rattle.std.proofs.Common.{◌≡◌, ◌∙◌, ◌-◌, ◌+◌, ◌<◌, take, length, get_or, Err, sym, ap, arith, rules}
use Rattle.nf_value.specs.Plain.{Plain}
use Rattle.nf_value.specs.View.{plain_of}
use Rattle.nf_ast.specs.declared.expr.Prefix.{Prefix}
use Rattle.nf_ast.specs.declared.operators.PrefixOperator.TheVariants as before
use Rattle.nf_placed.specs.Placed.{Placed, ◌>>=◌, made}
use Rattle.nf_placed.specs.Operators.{prefix_of}
use Rattle.nf_eval.specs.Chains.{prefixed}
use Rattle.nf_eval.proofs.Evaluating.{fault_first}
use Rattle.nf_eval.proofs.Innermost.{from_innermost}
use Rattle.nf_eval.proofs.values.prefixed.Goals as goal

abbrev no_prefix : Prefix
no_prefix = record { place = record { line = 0; col = 0 }; operator = before.Not }

pub returns-in_err-value : goal.returns-in_err-value
returns-in_err-value c =
    let operators = c.args.operators.now in
    let i = c.loop-end.end - 1 in
    let x = get_or operators i no_prefix in
    let next : c.loop-end.end ≡ i + 1 = omega arith in
    let inside : i < length operators = omega (arith, c.loop-end.invariant.0) in
    let err : c.from_residual.result ≡ Err c.in_err-value.field-0.0 = search rules in
    fault_first (prefixed operators (plain_of c.args.of)) (made x.place (prefix_of x.operator (plain_of c.loop-end.value))) (prefixed (take i operators)) c.in_err-value.field-0.0 c.from_residual.result (sym c.loop-end.invariant.1 ∙ from_innermost operators c.loop-end.end i no_prefix (plain_of c.loop-end.value) next inside) err c.in_err-value.ensures

pub loop-end-preserved : goal.loop-end-preserved
loop-end-preserved c =
    let operators = c.args.operators.now in
    let i = c.loop-end.end - 1 in
    let next : c.loop-end.end ≡ i + 1 = omega arith in
    let inside : i < length operators = omega (arith, c.loop-end.invariant.0) in
    (omega (arith, c.loop-end.invariant.0), sym (ap (λ (r : Placed Plain). r >>= prefixed (take i operators)) c.in_ok-value.ensures) ∙ sym (from_innermost operators c.loop-end.end i no_prefix (plain_of c.loop-end.value) next inside) ∙ c.loop-end.invariant.1)
