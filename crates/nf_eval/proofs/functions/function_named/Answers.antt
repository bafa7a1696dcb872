use Rattle.std.proofs.Common.{◌≡◌, ◌∙◌, suc, ◌<◌, ◌-◌, List, length, take, true, false, ap, sym, arith}
use Rattle.std.specs.Str.{bytes_eq}
use Rattle.std.proofs.lemmas.List.{length-take}
use Rattle.nf_placed.specs.Scope.{function_in}
use Rattle.nf_eval.specs.Evaluation.{Definition, functions_of}
use Rattle.nf_eval.specs.Functions.{definition_of, definitions_in}
use Rattle.nf_eval.proofs.Scripted.{depths_at, latest, this_one, not_this}
use Rattle.nf_eval.proofs.functions.function_named.Goals as goal

pub returns-then-eq-clause-found : goal.returns-then-eq-clause-found
returns-then-eq-clause-found c patterns titles answer =
    let n = c.args.name.now in
    let left = c.loop-left.left.now in
    let x = c.last-item.result in
    let i = length left - 1 in
    let next : suc i ≡ length left = omega (arith, c.in-len1-up.len_at_least) in
    let same : bytes_eq x.name n ≡ true = ap (λ l. bytes_eq l n) (sym c.as_str.ensures) ∙ sym c.eq.ensures ∙ c.if-eq.true in
    sym (c.loop-left.invariant.same patterns titles answer) ∙ ap (λ (ds : List Definition). function_in n (functions_of ds patterns titles answer)) (latest left i x next c.last-item.is) ∙ this_one n (definition_of x) (definitions_in (take i left)) patterns titles answer same

pub returns-then-eq-clause-lighter : goal.returns-then-eq-clause-lighter
returns-then-eq-clause-lighter c =
    let left = c.loop-left.left.now in
    let some : length left - 1 < length left = omega (arith, c.in-len1-up.len_at_least) in
    omega (arith, depths_at left (length left - 1) c.last-item.result some c.last-item.is, c.loop-left.invariant.lighter)

pub loop-left-preserved : goal.loop-left-preserved
loop-left-preserved c =
    let n = c.args.name.now in
    let left = c.loop-left.left.now in
    let x = c.last-item.result in
    let i = length left - 1 in
    let some : i < length left = omega (arith, c.in-len1-up.len_at_least) in
    let next : suc i ≡ length left = omega (arith, c.in-len1-up.len_at_least) in
    let other : bytes_eq x.name n ≡ false = ap (λ l. bytes_eq l n) (sym c.as_str.ensures) ∙ sym c.eq.ensures ∙ c.if-eq.false in
    record {
      shorter = omega (arith, length-take i left, c.loop-left.invariant.shorter);
      lighter = omega (arith, depths_at left i x some c.last-item.is, c.loop-left.invariant.lighter);
      same = λ patterns titles answer. sym (not_this n (definition_of x) (definitions_in (take i left)) patterns titles answer other) ∙ sym (ap (λ (ds : List Definition). function_in n (functions_of ds patterns titles answer)) (latest left i x next c.last-item.is)) ∙ c.loop-left.invariant.same patterns titles answer;
    }
