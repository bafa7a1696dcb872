use Rattle.std.proofs.Common.{◌≡◌, ℕ, List, ◌-◌, ◌<◌, true, length, ap, sym, ◌∙◌, arith}
use Rattle.std.specs.Str.{bytes_eq}
use Rattle.std.proofs.lemmas.Slice.Eq.{bytes_eq-Decides}
use Rattle.nf_value.specs.declared.value.Value.{Value}
use Rattle.nf_eval.proofs.Names.{sought_here, back_one}
use Rattle.nf_eval.proofs.scope.place_of.Goals as goal

pub returns-then-eq : goal.returns-then-eq
returns-then-eq c =
    let key = c.index-names-end.result.0 in
    let same : bytes_eq key c.args.name.now ≡ true = ap (λ l. bytes_eq l c.args.name.now) (ap (λ (y : List ℕ × Value). y.0) c.index-names-end.is ∙ sym c.as_str.ensures) ∙ sym c.eq.ensures ∙ c.if-eq.true in
    let within : c.loop-end.end - 1 < length c.args.names.now = omega (arith, c.loop-end.invariant.within, c.loop-end-test.true) in
    sought_here c.args.name.now c.args.names.now (c.loop-end.end - 1) c.index-names-end.result within c.index-names-end.is same ((bytes_eq-Decides key c.args.name.now).0 same) (back_one c.args.name.now c.args.names.now c.loop-end.end c.loop-end-test.true c.loop-end.invariant)
