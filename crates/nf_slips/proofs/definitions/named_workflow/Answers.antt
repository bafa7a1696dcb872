use Rattle.std.proofs.Common.{◌≡◌, ◌∙◌, ℕ, List, Some, true, ap, sym, rules}
use Rattle.std.specs.Str.{bytes_eq}
use Rattle.std.proofs.lemmas.Slice.Eq.{bytes_eq-Decides}
use Rattle.nf_value.specs.declared.place.Place.{Place}
use Rattle.nf_slips.proofs.Lighter.{named_lighter}
use Rattle.nf_slips.proofs.definitions.named_workflow.Goals as goal

pub returns-in-Some-clause-lighter : goal.returns-in-Some-clause-lighter
returns-in-Some-clause-lighter c ns h =
    let n = c.args.name.now in
    let w = c.args.workflow.now in
    let m : Place × List ℕ = (c.in-Some.field-0-0, c.in-Some.other) in
    let is : w.name ≡ Some m = search rules in
    let same : bytes_eq c.in-Some.other n ≡ true = ap (λ l. bytes_eq l n) (sym c.as_str.ensures) ∙ sym c.eq.ensures ∙ c.if-eq.true in
    named_lighter w.name m n w.body is ((bytes_eq-Decides c.in-Some.other n).0 same) ns h
