use Rattle.std.proofs.Common.{◌≡◌, ◌∷◌, [], Err, Ok, List, arith, rules, subst, sym}
use Rattle.nf_value.specs.declared.place.Place.{Place}
use Rattle.nf_value.specs.declared.value.Value.{Value}
use Rattle.nf_applied.proofs.Lists.{GivesList, not_one, one_fails, one_given}
use Rattle.nf_applied.proofs.items.items_in.Goals as goal

pub returns-then-len-ne1 : goal.returns-then-len-ne1
returns-then-len-ne1 c = not_one c.args.given.items c.new.result (λ h. absurd (omega (arith, h))) (search rules)

pub returns-in_err-list-in-Some : goal.returns-in_err-list-in-Some
returns-in_err-list-in-Some c =
    let e = c.in_err-list-in-Some.field-0.0 in
    let err : c.from_residual.result ≡ Err e = search rules in
    let is : c.args.given.items ≡ (c.in-Some.place, c.in-Some.value) ∷ [] = search rules in
    let P : List (Place × Value) → Type 0 = λ vs. GivesList vs (Err e) in
    rw err (subst P (sym is) (one_fails (c.in-Some.place, c.in-Some.value) e c.in_err-list-in-Some.ensures))

pub returns-in-Some : goal.returns-in-Some
returns-in-Some c =
    let is : c.args.given.items ≡ (c.in-Some.place, c.in-Some.value) ∷ [] = search rules in
    let P : List (Place × Value) → Type 0 = λ vs. GivesList vs (Ok c.into_items.result) in
    subst P (sym is) (one_given (c.in-Some.place, c.in-Some.value) c.in_ok-list-in-Some.list c.into_items.result c.in_ok-list-in-Some.ensures c.into_items.ensures)
