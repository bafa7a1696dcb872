use Rattle.std.proofs.Common.{◌≡◌, Err, rules, subst}
use Rattle.nf_value.specs.View.{plain_of}
use Rattle.nf_ast.specs.View.{view}
use Rattle.nf_around.specs.Gives.{IsValue, Reads}
use Rattle.nf_meaning.specs.Expressions.{value_of}
use Rattle.nf_meaning.specs.Places.{begins_at}
use Rattle.nf_meaning.specs.Sources.{list_wanted}
use Rattle.nf_taken.specs.Bodies.{IsSame}
use Rattle.nf_taken.proofs.Options.{still_read}
use Rattle.nf_taken.proofs.Walks.{fails_first, goes_on}
use Rattle.nf_taken.proofs.body.Body.range_items.Goals as goal

pub returns-in_err-value : goal.returns-in_err-value
returns-in_err-value g c =
    let e = c.in_err-value.field-0.0 in
    let err : c.from_residual.result ≡ Err e = search rules in
    let t = view c.args.range.now in
    rw err (λ a s here. fails_first IsValue IsSame (value_of t) (list_wanted (begins_at t)) a s e (c.in_err-value.ensures a s here))

pub returns : goal.returns
returns g c =
    λ a s here.
    (let t = view c.args.range.now in
    let v = c.in_ok-value.value in
    goes_on IsValue IsSame (value_of t) (list_wanted (begins_at t)) a s v c.list_wanted.result (c.in_ok-value.ensures a s here)
    (λ y q.
    subst (λ w. Reads IsSame (list_wanted (begins_at t) w) a s c.list_wanted.result) q
    (subst (λ p. Reads IsSame (list_wanted p (plain_of v)) a s c.list_wanted.result) c.begins_at.ensures (still_read (list_wanted c.begins_at.result (plain_of v)) a s c.list_wanted.result (c.list_wanted.ensures a s)))))
