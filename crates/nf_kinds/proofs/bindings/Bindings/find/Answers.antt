use Rattle.std.proofs.Common.{◌≡◌, ◌∙◌, ◌<◌, length, reverse, Some, None, sym, ap, arith}
use Rattle.std.specs.Option.{option_copied}
use Rattle.nf_kinds.specs.Scope.{shape_in}
use Rattle.nf_kinds.specs.Bindings.{place_of}
use Rattle.nf_kinds.proofs.Latest.{nowhere, place_within, shape_at}
use Rattle.nf_kinds.proofs.bindings.Bindings.find.Goals as goal

pub returns-in_err-place : goal.returns-in_err-place
returns-in_err-place c =
    let n = c.args.name.now in
    let none : place_of n (reverse c.self.inside.items.items) ≡ None = sym (c.self.invariant n) ∙ sym c.in_err-place.ensures.value in
    ap option_copied c.from_residual.ensures ∙ sym (nowhere n _ none) ∙ ap (shape_in n) c.self.view_is

pub index-requires : goal.index-requires
index-requires c =
    let n = c.args.name.now in
    let items = c.self.inside.items in
    let there : place_of n (reverse items.items) ≡ Some c.in_ok-place.field-0.now = sym (c.self.invariant n) ∙ sym c.in_ok-place.ensures.value in
    let lt : c.in_ok-place.field-0.now < length items.items = place_within n items.items _ there in
    omega (arith, items.ok.0)

pub returns : goal.returns
returns c =
    let n = c.args.name.now in
    let items = c.self.inside.items.items in
    let there : place_of n (reverse items) ≡ Some c.in_ok-place.field-0.now = sym (c.self.invariant n) ∙ sym c.in_ok-place.ensures.value in
    ap (λ b. Some b.1) c.index.ensures ∙ shape_at n items _ c.index.result.now there ∙ ap (shape_in n) c.self.view_is
