use Rattle.std.proofs.Common.{◌≡◌, ◌∙◌, ◌<◌, length, reverse, Some, None, sym, ap, arith}
use Rattle.std.proofs.Math.ListN.{set}
use Rattle.nf_kinds.specs.Bindings.{place_of}
use Rattle.nf_kinds.specs.Scope.{rebound}
use Rattle.nf_kinds.proofs.Latest.{place_within, rebound_at, rebound_nowhere, place-rebound}
use Rattle.nf_kinds.proofs.bindings.Bindings.rebind.Goals as goal

pub index_mut-requires : goal.index_mut-requires
index_mut-requires c =
    let n = c.args.name.now in
    let items = c.self.inside.items in
    let there : place_of n (reverse items.items) ≡ Some c.in-Some.place.now = sym (c.self.invariant n) ∙ sym c.in-Some.ensures.value in
    let lt : c.in-Some.place.now < length items.items = place_within n items.items _ there in
    omega (arith, items.ok.0)

pub invariant_of-self : goal.invariant_of-self
invariant_of-self c m =
    let n = c.args.name.now in
    let s = c.args.shape in
    let items = c.self.inside.items.items in
    let p = c.in-Some.place.now in
    let there : place_of n (reverse items) ≡ Some p = sym (c.self.invariant n) ∙ sym c.in-Some.ensures.value in
    let changed : reverse (set items p (c.index_mut.result.now.0, s)) ≡ rebound n s (reverse items) =
    ap (λ b. reverse (set items p (b.0, s))) c.index_mut.ensures.value ∙ rebound_at n s items p c.index_mut.result.now there in
    c.self.invariant m ∙ sym (place-rebound n s m (reverse items)) ∙ ap (place_of m) (sym changed)

pub returns-in-Some : goal.returns-in-Some
returns-in-Some c =
    let n = c.args.name.now in
    let s = c.args.shape in
    let items = c.self.inside.items.items in
    let p = c.in-Some.place.now in
    let there : place_of n (reverse items) ≡ Some p = sym (c.self.invariant n) ∙ sym c.in-Some.ensures.value in
    ap (λ b. reverse (set items p (b.0, s))) c.index_mut.ensures.value ∙ rebound_at n s items p c.index_mut.result.now there ∙ ap (rebound n s) c.self.view_is

pub returns-in_default : goal.returns-in_default
returns-in_default c =
    let n = c.args.name.now in
    let items = c.self.inside.items.items in
    let nowhere : place_of n (reverse items) ≡ None = sym (c.self.invariant n) ∙ sym c.in_default.ensures.value in
    sym c.self.view_is ∙ sym (rebound_nowhere n c.args.shape (reverse items) nowhere) ∙ ap (rebound n c.args.shape) c.self.view_is
