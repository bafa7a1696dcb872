use Rattle.std.proofs.Common.{◌≡◌, arith, ap, ◌∙◌, map}
use Rattle.std.proofs.lemmas.List.{at_drop_all}
use Rattle.nf_value.specs.Plain.{plains_of, plain_pairs_of}
use Rattle.nf_value.specs.View.{plain_of, pair_of}
use Rattle.nf_value.specs.Depth.{deepest, deepest_pair}
use Rattle.nf_value.proofs.measure.+depth.Goals as goal

pub depth_all-returns : goal.depth_all-returns
depth_all-returns t c =
    let xs = c.deref-item-items.result.now in
    let is : map plain_of xs ≡ c.args.list.now = ap (map plain_of) c.deref-item-items.ensures.value ∙ c.list.view_is in
    let none = at_drop_all (λ ys. deepest (plains_of (map plain_of ys))) xs c.loop-item.item-index c.loop-item-test.false in
    let whole = ap (λ vs. deepest (plains_of vs)) is in
    omega (arith, none, whole, c.loop-item.invariant.0, c.loop-item.invariant.1)

pub depth_pairs-returns : goal.depth_pairs-returns
depth_pairs-returns t c =
    let xs = c.deref-item-items.result.now in
    let is : map pair_of xs ≡ c.args.pairs.now = ap (map pair_of) c.deref-item-items.ensures.value ∙ c.pairs.view_is in
    let none = at_drop_all (λ ys. deepest_pair (plain_pairs_of (map pair_of ys))) xs c.loop-item.item-index c.loop-item-test.false in
    let whole = ap (λ vs. deepest_pair (plain_pairs_of vs)) is in
    omega (arith, none, whole, c.loop-item.invariant.0, c.loop-item.invariant.1)
