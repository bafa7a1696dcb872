use Rattle.std.proofs.Common.{◌≡◌, ◌∙◌, ◌-◌, ◌++◌, min, take, drop, length, reverse, ap, rules}
use Rattle.std.proofs.lemmas.List.{append-nil, take_min}
use Rattle.nf_kinds.proofs.Latest.{oldest_left}
use Rattle.nf_kinds.proofs.bindings.Bindings.oldest.Goals as goal

pub returns : goal.returns
returns c =
    let items = c.self.inside.items.items in
    let count = c.args.count in
    let len : c.len.result ≡ length items = search rules in
    let kept : c.min-kept.result ≡ min count (length items) = c.min-kept.ensures ∙ ap (min count) len in
    c.in_ok-add_copies.ensures
    ∙ (λ j. reverse (take (kept j) (c.deref.ensures.value j)) ++ c.new-out.ensures j)
    ∙ append-nil (reverse (take (min count (length items)) items))
    ∙ ap reverse (take_min count items)
    ∙ oldest_left items count
    ∙ ap (λ bs. drop (length bs - count) bs) c.self.view_is
