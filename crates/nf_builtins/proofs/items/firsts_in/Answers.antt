use Rattle.std.proofs.Common.{◌≡◌, ◌++◌, ◌∷◌, [], map, ◌∙◌, sym, ap}
use Rattle.std.specs.List.{list_any}
use Rattle.nf_value.specs.View.{plain_of}
use Rattle.nf_builtins.specs.Lists.{is_same}
use Rattle.nf_builtins.proofs.Values.{all_new, kept_more, kept_same, pushed}
use Rattle.nf_builtins.proofs.items.firsts_in.Goals as goal
use Rattle.nf_builtins.proofs.items.firsts_in.Goals.{then-not-has_in+in_ok-copy+in_ok-push, else-not-has_in}

pub loop-item-init : goal.loop-item-init
loop-item-init c = rw c.new-kept.ensures.items (all_new _)

pub loop-item-preserved : goal.loop-item-preserved
loop-item-preserved c =
    let x = plain_of c.item-item.result in
    let kept = map plain_of c.loop-item.kept.items in
    let among : c.has_in.result ≡ list_any (λ k. is_same k x) kept = c.has_in.ensures ∙ ap (λ l. list_any (λ k. is_same k x) (map plain_of l)) c.deref.ensures.value in
    elim c.if-not-has_in.branch [
      | then-not-has_in+in_ok-copy+in_ok-push w ↦ (let more : map plain_of c.if-not-has_in.kept.items ≡ kept ++ x ∷ [] = ap (λ v. map plain_of v.items) w.kept-is ∙ pushed c.loop-item.kept.items w.push.new.self.items w.in_ok-copy.field-0 c.item-item.result w.in_ok-push.ensures.items w.in_ok-copy.ensures in
          rw more (kept_more c.args.items.now c.loop-item.item-index c.item-item.result kept _ c.loop-item-test.true c.item-item.is (sym among ∙ w.if-not-has_in.true) c.loop-item.invariant))
      | else-not-has_in w ↦ (let same : map plain_of c.if-not-has_in.kept.items ≡ kept = ap (λ v. map plain_of v.items) w.kept-is in
          rw same (kept_same c.args.items.now c.loop-item.item-index c.item-item.result kept _ c.loop-item-test.true c.item-item.is (sym among ∙ w.if-not-has_in.false) c.loop-item.invariant))
    ]
