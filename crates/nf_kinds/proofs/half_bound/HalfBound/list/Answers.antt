use Rattle.std.proofs.Common.{◌≡◌, ◌∙◌, ◌++◌, ◌∷◌, [], ap, sym, rules}
use Rattle.std.specs.HashSet.{contains_text}
use Rattle.nf_kinds.proofs.NamesLeft.{one_left, one_gone}
use Rattle.nf_kinds.proofs.half_bound.HalfBound.list.Goals as goal
use Rattle.nf_kinds.proofs.half_bound.HalfBound.list.Goals.{then-contains+in_ok-copy+in_ok-push, else-contains}

pub loop-name-preserved : goal.loop-name-preserved
loop-name-preserved c =
    let names = c.deref-name-items.result.now in
    let left = c.self.inside.left in
    let out = c.loop-name.out.items in
    let new = c.if-contains.out.items in
    let i = c.loop-name.name-index in
    let m = c.name-item.result in
    let tested : contains_text left m ≡ c.contains.result = ap (contains_text left) (sym c.as_str.ensures) ∙ sym c.contains.ensures in
    elim c.if-contains.branch [
      | then-contains+in_ok-copy+in_ok-push w ↦
          (let added : new ≡ out ++ m ∷ [] = search rules in
          one_left left names out new _ i m c.loop-name-test.true c.name-item.is (tested ∙ w.if-contains.true) added c.loop-name.invariant)
      | else-contains w ↦
          (let same : new ≡ out = search rules in
          one_gone left names out new _ i m c.loop-name-test.true c.name-item.is (tested ∙ w.if-contains.false) same c.loop-name.invariant)
    ]
