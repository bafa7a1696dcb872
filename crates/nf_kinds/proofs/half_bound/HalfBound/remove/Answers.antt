use Rattle.std.proofs.Common.{◌∙◌, sym, ap}
use Rattle.nf_kinds.specs.Scope.{without}
use Rattle.nf_kinds.proofs.NamesLeft.{lacks_removed, only_left, without_left}
use Rattle.nf_kinds.proofs.half_bound.HalfBound.remove.Goals as goal

pub invariant_of-self : goal.invariant_of-self
invariant_of-self c =
    let n = c.args.name.now in
    let lacks = lacks_removed c.self.inside.left c.swap_remove.new.self n c.swap_remove.ensures.updates in
    only_left c.self.inside.left c.swap_remove.new.self c.self.inside.names.items n lacks c.self.invariant

pub returns : goal.returns
returns c =
    let n = c.args.name.now in
    let lacks = lacks_removed c.self.inside.left c.swap_remove.new.self n c.swap_remove.ensures.updates in
    sym (without_left c.self.inside.left c.swap_remove.new.self n lacks c.self.inside.names.items) ∙ ap (without n) c.self.view_is
