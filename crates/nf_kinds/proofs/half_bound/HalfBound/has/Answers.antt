use Rattle.std.proofs.Common.{◌∙◌, sym, ap}
use Rattle.nf_kinds.specs.Scope.{is_named}
use Rattle.nf_kinds.proofs.NamesLeft.{left_named}
use Rattle.nf_kinds.proofs.half_bound.HalfBound.has.Goals as goal

pub returns : goal.returns
returns c =
    let n = c.args.name.now in
    c.contains.ensures ∙ sym (left_named c.self.inside.left c.self.inside.names.items n c.self.invariant) ∙ ap (is_named n) c.self.view_is
