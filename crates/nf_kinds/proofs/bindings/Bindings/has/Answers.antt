use Rattle.std.proofs.Common.{◌∙◌, sym, ap, is_some}
use Rattle.nf_kinds.specs.Scope.{is_bound}
use Rattle.nf_kinds.proofs.Latest.{bound_is}
use Rattle.nf_kinds.proofs.bindings.Bindings.has.Goals as goal

pub returns : goal.returns
returns c =
    let n = c.args.name.now in
    c.contains_key.ensures ∙ ap is_some (c.self.invariant n) ∙ sym (bound_is n _) ∙ ap (is_bound n) c.self.view_is
