use Rattle.std.proofs.Common.{◌≡◌, ◌∙◌, ap, arith}
use Rattle.std.specs.Prelude.{is_some}
use Rattle.nf_arguments.proofs.Splits.{one_if, unnamed_is}
use Rattle.nf_arguments.proofs.args.Args.unnamed.Goals as goal

pub returns : goal.returns
returns c bags ys h =
    let x = c.args.self.now in
    let all = unnamed_is bags x ys h in
    let before : c.count_if.result ≡ one_if (is_some x.before) = c.count_if.ensures ∙ ap one_if c.is_some.ensures in
    let closure : c.count_if-2.result ≡ one_if (is_some x.closure) = c.count_if-2.ensures ∙ ap one_if c.is_some-2.ensures in
    omega (arith, all, c.unnamed_in.ensures.count, c.unnamed_in-2.ensures.count, before, closure)
