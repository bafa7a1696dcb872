use Rattle.std.proofs.Common.{◌++◌, ap, sym, ◌∙◌, option_copied, arith}
use Rattle.std.proofs.lemmas.Str.Pattern.{strip_prefix_char}
use Rattle.nf_host.proofs.Paths.{no_front, nonempty, slashed}
use Rattle.nf_host.proofs.folder.name_in.Goals as goal

pub returns-in_err-strip_prefix : goal.returns-in_err-strip_prefix
returns-in_err-strip_prefix c =
    ap option_copied c.from_residual.ensures ∙ no_front c.args.dir.now c.args.path.now (nonempty c.args.dir.now c.is_empty.result c.if-is_empty.false c.is_empty.ensures) (λ rest. c.in_err-strip_prefix.ensures.cases rest)

pub returns : goal.returns
returns c =
    let found = c.in_ok-strip_prefix.ensures.cases in
    slashed c.args.dir.now c.args.path.now c.in_ok-strip_prefix.field-0.now c.strip_prefix-2.result (nonempty c.args.dir.now c.is_empty.result c.if-is_empty.false c.is_empty.ensures)
    (found.1.1 ∙ ap (λ v. c.args.dir.now ++ v) (sym found.2))
    (strip_prefix_char 47 c.in_ok-strip_prefix.field-0.now c.strip_prefix-2.result c.strip_prefix-2.ensures.cases (omega arith))
