use Rattle.std.proofs.Common.{◌∙◌, ap, lit<}
use Rattle.std.proofs.lemmas.Str.Pattern.{strip_suffix_char}
use Rattle.nf_gen.proofs.LastLine.{without_end}
use Rattle.nf_gen.proofs.line.without_end.Goals as goal

pub returns : goal.returns
returns c =
    ap (λ t. t.now) c.unwrap_or.ensures
    ∙ without_end c.args.text c.strip_suffix.result (strip_suffix_char 10 c.args.text.now c.strip_suffix.result c.strip_suffix.ensures.cases (lit< _))
