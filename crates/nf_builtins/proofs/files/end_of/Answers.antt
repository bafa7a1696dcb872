use Rattle.std.proofs.Common.{◌∙◌, sym, ap}
use Rattle.nf_builtins.specs.Files.{cut_end}
use Rattle.nf_builtins.proofs.Dots.{cut_none, cut_some, end_alone, end_cut}
use Rattle.nf_builtins.proofs.files.end_of.Goals as goal

pub returns-then-is_empty : goal.returns-then-is_empty
returns-then-is_empty c = end_alone c.args.name.now c.in-Some.base.now c.in-Some.extension.now (cut_some c.args.name.now (c.in-Some.base, c.in-Some.extension) c.in-Some.ensures.cases) (sym c.is_empty.ensures ∙ c.if-is_empty.true)

pub returns-else-is_empty : goal.returns-else-is_empty
returns-else-is_empty c = end_cut c.args.name.now c.in-Some.base.now c.in-Some.extension.now (cut_some c.args.name.now (c.in-Some.base, c.in-Some.extension) c.in-Some.ensures.cases) (sym c.is_empty.ensures ∙ c.if-is_empty.false)

pub returns-in-None : goal.returns-in-None
returns-in-None c = sym (ap (cut_end) (cut_none c.args.name.now c.in-None.ensures.cases))
