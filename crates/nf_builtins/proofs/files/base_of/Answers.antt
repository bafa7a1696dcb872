use Rattle.std.proofs.Common.{◌∙◌, sym, ap}
use Rattle.nf_builtins.specs.Files.{cut_base}
use Rattle.nf_builtins.proofs.Dots.{cut_none, cut_some, base_alone, base_cut}
use Rattle.nf_builtins.proofs.files.base_of.Goals as goal

pub returns-then-is_empty : goal.returns-then-is_empty
returns-then-is_empty c = base_alone c.args.name.now c.in-Some.base.now c.in-Some.field-0-1.now (cut_some c.args.name.now (c.in-Some.base, c.in-Some.field-0-1) c.in-Some.ensures.cases) (sym c.is_empty.ensures ∙ c.if-is_empty.true)

pub returns-else-is_empty : goal.returns-else-is_empty
returns-else-is_empty c = base_cut c.args.name.now c.in-Some.base.now c.in-Some.field-0-1.now (cut_some c.args.name.now (c.in-Some.base, c.in-Some.field-0-1) c.in-Some.ensures.cases) (sym c.is_empty.ensures ∙ c.if-is_empty.false)

pub returns-in-None : goal.returns-in-None
returns-in-None c = sym (ap (cut_base c.args.name.now) (cut_none c.args.name.now c.in-None.ensures.cases))
