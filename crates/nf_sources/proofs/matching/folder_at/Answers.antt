use Rattle.std.proofs.Common.{◌∙◌, sym}
use Rattle.nf_sources.proofs.Slashes.{folder_none, folder_root, folder_front}
use Rattle.nf_sources.proofs.matching.folder_at.Goals as goal

pub returns-in-None : goal.returns-in-None
returns-in-None c = folder_none c.args.path.now c.in-None.ensures.cases

pub returns-then-is_empty : goal.returns-then-is_empty
returns-then-is_empty c = folder_root c.args.path.now (c.in-Some.front, c.in-Some.field-0-1) c.in-Some.ensures.cases (sym c.is_empty.ensures ∙ c.if-is_empty.true)

pub returns-else-is_empty : goal.returns-else-is_empty
returns-else-is_empty c = folder_front c.args.path.now (c.in-Some.front, c.in-Some.field-0-1) c.in-Some.ensures.cases (sym c.is_empty.ensures ∙ c.if-is_empty.false)
