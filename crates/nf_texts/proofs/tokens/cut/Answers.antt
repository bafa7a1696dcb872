use Rattle.std.proofs.Common.{rules}
use Rattle.std.proofs.lemmas.Fn.{always_returns_same}
use Rattle.std.specs.Str.{chars}
use Rattle.nf_texts.specs.Texts.{is_one_of}
use Rattle.nf_texts.proofs.Cutting.{cut_parts_by, cut_shorter_by}
use Rattle.nf_texts.proofs.tokens.cut.Goals as goal

pub returns-clause-parts : goal.returns-clause-parts
returns-clause-parts c = cut_parts_by _ (is_one_of (chars c.args.separators.now)) c.args.text.now c.split_once.result (always_returns_same _ _ _ (λ a r g h. search rules)) c.utf8.text c.split_once.ensures.cases

pub returns-clause-shorter : goal.returns-clause-shorter
returns-clause-shorter c = cut_shorter_by _ (is_one_of (chars c.args.separators.now)) c.args.text.now c.split_once.result (always_returns_same _ _ _ (λ a r g h. search rules)) c.split_once.ensures.cases
