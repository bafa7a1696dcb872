use Rattle.std.proofs.Common.{◌∙◌, sym, ap, append-nil, ◌++◌, map}
use Rattle.nf_value.specs.View.{plain_of}
use Rattle.nf_texts.proofs.Parts.{empty_part, filled_part}
use Rattle.nf_texts.proofs.Remaining.{pushed_text}
use Rattle.nf_texts.proofs.tokens.push_part.Goals as goal

pub returns-in_ok-push : goal.returns-in_ok-push
returns-in_ok-push c =
    pushed_text c.args.parts.now.items c.push.new.self.items c.of-text.result c.args.part.now _ c.in_ok-push.ensures.items (c.of-text.ensures ∙ c.in_ok-from_str.ensures.ok) (filled_part c.args.part.now c.utf8.part (sym c.is_empty.ensures ∙ c.if-not-is_empty.true))

pub returns-else-not-is_empty : goal.returns-else-not-is_empty
returns-else-not-is_empty c = sym (ap (λ l. map plain_of c.args.parts.now.items ++ l) (empty_part c.args.part.now (sym c.is_empty.ensures ∙ c.if-not-is_empty.false)) ∙ append-nil (map plain_of c.args.parts.now.items))
