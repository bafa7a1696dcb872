use Rattle.std.proofs.Common.{◌-◌, length, drop, ap, ◌∙◌, List, subst}
use Rattle.nf_token.specs.declared.token.Lexeme.{Lexeme}
use Rattle.nf_grammar.specs.Gram.{rule}
use Rattle.nf_grammar.specs.Outcome.{got}
use Rattle.nf_ast.specs.View.{view}
use Rattle.nf_exprs.specs.Level.{Expr}
use Rattle.nf_exprs.specs.Parses.{Outcome}
use Rattle.nf_exprs.specs.Spells.{first_place}
use Rattle.nf_exprs.proofs.Rests.{moved, unexpected_le, too_deep_le, unexpected_at, too_deep_at, spelled}
use Rattle.nf_exprs.proofs.reading.expr.Goals as goal

pub place_at-requires : goal.place_at-requires
place_at-requires c = unexpected_le c.items-items.result.now c.args.at c.in-Err-Unexpected.left (moved _ _ _ _ c.from.ensures c.in-Err-Unexpected.field-0-is c.in-Err-Unexpected.ensures.parses)

pub place_at-requires-in-Err-TooDeep : goal.place_at-requires-in-Err-TooDeep
place_at-requires-in-Err-TooDeep c = too_deep_le c.items-items.result.now c.args.at c.in-Err-TooDeep.left (moved _ _ _ _ c.from.ensures c.in-Err-TooDeep.field-0-is c.in-Err-TooDeep.ensures.parses)

pub returns-in-Ok-clause-spelled : goal.returns-in-Ok-clause-spelled
returns-in-Ok-clause-spelled c =
    let items = c.items-items.ensures in
    let rest = c.in-Ok.rest.now in
    spelled c.args.tokens.now.0 c.args.at c.number_at-next.result (view c.in-Ok.expr) rest
    (c.number_at-next.ensures ∙ ap (λ (l : List Lexeme). length l - length rest) items)
    (subst (λ (l : List Lexeme). Outcome (rule (Expr 0 0)) l (got (view c.in-Ok.expr) rest (length rest))) (c.from.ensures ∙ ap (drop c.args.at) items) c.in-Ok.ensures.parses)

pub returns-in-Err-Unexpected-clause-refused : goal.returns-in-Err-Unexpected-clause-refused
returns-in-Err-Unexpected-clause-refused c =
    let items = c.items-items.ensures in
    let left = c.in-Err-Unexpected.left in
    unexpected_at c.args.tokens.now.0 c.args.at left c.args.tokens.now.1 c.place_at.result
    (c.place_at.ensures ∙ (λ i. first_place (c.end.ensures i) (drop (length (items i) - left) (items i))))
    (moved _ _ _ _ (c.from.ensures ∙ ap (drop c.args.at) items) c.in-Err-Unexpected.field-0-is c.in-Err-Unexpected.ensures.parses)

pub returns-in-Err-TooDeep-clause-refused : goal.returns-in-Err-TooDeep-clause-refused
returns-in-Err-TooDeep-clause-refused c =
    let items = c.items-items.ensures in
    let left = c.in-Err-TooDeep.left in
    too_deep_at c.args.tokens.now.0 c.args.at left c.args.tokens.now.1 c.place_at-in-Err-TooDeep.result
    (c.place_at-in-Err-TooDeep.ensures ∙ (λ i. first_place (c.end-in-Err-TooDeep.ensures i) (drop (length (items i) - left) (items i))))
    (moved _ _ _ _ (c.from.ensures ∙ ap (drop c.args.at) items) c.in-Err-TooDeep.field-0-is c.in-Err-TooDeep.ensures.parses)
