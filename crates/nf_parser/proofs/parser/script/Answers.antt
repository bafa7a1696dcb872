use Rattle.std.proofs.Common.{length, sym, ◌∙◌, ◌-◌, drop}
use Rattle.nf_exprs.specs.Spells.{first_place}
use Rattle.nf_parser.proofs.Whole.{stops_of, sinks_of, stops_le, sinks_le, unexpected_at, too_deep_at}
use Rattle.nf_parser.proofs.parser.script.Goals as goal

pub place_at-requires : goal.place_at-requires
place_at-requires c =
    stops_le _ _ (stops_of c.items.result.now c.items-in-Err-Unexpected.result.now c.in-Err-Unexpected.field-0 c.in-Err-Unexpected.left (c.items.ensures ∙ sym c.items-in-Err-Unexpected.ensures) c.in-Err-Unexpected.field-0-is c.in-Err-Unexpected.ensures)

pub returns-in-Err-Unexpected-clause-refused : goal.returns-in-Err-Unexpected-clause-refused
returns-in-Err-Unexpected-clause-refused c =
    let items = c.items-in-Err-Unexpected.ensures in
    let left = c.in-Err-Unexpected.left in
    unexpected_at c.args.tokens.now.0 c.args.tokens.now.1 c.place_at.result left
    (c.place_at.ensures ∙ (λ i. first_place (c.end.ensures i) (drop (length (items i) - left) (items i))))
    (stops_of c.items.result.now c.args.tokens.now.0 c.in-Err-Unexpected.field-0 left c.items.ensures c.in-Err-Unexpected.field-0-is c.in-Err-Unexpected.ensures)

pub place_at-requires-in-Err-TooDeep : goal.place_at-requires-in-Err-TooDeep
place_at-requires-in-Err-TooDeep c =
    sinks_le _ _ (sinks_of c.items.result.now c.items-in-Err-TooDeep.result.now c.in-Err-TooDeep.field-0 c.in-Err-TooDeep.left (c.items.ensures ∙ sym c.items-in-Err-TooDeep.ensures) c.in-Err-TooDeep.field-0-is c.in-Err-TooDeep.ensures)

pub returns-in-Err-TooDeep-clause-refused : goal.returns-in-Err-TooDeep-clause-refused
returns-in-Err-TooDeep-clause-refused c =
    let items = c.items-in-Err-TooDeep.ensures in
    let left = c.in-Err-TooDeep.left in
    too_deep_at c.args.tokens.now.0 c.args.tokens.now.1 c.place_at-in-Err-TooDeep.result left
    (c.place_at-in-Err-TooDeep.ensures ∙ (λ i. first_place (c.end-in-Err-TooDeep.ensures i) (drop (length (items i) - left) (items i))))
    (sinks_of c.items.result.now c.args.tokens.now.0 c.in-Err-TooDeep.field-0 left c.items.ensures c.in-Err-TooDeep.field-0-is c.in-Err-TooDeep.ensures)
