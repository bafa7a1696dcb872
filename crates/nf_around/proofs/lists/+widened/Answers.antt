use Rattle.std.proofs.Common.{◌∙◌, ap, sym, arith}
use Rattle.nf_value.specs.Plain.{list, nodes, plains_of}
use Rattle.nf_value.specs.View.{plain_of}
use Rattle.nf_codec.proofs.Falls.{item_falls}
use Rattle.nf_meaning.specs.Things.{widened}
use Rattle.nf_around.proofs.Wide.{all_wide}
use Rattle.nf_around.proofs.lists.+widened.Goals as goal

pub all_widened-widened-requires : goal.all_widened-widened-requires
all_widened-widened-requires t c = (omega (arith, c.decreases, item_falls c.items-item-items.result.now c.args.list.now c.loop-item.item-index c.item-item.result c.items-item-items.ensures c.loop-item-test.true c.item-item.is), tt)

pub widened-all_widened-requires : goal.widened-all_widened-requires
widened-all_widened-requires t c = (let is = ap (λ v. nodes (plain_of v)) c.in-List.is in omega (arith, c.decreases, is), tt)

pub widened-returns-in_ok-all_widened-in-List : goal.widened-returns-in_ok-all_widened-in-List
widened-returns-in_ok-all_widened-in-List t c =
    ap (λ vs. list (plains_of vs)) (c.of.ensures ∙ c.in_ok-all_widened-in-List.ensures) ∙ ap list (sym (all_wide c.in-List.list)) ∙ sym (ap (λ v. widened (plain_of v)) c.in-List.is)
