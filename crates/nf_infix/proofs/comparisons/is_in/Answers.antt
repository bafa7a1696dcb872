use Rattle.std.proofs.Common.{Ok}
use Rattle.nf_value.specs.Plain.{truth}
use Rattle.nf_value.specs.View.{plain_of}
use Rattle.nf_infix.specs.Compare.{in_items}
use Rattle.nf_infix.proofs.Members.{list_gives, truth_gives}
use Rattle.nf_infix.proofs.comparisons.is_in.Goals as goal

pub returns-in-List : goal.returns-in-List
returns-in-List c = rw c.in-List.is (list_gives c.in-List.list (λ ws. Ok (truth (in_items (plain_of c.args.item.now) ws))) c.judged.result (truth_gives c.has_item.result _ c.judged.result c.has_item.ensures c.judged.ensures))
