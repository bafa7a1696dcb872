use Rattle.nf_opclose.proofs.Parts.{listed}
use Rattle.nf_opclose.proofs.emits.put_items.Goals as goal

pub returns-in_ok-append-in-List : goal.returns-in_ok-append-in-List
returns-in_ok-append-in-List c = listed c.append.new.self.items c.args.parts.now.items c.into_items-items.result.items c.in-List.list c.args.value c.in_ok-append-in-List.ensures.items c.into_items-items.ensures c.in-List.is
