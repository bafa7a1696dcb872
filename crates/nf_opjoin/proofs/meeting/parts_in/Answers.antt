use Rattle.std.proofs.Common.{◌∙◌}
use Rattle.nf_opjoin.proofs.Listing.{parts_listed}
use Rattle.nf_opjoin.proofs.meeting.parts_in.Goals as goal

pub returns-in-List : goal.returns-in-List
returns-in-List c = c.items.ensures ∙ parts_listed c.args.item.now c.in-List.list c.in-List.is
