use Rattle.std.proofs.Common.{sym, ap}
use Rattle.nf_fronts.specs.Fronts.{tree_of}
use Rattle.nf_totals.specs.Marks.{property_in}
use Rattle.nf_totals.proofs.Signed.{other_unnamed}
use Rattle.nf_totals.proofs.marks.member_name.Goals as goal

pub returns-in-Property : goal.returns-in-Property
returns-in-Property c = sym (ap property_in c.in-Property.ensures)

pub returns-in-Name : goal.returns-in-Name
returns-in-Name c = sym (ap property_in c.in-Name.ensures)

pub returns-in-List : goal.returns-in-List
returns-in-List c = sym (ap property_in c.in-List.ensures)

pub returns-in-Index : goal.returns-in-Index
returns-in-Index c = sym (ap property_in c.in-Index.ensures)

pub returns-in-Call : goal.returns-in-Call
returns-in-Call c = sym (ap property_in c.in-Call.ensures)

pub returns-in-With : goal.returns-in-With
returns-in-With c = sym (ap property_in c.in-With.ensures)

pub returns-in-Pipe : goal.returns-in-Pipe
returns-in-Pipe c = sym (ap property_in c.in-Pipe.ensures)

pub returns-in-Conditional : goal.returns-in-Conditional
returns-in-Conditional c = sym (ap property_in c.in-Conditional.ensures)

pub returns-in-Other : goal.returns-in-Other
returns-in-Other c = sym (other_unnamed (tree_of c.args.front) c.in-Other.ensures)
