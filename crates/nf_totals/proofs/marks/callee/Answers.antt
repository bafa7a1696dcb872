use Rattle.std.proofs.Common.{ap, map}
use Rattle.nf_ast.specs.View.{view, view_arg}
use Rattle.nf_totals.specs.Marks.{is_call}
use Rattle.nf_totals.proofs.Signed.{other_uncalled}
use Rattle.nf_totals.proofs.marks.callee.Goals as goal

pub returns-in-Call : goal.returns-in-Call
returns-in-Call c = record { place = c.in-Call.field-1; args = map view_arg c.in-Call.field-2.now; is = c.in-Call.ensures }

pub returns-in-Name : goal.returns-in-Name
returns-in-Name c = ap is_call c.in-Name.ensures

pub returns-in-List : goal.returns-in-List
returns-in-List c = ap is_call c.in-List.ensures

pub returns-in-Property : goal.returns-in-Property
returns-in-Property c = ap is_call c.in-Property.ensures

pub returns-in-Index : goal.returns-in-Index
returns-in-Index c = ap is_call c.in-Index.ensures

pub returns-in-With : goal.returns-in-With
returns-in-With c = ap is_call c.in-With.ensures

pub returns-in-Pipe : goal.returns-in-Pipe
returns-in-Pipe c = ap is_call c.in-Pipe.ensures

pub returns-in-Conditional : goal.returns-in-Conditional
returns-in-Conditional c = ap is_call c.in-Conditional.ensures

pub returns-in-Other : goal.returns-in-Other
returns-in-Other c = other_uncalled (view c.args.expr.now) c.in-Other.ensures
