use Rattle.std.proofs.Common.{◌∙◌, ap, refl}
use Rattle.nf_ast.specs.View.{view}
use Rattle.nf_arguments.proofs.Behind.{the_closure}
use Rattle.nf_meaning.specs.Sources.{is_range}
use Rattle.nf_taken.proofs.Shaping.{closure_no_range, range_by}
use Rattle.nf_taken.proofs.Trees.{arg_is, closure_is}
use Rattle.nf_taken.proofs.shapes.range_in.Goals as goal

pub returns-in-Closure : goal.returns-in-Closure
returns-in-Closure c =
    let is = closure_is c.args.arg c.in-Closure.field-0 c.in-Closure.is in
    ap is_range is ∙ closure_no_range _ (the_closure _ c.in-Closure.field-0.now refl).closure

pub returns-in-Range : goal.returns-in-Range
returns-in-Range c =
    let is = arg_is c.args.arg c.in-Arg.arg c.in-Arg.is in
    record { is = is; range = ap is_range is ∙ range_by (view c.in-Arg.arg.now.value) _ c.in-Range.ensures }

pub returns-in-Pattern : goal.returns-in-Pattern
returns-in-Pattern c = ap is_range (arg_is c.args.arg c.in-Arg.arg c.in-Arg.is) ∙ range_by (view c.in-Arg.arg.now.value) _ c.in-Pattern.ensures

pub returns-in-Other : goal.returns-in-Other
returns-in-Other c = ap is_range (arg_is c.args.arg c.in-Arg.arg c.in-Arg.is) ∙ range_by (view c.in-Arg.arg.now.value) _ c.in-Other.ensures
