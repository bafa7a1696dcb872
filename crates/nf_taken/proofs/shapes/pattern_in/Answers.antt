use Rattle.std.proofs.Common.{◌∙◌, ap, refl}
use Rattle.nf_ast.specs.View.{view}
use Rattle.nf_arguments.proofs.Behind.{the_closure}
use Rattle.nf_taken.specs.Shapes.{is_pattern}
use Rattle.nf_taken.proofs.Shaping.{closure_no_pattern, is_no_pattern, pattern_is}
use Rattle.nf_taken.proofs.Trees.{arg_is, closure_is}
use Rattle.nf_taken.proofs.shapes.pattern_in.Goals as goal

pub returns-in-Closure : goal.returns-in-Closure
returns-in-Closure c =
    let is = closure_is c.args.arg c.in-Closure.field-0 c.in-Closure.is in
    ap is_pattern is ∙ closure_no_pattern _ (the_closure _ c.in-Closure.field-0.now refl).closure

pub returns-in-Pattern : goal.returns-in-Pattern
returns-in-Pattern c = arg_is c.args.arg c.in-Arg.arg c.in-Arg.is ∙ pattern_is (view c.in-Arg.arg.now.value) c.in-Pattern.place c.in-Pattern.text.now c.in-Pattern.ensures

pub returns-in-Range : goal.returns-in-Range
returns-in-Range c = ap is_pattern (arg_is c.args.arg c.in-Arg.arg c.in-Arg.is) ∙ is_no_pattern (view c.in-Arg.arg.now.value) _ c.in-Range.ensures refl

pub returns-in-Other : goal.returns-in-Other
returns-in-Other c = ap is_pattern (arg_is c.args.arg c.in-Arg.arg c.in-Arg.is) ∙ is_no_pattern (view c.in-Arg.arg.now.value) _ c.in-Other.ensures refl
