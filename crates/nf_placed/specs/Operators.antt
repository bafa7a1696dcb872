-- The values of operators, given the values of their operands.
use Rattle.std.specs.Prelude.{not, Ok, Err}
use Rattle.nf_value.specs.Plain.{Plain, truth}
use Rattle.nf_value.specs.Truth.{truth_of}
use Rattle.nf_value.specs.declared.fault.EvalKind.TheVariants.{WrongKind}
use Rattle.nf_texts.specs.Outcome.{Outcome}
use Rattle.nf_ast.specs.declared.operators.InfixOperator.{InfixOperator}
use Rattle.nf_ast.specs.declared.operators.InfixOperator.TheVariants as infix_operator
use Rattle.nf_ast.specs.declared.operators.PrefixOperator.{PrefixOperator}
use Rattle.nf_ast.specs.declared.operators.PrefixOperator.TheVariants as before
use Rattle.nf_infix.specs.Sum.{plus, minus}
use Rattle.nf_infix.specs.Product.{times, remainder, negative}
use Rattle.nf_infix.specs.Compare.{less, at_most, greater, at_least, same, differs, is_in}
use Rattle.nf_infix.specs.Range.{range}

-- an infix operator on the values of both operands. Four have no value here: `||` and `&&` may not need their second operand, `==~` wants a pattern, and
-- `|` belongs to workflows
abbrev pub infix_of : InfixOperator → Plain → Plain → Outcome
infix_of infix_operator.Or v w = Err WrongKind
infix_of infix_operator.And v w = Err WrongKind
infix_of infix_operator.Pipe v w = Err WrongKind
infix_of infix_operator.Matches v w = Err WrongKind
infix_of infix_operator.Same v w = same v w
infix_of infix_operator.Differs v w = differs v w
infix_of infix_operator.Less v w = less v w
infix_of infix_operator.AtMost v w = at_most v w
infix_of infix_operator.Greater v w = greater v w
infix_of infix_operator.AtLeast v w = at_least v w
infix_of infix_operator.In v w = is_in v w
infix_of infix_operator.Range v w = range v w
infix_of infix_operator.Plus v w = plus v w
infix_of infix_operator.Minus v w = minus v w
infix_of infix_operator.Times v w = times v w
infix_of infix_operator.Remainder v w = remainder v w

-- a prefix operator
abbrev pub prefix_of : PrefixOperator → Plain → Outcome
prefix_of before.Not v = Ok (truth (not (truth_of v)))
prefix_of before.Minus v = negative v
