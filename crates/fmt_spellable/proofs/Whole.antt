-- Every tree that a rule makes of fit tokens has the shape of that rule, and its names, numbers and strings fit.
use Rattle.std.proofs.Common.{ℕ, List, arith}
use Rattle.nf_token.specs.declared.token.Lexeme.{Lexeme}
use Rattle.nf_grammar.specs.Gram.{rule}
use Rattle.nf_grammar.specs.Reads.{Reads}
use Rattle.nf_ast.specs.Tree.{Tree}
use Rattle.nf_exprs.specs.Level.{Level, Expr, Operands, Pre, Post, Prim, Args, Arg, Pair, Closure, Body, Stmt, Choice, Script, Top, Process, Directive, Input, Inputs, Output, Outputs, Task, Workflow, Parts, Function}
use Rattle.nf_exprs.specs.Rules.{rules}
use Rattle.fmt_spellable.specs.Fit.{AreFit}
use Rattle.fmt_spellable.specs.Made.{Made, sort_of}
use Rattle.fmt_spellable.proofs.Holds.{height, holds_rule}
use Rattle.fmt_spellable.proofs.Steps.{Good}
use Rattle.fmt_spellable.proofs.Exprs.{expr_row, operands_row, pre_row, post_row, prim_good, args_row, arg_good, pair_good, closure_good, body_row, stmt_row, choice_row}
use Rattle.fmt_spellable.proofs.Tops.{directive_row, input_row, inputs_row, output_row, outputs_row, task_row, process_row, parts_row, workflow_row, function_row, top_row, script_row}

rows : (n : ℕ) → ((l : Level) → Good n (rule l) (Made (sort_of l))) → (l : Level) → Good n (rules l) (Made (sort_of l))
rows n ih (Expr d k) = expr_row ih d k
rows n ih (Operands d b) = operands_row ih d b
rows n ih (Pre d k) = pre_row ih d k
rows n ih (Post d) = post_row ih d
rows n ih (Prim d) = prim_good ih d
rows n ih (Args d) = args_row ih d
rows n ih (Arg d) = arg_good ih d
rows n ih (Pair d) = pair_good ih d
rows n ih (Closure d p) = closure_good ih d p
rows n ih (Body d) = body_row ih d
rows n ih (Stmt d) = stmt_row ih d
rows n ih (Choice d k) = choice_row ih d k
rows n ih Script = script_row ih
rows n ih Top = top_row ih
rows n ih Process = process_row ih
rows n ih Directive = directive_row ih
rows n ih Input = input_row ih
rows n ih Inputs = inputs_row ih
rows n ih Output = output_row ih
rows n ih Outputs = outputs_row ih
rows n ih Task = task_row ih
rows n ih Workflow = workflow_row ih
rows n ih Parts = parts_row ih
rows n ih Function = function_row ih

pub spelled_is_made : (l : Level) (ts : List Lexeme) (v : Tree) (r : List Lexeme) → Reads rules (rule l) ts v r → AreFit ts → Made (sort_of l) v
spelled_is_made l ts v r x f = ((holds_rule rows (height x) l).holds ts v r x (omega arith) f).0
