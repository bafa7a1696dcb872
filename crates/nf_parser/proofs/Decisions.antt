-- Each rule's choices: where two arms could go on, they can't both.
use Rattle.std.proofs.Common.{refl}
use Rattle.nf_exprs.specs.Level.{Level, Expr, Operands, Pre, Post, Prim, Args, Arg, Pair, Closure, Body, Stmt, Choice, Script, Top, Process, Directive, Input, Inputs, Output, Outputs, Task, Workflow, Parts, Function}
use Rattle.nf_exprs.specs.Rules.{rules}
use Rattle.nf_parser.proofs.Det.{Det, follow, det_token, det_gives, seq_det, rule_det, commas_det}
use Rattle.nf_parser.proofs.Choices.{or_more_det, operand_det, after_det, pre_det, post_det, prim_det, arg_det, key_det}
use Rattle.nf_parser.proofs.Statements.{closure_det, body_det, statement_det, choice_det}
use Rattle.nf_parser.proofs.Headings.{script_det, top_det, process_det, directive_det, input_det, inputs_det, output_det, outputs_det, task_det, workflow_det, parts_det, function_det}

pub det_rules : (l : Level) → Det (follow l) (rules l)
unfolding rules
det_rules (Expr d n) = seq_det (rule_det (λ ts. refl)) (λ a. or_more_det d n a)
det_rules (Operands d b) = seq_det (operand_det d b) (λ a. after_det d b a)
det_rules (Pre d n) = pre_det d n
det_rules (Post d) = seq_det (rule_det (λ ts. refl)) (λ a. post_det d a)
det_rules (Prim d) = prim_det d
det_rules (Args d) = commas_det (rule_det (λ ts. refl))
det_rules (Arg d) = arg_det d
det_rules (Pair d) = seq_det key_det (λ n. seq_det det_token (λ c. seq_det (rule_det (λ ts. refl)) (λ x. det_gives)))
det_rules (Closure d p) = closure_det d p
det_rules (Body d) = body_det d
det_rules (Stmt d) = statement_det d
det_rules (Choice d n) = choice_det d n
det_rules Script = script_det
det_rules Top = top_det
det_rules Process = process_det
det_rules Directive = directive_det
det_rules Input = input_det
det_rules Inputs = inputs_det
det_rules Output = output_det
det_rules Outputs = outputs_det
det_rules Task = task_det
det_rules Workflow = workflow_det
det_rules Parts = parts_det
det_rules Function = function_det
