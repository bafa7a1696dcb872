use Rattle.std.specs.Prelude.{codes}
use Rattle.std.proofs.lemmas.Result.{err_from_is_err_and}
use Rattle.nf_grammar.specs.Gram.{rule}
use Rattle.nf_grammar.proofs.Short.{seq, stop}
use Rattle.nf_ast.specs.Tops.{maybe, view_inputs, view_outputs}
use Rattle.nf_exprs.specs.Rules.{rules}
use Rattle.nf_exprs.proofs.Steps.{lift_fault}
use Rattle.nf_ast.specs.Tree as tree
use Rattle.nf_exprs.specs.Level as level
use Rattle.nf_exprs.specs.Rules as row
use Rattle.nf_parser.proofs.processes.after_directives.Goals as goal

pub returns-in_err-first-clause-parses : goal.returns-in_err-first-clause-parses
unfolding rules
returns-in_err-first-clause-parses c =
    let e = err_from_is_err_and c.from_residual.result c.from_residual.ensures.1 in
    rw (e.1, e.2) (λ p n ds. lift_fault (row.maybe_section (codes "input") (rule level.Inputs)) (row.sections p n ds) _ _ c.in_err-first.field-0.0 (λ o s q. stop o s q) (c.in_err-first.ensures.parses))

pub returns-in_err-outputs-clause-parses : goal.returns-in_err-outputs-clause-parses
unfolding rules
returns-in_err-outputs-clause-parses c =
    let e = err_from_is_err_and c.from_residual-in_err-outputs.result c.from_residual-in_err-outputs.ensures.1 in
    rw (e.1, e.2) (λ p n ds. lift_fault (row.maybe_section (codes "output") (rule level.Outputs)) (row.sections p n ds) _ _ c.in_err-outputs.field-0.0 (λ o s q. seq c.in_ok-first.ensures.parses (stop o s q)) (c.in_err-outputs.ensures.parses))

pub returns-in_err-inputs-clause-parses : goal.returns-in_err-inputs-clause-parses
unfolding rules
returns-in_err-inputs-clause-parses c =
    let e = err_from_is_err_and c.from_residual-in_err-inputs.result c.from_residual-in_err-inputs.ensures.1 in
    rw (e.1, e.2) (λ p n ds. lift_fault (row.second_inputs (maybe view_inputs c.in_ok-first.first)) (row.sections p n ds) _ _ c.in_err-inputs.field-0.0 (λ o s q. seq c.in_ok-first.ensures.parses (seq c.in_ok-outputs.ensures.parses (stop o s q))) (c.in_err-inputs.ensures.parses))

pub returns-in_err-task-clause-parses : goal.returns-in_err-task-clause-parses
unfolding rules
returns-in_err-task-clause-parses c =
    let e = err_from_is_err_and c.from_residual-in_err-task.result c.from_residual-in_err-task.ensures.1 in
    rw (e.1, e.2) (λ p n ds. lift_fault (row.task_end (tree.process p n ds (maybe view_inputs c.in_ok-inputs.inputs) (maybe view_outputs c.in_ok-outputs.outputs))) (row.sections p n ds) _ _ c.in_err-task.field-0.0 (λ o s q. seq c.in_ok-first.ensures.parses (seq c.in_ok-outputs.ensures.parses (seq c.in_ok-inputs.ensures.parses (q)))) (c.in_err-task.ensures.parses (tree.process p n ds (maybe view_inputs c.in_ok-inputs.inputs) (maybe view_outputs c.in_ok-outputs.outputs))))

pub returns-clause-parses : goal.returns-clause-parses
unfolding rules
returns-clause-parses c =
    λ p n ds. seq c.in_ok-first.ensures.parses (seq c.in_ok-outputs.ensures.parses (seq c.in_ok-inputs.ensures.parses (c.in_ok-task.ensures.parses (tree.process p n ds (maybe view_inputs c.in_ok-inputs.inputs) (maybe view_outputs c.in_ok-outputs.outputs)))))
