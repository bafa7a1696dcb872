use Rattle.std.proofs.lemmas.Result.{err_from_is_err_and}
use Rattle.nf_grammar.specs.Gram.{rule}
use Rattle.nf_grammar.proofs.Short.{ret, seq, stop}
use Rattle.nf_ast.specs.Tops.{view_task}
use Rattle.nf_exprs.specs.Rules.{rules}
use Rattle.nf_exprs.proofs.Steps.{lift_fault}
use Rattle.nf_parser.proofs.Stray.{task_goes, task_strays}
use Rattle.nf_exprs.specs.Level as level
use Rattle.nf_exprs.specs.Rules as row
use Rattle.nf_parser.proofs.processes.task_end.Goals as goal

pub returns-in_err-task-clause-parses : goal.returns-in_err-task-clause-parses
unfolding rules
returns-in_err-task-clause-parses c =
    let p = err_from_is_err_and c.from_residual.result c.from_residual.ensures.1 in
    rw (p.1, p.2) (λ f. lift_fault (rule level.Task) (row.task_end f) _ _ c.in_err-task.field-0.0 (λ o s q. stop o s q) (c.in_err-task.ensures.parses))

pub returns-in-Some-clause-parses : goal.returns-in-Some-clause-parses
unfolding rules
returns-in-Some-clause-parses c =
    λ f. task_strays c.args.tokens.now c.in_ok-task.rest.now f (view_task c.in_ok-task.task) c.in_ok-task.task c.in-Some.left c.in-Some.ensures c.in_ok-task.ensures.parses

pub returns-in_err-stub-clause-parses : goal.returns-in_err-stub-clause-parses
unfolding rules
returns-in_err-stub-clause-parses c =
    let p = err_from_is_err_and c.from_residual-in_err-stub.result c.from_residual-in_err-stub.ensures.1 in
    rw (p.1, p.2) (λ f. lift_fault (row.stub_end) (row.task_end f) _ _ c.in_err-stub.field-0.0 (λ o s q. task_goes c.args.tokens.now c.in_ok-task.rest.now f (view_task c.in_ok-task.task) c.in_ok-task.task o c.in_default.ensures c.in_ok-task.ensures.parses (stop o s q)) (c.in_err-stub.ensures.parses))

pub returns-clause-parses : goal.returns-clause-parses
unfolding rules
returns-clause-parses c =
    λ f. task_goes c.args.tokens.now c.in_ok-task.rest.now f (view_task c.in_ok-task.task) c.in_ok-task.task _ c.in_default.ensures c.in_ok-task.ensures.parses (seq c.in_ok-stub.ensures.parses ret)
