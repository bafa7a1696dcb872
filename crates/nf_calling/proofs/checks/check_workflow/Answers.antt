use Rattle.std.proofs.Common.{◌≡◌, Err, length, rules}
use Rattle.nf_ast.specs.Tops.{view_workflow}
use Rattle.nf_meaning.specs.Calls.{again_fault, arity_fault, cycle_fault, take_of}
use Rattle.nf_meaning.specs.Lowered.{or_else}
use Rattle.nf_plan.specs.Runs.{bags_of}
use Rattle.nf_calling.proofs.Checking.{first_fault, same_arity, then_fault}
use Rattle.nf_calling.proofs.checks.check_workflow.Goals as goal

pub returns-in_err-check_new-clause-fault : goal.returns-in_err-check_new-clause-fault
returns-in_err-check_new-clause-fault c braces x s ys stands are =
    let e = c.in_err-check_new.field-0.0 in
    let p = c.args.place in
    let n = c.args.name.now in
    let k = length (take_of (view_workflow c.args.workflow.now)) in
    let err : c.from_residual.result ≡ Err e = search rules in
    rw err (first_fault (again_fault p n s.scope) (or_else (cycle_fault p n s.scope) (arity_fault p (length ys) k)) e (c.in_err-check_new.ensures.fault braces x s stands))

pub returns-in_err-check_cycle-clause-fault : goal.returns-in_err-check_cycle-clause-fault
returns-in_err-check_cycle-clause-fault c braces x s ys stands are =
    let e = c.in_err-check_cycle.field-0.0 in
    let p = c.args.place in
    let n = c.args.name.now in
    let k = length (take_of (view_workflow c.args.workflow.now)) in
    let err : c.from_residual-in_err-check_cycle.result ≡ Err e = search rules in
    rw err (then_fault (again_fault p n s.scope) (or_else (cycle_fault p n s.scope) (arity_fault p (length ys) k)) tt (Err e) (c.in_ok-check_new.ensures.fault braces x s stands)
    (first_fault (cycle_fault p n s.scope) (arity_fault p (length ys) k) e (c.in_err-check_cycle.ensures braces x s stands)))

pub returns-clause-fault : goal.returns-clause-fault
returns-clause-fault c braces x s ys stands are =
    let p = c.args.place in
    let n = c.args.name.now in
    let k = length (take_of (view_workflow c.args.workflow.now)) in
    then_fault (again_fault p n s.scope) (or_else (cycle_fault p n s.scope) (arity_fault p (length ys) k)) tt c.check_count.result (c.in_ok-check_new.ensures.fault braces x s stands)
    (then_fault (cycle_fault p n s.scope) (arity_fault p (length ys) k) tt c.check_count.result (c.in_ok-check_cycle.ensures braces x s stands)
    (same_arity p c.arg_count.result (length ys) c.take_count.result k c.check_count.result (c.arg_count.ensures.are (bags_of x c.args.state.now.plan) ys are) c.take_count.ensures c.check_count.ensures))
