use Rattle.std.proofs.Common.{◌≡◌, Err, rules}
use Rattle.nf_ast.specs.Tops.{view_process}
use Rattle.std.proofs.Common.{length}
use Rattle.nf_meaning.specs.Calls.{again_fault, arity_fault}
use Rattle.nf_meaning.specs.Processes.{inputs_of}
use Rattle.nf_plan.specs.Runs.{bags_of}
use Rattle.nf_calling.proofs.Checking.{first_fault, same_arity, then_fault}
use Rattle.nf_calling.proofs.checks.check_process.Goals as goal

pub returns-in_err-check_new-clause-fault : goal.returns-in_err-check_new-clause-fault
returns-in_err-check_new-clause-fault c braces x s ys stands are =
    let e = c.in_err-check_new.field-0.0 in
    let p = c.args.place in
    let n = c.args.name.now in
    let err : c.from_residual.result ≡ Err e = search rules in
    rw err (first_fault (again_fault p n s.scope) (arity_fault p (length ys) (length (inputs_of (view_process c.args.process.now)))) e (c.in_err-check_new.ensures.fault braces x s stands))

pub returns-clause-fault : goal.returns-clause-fault
returns-clause-fault c braces x s ys stands are =
    let p = c.args.place in
    let n = c.args.name.now in
    let k = length (inputs_of (view_process c.args.process.now)) in
    then_fault (again_fault p n s.scope) (arity_fault p (length ys) k) tt c.check_count.result (c.in_ok-check_new.ensures.fault braces x s stands)
    (same_arity p c.arg_count.result (length ys) c.input_count.result k c.check_count.result (c.arg_count.ensures.are (bags_of x c.args.state.now.plan) ys are) c.input_count.ensures c.check_count.ensures)
