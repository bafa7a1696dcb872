use Rattle.std.proofs.Common.{◌≡◌, Err, rules}
use Rattle.nf_meaning.specs.Sizes.{counted}
use Rattle.nf_walked.specs.Forms.{nothing}
use Rattle.nf_walked.proofs.Joins.{fails_first, then_due}
use Rattle.nf_calling.proofs.Lasting.{after_now, still_counted}
use Rattle.nf_calling.proofs.begins.begin_process.Goals as goal

pub returns-in_err-begin_call-clause-walk : goal.returns-in_err-begin_call-clause-walk
returns-in_err-begin_call-clause-walk g c =
    let e = c.in_err-begin_call.field-0.0 in
    let err : c.from_residual.result ≡ Err e = search rules in
    rw err (fails_first nothing (λ y. counted c.args.place c.args.ports) c.requires.before c.in_err-begin_call.ensures.process)

pub returns-clause-walk : goal.returns-clause-walk
returns-clause-walk g c = then_due c.requires.before c.in_ok-begin_call.ensures.process c.count.ensures.walk

pub returns-clause-begun : goal.returns-clause-begun
returns-clause-begun g c =
    still_counted c.paths_stay_apart.ensures.more c.paths_stay_apart.ensures.still c.args.name.now c.begin_call.new.state c.count.new.state c.count.result c.count.ensures.walk.goes c.in_ok-begin_call.ensures.begun

pub returns-clause-after : goal.returns-clause-after
returns-clause-after g c =
    after_now c.rooms_last.ensures.same c.args.name.now c.args.ports c.args.state.now c.begin_call.new.state c.count.new.state c.count.result c.requires.new c.in_ok-begin_call.ensures.plan c.count.ensures.grows
