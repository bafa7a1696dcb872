use Rattle.std.proofs.Common.{subst, arith}
use Rattle.nf_host.specs.Faults.{Rose}
use Rattle.nf_tasks.specs.Memory.{program}
use Rattle.nf_cli.specs.Calls.{IsWorkAsked}
use Rattle.nf_cli.proofs.Working.{asked_blames, asked_names, asked_wish, refusal_is_one, work_answers}
use Rattle.nf_cli.proofs.top.duty_of.Goals as goal

pub duty_asked-requires-clause-names : goal.duty_asked-requires-clause-names
duty_asked-requires-clause-names g c =
    let it = c.in-Ok.ensures.answers in
    asked_names c.names_are_plain.ensures it.0 c.in-Ok.asked it.2

pub duty_asked-requires-clause-wish : goal.duty_asked-requires-clause-wish
duty_asked-requires-clause-wish g c =
    let it = c.in-Ok.ensures.answers in
    asked_wish it.0 c.in-Ok.asked it.2

pub returns-in-Ok-clause-work : goal.returns-in-Ok-clause-work
returns-in-Ok-clause-work g c =
    let n = program (g.N.Natives.titles c.args.natives.now) (g.N.Natives.answer c.args.natives.now) in
    let it = c.in-Ok.ensures.answers in
    let duty = c.duty_asked.result in
    let failed = Rose (g.H.Host.faults c.args.host.now) (g.H.Host.faults c.duty_asked.new.host) in
    let later = Rose (g.H.Host.faults c.asked.new.host) (g.H.Host.faults c.duty_asked.new.host) in
    let longer : later → failed = λ h. omega (arith, h, c.in-Ok.ensures.later) in (
      it.0,
      it.1,
      work_answers n (g.H.Host.files c.args.host.now) it.0 duty.queue failed c.in-Ok.asked duty.work it.2
          (subst (λ told. IsWorkAsked n told failed c.in-Ok.asked duty.work duty.queue) c.in-Ok.ensures.files
          (asked_blames n (g.H.Host.files c.asked.new.host) later failed c.in-Ok.asked duty.work duty.queue longer c.duty_asked.ensures.work)),
    )

pub returns-in-Err-clause-doable : goal.returns-in-Err-clause-doable
returns-in-Err-clause-doable g c =
    let it = c.in-Err.ensures.answers in
    refusal_is_one it.0 c.in-Err.end it.2
