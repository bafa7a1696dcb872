use Rattle.std.proofs.Common.{◌≡◌, Err, rules}
use Rattle.nf_walked.specs.Around.{Knows}
use Rattle.nf_applied.proofs.Setting.{outputs_fail, outputs_named}
use Rattle.nf_applied.proofs.sets.name_outputs.Goals as goal

pub bind-requires-clause-before : goal.bind-requires-clause-before
bind-requires-clause-before g c = record {
  natives = c.requires.before.natives;
  somewhere = c.requires.before.somewhere;
  plain = c.requires.before.plain;
  lowering = c.in_ok-set.ensures.goes.keeps;
}

pub bind-requires-clause-reads : goal.bind-requires-clause-reads
bind-requires-clause-reads g c = c.in_ok-set.ensures.fits

pub returns-in_err-set : goal.returns-in_err-set
returns-in_err-set g c =
    let e = c.in_err-set.field-0.0 in
    let err : c.from_residual.result ≡ Err e = search rules in
    rw err
    (outputs_fail (Knows g.N.Natives.titles g.N.Natives.answer c.args.walker.now) c.args.place c.args.outputs.now c.args.taken.now c.args.state.now c.set_outputs.new.state c.requires.before.lowering e c.in_err-set.ensures)

pub returns : goal.returns
returns g c =
    outputs_named (Knows g.N.Natives.titles g.N.Natives.answer c.args.walker.now) c.args.place c.args.outputs.now c.args.taken.now c.args.state.now c.set_outputs.new.state c.requires.before.lowering c.in_ok-set.set c.bind.new.state c.bind.result
    c.in_ok-set.ensures c.bind.ensures
