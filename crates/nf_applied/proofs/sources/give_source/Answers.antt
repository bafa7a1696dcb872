use Rattle.std.proofs.Common.{◌≡◌, Err, rules}
use Rattle.nf_meaning.specs.declared.fault.LowerFault.TheVariants.{Mem}
use Rattle.nf_walked.specs.Around.{Knows}
use Rattle.nf_applied.proofs.Using.{used_lost}
use Rattle.nf_applied.specs.Sources.{of_items}
use Rattle.nf_applied.proofs.Giving.{can_give, source_fails, source_given}
use Rattle.nf_applied.proofs.sources.give_source.Goals as goal

pub source-requires-clause-fits : goal.source-requires-clause-fits
source-requires-clause-fits g c = can_give c.args.source c.args.items _ c.of.ensures c.is_value.ensures c.args.state.now.plan c.requires.room c.requires.single

pub returns-in_err-name : goal.returns-in_err-name
returns-in_err-name g c =
    let err : c.from_residual.result ≡ Err Mem = search rules in
    rw err (used_lost (Knows g.N.Natives.titles g.N.Natives.answer c.args.walker.now) 1 0 (of_items c.args.source c.args.items) c.args.state.now)

pub returns-in_err-port : goal.returns-in_err-port
returns-in_err-port g c =
    let e = c.in_err-port.field-0.0 in
    let err : c.from_residual-in_err-port.result ≡ Err e = search rules in
    rw err
    (source_fails c.args.source c.args.items _ c.of.ensures c.is_value.ensures (Knows g.N.Natives.titles g.N.Natives.answer c.args.walker.now) c.args.state.now c.source.new.state c.requires.before.lowering.plan c.requires.room e
    c.in_err-port.ensures)

pub returns : goal.returns
returns g c =
    source_given c.args.source c.args.items _ c.of.ensures c.is_value.ensures (Knows g.N.Natives.titles g.N.Natives.answer c.args.walker.now) c.args.state.now c.source.new.state c.requires.before.lowering.plan c.requires.room
    c.in_ok-port.port c.in_ok-port.ensures
