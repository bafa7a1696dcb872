use Rattle.std.proofs.Common.{Some, None}
use Rattle.nf_callees.specs.Callee.{called_of}
use Rattle.nf_walked.specs.Around.{Knows}
use Rattle.nf_walked.proofs.Names.{is_found}
use Rattle.nf_calling.proofs.Heads.{alone_bound, alone_free, called_at}
use Rattle.nf_calling.proofs.pipes.is_called_alone.Goals as goal

pub returns-in-Some : goal.returns-in-Some
returns-in-Some g c =
    let K = Knows g.N.Natives.titles g.N.Natives.answer c.args.walker.now in
    let t = c.in-Some.field-0.now in
    alone_bound K c.args.state.now c.args.name.now t (is_found K c.names.result.now c.args.state.now c.args.name.now (Some t) c.names.ensures c.in-Some.ensures.stands)

pub returns-in-None : goal.returns-in-None
returns-in-None g c =
    let K = Knows g.N.Natives.titles g.N.Natives.answer c.args.walker.now in
    let d = called_of c.callee.result in
    alone_free K c.args.state.now c.args.name.now c.is_call.result d c.is_call.ensures
    (is_found K c.names.result.now c.args.state.now c.args.name.now None c.names.ensures c.in-None.ensures.stands)
    (called_at g.N.Natives.titles g.N.Natives.answer c.args.walker.now c.args.name.now d c.callee.ensures c.args.state.now)
