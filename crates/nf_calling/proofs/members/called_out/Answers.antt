use Rattle.std.proofs.Common.{◌≡◌, Err, None, Some, rules}
use Rattle.nf_meaning.specs.declared.fault.LowerFault.TheVariants.{Mem}
use Rattle.nf_walked.specs.Around.{Knows}
use Rattle.nf_walked.specs.Forms.{a_thing}
use Rattle.nf_walked.specs.Steps.{due}
use Rattle.nf_walked.proofs.Joins.{lost_here}
use Rattle.nf_calling.specs.Outs.{out_at}
use Rattle.nf_calling.proofs.Bound.{called_at_all, out_given, out_missed}
use Rattle.nf_calling.proofs.members.called_out.Goals as goal

pub returns-in_err-copy_thing-in-Some : goal.returns-in_err-copy_thing-in-Some
returns-in_err-copy_thing-in-Some g c =
    let err : c.from_residual.result ≡ Err Mem = search rules in
    rw err (lost_here (Knows g.N.Natives.titles g.N.Natives.answer c.args.walker.now) (due a_thing (out_at c.args.at c.args.called.now)) c.args.state.now)

pub returns-in_ok-copy_thing-in-Some : goal.returns-in_ok-copy_thing-in-Some
returns-in_ok-copy_thing-in-Some g c =
    let K = Knows g.N.Natives.titles g.N.Natives.answer c.args.walker.now in
    let t = c.in-Some.thing.now in
    out_given K c.args.at c.args.called.now c.args.state.now c.requires.lowering t c.in_ok-copy_thing-in-Some.field-0
    (called_at_all K c.args.at c.args.called.now c.args.state.now c.requires.lowering (Some t) c.in-Some.ensures.walk) c.in_ok-copy_thing-in-Some.ensures c.in-Some.ensures.reads

pub returns-in-None : goal.returns-in-None
returns-in-None g c =
    let K = Knows g.N.Natives.titles g.N.Natives.answer c.args.walker.now in
    out_missed K c.args.at c.args.called.now c.args.state.now c.requires.lowering
    (called_at_all K c.args.at c.args.called.now c.args.state.now c.requires.lowering None c.in-None.ensures.walk)
