use Rattle.std.proofs.Common.{◌≡◌, Err, rules, subst, sym}
use Rattle.nf_meaning.specs.Operators.{named_so}
use Rattle.nf_meaning.specs.Stands.{PortThing}
use Rattle.nf_meaning.specs.declared.fault.LowerFault.TheVariants.{Mem}
use Rattle.nf_follows.specs.Things.{ThingReads}
use Rattle.nf_walked.specs.Around.{Knows}
use Rattle.nf_walked.specs.Forms.{a_thing}
use Rattle.nf_walked.specs.Parts.{of_thing}
use Rattle.nf_walked.proofs.Joins.{lost_here}
use Rattle.nf_applied.proofs.Setting.{bind_done, bind_fails}
use Rattle.nf_applied.proofs.sets.bind.Goals as goal

pub put_name-requires-clause-reads : goal.put_name-requires-clause-reads
put_name-requires-clause-reads g c = let P : PortThing → Type 0 = λ t. ThingReads c.args.state.now.plan t in subst P (sym c.in_ok-given.ensures) c.requires.reads

pub returns-in_err-given : goal.returns-in_err-given
returns-in_err-given g c =
    let err : c.from_residual.result ≡ Err Mem = search rules in
    rw err (lost_here (Knows g.N.Natives.titles g.N.Natives.answer c.args.walker.now) (of_thing c.args.thing a_thing (named_so c.args.name.now)) c.args.state.now)

pub returns-in_err-put_name : goal.returns-in_err-put_name
returns-in_err-put_name g c =
    let e = c.in_err-put_name.field-0.0 in
    let err : c.from_residual-in_err-put_name.result ≡ Err e = search rules in
    rw err
    (bind_fails (Knows g.N.Natives.titles g.N.Natives.answer c.args.walker.now) c.args.name.now c.args.thing c.in_ok-given.given c.args.state.now c.requires.before.lowering c.requires.reads c.in_ok-given.ensures c.put_name.new.state e
    c.in_err-put_name.ensures)

pub returns : goal.returns
returns g c =
    bind_done (Knows g.N.Natives.titles g.N.Natives.answer c.args.walker.now) c.args.name.now c.args.thing c.in_ok-given.given c.args.state.now c.requires.before.lowering c.requires.reads c.in_ok-given.ensures c.put_name.new.state
    c.in_ok-put_name.field-0 c.in_ok-put_name.ensures
