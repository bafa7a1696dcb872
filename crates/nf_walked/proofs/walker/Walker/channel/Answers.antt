use Rattle.std.proofs.Common.{[], refl}
use Rattle.nf_meaning.specs.Expressions.{channel_wanted}
use Rattle.nf_lowering.specs.Steps.{as_channel}
use Rattle.nf_walked.specs.Around.{Knows}
use Rattle.nf_walked.specs.Forms.{a_port, a_thing}
use Rattle.nf_walked.specs.Steps.{Goes, from}
use Rattle.nf_walked.proofs.Stepping.{goes_by, later_by, on_any, stepped}
use Rattle.nf_walked.proofs.walker.Walker.channel.Goals as goal

pub returns : goal.returns
returns g c =
    let old = c.args.state.now in
    let new = c.channel.new.self in
    let e = c.channel.ensures in
    stepped (Knows g.N.Natives.titles g.N.Natives.answer c.args.self.now) (as_channel c.args.place c.args.thing) (from a_thing c.args.thing a_port (channel_wanted c.args.place)) old new c.channel.result
    (later_by c.plans_extend.ensures.again c.plans_extend.ensures.runs c.things_last.ensures.reads c.things_last.ensures.stands old.plan new.plan (e.walk []).extends)
    (on_any c.channel.result (Goes old new) (goes_by c.rooms_last.ensures.again old new e.keeps e.calls e.kept e.within)) e.reads e.walk
    (λ p y stands is. ((c.requires.reads, is), refl)) (λ x v z h. h.1)
