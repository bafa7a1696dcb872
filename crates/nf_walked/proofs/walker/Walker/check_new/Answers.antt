use Rattle.nf_walked.specs.Around.{Knows}
use Rattle.nf_walked.proofs.Binding.{TellsBound, new_more, new_twice}
use Rattle.nf_walked.proofs.walker.Walker.check_new.Goals as goal

pub returns-then-is_bound : goal.returns-then-is_bound
returns-then-is_bound g c =
    let K = Knows g.N.Natives.titles g.N.Natives.answer c.args.self.now in
    let n = c.index-names-at.result in
    let told : TellsBound K c.args.names.now c.loop-at.at n.1 c.args.state.now c.is_bound.result = λ p stands. c.is_bound.ensures p.braces p.run p.state stands.body in
    new_twice K c.args.names.now c.loop-at.at n c.args.state.now c.loop-at-test.true c.index-names-at.is c.is_bound.result c.requires told c.if-is_bound.true c.loop-at.invariant

pub loop-at-preserved : goal.loop-at-preserved
loop-at-preserved g c =
    let K = Knows g.N.Natives.titles g.N.Natives.answer c.args.self.now in
    let n = c.index-names-at.result in
    let told : TellsBound K c.args.names.now c.loop-at.at n.1 c.args.state.now c.is_bound.result = λ p stands. c.is_bound.ensures p.braces p.run p.state stands.body in
    new_more K c.args.names.now c.loop-at.at n c.args.state.now c.loop-at-test.true c.index-names-at.is c.is_bound.result told c.if-is_bound.false c.loop-at.invariant
