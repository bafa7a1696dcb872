use Rattle.std.proofs.Common.{◌≤◌, length, ◌∙◌, sym, arith}
use Rattle.nf_callees.proofs.Titles.{this_title, other_title, no_title}
use Rattle.nf_callees.proofs.callee.has_title.Goals as goal

pub returns-then-eq : goal.returns-then-eq
returns-then-eq g c = sym (c.loop-id.invariant ∙ this_title c.args.name.now c.name.result.now (g.N.Natives.titles c.args.natives.now) c.loop-id.id c.name.ensures (sym c.eq.ensures ∙ c.if-eq.true))

pub loop-id-preserved : goal.loop-id-preserved
loop-id-preserved g c = c.loop-id.invariant ∙ other_title c.args.name.now c.name.result.now (g.N.Natives.titles c.args.natives.now) c.loop-id.id c.name.ensures (sym c.eq.ensures ∙ c.if-eq.false)

pub returns : goal.returns
returns g c =
    let past : length (g.N.Natives.titles c.args.natives.now) ≤ c.loop-id.id = omega (arith, c.count-id-end.ensures.count, c.loop-id-test.false) in
    sym (c.loop-id.invariant ∙ no_title c.args.name.now (g.N.Natives.titles c.args.natives.now) c.loop-id.id past)
