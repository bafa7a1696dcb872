use Rattle.std.proofs.Common.{◌≡◌, ℕ, List, refl, rules, subst}
use Rattle.nf_meaning.specs.Walk.{defining, with_scope}
use Rattle.nf_lowering.specs.State.{IsLowering, Walks}
use Rattle.nf_lowering.specs.Steps.{defines}
use Rattle.nf_walked.specs.Around.{Knows}
use Rattle.nf_walked.specs.Forms.{a_thing, nothing}
use Rattle.nf_walked.specs.Steps.{Goes, from}
use Rattle.nf_walked.proofs.Goings.{anything}
use Rattle.nf_walked.proofs.Stepping.{goes_as, later_as, on_ok, stepped}
use Rattle.nf_walked.proofs.walker.Walker.define.Goals as goal

pub returns : goal.returns
returns g c =
    let old = c.args.state.now in
    let new = c.define.new.self in
    let e = c.define.ensures in
    let n = c.args.name.now in
    let name : c.as_str.result.now ≡ n = search rules in
    let P : List ℕ → Type 0 = λ m. Walks (defines m c.args.thing) old new c.define.result in
    stepped (Knows g.N.Natives.titles g.N.Natives.answer c.args.self.now) (defines n c.args.thing) (from a_thing c.args.thing nothing (λ t. with_scope (defining n t))) old new c.define.result
    (later_as old.plan new.plan e.plan) (on_ok c.define.result (IsLowering new) (Goes old new) (λ k. goes_as old new k e.calls e.plan e.within) e.keeps) (anything c.define.result)
    (subst P name e.walk) (λ p y stands is. ((c.requires.reads, is), refl)) (λ x v z h. tt)
