use Rattle.std.proofs.Common.{Some, None, subst}
use Rattle.nf_scopes.specs.Held.{Holds}
use Rattle.nf_scopes.specs.declared.names.BodyNames.{BodyNames}
use Rattle.nf_leading.specs.Wanted.{IsThing}
use Rattle.nf_meaning.specs.Workflow as workflow
use Rattle.nf_walked.specs.Around.{Knows}
use Rattle.nf_walked.specs.Forms.{a_thing}
use Rattle.nf_walked.proofs.Names.{is_found}
use Rattle.nf_walked.proofs.Still.{still_from}
use Rattle.nf_calling.proofs.Bound.{bound_member, free_member_of}
use Rattle.nf_calling.proofs.Places.{member_reads}
use Rattle.nf_calling.proofs.members.name_member.Goals as goal

pub returns-in-Some : goal.returns-in-Some
returns-in-Some g c =
    let K = Knows g.N.Natives.titles g.N.Natives.answer c.args.walker.now in
    let old = c.args.state.now in
    let t = c.in-Some.thing.now in
    let r = c.member_of.result in
    let P : BodyNames → Type 0 = λ n. Holds n c.args.object.now t in
    let reads = c.requires.lowering.names c.args.object.now t (subst P c.names.ensures c.in-Some.ensures.holds) in
    bound_member K c.args.at c.args.object.now c.args.place c.args.name.now old c.requires.lowering t r (is_found K c.names.result.now old c.args.object.now (Some t) c.names.ensures c.in-Some.ensures.stands)
    (still_from K t a_thing IsThing (workflow.member_of c.args.at c.args.place c.args.name.now) old c.requires.lowering (λ x v y h. h) r (member_reads old.plan t r c.member_of.ensures.port reads) c.member_of.ensures.walk)

pub returns-in-None : goal.returns-in-None
returns-in-None g c =
    let K = Knows g.N.Natives.titles g.N.Natives.answer c.args.walker.now in
    free_member_of K c.args.at c.args.object.now c.args.place c.args.name.now c.args.state.now c.requires.lowering c.free_member.result
    (is_found K c.names.result.now c.args.state.now c.args.object.now None c.names.ensures c.in-None.ensures.stands) c.free_member.ensures
