use Rattle.std.proofs.Common.{subst}
use Rattle.std.specs.Option.{option_copied}
use Rattle.nf_meaning.specs.Things.{thing_named}
use Rattle.nf_meaning.specs.Walk.{things_in}
use Rattle.nf_scopes.specs.Tables.{FoundStands}
use Rattle.nf_known.specs.Around.{KnowsBody, Knows}
use Rattle.nf_known.specs.Reading.{reading_of}
use Rattle.nf_known.proofs.Bound.{nothing_binds, everywhere_binds, body_binds, body_leaves}
use Rattle.nf_known.proofs.around.Around.bound.Goals as goal

pub returns-in-Nothing : goal.returns-in-Nothing
returns-in-Nothing c k knows = nothing_binds (reading_of c.args.reading) c.args.place c.args.name.now k (subst (λ a. Knows a k) c.in-Nothing.is knows)

pub returns-in-Everywhere : goal.returns-in-Everywhere
returns-in-Everywhere c k knows =
    everywhere_binds (reading_of c.args.reading) c.args.place c.args.name.now k (subst (λ a. Knows a k) c.in-Everywhere.is knows) c.everywhere.result c.everywhere.ensures

pub returns-in-Some : goal.returns-in-Some
returns-in-Some c k knows =
    let n = c.args.name.now in
    let h : KnowsBody c.in-Body.names.now k = subst (λ a. Knows a k) c.in-Body.is knows in
    body_binds (reading_of c.args.reading) c.args.place n c.in-Body.names.now k h c.in-Some.thing.now
    (subst (λ o. FoundStands h.bags (option_copied o) (thing_named n (things_in h.scope))) c.in-Some.is (c.thing.ensures.stands h.bags h.around h.scope h.stand))
    c.thing_fault.result (c.thing_fault.ensures h.bags)

pub returns-in-None : goal.returns-in-None
returns-in-None c k knows =
    let n = c.args.name.now in
    let h : KnowsBody c.in-Body.names.now k = subst (λ a. Knows a k) c.in-Body.is knows in
    body_leaves (reading_of c.args.reading) c.args.place n c.in-Body.names.now k h
    (subst (λ o. FoundStands h.bags (option_copied o) (thing_named n (things_in h.scope))) c.in-None.is (c.thing.ensures.stands h.bags h.around h.scope h.stand))
    c.everywhere-in-None.result c.everywhere-in-None.ensures
