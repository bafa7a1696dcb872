use Rattle.std.proofs.Common.{◌∙◌, sym, ap, subst}
use Rattle.std.specs.Option.{option_copied}
use Rattle.nf_meaning.specs.Names.{leads_to_channels}
use Rattle.nf_meaning.specs.Things.{thing_named}
use Rattle.nf_meaning.specs.Walk.{things_in}
use Rattle.nf_scopes.specs.Tables.{FoundStands}
use Rattle.nf_leading.proofs.Naming.{bound_leads, free_leads}
use Rattle.nf_leading.proofs.leading.InBody.name_leads.Goals as goal

pub returns-in-Some : goal.returns-in-Some
returns-in-Some g c a s h =
    let n = c.args.name.now in
    bound_leads h.bags c.in-Some.thing.now (thing_named n (things_in s)) c.is_tied.result (leads_to_channels a.definitions n)
    (subst (λ o. FoundStands h.bags (option_copied o) (thing_named n (things_in s))) c.in-Some.is (c.thing.ensures.stands h.bags h.braces s h.names))
    (c.is_tied.ensures h.bags)

pub returns-in-None : goal.returns-in-None
returns-in-None g c a s h =
    let n = c.args.name.now in
    free_leads h.bags (thing_named n (things_in s)) c.leads_to_channels.result (leads_to_channels a.definitions n)
    (subst (λ o. FoundStands h.bags (option_copied o) (thing_named n (things_in s))) c.in-None.is (c.thing.ensures.stands h.bags h.braces s h.names))
    (c.leads_to_channels.ensures ∙ ap (λ d. leads_to_channels d n) (sym h.definitions))
