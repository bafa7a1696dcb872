use Rattle.std.proofs.Common.{◌≡◌, string_bytes, refl, rules}
use Rattle.nf_meaning.specs.Functions.{no_names_known}
use Rattle.nf_known.proofs.Leads.{own_fault, leads_on, on_led}
use Rattle.nf_known.proofs.Texts.{has_one_more}
use Rattle.nf_known.proofs.names.KnownScript.led_on.Goals as goal

pub returns-in-Some-clause-leads : goal.returns-in-Some-clause-leads
returns-in-Some-clause-leads g c i inside =
    own_fault g.N.Natives.titles c.args.self.now c.args.within.now.keys i inside c.args.function.now c.requires c.deref.result.now c.deref.ensures.value c.in-Some.fault
    (c.in-Some.ensures i.given no_names_known inside.script.program refl)

pub returns-clause-within : goal.returns-clause-within
returns-clause-within g c =
    let same : string_bytes c.in_ok-from_str.field-0 ≡ c.args.function.now.function.now.name = search rules in
    on_led c.led.result _ (has_one_more c.args.within.now c.insert.new.self c.in_ok-from_str.field-0 c.args.function.now.function.now.name same c.in_ok-insert.ensures.updates)

pub returns-clause-leads : goal.returns-clause-leads
returns-clause-leads g c i inside =
    let same : string_bytes c.in_ok-from_str.field-0 ≡ c.args.function.now.function.now.name = search rules in
    leads_on g.N.Natives.titles c.args.self.now c.args.within.now.keys i inside c.args.function.now c.requires c.insert.new.self.keys
    (has_one_more c.args.within.now c.insert.new.self c.in_ok-from_str.field-0 c.args.function.now.function.now.name same c.in_ok-insert.ensures.updates)
    c.led.result c.deref.result.now c.deref-2.result.now c.deref.ensures.value c.deref-2.ensures.value (c.in_default.ensures i.given no_names_known inside.script.program refl) c.led.ensures.leads
