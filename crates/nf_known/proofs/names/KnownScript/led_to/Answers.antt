use Rattle.std.proofs.Common.{◌≡◌, ◌∙◌, None, Some, false, is_some, sym, ap}
use Rattle.std.specs.Option.{option_copied}
use Rattle.nf_names_used.specs.declared.uses.UseKind.TheVariants as kind
use Rattle.nf_meaning.specs.Given.{function_named}
use Rattle.nf_callees.specs.Found.{definition_of, held}
use Rattle.nf_known.specs.Known.{definitions_in}
use Rattle.nf_known.specs.Judged.{is_judged}
use Rattle.nf_known.specs.Stuck.{wrong_in_call, wrong_in_function}
use Rattle.nf_known.proofs.Rounds.{no_function, named}
use Rattle.nf_known.proofs.Leads.{no_function_called, leads_back, leads_in, leads_to_judged, leads_with, called}
use Rattle.nf_known.proofs.names.KnownScript.led_to.Goals as goal

pub returns-in_default-clause-leads : goal.returns-in_default-clause-leads
returns-in_default-clause-leads g c i inside =
    let ds = definitions_in c.args.self.now in
    let n = c.args.name.now in
    let none : held n c.functions.result.now.entries ≡ None = sym c.get.ensures.value ∙ ap option_copied c.in_default.is in
    no_function_called ds i c.args.place n (no_function ds c.functions.result.now.entries c.functions.ensures n none)

pub returns-then-contains-clause-leads : goal.returns-then-contains-clause-leads
returns-then-contains-clause-leads g c i inside =
    let ds = definitions_in c.args.self.now in
    let n = c.args.name.now in
    let f = c.in-Some.function.now in
    let here : held n c.functions.result.now.entries ≡ Some f = sym c.get.ensures.value ∙ ap option_copied c.in-Some.is in
    let is : function_named n ds.functions ≡ Some (definition_of f) = named ds c.functions.result.now.entries c.functions.ensures n f here in
    leads_back g.N.Natives.titles c.args.self.now c.args.within.now.keys i inside c.args.place n (definition_of f) is (sym c.contains.ensures ∙ c.if-contains.true)

pub returns-in-Some-get-clause-leads : goal.returns-in-Some-get-clause-leads
returns-in-Some-get-clause-leads g c i inside =
    let ds = definitions_in c.args.self.now in
    let n = c.args.name.now in
    let f = c.in-Some.function.now in
    let here : held n c.functions.result.now.entries ≡ Some f = sym c.get.ensures.value ∙ ap option_copied c.in-Some.is in
    let is : function_named n ds.functions ≡ Some (definition_of f) = named ds c.functions.result.now.entries c.functions.ensures n f here in
    let wrong = c.in-Some-get.fault.now in
    let judged : held n c.args.self.now.judged.entries ≡ Some wrong = sym c.get-2.ensures.value ∙ ap option_copied c.in-Some-get.is in
    leads_with (wrong_in_function ds i) (wrong_in_call ds i kind.Function c.args.place n) wrong (leads_to_judged g.N.Natives.titles c.args.self.now c.args.within.now.keys i inside c.args.place n (definition_of f) is wrong judged) c.led_into.result c.led_into.ensures

pub returns-clause-to : goal.returns-clause-to
returns-clause-to g c =
    let n = c.args.name.now in
    let f = c.in-Some.function.now in
    let here : held n c.functions.result.now.entries ≡ Some f = sym c.get.ensures.value ∙ ap option_copied c.in-Some.is in
    let waits : is_judged c.args.self.now.judged.entries n ≡ false = ap is_some (sym c.get-2.ensures.value ∙ ap option_copied c.in_default-get.is) in
    called g.N.Natives.titles c.args.self.now c.args.within.now.keys c.functions.result.now.entries c.functions.ensures n f here waits (sym c.contains.ensures ∙ c.if-contains.false)

pub returns-clause-leads : goal.returns-clause-leads
returns-clause-leads g c i inside =
    let ds = definitions_in c.args.self.now in
    let n = c.args.name.now in
    let f = c.in-Some.function.now in
    let here : held n c.functions.result.now.entries ≡ Some f = sym c.get.ensures.value ∙ ap option_copied c.in-Some.is in
    let is : function_named n ds.functions ≡ Some (definition_of f) = named ds c.functions.result.now.entries c.functions.ensures n f here in
    leads_in g.N.Natives.titles c.args.self.now c.args.within.now.keys i inside c.args.place n (definition_of f) is (sym c.contains.ensures ∙ c.if-contains.false)
