use Rattle.std.proofs.Common.{◌≡◌, sym, subst, rules}
use Rattle.nf_names_used.specs.declared.uses.UseKind.TheVariants as kind
use Rattle.nf_known.specs.Known.{definitions_in}
use Rattle.nf_known.specs.Stuck.{LeadsTo, wrong_in_call, wrong_in_function}
use Rattle.nf_known.proofs.names.KnownScript.led_by.Goals as goal

pub returns-in-Function-clause-leads : goal.returns-in-Function-clause-leads
returns-in-Function-clause-leads g c i inside =
    let ds = definitions_in c.args.self.now in
    let same : c.as_str.result.now ≡ c.args.one.now.text = search rules in
    subst (λ k. LeadsTo (wrong_in_call ds i k c.args.one.now.place c.args.one.now.text) (wrong_in_function ds i) c.led_to.result) (sym c.in-Function.is)
    (subst (λ m. LeadsTo (wrong_in_call ds i kind.Function c.args.one.now.place m) (wrong_in_function ds i) c.led_to.result) same (c.led_to.ensures.leads i inside))
