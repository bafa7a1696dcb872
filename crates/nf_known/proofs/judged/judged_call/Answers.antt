use Rattle.std.proofs.Common.{◌≡◌, ◌∙◌, rules, sym, ap}
use Rattle.std.specs.Option.{option_copied}
use Rattle.nf_callees.specs.Found.{held}
use Rattle.nf_known.specs.Judged.{call_in, wrong_in}
use Rattle.nf_known.proofs.judged.judged_call.Goals as goal

pub returns-in-Some : goal.returns-in-Some
returns-in-Some c =
    let es = c.args.judged.now.entries in
    let n = c.args.one.now.text in
    let same : c.as_str.result.now ≡ n = search rules in
    sym (ap (λ k. call_in es k n) c.in-Function.is ∙ ap wrong_in (ap (λ m. held m es) (sym same) ∙ sym c.get.ensures.value ∙ ap option_copied c.in-Some.is))
