use Rattle.std.proofs.Common.{◌≡◌, None, Some, rules, subst}
use Rattle.nf_meaning.specs.Names.{pattern_fault}
use Rattle.nf_taken.proofs.Walks.{checked, unchecked}
use Rattle.nf_taken.proofs.body.Body.check_pattern.Goals as goal

pub returns-in-Some : goal.returns-in-Some
returns-in-Some g c =
    let same : c.as_str.result.now ≡ c.args.text.now = search rules in
    λ a s here.
    unchecked (pattern_fault a.given c.args.place c.args.text.now) a s c.in-Some.fault
    (subst (λ t. Some c.in-Some.fault ≡ pattern_fault a.given c.args.place t) same (c.in-Some.ensures a.given here.around.script))

pub returns-in-None : goal.returns-in-None
returns-in-None g c =
    let same : c.as_str.result.now ≡ c.args.text.now = search rules in
    λ a s here.
    checked (pattern_fault a.given c.args.place c.args.text.now) a s (subst (λ t. None ≡ pattern_fault a.given c.args.place t) same (c.in-None.ensures a.given here.around.script))
