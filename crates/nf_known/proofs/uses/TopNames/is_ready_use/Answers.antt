use Rattle.std.proofs.Common.{◌≡◌, ◌∙◌, not, false, true, sym, ap, subst, rules}
use Rattle.nf_callees.specs.Found.{defined_in}
use Rattle.nf_known.specs.Judged.{is_ready_use}
use Rattle.nf_known.proofs.Rounds.{ready_unknown, ready_known}
use Rattle.nf_known.proofs.uses.TopNames.is_ready_use.Goals as goal

pub returns-then-not-contains_key : goal.returns-then-not-contains_key
returns-then-not-contains_key g c =
    let ds = defined_in c.args.self.now.definitions in
    let es = c.args.judged.now.entries in
    let one = c.args.one.now in
    let same : c.as_str-text.result.now ≡ one.text = search rules in
    let no : c.contains_key.result ≡ false = search rules in
    subst (λ n. not c.contains_key.result ≡ is_ready_use ds es one.kind n) same
    (ap not no ∙ ready_unknown ds es c.args.functions.now.entries c.requires c.as_str-text.result.now one.kind c.in-Function.is (sym c.contains_key.ensures ∙ no))

pub returns-else-not-contains_key : goal.returns-else-not-contains_key
returns-else-not-contains_key g c =
    let ds = defined_in c.args.self.now.definitions in
    let es = c.args.judged.now.entries in
    let one = c.args.one.now in
    let same : c.as_str-text.result.now ≡ one.text = search rules in
    let yes : c.contains_key.result ≡ true = search rules in
    subst (λ n. c.contains_key-else-not-contains_key.result ≡ is_ready_use ds es one.kind n) same
    (c.contains_key-else-not-contains_key.ensures
    ∙ ready_known ds es c.args.functions.now.entries c.requires c.as_str-text.result.now one.kind c.in-Function.is (sym c.contains_key.ensures ∙ yes))
