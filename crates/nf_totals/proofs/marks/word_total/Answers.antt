use Rattle.std.proofs.Common.{◌≡◌, ◌∙◌, ap, rules}
use Rattle.nf_totals.specs.Marks.{maybe_named, name_total}
use Rattle.nf_totals.proofs.marks.word_total.Goals as goal

pub returns-in-Some : goal.returns-in-Some
returns-in-Some c =
    let same : c.name_total.result ≡ name_total c.in-Some.name.now = search rules in
    same ∙ ap maybe_named c.in-Some.ensures

pub returns-in-None : goal.returns-in-None
returns-in-None c = ap maybe_named c.in-None.ensures
