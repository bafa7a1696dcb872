use Rattle.std.proofs.Common.{◌∙◌, sym}
use Rattle.nf_known.proofs.Texts.{is_built, is_large, is_refused}
use Rattle.nf_known.proofs.patterns.PatternTexts.fault.Goals as goal

pub returns-then-contains : goal.returns-then-contains
returns-then-contains c given h = is_built given c.args.place c.args.text.now (sym (h.built c.args.text.now) ∙ sym c.contains.ensures ∙ c.if-contains.true)

pub returns-then-contains-2 : goal.returns-then-contains-2
returns-then-contains-2 c given h =
    is_large given c.args.place c.args.text.now (sym (h.built c.args.text.now) ∙ sym c.contains.ensures ∙ c.if-contains.false) (sym (h.large c.args.text.now) ∙ sym c.contains-2.ensures ∙ c.if-contains-2.true)

pub returns : goal.returns
returns c given h =
    is_refused given c.args.place c.args.text.now (sym (h.built c.args.text.now) ∙ sym c.contains.ensures ∙ c.if-contains.false) (sym (h.large c.args.text.now) ∙ sym c.contains-2.ensures ∙ c.if-contains-2.false)
