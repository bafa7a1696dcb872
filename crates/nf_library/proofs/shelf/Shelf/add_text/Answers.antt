use Rattle.std.proofs.Common.{◌∙◌, ap, sym}
use Rattle.nf_known.specs.Patterns.{has_text}
use Rattle.nf_library.proofs.Shelved.{known_built, known_large}
use Rattle.nf_library.proofs.shelf.Shelf.add_text.Goals as goal

pub returns-then-contains : goal.returns-then-contains
returns-then-contains c =
    let x = c.args.self.now in
    known_built x c.args.text.now (ap (λ s. has_text s x.texts.built.keys) (sym c.as_str.ensures) ∙ sym c.contains.ensures ∙ c.if-contains.true)

pub returns-then-contains-2 : goal.returns-then-contains-2
returns-then-contains-2 c =
    let x = c.args.self.now in
    known_large x c.args.text.now (ap (λ s. has_text s x.texts.large.keys) (sym c.as_str-2.ensures) ∙ sym c.contains-2.ensures ∙ c.if-contains-2.true)
