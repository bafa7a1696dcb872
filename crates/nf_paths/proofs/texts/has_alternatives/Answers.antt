use Rattle.std.proofs.Common.{◌∙◌, ap, sym, option_map}
use Rattle.std.specs.Str.{chars}
use Rattle.nf_paths.specs.Texts.{parts_of}
use Rattle.nf_paths.proofs.Parted.{closes, alternatives_of}
use Rattle.nf_paths.proofs.texts.has_alternatives.Goals as goal

pub returns-in-Some : goal.returns-in-Some
returns-in-Some c = c.has.ensures ∙ ap (λ r. closes (option_map parts_of r)) (sym c.in-Some.is) ∙ alternatives_of (chars c.args.text.now) c.parted.result c.parted.ensures

pub returns-in-None : goal.returns-in-None
returns-in-None c = ap (λ r. closes (option_map parts_of r)) (sym c.in-None.is) ∙ alternatives_of (chars c.args.text.now) c.parted.result c.parted.ensures
