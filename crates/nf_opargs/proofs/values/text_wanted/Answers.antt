use Rattle.std.proofs.Common.{◌∙◌, ap}
use Rattle.nf_value.specs.View.{plain_of}
use Rattle.nf_meaning.specs.Sources.{path_wanted}
use Rattle.nf_opargs.specs.Sources.{fits_kind}
use Rattle.nf_opargs.proofs.values.text_wanted.Goals as goal

pub returns-in-Text : goal.returns-in-Text
returns-in-Text c a s =
    ap (λ v. path_wanted (fits_kind c.args.kind) c.args.place (plain_of v) a s) c.in-Text.is ∙ c.fitting.ensures a s
