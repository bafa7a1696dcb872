use Rattle.std.proofs.Common.{◌∙◌}
use Rattle.std.specs.Str.{chars}
use Rattle.nf_paths.proofs.Parted.{same_some}
use Rattle.nf_paths.proofs.texts.has.Goals as goal

pub returns : goal.returns
returns c = c.is_some.ensures ∙ same_some c.args.mark (chars c.args.text.now) c.parted.result c.parted.ensures
