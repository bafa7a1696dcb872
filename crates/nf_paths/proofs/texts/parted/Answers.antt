use Rattle.std.specs.Str.{chars}
use Rattle.nf_pattern.proofs.Characters.{chars_parted}
use Rattle.nf_paths.proofs.Parted.{parted_same}
use Rattle.nf_paths.proofs.texts.parted.Goals as goal

pub returns : goal.returns
returns c = parted_same c.args.mark (chars c.args.text.now) c.split_once.result
    (chars_parted c.args.mark c.args.text.now c.split_once.result c.utf8.text c.split_once.ensures.cases c.requires)
