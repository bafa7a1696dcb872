use Rattle.nf_pattern.proofs.Characters.{chars_parted}
use Rattle.nf_pattern.proofs.parts.parted.Goals as goal

pub returns : goal.returns
returns c = chars_parted c.args.delimiter c.args.text.now c.split_once.result c.utf8.text c.split_once.ensures.cases c.requires
