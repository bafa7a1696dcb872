use Rattle.nf_paths.proofs.Stripped.{front_same, prefix_is}
use Rattle.nf_paths.proofs.texts.after_front.Goals as goal

pub returns : goal.returns
returns c = front_same c.args.text.now c.args.front.now c.strip_prefix.result c.utf8.text c.utf8.front (prefix_is c.args.text.now c.args.front.now c.strip_prefix.result c.strip_prefix.ensures.cases)
