use Rattle.nf_paths.proofs.Stripped.{end_same, suffix_is}
use Rattle.nf_paths.proofs.texts.before_end.Goals as goal

pub returns : goal.returns
returns c = end_same c.args.text.now c.args.end.now c.strip_suffix.result c.utf8.text c.utf8.end (suffix_is c.args.text.now c.args.end.now c.strip_suffix.result c.utf8.text c.strip_suffix.ensures.cases)
