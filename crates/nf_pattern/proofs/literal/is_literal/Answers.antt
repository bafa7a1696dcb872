use Rattle.std.specs.Str.{chars}
use Rattle.nf_pattern.proofs.Literals.{literal_same}
use Rattle.nf_pattern.proofs.literal.is_literal.Goals as goal

pub loop-first-init : goal.loop-first-init
loop-first-init c = record { is_text = c.utf8.path; same = literal_same (chars c.args.path.now) }
