use Rattle.std.proofs.Common.{◌∙◌}
use Rattle.nf_pattern.specs.Wrapped.{wrapped}
use Rattle.nf_pattern.proofs.Wholes.{pattern_of_regex}
use Rattle.nf_pattern.proofs.whole.WholeRe.new.Goals as goal

pub returns-in-Ok-new-clause-pattern : goal.returns-in-Ok-new-clause-pattern
returns-in-Ok-new-clause-pattern c = pattern_of_regex c.in-Ok-new.regex (wrapped c.args.re.now) (c.in-Ok-new.ensures.source ∙ c.as_str.ensures.value ∙ c.in-Ok-format.ensures.ok) c.in-Ok-new.ensures.config c.in-Ok-new.ensures.read
