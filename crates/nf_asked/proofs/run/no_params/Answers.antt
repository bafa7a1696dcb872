use Rattle.std.proofs.Common.{map, ap, ◌∙◌}
use Rattle.nf_value.specs.View.{pair_of}
use Rattle.nf_asked.proofs.run.no_params.Goals as goal

pub returns : goal.returns
returns c = c.of.ensures ∙ ap (map pair_of) c.new.ensures.items
