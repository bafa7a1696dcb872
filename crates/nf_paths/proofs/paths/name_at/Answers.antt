use Rattle.std.proofs.Common.{◌∙◌, rules}
use Rattle.std.specs.Str.{chars}
use Rattle.nf_paths.proofs.Components.{last_after}
use Rattle.nf_paths.proofs.paths.name_at.Goals as goal

pub loop-rest-preserved : goal.loop-rest-preserved
loop-rest-preserved c = record {
  is_text = search rules;
  same = c.loop-rest.invariant.same ∙ last_after (chars c.loop-rest.left.now) _ (chars c.in-Some.rest.now) c.in-Some.ensures.components;
}
