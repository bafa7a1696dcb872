use Rattle.std.proofs.Common.{◌∙◌, sym, rules}
use Rattle.std.specs.Str.{chars}
use Rattle.nf_paths.proofs.Components.{not_source}
use Rattle.nf_paths.proofs.paths.is_source_path.Goals as goal

pub returns-then-not-is_literal : goal.returns-then-not-is_literal
returns-then-not-is_literal c = sym (c.loop-folder.invariant.same ∙ not_source (chars c.loop-folder.left.now) (chars c.in-Some.folder.now) (chars c.in-Some.rest.now) c.in-Some.ensures.components c.in-Some.ensures.folder (search rules))
