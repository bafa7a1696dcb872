use Rattle.std.proofs.Common.{◌∙◌, map}
use Rattle.nf_scopes.proofs.Blocks.{defined_inside}
use Rattle.nf_scopes.proofs.Places.{entries_of}
use Rattle.nf_scopes.proofs.names.BodyNames.is_defined.Goals as goal

pub returns : goal.returns
returns c bags around s h =
    c.contains_key.ensures ∙ defined_inside bags c.args.name.now around s.defined (map entries_of c.args.self.now.outer.items) c.args.self.now.inner.entries s.own h.braces
