use Rattle.std.proofs.Common.{length, ◌++◌}
use Rattle.nf_graph.specs.Meaning.{bags}
use Rattle.nf_meaning.proofs.Kept.{scope_kept}
use Rattle.nf_meaning.proofs.laws.scope_stands_on.Goals as goal

pub returns : goal.returns
returns c g h R o xs ys below stands = scope_kept (length g) (bags R o g) (bags R o (g ++ h)) xs ys (λ i l. c.added_later.ensures g h R o i l) below stands
