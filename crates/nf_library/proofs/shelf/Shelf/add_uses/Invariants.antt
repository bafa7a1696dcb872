use Rattle.std.proofs.Common.{take}
use Rattle.nf_library.specs.Patterns.{used_patterns}
use Rattle.nf_library.specs.Shelves.{Adds}
use Rattle.nf_library.proofs.shelf.Shelf.add_uses.Given as goal

abbrev pub invariant-loop-one : goal.invariant-loop-one
invariant-loop-one l = Adds (used_patterns (take l.one-index l.uses)) l.initial.self l.self
