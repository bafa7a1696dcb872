-- What a `MemKeeper` holds.
use Rattle.std.specs.Ordering.{nat_cmp}
use Rattle.std.specs.Cmp.Lexicographic.{slice_cmp}
use Rattle.std.specs.BTreeMap.{get}
use Rattle.nf_keeper.specs.Held.{Held}
use Rattle.nf_keeper.specs.declared.mem_keeper.MemKeeper.{MemKeeper}

-- the bytes at each key
abbrev pub held_of : MemKeeper → Held
held_of k = λ key. get (slice_cmp nat_cmp) k.held key
