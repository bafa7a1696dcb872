use Rattle.std.proofs.Common.{◌≡◌, List, ℕ, option_map}
use Rattle.std.specs.Io.KnownBytes.{Consumes}
use Rattle.nf_lane.specs.Child.{kept_of}
use Rattle.nf_lane.proofs.child.read_within.Given as goal

-- what was kept is what is kept of the bytes that were read
abbrev pub invariant-pieces : goal.invariant-pieces
invariant-pieces g l = (bytes : List ℕ) × Consumes (g.S.Read.remaining l.initial.from) (g.S.Read.remaining l.from) bytes × (option_map (λ v. v.items) l.kept ≡ kept_of bytes)
