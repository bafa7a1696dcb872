use Rattle.std.proofs.Common.{◌≡◌, drop}
use Rattle.nf_placed.specs.Natives.{is_among}
use Rattle.nf_names_used.proofs.seen.has_name.Given as goal

abbrev pub invariant-loop-other : goal.invariant-loop-other
invariant-loop-other l = is_among l.name l.names ≡ is_among l.name (drop l.other-index l.names)
