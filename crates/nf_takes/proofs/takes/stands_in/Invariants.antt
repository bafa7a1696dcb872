use Rattle.std.proofs.Common.{◌≡◌, drop, map}
use Rattle.nf_builtins.specs.Natives.{is_among}
use Rattle.nf_takes.proofs.takes.stands_in.Given as goal

abbrev pub invariant-loop-other : goal.invariant-loop-other
invariant-loop-other l = is_among l.name (map (λ n. n.1) (drop l.other-index l.names)) ≡ is_among l.name (map (λ n. n.1) l.names)
