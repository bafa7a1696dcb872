use Rattle.std.proofs.Common.{◌≡◌, map, drop}
use Rattle.nf_builtins.specs.Natives.{is_among}
use Rattle.nf_opargs.proofs.options.is_listed.Given as goal

abbrev pub invariant-loop-other : goal.invariant-loop-other
invariant-loop-other l = is_among l.name (map (λ n. n.now) (drop l.other-index l.names)) ≡ is_among l.name (map (λ n. n.now) l.names)
