use Rattle.std.proofs.Common.{◌≡◌, drop}
use Rattle.nf_builtins.specs.Natives.{is_among}
use Rattle.nf_order.proofs.calls.has_name.Given as goal

abbrev pub invariant-loop-other : goal.invariant-loop-other
invariant-loop-other l = is_among l.name (drop l.other-index l.names) ≡ is_among l.name l.names
