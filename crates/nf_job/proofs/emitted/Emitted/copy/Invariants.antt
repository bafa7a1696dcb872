use Rattle.std.proofs.Common.{◌≡◌, map, option_map, take}
use Rattle.nf_value.specs.View.{plain_of}
use Rattle.nf_job.proofs.emitted.Emitted.copy.Given as goal

abbrev pub invariant-loop-item : goal.invariant-loop-item
invariant-loop-item l = map (option_map plain_of) l.copies.items ≡ map (option_map plain_of) (take l.item-index l.item-items)
