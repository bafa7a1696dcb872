use Rattle.std.proofs.Common.{◌≡◌, ◌++◌, ◌≤◌, ◌-◌, map, take}
use Rattle.std.specs.List.{enumerate_from}
use Rattle.nf_value.specs.View.{plain_of}
use Rattle.nf_opstream.specs.Promise.{emits_of}
use Rattle.nf_opstream.proofs.multi_map.by_place.Given as goal

abbrev pub invariant-loop-value : goal.invariant-loop-value
invariant-loop-value l = (emits_of l.emits.items ++ enumerate_from l.out (take (l.outs - l.out) (map plain_of l.value-iterator.rest.items)) ≡ enumerate_from 0 (take l.outs l.fn.list)) × (l.out ≤ l.outs)
