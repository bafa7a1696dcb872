use Rattle.std.proofs.Common.{◌≡◌, map, drop, option_map}
use Rattle.nf_value.specs.Plain.{plains_of}
use Rattle.nf_value.specs.View.{plain_of}
use Rattle.nf_tasks.specs.Taking.{bound_in}
use Rattle.nf_tasks.specs.Inputs.{and_taken, parts_take}
use Rattle.nf_tasks.proofs.taking.Taking.take_parts.Given as goal

abbrev pub invariant-loop-i : goal.invariant-loop-i
invariant-loop-i l =
    option_map (and_taken (bound_in l.self)) (parts_take (drop l.i l.parts) (plains_of (map plain_of (drop l.i l.items)))) ≡ option_map (and_taken (bound_in l.initial.self)) (parts_take l.parts (plains_of (map plain_of l.items)))
