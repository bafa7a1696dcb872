use Rattle.std.proofs.Common.{◌≡◌, map, drop, option_map}
use Rattle.nf_value.specs.Plain.{plains_of}
use Rattle.nf_value.specs.View.{plain_of}
use Rattle.nf_tasks.specs.Taking.{bound_in}
use Rattle.nf_tasks.specs.Inputs.{and_files, files_among}
use Rattle.nf_tasks.proofs.taking.Taking.take_all.Given as goal

abbrev pub invariant-loop-item : goal.invariant-loop-item
invariant-loop-item l =
    option_map (and_files (bound_in l.self)) (files_among (plains_of (map plain_of (drop l.item-index l.items)))) ≡ option_map (and_files (bound_in l.initial.self)) (files_among (plains_of (map plain_of l.items)))
