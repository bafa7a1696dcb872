-- The end of a run that stopped.
use Rattle.std.specs.Prelude.{ℕ, List}
use Rattle.nf_value.specs.declared.place.Place.{Place}
use Rattle.nf_bag.specs.declared.fault.OpFault.{OpFault}
use Rattle.nf_bag.specs.declared.fault.OpFault.TheVariants as op
use Rattle.nf_machine.specs.declared.stop.Stop.{Stop}
use Rattle.nf_machine.specs.declared.stop.Stop.TheVariants as stop
use Rattle.nf_machine.specs.declared.stop.Outside.TheVariants.{Lane, Keeper}
use Rattle.nf_ends.specs.declared.end.End.{End}
use Rattle.nf_ends.specs.declared.end.End.TheVariants as end
use Rattle.nf_ends.specs.declared.end.ItemCause.TheVariants.{Eval, Op}

-- the end of an operator's fault
abbrev pub end_by_fault : OpFault → Place → End
end_by_fault op.Mem p = end.Mem
end_by_fault f p = end.ItemFault p (Op f)

-- the end of a stop: the node that it tells of has this name and place
abbrev pub end_by_stop : Stop → List ℕ → Place → End
end_by_stop (stop.Charge sum) name p = end.Charge sum
end_by_stop (stop.Op node f) name p = end_by_fault f p
end_by_stop (stop.Item node item f) name p = end.ItemFault f.place (Eval item f)
end_by_stop (stop.Task node inputs n f) name p = end.TaskFailed name inputs n f
end_by_stop (stop.Outside Lane) name p = end.LaneFault
end_by_stop (stop.Outside Keeper) name p = end.KeeperFault
end_by_stop stop.Mem name p = end.Mem
