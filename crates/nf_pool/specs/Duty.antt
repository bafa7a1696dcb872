-- What a worker is to do outside of the lock.
use Rattle.std.specs.List.{AllByRecursion}
use Rattle.nf_core.specs.Opening.{Opening}
use Rattle.nf_locked.specs.Locked.{IsItemOf, IsTaskOf}
use Rattle.nf_pool.specs.declared.duty.Duty.{Duty}
use Rattle.nf_pool.specs.declared.duty.Duty.TheVariants as d

abbrev pub IsDuty : Opening → Duty → Type 0
IsDuty F (d.Items items) = AllByRecursion (IsItemOf F) items.items
IsDuty F (d.Task t) = IsTaskOf F t
IsDuty F d.Again = Unit {0}
IsDuty F d.Over = Unit {0}
