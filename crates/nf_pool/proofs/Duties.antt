-- What a worker is to do outside of the lock, by its kind.
use Rattle.std.proofs.Common.{◌≡◌, subst}
use Rattle.std.specs.Prelude.{Vec}
use Rattle.std.specs.Global.{Global}
use Rattle.std.specs.List.{AllByRecursion}
use Rattle.nf_flight.specs.declared.ticket.Ticket.{Ticket}
use Rattle.nf_core.specs.Opening.{Opening}
use Rattle.nf_locked.specs.Locked.{IsItemOf, IsTaskOf}
use Rattle.nf_pool.specs.declared.duty.Duty.{Duty}
use Rattle.nf_pool.specs.declared.duty.Duty.TheVariants as d
use Rattle.nf_pool.specs.Duty.{IsDuty}

pub duty_items : (F : Opening) (x : Duty) (items : Vec Ticket Global) → x ≡ d.Items items → IsDuty F x → AllByRecursion (IsItemOf F) items.items
duty_items F x items at h = subst (IsDuty F) at h

pub duty_task : (F : Opening) (x : Duty) (t : Ticket) → x ≡ d.Task t → IsDuty F x → IsTaskOf F t
duty_task F x t at h = subst (IsDuty F) at h
