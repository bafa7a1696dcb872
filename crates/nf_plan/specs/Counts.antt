-- Counting a source or a call.
use Rattle.std.specs.Prelude.{◌≡◌, ℕ, true, false, Result, Ok, Err}
use Rattle.nf_value.specs.declared.place.Place.{Place}
use Rattle.nf_meaning.specs.Sizes.{grown, is_within_limits}
use Rattle.nf_meaning.specs.Walk.{State}
use Rattle.nf_meaning.specs.declared.fault.LowerFault.{LowerFault}
use Rattle.nf_meaning.specs.declared.fault.LowerFault.TheVariants.{TooManyNodes}
use Rattle.nf_plan.specs.declared.builder.PlanBuilder.{PlanBuilder}
use Rattle.nf_plan.specs.Sizes.{sizes_of}
use Rattle.nf_plan.specs.Plans.{HasRoom}
use Rattle.nf_plan.specs.Runs.{Run, PlanStands}

-- only the sizes change, by a call that reads so many channels
pub record Grows (old : PlanBuilder) (ports : ℕ) (new : PlanBuilder) : Type 0 where
  pub sizes : sizes_of new.sizes ≡ grown ports (sizes_of old.sizes)
  pub within : is_within_limits (grown ports (sizes_of old.sizes)) ≡ true
  pub room : HasRoom new ports
  pub nodes : new.nodes.items ≡ old.nodes.items
  pub infos : new.infos.items ≡ old.infos.items
  pub wants : new.wants.items ≡ old.wants.items
  pub stands : (x : Run) (s : State) → PlanStands x old s → PlanStands x new (record s { sizes = grown ports s.sizes })

-- the call is counted, or is one too many and the plan is what it was
abbrev pub Counts : PlanBuilder → Place → ℕ → PlanBuilder → Result (Unit {0}) LowerFault → Type 0
Counts old p ports new (Ok x) = Grows old ports new
Counts old p ports new (Err e) =
    (is_within_limits (grown ports (sizes_of old.sizes)) ≡ false) × (e ≡ TooManyNodes p) × (new ≡ old)
