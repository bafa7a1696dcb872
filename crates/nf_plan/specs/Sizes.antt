-- How many sources and calls there are so far, as the walk through a script has it.
use Rattle.std.specs.Prelude.{◌≡◌, ℕ, true}
use Rattle.nf_meaning.specs.Walk as walk
use Rattle.nf_meaning.specs.Sizes.{grown, is_within_limits}
use Rattle.nf_plan.specs.declared.sizes.Sizes.{Sizes}

abbrev pub sizes_of : Sizes → walk.Sizes
sizes_of x = record { nodes = x.nodes; ports = x.ports }

-- by a source or a call that reads so many channels, within the limits
pub record HasGrown (old : Sizes) (ports : ℕ) (new : Sizes) : Type 0 where
  pub sizes : sizes_of new ≡ grown ports (sizes_of old)
  pub within : is_within_limits (sizes_of new) ≡ true
