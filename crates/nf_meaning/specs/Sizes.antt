-- How many sources and calls a script may have, and how many channels these may read.
use Rattle.std.specs.Prelude.{ℕ, ◌+◌, Bool, ◌&&◌, nat_le, if◌then◌else◌, Ok, Err}
use Rattle.nf_value.specs.declared.place.Place.{Place}
use Rattle.nf_meaning.specs.declared.fault.LowerFault.TheVariants.{TooManyNodes}
use Rattle.nf_meaning.specs.Walk.{Walk, Sizes}

abbrev pub most : ℕ
most = 65536

abbrev pub grown : ℕ → Sizes → Sizes
grown ports x = record { nodes = x.nodes + 1; ports = x.ports + ports }

abbrev pub is_within_limits : Sizes → Bool
is_within_limits x = nat_le x.nodes most && nat_le x.ports most

-- one more source or call, which reads so many channels and whose name stands at this place
abbrev pub counted : Place → ℕ → Walk (Unit {0})
counted p ports a s =
    if is_within_limits (grown ports s.sizes) then Ok (tt, record s { sizes = grown ports s.sizes })
    else Err (TooManyNodes p)
