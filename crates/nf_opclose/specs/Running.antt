-- The result of `reduce` over the values so far.
use Rattle.std.specs.Prelude.{◌≡◌, ◌^◌, ◌≤◌, List, [], ◌∷◌, length, Bool, Option, Some, None}
use Rattle.std.specs.List.{list_all, list_any}
use Rattle.std.specs.Option.{option_map}
use Rattle.nf_value.specs.Plain.{Plain}
use Rattle.nf_value.specs.Truth.{truth_of}
use Rattle.nf_value.specs.View.{plain_of}
use Rattle.nf_bag.specs.declared.options.Total.{Total}
use Rattle.nf_bag.specs.declared.options.Total.TheVariants as t
use Rattle.nf_opclose.specs.Gathered.{least_of, greatest_of}
use Rattle.nf_opclose.specs.Numbers.{total_of}
use Rattle.nf_opclose.specs.declared.running.Running.{Running}
use Rattle.nf_opclose.specs.declared.running.Running.TheVariants as r

abbrev pub kind_of : Running → Total
kind_of (r.Sum n) = t.Sum
kind_of (r.Least v) = t.Least
kind_of (r.Greatest v) = t.Greatest
kind_of (r.All b) = t.All
kind_of (r.Any b) = t.Any

-- a test of all values, if there is one
abbrev pub tested : (List Plain → Bool) → List Plain → Option Bool
tested test [] = None
tested test (v ∷ vs) = Some (test (v ∷ vs))

-- the result over these values
abbrev pub IsRunning : List Plain → Running → Type 0
IsRunning vs (r.Sum n) = (n.count ≡ length vs) × (n.total ≡ total_of vs)
IsRunning vs (r.Least v) = option_map plain_of v ≡ least_of vs
IsRunning vs (r.Greatest v) = option_map plain_of v ≡ greatest_of vs
IsRunning vs (r.All b) = b ≡ tested (list_all truth_of) vs
IsRunning vs (r.Any b) = b ≡ tested (list_any truth_of) vs

-- one more value can be counted
abbrev pub HasRoom : Running → Type 0
HasRoom (r.Sum n) = n.count ≤ 2 ^ 32
HasRoom (r.Least v) = Unit {0}
HasRoom (r.Greatest v) = Unit {0}
HasRoom (r.All b) = Unit {0}
HasRoom (r.Any b) = Unit {0}
