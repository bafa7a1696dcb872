-- The inputs of takes by their numbers.
use Rattle.std.specs.Prelude.{ℕ, zero, suc, List, slice_index_or}
use Rattle.std.specs.declared.option.Option.{Option}
use Rattle.std.specs.declared.option.Option.TheVariants.{None}
use Rattle.nf_value.specs.Plain.{Plain}

-- those of the take of this number, from 1
abbrev pub inputs_at : List (Option (List Plain)) → ℕ → Option (List Plain)
inputs_at kept zero = None
inputs_at kept (suc t) = slice_index_or kept t None
