-- What the counts of a process say of the inputs that it took.
use Rattle.std.specs.Prelude.{◌≡◌, ℕ, List, length, count_by, unwrap_or}
use Rattle.std.specs.BTreeMap.{get}
use Rattle.std.specs.Ordering.{on}
use Rattle.std.specs.declared.cmp.Ordering.{Ordering}
use Rattle.nf_value.specs.Plain.{Plain}
use Rattle.nf_value.specs.View.{plain_of}
use Rattle.nf_value.specs.Order.{value_cmp}
use Rattle.nf_value.specs.declared.value.Value.{Value}
use Rattle.nf_value.specs.declared.value.Value.TheVariants as v
use Rattle.nf_graph.specs.Meaning.{same_inputs}
use Rattle.nf_spot.specs.declared.counts.Counts.{Counts}

abbrev pub by_order : Value → Value → Ordering
by_order = on plain_of value_cmp

abbrev pub total_of : Counts → ℕ
total_of c = c.total

-- the counts after these takes, of which each is told by its inputs
pub record IsCounts (taken : List (List Plain)) (c : Counts) : Type 0 where
  pub total : c.total ≡ length taken
  pub each : (inputs : List Plain) → unwrap_or (get by_order c.counts (v.List inputs)) 0 ≡ count_by (same_inputs inputs) taken
