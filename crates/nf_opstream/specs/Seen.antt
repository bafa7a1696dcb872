-- What the state of `unique` remembers.
use Rattle.std.specs.Prelude.{◌≡◌, List, nat_lt}
use Rattle.std.specs.Ordering.{on}
use Rattle.std.specs.BTreeSet.{contains}
use Rattle.nf_value.specs.View.{plain_of}
use Rattle.nf_value.specs.Order.{value_cmp}
use Rattle.nf_value.specs.declared.value.Value.{Value}
use Rattle.nf_bag.specs.Bag.{count}
use Rattle.nf_opstream.specs.Push.{Push}
use Rattle.nf_opstream.specs.Operator.{AreFine}
use Rattle.nf_opstream.specs.Rows.{unique_row, items_in}
use Rattle.nf_opstream.specs.declared.unique.UniqueState.{UniqueState}

-- the state after these pushes, none with a fault: it has seen exactly their items
pub record IsUniqueAfter (p : List Push) (s : UniqueState) : Type 0 where
  pub fine : AreFine unique_row p
  pub seen : (v : Value) → contains (on plain_of value_cmp) s.seen v ≡ nat_lt 0 (count (plain_of v) (items_in p))
