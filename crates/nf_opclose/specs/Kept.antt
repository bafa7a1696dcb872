-- The states after these pushes, none of which had a fault.
use Rattle.std.specs.Prelude.{◌≡◌, List, [], ◌∷◌, map, length, Bool, true, false, Option}
use Rattle.std.specs.Option.{option_map}
use Rattle.nf_value.specs.Plain.{Plain}
use Rattle.nf_value.specs.View.{plain_of}
use Rattle.nf_bag.specs.Bag.{IsSameBag}
use Rattle.nf_bag.specs.declared.options.Total.{Total}
use Rattle.nf_opstream.specs.Push.{Push}
use Rattle.nf_opstream.specs.Operator.{AreFine}
use Rattle.nf_opstream.specs.Rows.{items_in}
use Rattle.nf_opclose.specs.Gathered.{collected, least_of, greatest_of}
use Rattle.nf_opclose.specs.Numbers.{total_of}
use Rattle.nf_opclose.specs.Reduce.{stray_of, with_start}
use Rattle.nf_opclose.specs.Rows.{count_row, if_empty_row, to_list_row, collect_row, min_row, max_row, sum_row, reduce_row}
use Rattle.nf_opclose.specs.Running.{kind_of, IsRunning}
use Rattle.nf_opclose.specs.declared.collect.CollectState.{CollectState}
use Rattle.nf_opclose.specs.declared.count.CountState.{CountState}
use Rattle.nf_opclose.specs.declared.if_empty.IfEmptyState.{IfEmptyState}
use Rattle.nf_opclose.specs.declared.max.MaxState.{MaxState}
use Rattle.nf_opclose.specs.declared.min.MinState.{MinState}
use Rattle.nf_opclose.specs.declared.reduce.ReduceState.{ReduceState}
use Rattle.nf_opclose.specs.declared.sum.SumState.{SumState}
use Rattle.nf_opclose.specs.declared.to_list.ToListState.{ToListState}

-- the number of items
pub record IsCountAfter (p : List Push) (s : CountState) : Type 0 where
  pub fine : AreFine count_row p
  pub count : s.count ≡ length p

abbrev pub is_none_pushed : List Push → Bool
is_none_pushed [] = true
is_none_pushed (x ∷ p) = false

-- the value for an empty input, and whether there was no item
pub record IsIfEmptyAfter (v : Plain) (p : List Push) (s : IfEmptyState) : Type 0 where
  pub fine : AreFine (if_empty_row v) p
  pub value : plain_of s.value ≡ v
  pub none : s.none ≡ is_none_pushed p

-- the items
pub record IsToListAfter (p : List Push) (s : ToListState) : Type 0 where
  pub fine : AreFine to_list_row p
  pub items : IsSameBag (map plain_of s.items.items) (items_in p)

-- what is collected so far, and whether there was no item
pub record IsCollectAfter (opened : Bool) (p : List Push) (s : CollectState) : Type 0 where
  pub fine : AreFine (collect_row opened) p
  pub flat : s.flat ≡ opened
  pub none : s.none ≡ is_none_pushed p
  pub parts : IsSameBag (map plain_of s.parts.items) (collected opened p)

-- the least item
pub record IsMinAfter (p : List Push) (s : MinState) : Type 0 where
  pub fine : AreFine min_row p
  pub least : option_map plain_of s.least ≡ least_of (items_in p)

-- the greatest item
pub record IsMaxAfter (p : List Push) (s : MaxState) : Type 0 where
  pub fine : AreFine max_row p
  pub greatest : option_map plain_of s.greatest ≡ greatest_of (items_in p)

-- how many items there were, and their total
pub record IsSumAfter (p : List Push) (s : SumState) : Type 0 where
  pub fine : AreFine sum_row p
  pub count : s.numbers.count ≡ length p
  pub total : s.numbers.total ≡ total_of (items_in p)

-- what the closure makes of the items and the initial value, and that value if the closure doesn't take it
pub record IsReduceAfter (kind : Total) (start : Option Plain) (p : List Push) (s : ReduceState) : Type 0 where
  pub fine : AreFine (reduce_row kind start) p
  pub made : kind_of s.running ≡ kind
  pub stray : option_map plain_of s.stray ≡ stray_of kind start
  pub running : IsRunning (with_start start (items_in p)) s.running
