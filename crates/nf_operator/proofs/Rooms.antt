-- After few pushes there is room for one more.
use Rattle.std.proofs.Common.{◌<◌, ◌^◌, List, length}
use Rattle.std.specs.Prelude.{Option}
use Rattle.nf_value.specs.Plain.{Plain}
use Rattle.nf_bag.specs.declared.options.OpOpts.{OpOpts}
use Rattle.nf_bag.specs.declared.options.Total.{Total}
use Rattle.nf_bag.specs.declared.rows.Row.{Row}
use Rattle.nf_opstream.specs.Push.{Push}
use Rattle.nf_opstream.specs.Operator.{Operator}
use Rattle.nf_opclose.specs.Kept.{IsCountAfter, IsSumAfter, IsReduceAfter}
use Rattle.nf_opclose.specs.Room.{HasCountRoom, HasSumRoom, HasReduceRoom}
use Rattle.nf_opclose.specs.declared.count.CountState.{CountState}
use Rattle.nf_opclose.specs.declared.reduce.ReduceState.{ReduceState}
use Rattle.nf_opclose.specs.declared.sum.SumState.{SumState}
use Rattle.nf_operator.specs.Kept.{IsGathers, IsTotals, HasGathersRoom, HasTotalsRoom}
use Rattle.nf_operator.specs.Row.{operator_of}
use Rattle.nf_operator.specs.State.{IsKept, HasKeptRoom, IsAfter, HasRoom}
use Rattle.nf_operator.specs.declared.gathers.Gathers.{Gathers}
use Rattle.nf_operator.specs.declared.gathers.Gathers.TheVariants as g
use Rattle.nf_operator.specs.declared.state.Kept.{Kept}
use Rattle.nf_operator.specs.declared.state.Kept.TheVariants as k
use Rattle.nf_operator.specs.declared.state.OpState.{OpState}
use Rattle.nf_operator.specs.declared.totals.Totals.{Totals}
use Rattle.nf_operator.specs.declared.totals.Totals.TheVariants as t

-- what the laws of the crate below say
pub record Rooms : Type 0 where
  pub count : (p : List Push) → (s : CountState) → IsCountAfter p s → length p < 2 ^ 32 → HasCountRoom s
  pub sum : (p : List Push) → (s : SumState) → IsSumAfter p s → length p < 2 ^ 32 → HasSumRoom s
  pub reduce : (total : Total) → (start : Option Plain) → (p : List Push) → (s : ReduceState) → IsReduceAfter total start p s → length p < 2 ^ 32 → HasReduceRoom s

gathers_room : Rooms → (op : Operator) (p : List Push) (s : Gathers) → IsGathers op p s → length p < 2 ^ 32 → HasGathersRoom s
gathers_room l op p (g.Collect s) h few = tt
gathers_room l op p (g.Count s) h few = l.count p s h.1 few
gathers_room l op p (g.IfEmpty s) h few = tt
gathers_room l op p (g.ToList s) h few = tt
gathers_room l op p (g.Value s) h few = tt

totals_room : Rooms → (op : Operator) (p : List Push) (s : Totals) → IsTotals op p s → length p < 2 ^ 32 → HasTotalsRoom s
totals_room l op p (t.Max s) h few = tt
totals_room l op p (t.Min s) h few = tt
totals_room l op p (t.Reduce s) h few = l.reduce h.0 h.1 p s h.3 few
totals_room l op p (t.Sum s) h few = l.sum p s h.1 few

kept_room : Rooms → (op : Operator) (p : List Push) (s : Kept) → IsKept op p s → length p < 2 ^ 32 → HasKeptRoom s
kept_room l op p (k.ByAnswer s) h few = tt
kept_room l op p (k.ByItem s) h few = tt
kept_room l op p (k.Gathers s) h few = gathers_room l op p s h few
kept_room l op p (k.Totals s) h few = totals_room l op p s h few
kept_room l op p (k.Joins s) h few = tt

pub has_room : Rooms → (row : Row) (opts : OpOpts) (p : List Push) (s : OpState) → IsAfter row opts p s → length p < 2 ^ 32 → HasRoom s
has_room l row opts p s after few = record { kept = kept_room l (operator_of row opts) p s.kept after.kept few }
