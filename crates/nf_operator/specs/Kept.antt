-- What the state of an operator keeps, whatever its row: one of these relations holds of the operator, the pushes so far and the state.
use Rattle.std.specs.Prelude.{◌≡◌, ℕ, List, ◌∷◌, Bool, Option, Result, MatchResult}
use Rattle.std.specs.Global.{Vec}
use Rattle.nf_value.specs.Plain.{Plain}
use Rattle.nf_value.specs.declared.value.Value.{Value}
use Rattle.nf_bag.specs.declared.fault.OpFault.{OpFault}
use Rattle.nf_bag.specs.declared.options.Total.{Total}
use Rattle.nf_opstream.specs.Push.{Push}
use Rattle.nf_opstream.specs.Operator.{Operator, AreFine}
use Rattle.nf_opstream.specs.Promise.{emits_of, HasEmitted, HasEnded, PushRefused, CloseRefused}
use Rattle.nf_opstream.specs.Rows.{pass_row, map_row, filter_row, flat_map_row, flatten_row, branch_row, multi_map_row, transpose_row, unique_row}
use Rattle.nf_opstream.specs.Kept.{IsBranchAfter, IsMultiMapAfter}
use Rattle.nf_opstream.specs.Seen.{IsUniqueAfter}
use Rattle.nf_opclose.specs.Rows.{value_row, count_row, if_empty_row, to_list_row, collect_row, min_row, max_row, sum_row, reduce_row}
use Rattle.nf_opclose.specs.Kept.{IsCountAfter, IsIfEmptyAfter, IsToListAfter, IsCollectAfter, IsMinAfter, IsMaxAfter, IsSumAfter, IsReduceAfter}
use Rattle.nf_opclose.specs.Room.{HasCountRoom, HasSumRoom, HasReduceRoom}
use Rattle.nf_opjoin.specs.Combined.{combine_row}
use Rattle.nf_opjoin.specs.Grouped.{group_row}
use Rattle.nf_opjoin.specs.Joined.{join_row}
use Rattle.nf_opjoin.specs.After.{IsJoinAfter}
use Rattle.nf_opjoin.specs.Kept.{IsCombineAfter, IsGroupAfter}
use Rattle.nf_operator.specs.declared.by_answer.ByAnswer.{ByAnswer}
use Rattle.nf_operator.specs.declared.by_answer.ByAnswer.TheVariants as a
use Rattle.nf_operator.specs.declared.by_item.ByItem.{ByItem}
use Rattle.nf_operator.specs.declared.by_item.ByItem.TheVariants as i
use Rattle.nf_operator.specs.declared.gathers.Gathers.{Gathers}
use Rattle.nf_operator.specs.declared.gathers.Gathers.TheVariants as g
use Rattle.nf_operator.specs.declared.joins.Joins.{Joins}
use Rattle.nf_operator.specs.declared.joins.Joins.TheVariants as j
use Rattle.nf_operator.specs.declared.totals.Totals.{Totals}
use Rattle.nf_operator.specs.declared.totals.Totals.TheVariants as t

abbrev pub IsByAnswer : Operator → List Push → ByAnswer → Type 0
IsByAnswer op p (a.Branch s) = (outs : ℕ) × (op ≡ branch_row outs) × IsBranchAfter outs p s
IsByAnswer op p (a.Filter s) = (op ≡ filter_row) × AreFine filter_row p
IsByAnswer op p (a.FlatMap s) = (op ≡ flat_map_row) × AreFine flat_map_row p
IsByAnswer op p (a.Map s) = (op ≡ map_row) × AreFine map_row p
IsByAnswer op p (a.MultiMap s) = (outs : ℕ) × (op ≡ multi_map_row outs) × IsMultiMapAfter outs p s

abbrev pub IsByItem : Operator → List Push → ByItem → Type 0
IsByItem op p (i.Flatten s) = (op ≡ flatten_row) × AreFine flatten_row p
IsByItem op p (i.Pass s) = (op ≡ pass_row) × AreFine pass_row p
IsByItem op p (i.Transpose s) = (op ≡ transpose_row) × AreFine transpose_row p
IsByItem op p (i.Unique s) = (op ≡ unique_row) × IsUniqueAfter p s

abbrev pub IsGathers : Operator → List Push → Gathers → Type 0
IsGathers op p (g.Collect s) = (flat : Bool) × (op ≡ collect_row flat) × IsCollectAfter flat p s
IsGathers op p (g.Count s) = (op ≡ count_row) × IsCountAfter p s
IsGathers op p (g.IfEmpty s) = (v : Plain) × (op ≡ if_empty_row v) × IsIfEmptyAfter v p s
IsGathers op p (g.ToList s) = (op ≡ to_list_row) × IsToListAfter p s
IsGathers op p (g.Value s) = (op ≡ value_row) × AreFine value_row p

abbrev pub IsTotals : Operator → List Push → Totals → Type 0
IsTotals op p (t.Max s) = (op ≡ max_row) × IsMaxAfter p s
IsTotals op p (t.Min s) = (op ≡ min_row) × IsMinAfter p s
IsTotals op p (t.Reduce s) = (total : Total) × (start : Option Plain) × (op ≡ reduce_row total start) × IsReduceAfter total start p s
IsTotals op p (t.Sum s) = (op ≡ sum_row) × IsSumAfter p s

abbrev pub IsJoins : Operator → List Push → Joins → Type 0
IsJoins op p (j.Combine s) = (by_first : Bool) × (op ≡ combine_row by_first) × IsCombineAfter by_first p s
IsJoins op p (j.Group s) = (n : ℕ) × (sort : Bool) × (op ≡ group_row n sort) × IsGroupAfter n sort p s
IsJoins op p (j.Join s) = (n : ℕ) × (wanted : Bool) × (op ≡ join_row n wanted) × IsJoinAfter n wanted p s

-- room for one more item
abbrev pub HasGathersRoom : Gathers → Type 0
HasGathersRoom (g.Collect s) = Unit {0}
HasGathersRoom (g.Count s) = HasCountRoom s
HasGathersRoom (g.IfEmpty s) = Unit {0}
HasGathersRoom (g.ToList s) = Unit {0}
HasGathersRoom (g.Value s) = Unit {0}

abbrev pub HasTotalsRoom : Totals → Type 0
HasTotalsRoom (t.Max s) = Unit {0}
HasTotalsRoom (t.Min s) = Unit {0}
HasTotalsRoom (t.Reduce s) = HasReduceRoom s
HasTotalsRoom (t.Sum s) = HasSumRoom s

-- what a push of x answers, and the state that it leaves if it has no fault
abbrev pub Goes : Operator → List Push → Push → Result (Vec (ℕ × Value)) OpFault → Type 0 → Type 0
Goes op p x r left = MatchResult r (λ es. HasEmitted op p x (emits_of es.items) × left) (PushRefused op p x)

-- the same for every operator and all pushes after which the state is
abbrev pub GoesOnBy : {S : Type 0} → (Operator → List Push → S → Type 0) → S → Push → Result (Vec (ℕ × Value)) OpFault → S → Type 0
GoesOnBy IsAfter s x r new = (op : Operator) (p : List Push) → IsAfter op p s → Goes op p x r (IsAfter op (x ∷ p) new)

-- what a close answers
abbrev pub EndsBy : {S : Type 0} → (Operator → List Push → S → Type 0) → S → Result (Vec (ℕ × Value)) OpFault → Type 0
EndsBy IsAfter s r = (op : Operator) (p : List Push) → IsAfter op p s → MatchResult r (λ es. HasEnded op p (emits_of es.items)) (CloseRefused op p)
