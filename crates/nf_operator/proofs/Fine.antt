-- No push had a fault before the state that it left.
use Rattle.std.proofs.Common.{◌≡◌, List, sym, subst}
use Rattle.nf_bag.specs.declared.options.OpOpts.{OpOpts}
use Rattle.nf_bag.specs.declared.rows.Row.{Row}
use Rattle.nf_opstream.specs.Push.{Push}
use Rattle.nf_opstream.specs.Operator.{Operator, AreFine}
use Rattle.nf_operator.specs.Kept.{IsByAnswer, IsByItem, IsGathers, IsTotals, IsJoins}
use Rattle.nf_operator.specs.Row.{operator_of}
use Rattle.nf_operator.specs.State.{IsKept, IsAfter}
use Rattle.nf_operator.specs.declared.by_answer.ByAnswer.{ByAnswer}
use Rattle.nf_operator.specs.declared.by_answer.ByAnswer.TheVariants as a
use Rattle.nf_operator.specs.declared.by_item.ByItem.{ByItem}
use Rattle.nf_operator.specs.declared.by_item.ByItem.TheVariants as i
use Rattle.nf_operator.specs.declared.gathers.Gathers.{Gathers}
use Rattle.nf_operator.specs.declared.gathers.Gathers.TheVariants as g
use Rattle.nf_operator.specs.declared.joins.Joins.{Joins}
use Rattle.nf_operator.specs.declared.joins.Joins.TheVariants as j
use Rattle.nf_operator.specs.declared.state.Kept.{Kept}
use Rattle.nf_operator.specs.declared.state.Kept.TheVariants as k
use Rattle.nf_operator.specs.declared.state.OpState.{OpState}
use Rattle.nf_operator.specs.declared.totals.Totals.{Totals}
use Rattle.nf_operator.specs.declared.totals.Totals.TheVariants as t

fine_as : (op row : Operator) (p : List Push) → op ≡ row → AreFine row p → AreFine op p
fine_as op row p is h = subst (λ o. AreFine o p) (sym is) h

by_answer_fine : (op : Operator) (p : List Push) (s : ByAnswer) → IsByAnswer op p s → AreFine op p
by_answer_fine op p (a.Branch s) h = fine_as op _ p h.1 h.2.fine
by_answer_fine op p (a.Filter s) h = fine_as op _ p h.0 h.1
by_answer_fine op p (a.FlatMap s) h = fine_as op _ p h.0 h.1
by_answer_fine op p (a.Map s) h = fine_as op _ p h.0 h.1
by_answer_fine op p (a.MultiMap s) h = fine_as op _ p h.1 h.2.fine

by_item_fine : (op : Operator) (p : List Push) (s : ByItem) → IsByItem op p s → AreFine op p
by_item_fine op p (i.Flatten s) h = fine_as op _ p h.0 h.1
by_item_fine op p (i.Pass s) h = fine_as op _ p h.0 h.1
by_item_fine op p (i.Transpose s) h = fine_as op _ p h.0 h.1
by_item_fine op p (i.Unique s) h = fine_as op _ p h.0 h.1.fine

gathers_fine : (op : Operator) (p : List Push) (s : Gathers) → IsGathers op p s → AreFine op p
gathers_fine op p (g.Collect s) h = fine_as op _ p h.1 h.2.fine
gathers_fine op p (g.Count s) h = fine_as op _ p h.0 h.1.fine
gathers_fine op p (g.IfEmpty s) h = fine_as op _ p h.1 h.2.fine
gathers_fine op p (g.ToList s) h = fine_as op _ p h.0 h.1.fine
gathers_fine op p (g.Value s) h = fine_as op _ p h.0 h.1

totals_fine : (op : Operator) (p : List Push) (s : Totals) → IsTotals op p s → AreFine op p
totals_fine op p (t.Max s) h = fine_as op _ p h.0 h.1.fine
totals_fine op p (t.Min s) h = fine_as op _ p h.0 h.1.fine
totals_fine op p (t.Reduce s) h = fine_as op _ p h.2 h.3.fine
totals_fine op p (t.Sum s) h = fine_as op _ p h.0 h.1.fine

joins_fine : (op : Operator) (p : List Push) (s : Joins) → IsJoins op p s → AreFine op p
joins_fine op p (j.Combine s) h = fine_as op _ p h.1 h.2.fine
joins_fine op p (j.Group s) h = fine_as op _ p h.2 h.3.fine
joins_fine op p (j.Join s) h = fine_as op _ p h.2 h.3.fine

kept_fine : (op : Operator) (p : List Push) (s : Kept) → IsKept op p s → AreFine op p
kept_fine op p (k.ByAnswer s) h = by_answer_fine op p s h
kept_fine op p (k.ByItem s) h = by_item_fine op p s h
kept_fine op p (k.Gathers s) h = gathers_fine op p s h
kept_fine op p (k.Totals s) h = totals_fine op p s h
kept_fine op p (k.Joins s) h = joins_fine op p s h

pub all_fine : (row : Row) (opts : OpOpts) (p : List Push) (s : OpState) → IsAfter row opts p s → AreFine (operator_of row opts) p
all_fine row opts p s after = kept_fine (operator_of row opts) p s.kept after.kept
