-- The one state of all operators.
use Rattle.std.specs.Prelude.{ℕ, List, ◌∷◌, Result, MatchResult}
use Rattle.std.specs.Global.{Vec}
use Rattle.nf_value.specs.declared.value.Value.{Value}
use Rattle.nf_bag.specs.declared.fault.OpFault.{OpFault}
use Rattle.nf_bag.specs.declared.options.OpOpts.{OpOpts}
use Rattle.nf_bag.specs.declared.rows.Row.{Row}
use Rattle.nf_opstream.specs.Push.{Push}
use Rattle.nf_opstream.specs.Operator.{Operator}
use Rattle.nf_opstream.specs.Promise.{emits_of, HasEmitted, HasEnded, PushRefused, CloseRefused}
use Rattle.nf_operator.specs.Row.{operator_of}
use Rattle.nf_operator.specs.Kept.{IsByAnswer, IsByItem, IsGathers, IsTotals, IsJoins, HasGathersRoom, HasTotalsRoom}
use Rattle.nf_operator.specs.declared.state.Kept.{Kept}
use Rattle.nf_operator.specs.declared.state.Kept.TheVariants as k
use Rattle.nf_operator.specs.declared.state.OpState.{OpState}

abbrev pub IsKept : Operator → List Push → Kept → Type 0
IsKept op p (k.ByAnswer s) = IsByAnswer op p s
IsKept op p (k.ByItem s) = IsByItem op p s
IsKept op p (k.Gathers s) = IsGathers op p s
IsKept op p (k.Totals s) = IsTotals op p s
IsKept op p (k.Joins s) = IsJoins op p s

abbrev pub HasKeptRoom : Kept → Type 0
HasKeptRoom (k.ByAnswer s) = Unit {0}
HasKeptRoom (k.ByItem s) = Unit {0}
HasKeptRoom (k.Gathers s) = HasGathersRoom s
HasKeptRoom (k.Totals s) = HasTotalsRoom s
HasKeptRoom (k.Joins s) = Unit {0}

-- the state of this row's operator, with these options, after these pushes (latest first), none of which had a fault
pub record IsAfter (row : Row) (opts : OpOpts) (p : List Push) (s : OpState) : Type 0 where
  pub kept : IsKept (operator_of row opts) p s.kept

-- room for one more item
pub record HasRoom (s : OpState) : Type 0 where
  pub kept : HasKeptRoom s.kept

-- a push of x answers what the operator gives: its emits or its fault
abbrev pub Gives : OpState → Push → Result (Vec (ℕ × Value)) OpFault → Type 0
Gives s x r = (row : Row) (opts : OpOpts) (p : List Push) → IsAfter row opts p s → MatchResult r (λ es. HasEmitted (operator_of row opts) p x (emits_of es.items)) (PushRefused (operator_of row opts) p x)

-- the new state is that after one more push
abbrev pub IsNext : OpState → Push → OpState → Type 0
IsNext s x new = (row : Row) (opts : OpOpts) (p : List Push) → IsAfter row opts p s → IsAfter row opts (x ∷ p) new

-- the close answers what ends the operator: its last emits or its fault
abbrev pub Ends : OpState → Result (Vec (ℕ × Value)) OpFault → Type 0
Ends s r = (row : Row) (opts : OpOpts) (p : List Push) → IsAfter row opts p s → MatchResult r (λ es. HasEnded (operator_of row opts) p (emits_of es.items)) (CloseRefused (operator_of row opts) p)
