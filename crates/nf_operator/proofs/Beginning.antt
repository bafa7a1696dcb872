-- What is kept before the first item.
use Rattle.std.proofs.Common.{◌≡◌, [], sym, subst}
use Rattle.std.specs.Prelude.{Result, IfOk}
use Rattle.nf_bag.specs.declared.options.OpOpts.{OpOpts}
use Rattle.nf_bag.specs.declared.rows.Row.{Row}
use Rattle.nf_operator.specs.Row.{operator_of}
use Rattle.nf_operator.specs.State.{IsKept}
use Rattle.nf_operator.specs.declared.state.Kept.{Kept}

-- of the row that it is
pub begun : {E : Type 0} (row is : Row) (o : OpOpts) → row ≡ is → (r : Result Kept E) → IfOk r (IsKept (operator_of is o) []) → IfOk r (IsKept (operator_of row o) [])
begun row is o same r h = subst (λ z. IfOk r (IsKept (operator_of z o) [])) (sym same) h
