-- The states of `branch` and `multiMap` after one more push.
use Rattle.std.proofs.Common.{◌≡◌, ℕ, List, ◌∷◌}
use Rattle.std.specs.Prelude.{Result, Ok, Err, IfOk}
use Rattle.nf_bag.specs.declared.fault.OpFault.{OpFault}
use Rattle.nf_opstream.specs.Push.{Push}
use Rattle.nf_opstream.specs.Operator.{AreFine}
use Rattle.nf_opstream.specs.Rows.{branch_row, multi_map_row}
use Rattle.nf_opstream.specs.Kept.{IsBranchAfter, IsMultiMapAfter}
use Rattle.nf_opstream.specs.declared.branch.BranchState.{BranchState}
use Rattle.nf_opstream.specs.declared.multi_map.MultiMapState.{MultiMapState}

pub branch_more : {T : Type 0} (outs : ℕ) (p : List Push) (x : Push) (s : BranchState) → IsBranchAfter outs p s → (r : Result T OpFault) → IfOk r (λ t. AreFine (branch_row outs) (x ∷ p)) → IfOk r (λ t. IsBranchAfter outs (x ∷ p) s)
branch_more outs p x s after (Ok t) h = record { fine = h; outputs = after.outputs }
branch_more outs p x s after (Err f) h = tt

pub multi_map_more : {T : Type 0} (outs : ℕ) (p : List Push) (x : Push) (s : MultiMapState) → IsMultiMapAfter outs p s → (r : Result T OpFault) → IfOk r (λ t. AreFine (multi_map_row outs) (x ∷ p)) → IfOk r (λ t. IsMultiMapAfter outs (x ∷ p) s)
multi_map_more outs p x s after (Ok t) h = record { fine = h; outputs = after.outputs }
multi_map_more outs p x s after (Err f) h = tt
