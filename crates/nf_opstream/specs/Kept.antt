-- The states of `branch` and `multiMap` after these pushes, none of which had a fault.
use Rattle.std.specs.Prelude.{◌≡◌, ℕ, List}
use Rattle.nf_opstream.specs.Push.{Push}
use Rattle.nf_opstream.specs.Operator.{AreFine}
use Rattle.nf_opstream.specs.Rows.{branch_row, multi_map_row}
use Rattle.nf_opstream.specs.declared.branch.BranchState.{BranchState}
use Rattle.nf_opstream.specs.declared.multi_map.MultiMapState.{MultiMapState}

-- the number of outputs
pub record IsBranchAfter (outs : ℕ) (p : List Push) (s : BranchState) : Type 0 where
  pub fine : AreFine (branch_row outs) p
  pub outputs : s.outs ≡ outs

-- the number of outputs
pub record IsMultiMapAfter (outs : ℕ) (p : List Push) (s : MultiMapState) : Type 0 where
  pub fine : AreFine (multi_map_row outs) p
  pub outputs : s.outs ≡ outs
