-- The counts of a `ChildLane`.
use Rattle.std.specs.Prelude.{ℕ}
use Rattle.nf_lane.specs.declared.child_lane.ChildLane.{ChildLane}

-- how many runs it has had
abbrev pub runs_of : {R : Type 0} → ChildLane R → ℕ
runs_of l = l.runs

-- how often it has failed
abbrev pub faults_of : {R : Type 0} → ChildLane R → ℕ
faults_of l = l.faults
