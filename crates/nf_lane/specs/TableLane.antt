-- What a `TableLane` holds.
use Rattle.std.specs.Prelude.{ℕ, List, Bool, ◌==◌}
use Rattle.std.specs.List.{list_any}
use Rattle.nf_value.specs.declared.file.Digest.{Digest}
use Rattle.nf_lane.specs.World.{World}
use Rattle.nf_lane.specs.declared.table_lane.TableLane.{TableLane}

-- its table
abbrev pub world_of : TableLane → World
world_of l = l.table

-- the numbers of the runs that fail
abbrev pub failing_of : TableLane → List ℕ
failing_of l = l.failing.items

-- the digests that its store has
abbrev pub stored_of : TableLane → List Digest
stored_of l = l.stored.items

-- how many runs it has had
abbrev pub runs_of : TableLane → ℕ
runs_of l = l.runs

-- how often it has failed
abbrev pub faults_of : TableLane → ℕ
faults_of l = l.faults

-- whether its next run fails
abbrev pub is_next_failing : TableLane → Bool
is_next_failing l = list_any (λ run. run == runs_of l) (failing_of l)
