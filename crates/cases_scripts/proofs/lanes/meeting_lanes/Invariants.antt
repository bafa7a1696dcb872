use Rattle.std.proofs.Common.{◌≡◌, ◌<◌, ◌≤◌, ◌^◌, All, length}
use Rattle.nf_shell.specs.ShellLane.{runs_of}
use Rattle.cases_scripts.specs.MeetLane.{told_by}
use Rattle.cases_scripts.proofs.lanes.meeting_lanes.Given as goal

abbrev pub invariant-loop : goal.invariant-loop
invariant-loop g l = (length l.lanes.items ≡ l.counter) × (l.counter ≤ 16) × All (λ x. told_by runs_of x < 2 ^ 62) l.lanes.items
