-- What a `ShellLane` holds.
use Rattle.std.specs.Prelude.{ℕ, ◌+◌, ◌-◌, ◌^◌, min, List, length, option_map}
use Rattle.std.specs.declared.option.Option.{Option}
use Rattle.nf_host.specs.Files.{Files}
use Rattle.nf_lane.specs.Store.{Store}
use Rattle.nf_shell.specs.Places.{stored_in}
use Rattle.nf_shell.specs.declared.damage.Damage.{Damage}
use Rattle.nf_shell.specs.declared.shell_lane.ShellLane.{ShellLane}

-- its host
abbrev pub host_of : {H : Type 0} → ShellLane H → H
host_of l = l.host

-- its work folder
abbrev pub work_of : {H : Type 0} → ShellLane H → List ℕ
work_of l = l.work

-- how many runs it has had
abbrev pub runs_of : {H : Type 0} → ShellLane H → ℕ
runs_of l = l.runs

-- the damaged files that its runs met
abbrev pub damages_of : {H : Type 0} → ShellLane H → List Damage
damages_of l = l.damages.items

-- what its host tells
abbrev pub told_by : {H T : Type 0} → (H → T) → ShellLane H → T
told_by tells l = tells l.host

-- its count of failures: its host's, and that of its damages
abbrev pub faults_of : ℕ → List Damage → ℕ
faults_of count damages = min (count + length damages) (2 ^ 64 - 1)

-- the same, by its host's count
abbrev pub faults_by : {H : Type 0} → (H → ℕ) → ShellLane H → ℕ
faults_by count l = faults_of (count l.host) l.damages.items

-- its file store, if its host tells its files
abbrev pub store_of : Option Files → List ℕ → Option Store
store_of told work = option_map (λ f. stored_in f work) told

-- the same, by what its host tells
abbrev pub store_by : {H : Type 0} → (H → Option Files) → ShellLane H → Option Store
store_by tells l = store_of (tells l.host) l.work
