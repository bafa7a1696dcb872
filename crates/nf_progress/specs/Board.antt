-- How far the tasks of all processes are.
use Rattle.std.specs.Prelude.{ℕ, zero, suc, List, [], ◌∷◌, Bool, bytes_eq}
use Rattle.nf_progress.specs.declared.board.Board.{Board}
use Rattle.nf_progress.specs.declared.board.Tasks.{Tasks}
use Rattle.nf_progress.specs.declared.counts.Step.{Step}
use Rattle.nf_progress.specs.Counts.{counts_after}

-- the processes, in their order
abbrev pub tasks_of : Board → List Tasks
tasks_of b = b.processes.items

-- a process none of whose tasks has begun
abbrev pub fresh : List ℕ → Tasks
fresh process = record { process = process; counts = record { done = 0; cached = 0; running = 0 } }

-- whether tasks are those of a process of this name
abbrev pub is_of : List ℕ → Tasks → Bool
is_of process t = bytes_eq t.process process

-- a task of the process at this place has come so far
abbrev pub told_of : List Tasks → ℕ → Step → List Tasks
told_of [] i s = []
told_of (t ∷ ts) zero s = record t { counts = counts_after s t.counts } ∷ ts
told_of (t ∷ ts) (suc i) s = t ∷ told_of ts i s
