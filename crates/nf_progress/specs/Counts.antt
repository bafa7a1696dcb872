-- How far the tasks of a process are, step by step.
use Rattle.std.specs.Prelude.{ℕ, ◌+◌, ◌-◌, ◌^◌, min}
use Rattle.nf_progress.specs.declared.counts.Counts.{Counts}
use Rattle.nf_progress.specs.declared.counts.Step.{Step}
use Rattle.nf_progress.specs.declared.counts.Step.TheVariants as s

-- one task more, up to the type's end
abbrev pub one_more : ℕ → ℕ
one_more n = min (n + 1) (2 ^ 32 - 1)

-- the counts after a step of one of the tasks
abbrev pub counts_after : Step → Counts → Counts
counts_after s.Begun c = record c { running = one_more c.running }
counts_after s.Done c = record { done = one_more c.done; cached = c.cached; running = c.running - 1 }
counts_after s.Cached c = record { done = c.done; cached = one_more c.cached; running = c.running - 1 }
counts_after s.Lost c = record c { running = c.running - 1 }
