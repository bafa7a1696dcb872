use Rattle.std.proofs.Common.{◌≡◌, length, map, ℕ}
use Rattle.nf_locked.specs.Out.{tallies}
use Rattle.nf_pool.proofs.whole_run.lists.Given as goal

abbrev pub invariant-loop : goal.invariant-loop
invariant-loop l = (length (map (λ w. w.items) l.out.items) ≡ l.counter) × ((n : ℕ) → tallies n (map (λ w. w.items) l.out.items) ≡ 0)
