-- What is read of a whole history, in memory.
use Rattle.std.proofs.Common.{◌≡◌, ℕ, ◌+◌, ◌<◌, ◌≤◌, List, [], ◌∷◌, map, length, get_or, drop, ap, sym, ◌∙◌, subst}
use Rattle.std.proofs.lemmas.List.{drop_more, drop_all}
use Rattle.nf_graph.specs.Rules.{Rules, IsRules}
use Rattle.nf_machine.specs.declared.event.Event.{Event}
use Rattle.nf_machine.specs.declared.event.Event.TheVariants as e
use Rattle.nf_machine.specs.Event.{event_of}
use Rattle.nf_machine.specs.History.{IsHistory}
use Rattle.nf_flow.specs.Seen.{Seen, plain_of, events_of}
use Rattle.nf_tasks.specs.declared.target_list.Target.{Target}
use Rattle.nf_published.specs.declared.reading.Reading.{Reading}
use Rattle.nf_published.specs.declared.reading.Tried.{Tried}
use Rattle.nf_published.specs.Published.{Publishing, published_in}
use Rattle.nf_published.specs.Reading.{Stays, ReadsOn}
use Rattle.nf_published.proofs.Standing.{KeepsSoFar, keeps_all, keeps_else, keeps_finish, keeps_first, keeps_reuse, keeps_take}

-- the same for the events in memory that are left
abbrev pub KeepsTo : (R : Rules) (P : Publishing) (z : Seen) (rest : List Event) (tries : List Tried) (targets : List Target) → Type 0
KeepsTo R P z rest tries targets = KeepsSoFar (plain_of z) R P (events_of z) (map (event_of (plain_of z)) rest) tries targets

module _ (R : Rules) (rules : IsRules R) (P : Publishing) (z : Seen) where
  same_kept : (rest : List Event) (old new : Reading) → Stays old new → KeepsTo R P z rest old.tries.items old.targets.items → KeepsTo R P z rest new.tries.items new.targets.items
  same_kept rest old new same k =
      subst (λ (ts : List Target). KeepsTo R P z rest new.tries.items ts) (sym same.targets)
      (subst (λ (xs : List Tried). KeepsTo R P z rest xs old.targets.items) (sym same.tries) k)

  keeps_one : (x : Event) (rest : List Event) (old new : Reading) → KeepsTo R P z (x ∷ rest) old.tries.items old.targets.items → ReadsOn P z x old new → KeepsTo R P z rest new.tries.items new.targets.items
  keeps_one (e.Take node port place t n) rest old new k reads =
      subst (λ (ts : List Target). KeepsTo R P z rest new.tries.items ts) (sym reads.targets)
      (subst (λ (xs : List Tried). KeepsTo R P z rest xs old.targets.items) (sym reads.tries)
      (keeps_take (plain_of z) R P (events_of z) node port place t n (map (event_of (plain_of z)) rest) old.tries.items old.targets.items k))
  keeps_one (e.Finish t r outs) rest old new k reads =
      keeps_finish (plain_of z) R P (events_of z) t r outs (map (event_of (plain_of z)) rest) old.tries.items new.tries.items old.targets.items new.targets.items rules k reads.tries reads.targets
  keeps_one (e.Reuse t r outs) rest old new k reads =
      keeps_reuse (plain_of z) R P (events_of z) t r outs (map (event_of (plain_of z)) rest) old.tries.items new.tries.items old.targets.items new.targets.items rules k reads.tries reads.targets
  keeps_one (e.Pass port) rest old new k reads =
      same_kept rest old new reads (keeps_else (plain_of z) R P (events_of z) (event_of (plain_of z) (e.Pass port)) (map (event_of (plain_of z)) rest) old.tries.items old.targets.items tt k)
  keeps_one (e.Give t answer) rest old new k reads =
      same_kept rest old new reads (keeps_else (plain_of z) R P (events_of z) (event_of (plain_of z) (e.Give t answer)) (map (event_of (plain_of z)) rest) old.tries.items old.targets.items tt k)
  keeps_one (e.Start t cause) rest old new k reads =
      same_kept rest old new reads (keeps_else (plain_of z) R P (events_of z) (event_of (plain_of z) (e.Start t cause)) (map (event_of (plain_of z)) rest) old.tries.items old.targets.items tt k)
  keeps_one (e.Close node) rest old new k reads =
      same_kept rest old new reads (keeps_else (plain_of z) R P (events_of z) (event_of (plain_of z) (e.Close node)) (map (event_of (plain_of z)) rest) old.tries.items old.targets.items tt k)
  keeps_one (e.Abort t cause) rest old new k reads =
      same_kept rest old new reads (keeps_else (plain_of z) R P (events_of z) (event_of (plain_of z) (e.Abort t cause)) (map (event_of (plain_of z)) rest) old.tries.items old.targets.items tt k)
  keeps_one e.Halt rest old new k reads =
      same_kept rest old new reads (keeps_else (plain_of z) R P (events_of z) (event_of (plain_of z) e.Halt) (map (event_of (plain_of z)) rest) old.tries.items old.targets.items tt k)

  pub keeps_start : (history : List Event) (tries : List Tried) (targets : List Target) → IsHistory (plain_of z) R (events_of z) → history ≡ z.history → length tries ≡ 1 → targets ≡ []
      → KeepsTo R P z (drop 0 history) tries targets
  keeps_start history tries targets lawful is one none =
      subst (λ (h : List Event). KeepsTo R P z (drop 0 h) tries targets) (sym is)
      (subst (λ (ts : List Target). KeepsTo R P z z.history tries ts) (sym none) (keeps_first (plain_of z) R P (events_of z) tries lawful one))

  pub keeps_next : (history : List Event) (i : ℕ) (x : Event) (old new : Reading) → i < length history → x ≡ get_or history i x
      → KeepsTo R P z (drop i history) old.tries.items old.targets.items → ReadsOn P z x old new → KeepsTo R P z (drop (i + 1) history) new.tries.items new.targets.items
  keeps_next history i x old new l is k reads =
      let split : drop i history ≡ x ∷ drop (i + 1) history = drop_more history i x l ∙ ap (λ y. y ∷ drop (i + 1) history) (sym is) in
      keeps_one x (drop (i + 1) history) old new (subst (λ (h : List Event). KeepsTo R P z h old.tries.items old.targets.items) split k) reads

  pub keeps_end : (history : List Event) (i : ℕ) (tries : List Tried) (targets : List Target) → length history ≤ i → KeepsTo R P z (drop i history) tries targets
      → targets ≡ published_in P (plain_of z) (events_of z)
  keeps_end history i tries targets l k =
      keeps_all (plain_of z) R P (events_of z) tries targets (subst (λ (h : List Event). KeepsTo R P z h tries targets) (drop_all i history l) k)
