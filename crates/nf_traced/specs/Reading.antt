-- Reading a history event by event.
use Rattle.std.specs.Prelude.{◌≡◌, ◌≤◌, ◌+◌, ◌==◌, ℕ, suc, List, [], ◌∷◌, ◌++◌, Bool, false, map, if◌then◌else◌}
use Rattle.std.specs.List.{AllByRecursion}
use Rattle.nf_graph.specs.Rules.{last_attempt}
use Rattle.nf_machine.specs.declared.event.Event.{Event}
use Rattle.nf_machine.specs.declared.event.Event.TheVariants as e
use Rattle.nf_flow.specs.Questions.{is_again}
use Rattle.nf_trace.specs.declared.task.TaskStatus.{TaskStatus}
use Rattle.nf_trace.specs.declared.task.TaskStatus.TheVariants.{Cached, Aborted}
use Rattle.nf_traced.specs.declared.taken.Taken.{Taken}
use Rattle.nf_traced.specs.Takes.{ended_as, new_take}

-- no task has more attempts than it may have
abbrev pub AreFew : List Taken → Type 0
AreFew xs = AllByRecursion (λ x. x.reached ≤ last_attempt) xs

-- the tickets of these takes are numbered from t on
abbrev pub IsNumbered : ℕ → List Taken → Type 0
IsNumbered t [] = Unit {0}
IsNumbered t (x ∷ xs) = (x.ticket ≡ t) × IsNumbered (suc t) xs

-- a take with a new status, and with one more attempt if it is tried again
abbrev pub moved : Bool → TaskStatus → Taken → Taken
moved again status x = record {
  ticket = x.ticket;
  node = x.node;
  n = x.n;
  reached = if again then x.reached + 1 else x.reached;
  status = status;
}

-- the same for the take of ticket t alone
abbrev pub noted : ℕ → Bool → TaskStatus → Taken → Taken
noted t again status x = if t == x.ticket then moved again status x else x

-- the takes after an event of ticket t, where they are numbered from 1
abbrev pub Notes : ℕ → Bool → TaskStatus → List Taken → List Taken → Type 0
Notes t again status old new = IsNumbered 1 old → new ≡ map (noted t again status) old

-- the takes after an event
abbrev pub ReadsOn : Event → List Taken → List Taken → Type 0
ReadsOn (e.Take node port place t n) old new = new ≡ old ++ new_take t node n ∷ []
ReadsOn (e.Finish t r outs) old new = Notes t (is_again outs) (ended_as r.exit outs) old new
ReadsOn (e.Reuse t r outs) old new = Notes t (is_again outs) (Cached r.exit) old new
ReadsOn (e.Abort t cause) old new = Notes t false Aborted old new
ReadsOn (e.Pass port) old new = new ≡ old
ReadsOn (e.Give t answer) old new = new ≡ old
ReadsOn (e.Start t cause) old new = new ≡ old
ReadsOn (e.Close node) old new = new ≡ old
ReadsOn e.Halt old new = new ≡ old
