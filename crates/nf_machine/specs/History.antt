-- Lawful histories, where they end, and the outcomes that they tell.
use Rattle.std.specs.Prelude.{ℕ, zero, suc, ◌≡◌, ◌==◌, ◌&&◌, ◌||◌, if◌then◌else◌, List, [], ◌∷◌, ◌++◌, Bool, true, false, length, is_some, is_none, is_ok}
use Rattle.std.specs.declared.option.Option.{Option}
use Rattle.std.specs.declared.option.Option.TheVariants.{None, Some}
use Rattle.std.specs.List.{Contains}
use Rattle.nf_value.specs.Plain.{Plain}
use Rattle.nf_job.specs.declared.report.Report.{Report}
use Rattle.nf_graph.specs.Rules.{Rules}
use Rattle.nf_graph.specs.Node.{Kind, source, operator, process, PlainNode}
use Rattle.nf_graph.specs.Meaning.{Outcomes, Instance, same_inputs}
use Rattle.nf_machine.specs.Event.{PlainEvent}
use Rattle.nf_machine.specs.State.{Ended, Ticket, Spot, State, instance, opening}
use Rattle.nf_machine.specs.Step.{step, replay}
use Rattle.nf_machine.specs.Legal.{IsLegal}

-- each event is legal in the state before it
abbrev pub IsLawful : List PlainNode → Rules → State → List PlainEvent → Type 0
IsLawful g R s [] = Unit {0}
IsLawful g R s (e ∷ es) = IsLegal g R s e × IsLawful g R (step g s e) es

-- the state after a history from the opening
abbrev pub after : List PlainNode → List PlainEvent → State
after g h = replay g (opening g) h

-- a history from the opening is lawful
abbrev pub IsHistory : List PlainNode → Rules → List PlainEvent → Type 0
IsHistory g R h = IsLawful g R (opening g) h

-- ---- ends

-- the first n nodes are closed
abbrev pub closed_to : (ℕ → Spot) → ℕ → Bool
closed_to spots zero = true
closed_to spots (suc i) = (spots i).closed && closed_to spots i

abbrev pub all_closed : List PlainNode → State → Bool
all_closed g s = closed_to s.spots (length g)

abbrev pub is_quiet : List Ticket → Bool
is_quiet [] = true
is_quiet (k ∷ ks) = false

-- all nodes are closed, or the run is stopped and nothing is in flight
abbrev pub is_over : List PlainNode → State → Bool
is_over g s = all_closed g s || (is_some s.stop && is_quiet s.tickets)

abbrev pub ended_well : List PlainNode → State → Bool
ended_well g s = all_closed g s && is_none s.stop

-- a closed node was closed without a fault
abbrev pub ClosedWell : Kind → Spot → Type 0
ClosedWell (source items) sp = Unit {0}
ClosedWell (operator op) sp = is_ok (op.ends sp.pushed) ≡ true
ClosedWell (process queue) sp = Unit {0}

-- ---- outcomes

abbrev pub is_instance : List Plain → ℕ → Instance → Bool
is_instance inputs n z = same_inputs inputs z.0 && (n == z.1)

-- the reports of the task of this instance that came back
abbrev pub told_by_ended : List Plain → ℕ → List Ended → Option (List Report)
told_by_ended inputs n [] = None
told_by_ended inputs n (e ∷ es) = if is_instance inputs n (instance e.take) then Some e.told else told_by_ended inputs n es

-- the reports of the ticket of this instance of node i
abbrev pub told_by_tickets : ℕ → List Plain → ℕ → List Ticket → Option (List Report)
told_by_tickets i inputs n [] = None
told_by_tickets i inputs n (k ∷ ks) = if (k.node == i) && is_instance inputs n (instance k.take) then Some k.told else told_by_tickets i inputs n ks

abbrev pub or_else : Option (List Report) → List Report → List Report
or_else None rest = rest
or_else (Some rs) rest = rs

-- the outcomes that a run was told: for each instance the reports of its task, which came back, is in flight or was given up
abbrev pub outcomes_of : State → Outcomes
outcomes_of s i inputs n = or_else (told_by_ended inputs n (s.spots i).ended) (or_else (told_by_tickets i inputs n s.tickets) (or_else (told_by_tickets i inputs n s.gone) []))

pub record IsPrefix (xs ys : List Report) : Type 0 where
  pub rest : List Report
  pub is : ys ≡ xs ++ rest

-- the outcomes begin with the reports that a run was told, of tasks that came back, were given up, and are in flight
pub record Agrees (o : Outcomes) (s : State) : Type 0 where
  pub ended : (i : ℕ) (e : Ended) → Contains (s.spots i).ended e → IsPrefix e.told (o i e.take.inputs e.take.n)
  pub gone : (k : Ticket) → Contains s.gone k → IsPrefix k.told (o k.node k.take.inputs k.take.n)
  pub flying : (k : Ticket) → Contains s.tickets k → IsPrefix k.told (o k.node k.take.inputs k.take.n)
