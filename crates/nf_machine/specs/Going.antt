-- That a run goes on, and how much is left to do.
use Rattle.std.specs.Prelude.{ℕ, zero, suc, ◌+◌, ◌*◌, ◌-◌, List, [], ◌∷◌, Bool, true, false, cond, length, is_none, sum_by}
use Rattle.std.specs.declared.option.Option.TheVariants.{None, Some}
use Rattle.nf_value.specs.Plain.{Plain}
use Rattle.nf_graph.specs.Rules.{Rules, last_attempt}
use Rattle.nf_graph.specs.Node.{Kind, source, operator, process, PlainNode, node_at}
use Rattle.nf_machine.specs.Event.{PlainEvent, pass, taking, give, start, finish, reuse, close, abort, halt}
use Rattle.nf_machine.specs.State.{Take, Ticket, Spot, State}
use Rattle.nf_machine.specs.Step.{limit}
use Rattle.nf_machine.specs.Legal.{IsLegal}

-- a Pass, Take or Close
abbrev pub IsMove : PlainEvent → Type 0
IsMove (pass i k) = Unit {0}
IsMove (taking i port place t n) = Unit {0}
IsMove (close i) = Unit {0}
IsMove (give t a) = ⊥
IsMove (start t cause) = ⊥
IsMove (finish t r outs) = ⊥
IsMove (reuse t r outs) = ⊥
IsMove (abort t cause) = ⊥
IsMove halt = ⊥

-- there is a legal move
pub record HasMove (g : List PlainNode) (R : Rules) (s : State) : Type 0 where
  pub event : PlainEvent
  pub move : IsMove event
  pub legal : IsLegal g R s event

-- ---- what is left to do

-- the items that wait at the first n ports
abbrev pub waits_to : (ℕ → List Plain) → ℕ → ℕ
waits_to waiting zero = 0
waits_to waiting (suc k) = length (waiting k) + waits_to waiting k

-- a process without a queue port that has taken nothing
abbrev pub is_new : Kind → List Take → Bool
is_new (source items) taken = false
is_new (operator op) taken = false
is_new (process (Some q)) taken = false
is_new (process None) [] = true
is_new (process None) (t ∷ ts) = false

abbrev pub spot_work : PlainNode → Spot → ℕ
spot_work node sp = waits_to sp.waiting (length node.ports) + cond (is_new node.kind sp.taken) 1 0 + cond sp.closed 0 1

abbrev pub work_to : List PlainNode → (ℕ → Spot) → ℕ → ℕ
work_to g spots zero = 0
work_to g spots (suc i) = spot_work (node_at g i) (spots i) + work_to g spots i

-- the moves that are left at most: what the charge still allows, what waits, what has taken nothing, and what is open
abbrev pub moves_left : List PlainNode → State → ℕ
moves_left g s = (limit + 1 - s.charge) + work_to g s.spots (length g)

-- the events that a ticket in flight still has before it at most: two for each attempt
abbrev pub ticket_work : Ticket → ℕ
ticket_work k = 2 * (last_attempt - length k.told) + cond k.started 0 1

-- how many events are left at most. A Take makes a ticket, whose events count less than the move
abbrev pub work : List PlainNode → State → ℕ
work g s = 204 * moves_left g s + sum_by ticket_work s.tickets + cond (is_none s.stop) 1 0
