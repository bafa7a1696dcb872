-- The state of a run between two events.
use Rattle.std.specs.Prelude.{ℕ, zero, suc, ◌==◌, List, [], Bool, true, false, if◌then◌else◌, length}
use Rattle.std.specs.declared.option.Option.{Option}
use Rattle.std.specs.declared.option.Option.TheVariants.{None}
use Rattle.nf_value.specs.Plain.{Plain}
use Rattle.nf_opstream.specs.Push.{Push}
use Rattle.nf_job.specs.declared.report.Report.{Report}
use Rattle.nf_graph.specs.declared.port.Port.{Port}
use Rattle.nf_graph.specs.Rules.{Outs}
use Rattle.nf_graph.specs.Node.{Kind, source, operator, process, PlainNode, node_at}
use Rattle.nf_graph.specs.Meaning.{Instance}
use Rattle.nf_machine.specs.Event.{PlainStop}

-- what a node took at once
pub record Take : Type 0 where
  -- the place of the port that the item left, and 1; 0 where no item left a port
  pub slot : ℕ
  pub item : Plain
  -- of an operator the item alone
  pub inputs : List Plain
  -- how many takes of equal inputs came before; 0 for an operator
  pub n : ℕ

-- a task that came back
pub record Ended : Type 0 where
  pub take : Take
  -- the reports of its attempts
  pub told : List Report
  -- what the last report amounts to
  pub outs : Outs

-- a take in flight
pub record Ticket : Type 0 where
  pub number : ℕ
  pub node : ℕ
  pub take : Take
  -- the reports of its earlier attempts
  pub told : List Report
  -- whether its attempt is started
  pub started : Bool

-- a node's part of the state. What was taken, pushed and came back stands latest first
pub record Spot : Type 0 where
  -- what went to each output
  pub emitted : ℕ → List Plain
  -- for each port, how many of its producer's items passed
  pub passed : ℕ → ℕ
  -- for each port, the items that wait
  pub waiting : ℕ → List Plain
  pub taken : List Take
  pub pushed : List Push
  pub ended : List Ended
  pub closed : Bool

pub record State : Type 0 where
  pub spots : ℕ → Spot
  -- the takes in flight
  pub tickets : List Ticket
  -- the takes that were given up
  pub gone : List Ticket
  pub charge : ℕ
  pub stop : Option PlainStop
  -- the next ticket's number
  pub next : ℕ

abbrev pub attempt_of : Ticket → ℕ
attempt_of k = suc (length k.told)

abbrev pub instance : Take → Instance
instance t = (t.inputs, t.n)

abbrev pub port_of : ℕ → ℕ
port_of zero = 0
port_of (suc k) = k

-- the port that an item left, and the item
abbrev pub pair_of : Take → ℕ × Plain
pair_of t = (port_of t.slot, t.item)

-- what was emitted to the port
abbrev pub feed : (ℕ → Spot) → Port → List Plain
feed spots p = (spots p.from).emitted p.out

abbrev pub none : {A : Type 0} → ℕ → List A
none k = []

abbrev pub opened : Kind → Spot
opened (source items) = record { emitted = λ out. if out == 0 then items else []; passed = λ k. 0; waiting = none; taken = []; pushed = []; ended = []; closed = true }
opened (operator op) = record { emitted = none; passed = λ k. 0; waiting = none; taken = []; pushed = []; ended = []; closed = false }
opened (process queue) = record { emitted = none; passed = λ k. 0; waiting = none; taken = []; pushed = []; ended = []; closed = false }

-- each source has emitted its items and is closed; all else is empty
abbrev pub opening : List PlainNode → State
opening g = record { spots = λ i. opened (node_at g i).kind; tickets = []; gone = []; charge = 0; stop = None; next = 1 }
