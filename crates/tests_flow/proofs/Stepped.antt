-- The moves of two small graphs are legal.
use Rattle.std.proofs.Common.{◌≡◌, ℕ, zero, suc, ◌+◌, ◌<◌, ◌≤◌, ◌^◌, List, [], ◌∷◌, length, true, false, refl, sym, ◌∙◌, subst, arith, lit<}
use Rattle.std.specs.Prelude.{◌==◌, pos, Some, Ok, Err, Result, is_ok}
use Rattle.std.proofs.lemmas.Bool.{true≢false}
use Rattle.std.proofs.lemmas.Bool.Decides.{nat_tests}
use Rattle.nf_value.specs.Plain.{Plain, int}
use Rattle.nf_bag.specs.declared.fault.OpFault.{OpFault}
use Rattle.nf_opstream.specs.Push.{Push, push_of}
use Rattle.nf_graph.specs.declared.node.Node.{Node}
use Rattle.nf_graph.specs.Node.{node_at, port_at, port_in}
use Rattle.nf_graph.specs.WellMade.{FitsKind, IsWellMade, ReadsEarlier, node_in, plain_graph}
use Rattle.nf_machine.specs.Legal.{CloseIsLegal, IsOperatorKind}
use Rattle.nf_machine.specs.State.{State, Ticket, feed, opening}
use Rattle.nf_machine.specs.Step.{pushed_on, take_at, ticket_at, with_spot}
use Rattle.nf_flight.specs.declared.flights.Flights.{Flights}
use Rattle.nf_flight.specs.Flights.{IsFlights, IsFlying}
use Rattle.nf_wiring.specs.Places.{place_in}
use Rattle.nf_nodes.specs.Nodes.{AreNodes}
use Rattle.nf_nodes.specs.Steps.{CanClose, CanGive, CanTakeThere, GaveOn, Gives, MayTake, left, received, taken}
use Rattle.nf_nodes.specs.declared.nodes.Nodes.{Nodes}
use Rattle.tests_flow.specs.View.{task_nodes, viewed_nodes, view_node}

-- ---- they are graphs

reads_view : (nodes : List Node) → 1 ≤ (node_in nodes 0).outs → (i k : ℕ) → i ≡ 1 → k < length view_node.ports → ReadsEarlier nodes i (port_in view_node.ports k)
reads_view nodes o i zero e l = record { earlier = omega arith; out = omega arith; value = λ t. absurd (true≢false (sym t)) }
reads_view nodes o i (suc k) e l = absurd (omega arith)

viewed_fits : (i : ℕ) → FitsKind (node_in viewed_nodes i) (node_in viewed_nodes i).kind
viewed_fits zero = refl
viewed_fits (suc zero) = record { options = tt; ports = refl; outputs = refl }
viewed_fits (suc (suc i)) = refl

viewed_reads : (i k : ℕ) → k < length (node_in viewed_nodes i).ports → ReadsEarlier viewed_nodes i (port_in (node_in viewed_nodes i).ports k)
viewed_reads zero k l = absurd (omega arith)
viewed_reads (suc zero) k l = reads_view viewed_nodes (omega arith) 1 k refl l
viewed_reads (suc (suc i)) k l = absurd (omega arith)

pub viewed_made : (nodes : List Node) → nodes ≡ viewed_nodes → IsWellMade nodes
viewed_made nodes e = subst IsWellMade (sym e) (record { few_nodes = omega arith; few_ports = omega arith; kinds = viewed_fits; reads = viewed_reads })

task_fits : (i : ℕ) → FitsKind (node_in task_nodes i) (node_in task_nodes i).kind
task_fits zero = λ k l. absurd (omega arith)
task_fits (suc zero) = record { options = tt; ports = refl; outputs = refl }
task_fits (suc (suc i)) = refl

task_reads : (i k : ℕ) → k < length (node_in task_nodes i).ports → ReadsEarlier task_nodes i (port_in (node_in task_nodes i).ports k)
task_reads zero k l = absurd (omega arith)
task_reads (suc zero) k l = reads_view task_nodes (omega arith) 1 k refl l
task_reads (suc (suc i)) k l = absurd (omega arith)

pub task_made : (nodes : List Node) → nodes ≡ task_nodes → IsWellMade nodes
task_made nodes e = subst IsWellMade (sym e) (record { few_nodes = omega arith; few_ports = omega arith; kinds = task_fits; reads = task_reads })

-- ---- the item through `view`

abbrev pub begun : List Node → State
begun ns = opening (plain_graph ns)

-- 7 waits at the port
abbrev pub waits : List Node → State
waits ns = received (begun ns) (place_in ns 0) (int (pos 7))

-- `view` took it
abbrev pub took : List Node → State
took ns = taken ns (waits ns) 1 0 0

abbrev pub answered : Push
answered = push_of 0 (int (pos 7)) (int (pos 8))

abbrev pub ticket_of : List Node → Ticket
ticket_of ns = record { number = 1; node = 1; take = take_at (plain_graph ns) (waits ns) 1 0 0; told = []; started = false }

-- it came back with the answer
abbrev pub gave : List Node → List (ℕ × Plain) → State
gave ns es = with_spot (left (took ns) 1) 1 (pushed_on ((left (took ns) 1).spots 1) answered es)

takes : MayTake viewed_nodes (waits viewed_nodes) 1 0 0
takes = record { running = refl; ready = (lit< tt, lit< tt); ticket = refl; number = refl }

source_closed : (es : List (ℕ × Plain)) (k : ℕ) → k < 1 → ((gave viewed_nodes es).spots (port_at (node_at (plain_graph viewed_nodes) 1) k).from).closed ≡ true
source_closed es zero l = refl
source_closed es (suc k) l = absurd (omega arith)

all_passed : (es : List (ℕ × Plain)) (k : ℕ) → k < 1 → ((gave viewed_nodes es).spots 1).passed k ≡ length (feed (gave viewed_nodes es).spots (port_at (node_at (plain_graph viewed_nodes) 1) k))
all_passed es zero l = refl
all_passed es (suc k) l = absurd (omega arith)

none_waits : (es : List (ℕ × Plain)) (k : ℕ) → k < 1 → ((gave viewed_nodes es).spots 1).waiting k ≡ []
none_waits es zero l = refl
none_waits es (suc k) l = absurd (omega arith)

closes : (es : List (ℕ × Plain)) → CloseIsLegal (plain_graph viewed_nodes) (gave viewed_nodes es) 1
closes es = record { running = refl; still = refl; producers = source_closed es; passed = all_passed es; flight = refl; done = none_waits es }

-- the ticket is the one that was made
pub there : (ns : List Node) → ticket_at 1 (took ns).tickets ≡ Some (ticket_of ns)
there ns = refl

pub takes_there : (ns : List Node) → ns ≡ viewed_nodes → MayTake ns (waits ns) 1 0 0
takes_there ns e = subst (λ (m : List Node). MayTake m (waits m) 1 0 0) (sym e) takes

module _ (ns : List Node) (e : ns ≡ viewed_nodes) (c : Nodes) where
  pub may_take : AreNodes ns (waits ns) c → CanTakeThere ns c 1 0 0
  may_take h = record {
    state = waits ns;
    shows = h;
    below = subst (λ (m : List Node). 1 < length m) (sym e) (lit< tt);
    may = takes_there ns e;
    few = subst (λ (m : List Node). length ((waits m).spots 1).taken + 1 < 2 ^ 32) (sym e) (lit< tt);
  }

  pub may_give : AreNodes ns (took ns) c → CanGive ns c 1
  may_give h = record {
    state = took ns;
    shows = h;
    below = subst (λ (m : List Node). 1 < length m) (sym e) (lit< tt);
    kind = subst (λ (m : List Node). IsOperatorKind (node_at (plain_graph m) 1).kind) (sym e) tt;
    still = subst (λ (m : List Node). ((took m).spots 1).closed ≡ false) (sym e) refl;
    few = subst (λ (m : List Node). length ((took m).spots 1).pushed < 2 ^ 32) (sym e) (lit< tt);
  }

  pub may_close : (es : List (ℕ × Plain)) → AreNodes ns (gave ns es) c → CanClose ns c 1
  may_close es h = record { state = gave ns es; shows = h; may = subst (λ (m : List Node). CloseIsLegal (plain_graph m) (gave m es) 1) (sym e) (closes es) }

-- an answer that isn't a fault
pub given : {A : Type 0} (ns : List Node) (u : State) (i : ℕ) (x : Push) (r : Result A OpFault) (c : Nodes) → is_ok r ≡ true → Gives ns u i x r c → GaveOn ns u i x c
given ns u i x (Ok a) c t h = h
given ns u i x (Err f) c t h = absurd (true≢false (sym t))

-- ---- the task

abbrev pub ran : List Node → State
ran ns = taken ns (begun ns) 0 0 0

abbrev pub task_of : List Node → Ticket
task_of ns = record { number = 1; node = 0; take = take_at (plain_graph ns) (begun ns) 0 0 0; told = []; started = false }

starts : MayTake task_nodes (begun task_nodes) 0 0 0
starts = record { running = refl; ready = (refl, refl, (λ k l v. absurd (omega arith)), refl); ticket = refl; number = refl }

pub task_there : (ns : List Node) → ticket_at 1 (ran ns).tickets ≡ Some (task_of ns)
task_there ns = refl

pub starts_there : (ns : List Node) → ns ≡ task_nodes → MayTake ns (begun ns) 0 0 0
starts_there ns e = subst (λ (m : List Node). MayTake m (begun m) 0 0 0) (sym e) starts

-- ---- takes in flight of the tests

pub found : (t : ℕ) (k : Ticket) → k.number ≡ 1 → t ≡ 1 → ticket_at t (k ∷ []) ≡ Some k
found t k own e = let y : (k.number == t) ≡ true = same k.number t (own ∙ sym e) in rw y refl
  where
    same : (a b : ℕ) → a ≡ b → (a == b) ≡ true
    same a b e = grind (arith, nat_tests)

-- the first take is in flight
pub flying_first : (f : Flights) (t : ℕ) (k : Ticket) → IsFlights 2 (k ∷ []) f → k.number ≡ 1 → t ≡ 1 → IsFlying f t
flying_first f t k h own e = record { next = 2; tickets = k ∷ []; shows = h; ticket = k; there = found t k own e }
