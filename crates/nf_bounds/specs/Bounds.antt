-- What the numbers of a state stay below.
use Rattle.std.specs.Prelude.{◌≡◌, ◌≤◌, ◌<◌, ◌+◌, ◌^◌, ◌==◌, ℕ, List, false, length, count_by}
use Rattle.std.specs.declared.option.Option.TheVariants.{None, Some}
use Rattle.nf_graph.specs.Rules.{last_attempt}
use Rattle.nf_graph.specs.Node.{PlainNode, port_at, node_at}
use Rattle.nf_machine.specs.State.{Ticket, State, attempt_of, feed}
use Rattle.nf_machine.specs.Step.{limit, ticket_at}

pub record IsBounded (g : List PlainNode) (s : State) : Type 0 where
  pub next : s.next < 2 ^ 27
  -- a node takes less often than there are tickets
  pub taken : (i : ℕ) → length (s.spots i).taken < s.next
  -- what a node pushed or has in flight it took
  pub pushed : (i : ℕ) → length (s.spots i).pushed + count_by (λ k. k.node == i) s.tickets ≤ length (s.spots i).taken
  -- no more passes than was emitted
  pub passed : (i k : ℕ) → (s.spots i).passed k ≤ length (feed s.spots (port_at (node_at g i) k))
  pub charge : s.stop ≡ None → s.charge ≤ limit
  -- each pass is charged
  pub few : s.stop ≡ None → (i k : ℕ) → k < length (node_at g i).ports → (s.spots i).passed k ≤ limit
  pub attempt : (t : ℕ) (k : Ticket) → ticket_at t s.tickets ≡ Some k → attempt_of k ≤ last_attempt
  pub still : (t : ℕ) (k : Ticket) → ticket_at t s.tickets ≡ Some k → (s.spots k.node).closed ≡ false
