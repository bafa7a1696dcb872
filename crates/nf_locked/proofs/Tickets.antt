-- What is known of a ticket over the opening holds of it in flight.
use Rattle.std.proofs.Common.{◌≡◌, ℕ, ◌+◌, ◌≤◌, List, [], ◌∷◌, cond, refl, ap, sym, ◌∙◌, subst, arith}
use Rattle.std.specs.Prelude.{Some, Result}
use Rattle.nf_value.specs.declared.value.Value.{Value}
use Rattle.nf_value.specs.declared.fault.EvalFault.{EvalFault}
use Rattle.nf_graph.specs.declared.node.Node.{Node}
use Rattle.nf_graph.specs.Node.{IsGraph, node_at}
use Rattle.nf_graph.specs.Rules.{IsRules}
use Rattle.nf_graph.specs.WellMade.{plain_graph}
use Rattle.nf_machine.specs.declared.event.Event.TheVariants as e
use Rattle.nf_machine.specs.declared.stop.Stop.{Stop}
use Rattle.nf_machine.specs.declared.stop.Stop.TheVariants as s
use Rattle.nf_machine.specs.History.{IsHistory}
use Rattle.nf_machine.specs.Legal.{IsOperatorKind, IsProcessKind}
use Rattle.nf_flight.specs.declared.ticket.Ticket.{Ticket}
use Rattle.nf_flight.specs.Ticket.{number_of, node_of, attempt_of, next_attempt}
use Rattle.nf_flow.specs.Seen.{Seen, plain_of, events_of, MayAdd}
use Rattle.nf_flow.specs.Questions.{IsFlying}
use Rattle.nf_flow.proofs.Standing.{one_input}
use Rattle.nf_core.specs.Calls.{IsAnswered, IsTask}
use Rattle.nf_core.specs.Opening.{Opening}
use Rattle.nf_core.proofs.Legals.{memory_legal}
use Rattle.nf_serial.specs.Serial.{MayLose}
use Rattle.nf_locked.specs.Locked.{AnswersIt, IsItemOf, IsLoss, IsTaskOf, is_lanes}

pub task_in : (F : Opening) (z : Seen) (t u : Ticket) → z.graph ≡ F.graph → u ≡ t → IsTaskOf F t → IsTask z u
task_in F z t u graph same task =
    subst (IsTask z) (sym same) (subst (λ (ns : List Node). IsProcessKind (node_at (plain_graph ns) (node_of t)).kind) (sym graph) task.kind)

-- the ticket of the next attempt
pub task_again : (F : Opening) (t u : Ticket) → IsTaskOf F t → u ≡ next_attempt t → 1 ≤ attempt_of u → attempt_of u ≤ 101 → IsTaskOf F (next_attempt t)
task_again F t u task same first last = record {
  kind = task.kind;
  first = subst (λ v. 1 ≤ attempt_of v) same first;
  last = subst (λ v. attempt_of v ≤ 101) same last;
}

pub may_lose : (F : Opening) (z : Seen) (t : Ticket) (stop : Stop) → z.graph ≡ F.graph → IsTaskOf F t → IsLoss F t stop → MayLose F.rules z t stop
may_lose F z t s.Mem graph task l = tt
may_lose F z t (s.Task node inputs n fault) graph task l = (task_in F z t t graph refl task, l.0, l.1, l.2, l.3)
may_lose F z t (s.Outside o) graph task l = absurd l
may_lose F z t (s.Charge sum) graph task l = absurd l
may_lose F z t (s.Op node fault) graph task l = absurd l
may_lose F z t (s.Item node item fault) graph task l = absurd l

pub answered : (F : Opening) (z : Seen) (t : Ticket) (answer : Result Value EvalFault) → z.graph ≡ F.graph → IsGraph (plain_of z) → IsRules F.rules → IsHistory (plain_of z) F.rules (events_of z)
    → IsFlying z t → IsItemOf F t → AnswersIt F t answer → IsAnswered F.rules z t answer
answered F z t answer graph ok rules lawful fly item answers = record {
  ticket = fly.ticket;
  there = fly.there;
  kind = kind;
  by_rule = answers fly.ticket.take.item (fly.is.inputs ∙ one) ∙ ap (λ n. F.rules.answer n fly.ticket.take.item) fly.is.node;
} where
  kind : IsOperatorKind (node_at (plain_of z) fly.ticket.node).kind
  kind =
      subst (λ n. IsOperatorKind (node_at (plain_of z) n).kind) fly.is.node
      (subst (λ (ns : List Node). IsOperatorKind (node_at (plain_graph ns) (node_of t)).kind) (sym graph) item.kind)

  may : MayAdd z (e.Abort (number_of t) (Some s.Mem))
  may = record { rules = F.rules; allows = record { rules = rules; lawful = lawful; legal = memory_legal F z t fly } }

  one : fly.ticket.take.inputs ≡ fly.ticket.take.item ∷ []
  one = one_input z (e.Abort (number_of t) (Some s.Mem)) (number_of t) fly.ticket ok may fly.there kind

-- such a stop blames no lane
pub loss_is_no_failure : (F : Opening) (t : Ticket) (stop : Stop) (n : ℕ) → IsLoss F t stop → n ≡ n + cond (is_lanes (Some stop)) 1 0
loss_is_no_failure F t s.Mem n l = omega arith
loss_is_no_failure F t (s.Task node inputs k fault) n l = omega arith
loss_is_no_failure F t (s.Outside o) n l = absurd l
loss_is_no_failure F t (s.Charge sum) n l = absurd l
loss_is_no_failure F t (s.Op node fault) n l = absurd l
loss_is_no_failure F t (s.Item node item fault) n l = absurd l
