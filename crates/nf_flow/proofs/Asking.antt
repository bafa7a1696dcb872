-- What is asked of a run.
use Rattle.std.proofs.Common.{◌≡◌, ℕ, suc, ◌≤◌, List, [], ◌∷◌, length, Bool, true, false, ◌&&◌, ◌||◌, refl, ap, sym, ◌∙◌, arith}
use Rattle.std.specs.Prelude.{◌==◌, ◌↔◌, Option, Some, None, is_some, is_none, not}
use Rattle.std.proofs.lemmas.Bool.{true≢false}
use Rattle.std.proofs.lemmas.Bool.Decides.{nat_tests}
use Rattle.nf_graph.specs.declared.node.Node.{Node}
use Rattle.nf_graph.specs.WellMade.{plain_graph}
use Rattle.nf_machine.specs.declared.event.Move.{Move}
use Rattle.nf_machine.specs.declared.event.Move.TheVariants as m
use Rattle.nf_machine.specs.Event.{PlainStop}
use Rattle.nf_machine.specs.State.{Ticket, State}
use Rattle.nf_machine.specs.History.{is_quiet, is_over, ended_well, closed_to}
use Rattle.nf_nodes.specs.Ready.{IsLegalMove, IsReady, IsReadyAt}
use Rattle.nf_nodes.specs.Steps.{open_in}
use Rattle.nf_flow.proofs.Over.{none_open}
use Rattle.nf_flow.proofs.Standing.{graph_length, node_of_take}

pub none_ready : (nodes : List Node) (s : State) → (s.stop ≡ None → ⊥) → IsReady nodes s None
none_ready nodes s stopped = ((λ i k legal. stopped legal.running), (λ i port place may. stopped may.running), (λ i legal. stopped legal.running))

pub none_ready_at : (nodes : List Node) (s : State) (i : ℕ) → (s.stop ≡ None → ⊥) → IsReadyAt nodes s i None
none_ready_at nodes s i stopped port place may = stopped may.running

pub none_past : (nodes : List Node) (s : State) (i : ℕ) → length nodes ≤ i → IsReadyAt nodes s i None
none_past nodes s i past port place may =
    let l = node_of_take (plain_graph nodes) s i port place _ _ may in let g = graph_length nodes in absurd (omega arith)

pub none_legal : (nodes : List Node) (s : State) (step : Move) → (s.stop ≡ None → ⊥) → (false ≡ true) ↔ IsLegalMove nodes s step
none_legal nodes s (m.Pass port) stopped = ((λ e. absurd (true≢false (sym e))), (λ may. absurd (stopped may.running)))
none_legal nodes s (m.Take node port place) stopped = ((λ e. absurd (true≢false (sym e))), (λ may. absurd (stopped may.running)))
none_legal nodes s (m.Close node) stopped = ((λ e. absurd (true≢false (sym e))), (λ legal. absurd (stopped legal.running)))

-- all nodes are closed
pub all_told : (nodes : List Node) (s : State) (n : ℕ) → n ≡ open_in nodes s → (n == 0) ≡ closed_to s.spots (length (plain_graph nodes))
all_told nodes s n e = ap (λ m. m == 0) e ∙ none_open s.spots (length nodes) ∙ ap (closed_to s.spots) (sym (graph_length nodes))

quiet_told : (ts : List Ticket) → (length ts == 0) ≡ is_quiet ts
quiet_told [] = refl
quiet_told (k ∷ ks) = more (length ks)
  where
    more : (m : ℕ) → (suc m == 0) ≡ false
    more m = grind (arith, nat_tests)

pub over_told : (nodes : List Node) (s : State) (n m : ℕ) (stopped : Bool) → n ≡ open_in nodes s → stopped ≡ is_some s.stop → m ≡ length s.tickets
    → ((n == 0) || (stopped && (m == 0))) ≡ is_over (plain_graph nodes) s
over_told nodes s n m stopped e es em =
    let a = all_told nodes s n e in let b : (m == 0) ≡ is_quiet s.tickets = ap (λ k. k == 0) em ∙ quiet_told s.tickets in
    ap (λ z. z || (stopped && (m == 0))) a ∙ ap (λ z. closed_to s.spots (length (plain_graph nodes)) || (z && (m == 0))) es
    ∙ ap (λ z. closed_to s.spots (length (plain_graph nodes)) || (is_some s.stop && z)) b

none_is : (o : Option PlainStop) (b : Bool) → b ≡ is_some o → not b ≡ is_none o
none_is None b e = ap not e
none_is (Some y) b e = ap not e

pub ended_told : (nodes : List Node) (s : State) (n : ℕ) (stopped : Bool) → n ≡ open_in nodes s → stopped ≡ is_some s.stop → ((n == 0) && not stopped) ≡ ended_well (plain_graph nodes) s
ended_told nodes s n stopped e es = ap (λ z. z && not stopped) (all_told nodes s n e) ∙ ap (λ z. closed_to s.spots (length (plain_graph nodes)) && z) (none_is s.stop stopped es)

zero_is : (n : ℕ) → n ≡ 0 → (n == 0) ≡ true
zero_is n e = ap (λ m. m == 0) e

zero_isnt : (n : ℕ) → (n ≡ 0 → ⊥) → (n == 0) ≡ false
zero_isnt n e = grind (arith, nat_tests)

-- as the code asks
module _ (nodes : List Node) (s : State) (n m : ℕ) (stopped : Bool) (open_is : n ≡ open_in nodes s) (told : stopped ≡ is_some s.stop) where
  pub ended_then : n ≡ 0 → not stopped ≡ ended_well (plain_graph nodes) s
  ended_then z = sym (ap (λ b. b && not stopped) (zero_is n z)) ∙ ended_told nodes s n stopped open_is told

  pub ended_else : (n ≡ 0 → ⊥) → (n == 0) ≡ ended_well (plain_graph nodes) s
  ended_else z = zero_isnt n z ∙ sym (ap (λ b. b && not stopped) (zero_isnt n z)) ∙ ended_told nodes s n stopped open_is told

  module _ (count : m ≡ length s.tickets) where
    pub over_first : n ≡ 0 → (n == 0) ≡ is_over (plain_graph nodes) s
    over_first z = zero_is n z ∙ sym (ap (λ b. b || (stopped && (m == 0))) (zero_is n z)) ∙ over_told nodes s n m stopped open_is told count

    pub over_then : (n ≡ 0 → ⊥) → stopped ≡ true → (m == 0) ≡ is_over (plain_graph nodes) s
    over_then z t = sym (ap (λ b. b && (m == 0)) t) ∙ sym (ap (λ b. b || (stopped && (m == 0))) (zero_isnt n z)) ∙ over_told nodes s n m stopped open_is told count

    pub over_else : (n ≡ 0 → ⊥) → stopped ≡ false → stopped ≡ is_over (plain_graph nodes) s
    over_else z f = f ∙ sym (ap (λ b. b && (m == 0)) f) ∙ sym (ap (λ b. b || (stopped && (m == 0))) (zero_isnt n z)) ∙ over_told nodes s n m stopped open_is told count
