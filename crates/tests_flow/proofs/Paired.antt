-- A process with a value port and a queue port takes twice.
use Rattle.std.proofs.Common.{◌≡◌, ℕ, zero, suc, ◌+◌, ◌<◌, ◌^◌, true, false, refl, ap, sym, subst, arith, lit<}
use Rattle.std.specs.Prelude.{pos, List}
use Rattle.std.specs.declared.option.Option.TheVariants.{Some}
use Rattle.std.proofs.lemmas.Bool.{true≢false}
use Rattle.nf_value.specs.Plain.{Plain, int}
use Rattle.nf_graph.specs.declared.node.Node.{Node}
use Rattle.nf_graph.specs.Node.{process}
use Rattle.nf_graph.specs.WellMade.{plain_kind, plain_node}
use Rattle.nf_machine.specs.Legal.{Holds}
use Rattle.nf_machine.specs.State.{Spot, opened}
use Rattle.nf_spot.specs.Spot.{HasTake, IsNode, passed_at, ports_of, takes_on, waits_on}
use Rattle.nf_spot.specs.declared.node_state.NodeState.{NodeState}
use Rattle.tests_flow.specs.View.{paired_node}

-- 5 waits at the value port, then 7 at the queue port
abbrev pub one : Spot
one = waits_on (opened (process (Some 1))) 0 (int (pos 5))

abbrev pub both : Spot
both = waits_on one 1 (int (pos 7))

-- it took, and another 7 waits
abbrev pub took_once : Spot
took_once = takes_on paired_node both 1 0

abbrev pub again : Spot
again = waits_on took_once 1 (int (pos 7))

pub has_queue : (sp : Spot) (c : NodeState) → IsNode paired_node sp c → 1 < ports_of c
has_queue sp c h = let e = h.ports in omega arith

pub few_passed : (sp : Spot) (c : NodeState) → IsNode paired_node sp c → sp.passed 1 + 1 < 2 ^ 64 → passed_at c 1 + 1 < 2 ^ 64
few_passed sp c h l = subst (λ n. n + 1 < 2 ^ 64) (sym (ap (λ (q : ℕ × List Plain). q.0) (h.inlet 1 (lit< tt)))) l

both_hold : Holds (plain_node paired_node) both
both_hold zero l v = lit< tt
both_hold (suc zero) l v = absurd (true≢false (sym v))
both_hold (suc (suc k)) l v = absurd (omega arith)

again_hold : Holds (plain_node paired_node) again
again_hold zero l v = lit< tt
again_hold (suc zero) l v = absurd (true≢false (sym v))
again_hold (suc (suc k)) l v = absurd (omega arith)

module _ (node : Node) (e : node ≡ paired_node) (c : NodeState) where
  pub begun_so : IsNode node (opened (plain_kind node.kind)) c → IsNode paired_node (opened (process (Some 1))) c
  begun_so h = subst (λ (n : Node). IsNode n (opened (plain_kind n.kind)) c) e h

  pub takes_first : IsNode paired_node both c → HasTake node c 1 0
  takes_first h = subst (λ (n : Node). HasTake n c 1 0) (sym e) (record { spot = both; shows = h; may = (refl, lit< tt, both_hold) })

  pub takes_again : IsNode paired_node again c → HasTake node c 1 0
  takes_again h = subst (λ (n : Node). HasTake n c 1 0) (sym e) (record { spot = again; shows = h; may = (refl, lit< tt, again_hold) })

  pub as_read : (sp : Spot) → IsNode paired_node sp c → IsNode node sp c
  as_read sp h = subst (λ (n : Node). IsNode n sp c) (sym e) h

  pub took_so : IsNode node (takes_on node both 1 0) c → IsNode paired_node took_once c
  took_so h = subst (λ (n : Node). IsNode n (takes_on n both 1 0) c) e h
