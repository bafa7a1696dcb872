-- Every lawful history is beside the meaning.
use Rattle.std.proofs.Common.{◌≡◌, ℕ, zero, suc, List, [], ◌∷◌, map, length, Bool, true, false, ◌&&◌, refl, ap, sym, ◌∙◌, subst, arith}
use Rattle.std.specs.Prelude.{Option, Some, None, is_none}
use Rattle.std.proofs.lemmas.Bool.{true≢false}
use Rattle.nf_opstream.specs.Operator.{Operator}
use Rattle.nf_opstream.proofs.Tally.{one_if, tally-map, count_is_passes}
use Rattle.nf_opstream.proofs.Members.{contains}
use Rattle.nf_graph.specs.declared.port.Port.{Port}
use Rattle.nf_graph.specs.Rules.{Rules}
use Rattle.nf_graph.specs.Node.{Kind, source, operator, process, PlainNode, port_at, node_at, IsGraph}
use Rattle.nf_graph.specs.Meaning.{Outcomes, same_inputs, bags}
use Rattle.nf_graph.specs.Faults.{faults}
use Rattle.nf_graph.specs.Singles.{HasSingles, IsMadeByNodes}
use Rattle.nf_graph.proofs.Bags.{numbered_once}
use Rattle.nf_graph.proofs.Lists.{inputs_law}
use Rattle.nf_machine.specs.Event.{PlainStop, PlainEvent}
use Rattle.nf_machine.specs.State.{Spot, State, instance, pair_of, opened, opening}
use Rattle.nf_machine.specs.Step.{step, replay}
use Rattle.nf_machine.specs.History.{IsLawful, after, IsHistory, all_closed, Agrees}
use Rattle.nf_opstream.proofs.Pushes.{sub_bag, same_bag}
use Rattle.nf_graph.proofs.Fix.{made_by_nodes}
use Rattle.nf_graph.proofs.Singles.{has_singles}
use Rattle.nf_machine.specs.Beside.{EmitsBeside, TakesBeside, InstancesBeside, IsBeside, item_of_push}
use Rattle.nf_machine.specs.History.{is_instance}
use Rattle.nf_machine.proofs.Bridge.{tests_of_sub, tests_of_same}
use Rattle.nf_machine.proofs.Limit.{ChargeOk, replay_limit, opening_limit}
use Rattle.nf_machine.proofs.Faultless.{no_faults}
use Rattle.nf_machine.proofs.Good.{OpMade, StopOk, Good}
use Rattle.nf_machine.proofs.Ends.{step_good, opening_good}
use Rattle.nf_machine.proofs.Confluence.{NodeFits, op_taken, op_all}
use Rattle.nf_machine.proofs.Theorem.{all_fit, proc_instances, proc_all_instances, fault_is}
use Rattle.nf_machine.proofs.Charge.{Charged, step_charged, spent_charge, spent_to, spent}

-- what holds of every state of a lawful history
pub record Reached (g : List PlainNode) (R : Rules) (s : State) : Type 0 where
  pub good : Good g R s
  pub charged : Charged g s

reached_from : (g : List PlainNode) (R : Rules) (ok : IsGraph g) (s : State) (es : List PlainEvent) → Reached g R s → IsLawful g R s es → Reached g R (replay g s es)
reached_from g R ok s [] h l = h
reached_from g R ok s (e ∷ es) h l = reached_from g R ok (step g s e) es (record { good = step_good g R ok s e h.good l.0; charged = step_charged g R s e h.good l.0 h.charged }) l.1

open_spent : (E : ℕ → Spot) (k : ℕ) (ps : List Port) → spent E (λ n. 0) k ps ≡ 0
open_spent E k [] = refl
open_spent E k (p ∷ ps) = omega (arith, open_spent E (suc k) ps)

open_passed : (kind : Kind) → (opened kind).passed ≡ (λ n. 0)
open_passed (source items) = refl
open_passed (operator op) = refl
open_passed (process q) = refl

open_charged : (g : List PlainNode) (n : ℕ) → spent_to (opening g).spots g n ≡ 0
open_charged g zero = refl
open_charged g (suc i) =
    let a : spent (opening g).spots (opened (node_at g i).kind).passed 0 (node_at g i).ports ≡ 0 = ap (λ (f : ℕ → ℕ). spent (opening g).spots f 0 (node_at g i).ports) (open_passed (node_at g i).kind) ∙ open_spent (opening g).spots 0 (node_at g i).ports in
    omega (arith, a, open_charged g i)

both_true : (a b : Bool) → (a && b) ≡ true → (a ≡ true) × (b ≡ true)
both_true true b h = (refl, h)
both_true false b h = absurd (true≢false (sym h))

none_is : (o : Option PlainStop) → is_none o ≡ true → o ≡ None
none_is None h = refl
none_is (Some x) h = absurd (true≢false (sym h))

module _ (g : List PlainNode) (R : Rules) (ok : IsGraph g) (o : Outcomes) (s : State) (reached : Reached g R s) (limited : ChargeOk s) (agree : Agrees o s) where
  means : IsMadeByNodes g R o (bags R o g)
  means = made_by_nodes g R o ok

  lone : HasSingles g (bags R o g)
  lone = has_singles g R o ok

  fit : (i : ℕ) → NodeFits g s (bags R o g) i
  fit = all_fit g R ok o s reached.good agree (bags R o g) means lone

  emits_beside : (i : ℕ) → EmitsBeside (bags R o g) (node_at g i) i s
  emits_beside i = record {
    part = λ out. sub_bag ((fit i).sub out);
    whole = λ shut clean out. same_bag ((fit i).same shut clean out);
    running = λ run shut out. same_bag ((fit i).same shut ((reached.good.spots i).clean (ap is_none run) shut) out);
  }

  takes_beside : (i : ℕ) (op : Operator) → (node_at g i).kind ≡ operator op → TakesBeside R (bags R o g) (node_at g i) i (s.spots i)
  takes_beside i op is = record {
    part = tests_of_sub (op_taken g R ok s reached.good (bags R o g) i (λ j l. fit j) op is);
    whole = λ shut. tests_of_same (op_all g R ok s reached.good (bags R o g) i (λ j l. fit j) op is shut);
    pushed = tests_of_sub (record { at = λ p. omega (arith, tally-map (λ y. one_if (p y)) item_of_push (s.spots i).pushed, tally-map (λ y. one_if (p y)) pair_of (s.spots i).taken, (reached.good.spots i).flight.most (λ t. p (pair_of t))) });
    by_rule = (let made : OpMade R i op (s.spots i) = (rw is at (reached.good.spots i).made) in made.by_rule);
  }

  instances_beside : (i : ℕ) (q : Option ℕ) → (node_at g i).kind ≡ process q → InstancesBeside (bags R o g) (node_at g i) q (s.spots i)
  instances_beside i q is = record {
    part = tests_of_sub (proc_instances g R ok o s reached.good agree (bags R o g) means lone i (λ j l. fit j) q is);
    whole = λ shut. tests_of_same (proc_all_instances g R ok o s reached.good agree (bags R o g) means lone i (λ j l. fit j) q is shut);
    once = λ inputs n. (
        let e = (reached.good.spots i).takes.numbers (rw is tt) in
        let a = numbered_once same_inputs inputs_law inputs n (map (λ t. t.inputs) (s.spots i).taken) in
        rw (count_is_passes (is_instance inputs n) (map instance (s.spots i).taken), e) a);
  }

  beside : IsBeside g R o s
  beside = record {
    emits = emits_beside;
    takes = takes_beside;
    instances = instances_beside;
    fault = λ f e. contains f (faults R o g) (fault_is g R ok o s reached.good agree (bags R o g) means lone f (subst (λ z. StopOk g R s.spots s.gone z) e reached.good.stop));
    charge = rw reached.charged (spent_charge s.spots g (bags R o g) (λ i k l. (fit (port_at (node_at g i) k).from).sub (port_at (node_at g i) k).out) (length g));
    past_limit = limited.past;
    faultless = λ h. (let b = both_true (all_closed g s) (is_none s.stop) h in no_faults g R ok o s reached.good agree (bags R o g) means lone (none_is s.stop b.1) b.0);
  }

pub reached : (g : List PlainNode) (R : Rules) → IsGraph g → (h : List PlainEvent) → IsHistory g R h → Reached g R (after g h)
reached g R ok h lawful = reached_from g R ok (opening g) h (record { good = opening_good g R ok; charged = sym (open_charged g (length g)) }) lawful

pub every_order : (g : List PlainNode) (R : Rules) (o : Outcomes) (h : List PlainEvent) → IsGraph g → IsHistory g R h → Agrees o (after g h) → IsBeside g R o (after g h)
every_order g R o h ok lawful agree = beside g R ok o (after g h) (reached g R ok h lawful) (replay_limit g R (opening g) h lawful (opening_limit g)) agree
