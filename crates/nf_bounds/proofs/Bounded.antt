-- The numbers of each state that a lawful history reaches are small.
use Rattle.std.proofs.Common.{◌≡◌, ℕ, zero, suc, ◌+◌, ◌*◌, ◌<◌, ◌≤◌, List, [], ◌∷◌, length, take, Bool, true, false, cond, ◌&&◌, refl, ap, sym, ◌∙◌, subst, arith, inl, inr}
use Rattle.std.specs.Prelude.{◌==◌, nat_lt, count_by, Ok}
use Rattle.std.proofs.lemmas.Bool.{cases_Bool, cases_eq}
use Rattle.std.proofs.lemmas.Bool.Decides.{nat_tests}
use Rattle.std.proofs.lemmas.List.{get_or_past}
use Rattle.nf_value.specs.Plain.{Plain}
use Rattle.nf_job.specs.declared.report.Report.{Report}
use Rattle.nf_job.specs.declared.emitted.Outputs.TheVariants.{Again}
use Rattle.nf_opstream.proofs.Tally.{tally, passes, tally_same, one_if, count_is_passes}
use Rattle.nf_graph.specs.declared.port.Port.{Port}
use Rattle.nf_graph.specs.Rules.{Rules, IsRules, AreTriedAgain}
use Rattle.nf_graph.specs.Node.{Kind, source, operator, process, PlainNode, port_in, no_node, node_at, IsGraph}
use Rattle.nf_graph.specs.Meaning.{cost}
use Rattle.nf_graph.proofs.Lists.{put_all}
use Rattle.nf_machine.specs.Event.{PlainEvent, pass, taking, give, start, finish, reuse, close, abort, halt}
use Rattle.nf_machine.specs.State.{Take, Ticket, Spot, State, feed, none, opened, opening}
use Rattle.nf_machine.specs.Step.{take_at, left_at, step, replay}
use Rattle.nf_machine.specs.Legal.{MayTake, TakeIsLegal, IsLegal}
use Rattle.nf_machine.specs.History.{IsLawful, after, IsHistory}
use Rattle.nf_machine.specs.Going.{waits_to, is_new, spot_work, work_to, moves_left}
use Rattle.nf_machine.proofs.Good.{flying, TicketOk, Good}
use Rattle.nf_machine.proofs.Frame.{and-true}
use Rattle.nf_machine.proofs.Gives.{open_ticket}
use Rattle.nf_machine.proofs.Limit.{ChargeOk, step_limit, replay_limit, opening_limit}
use Rattle.nf_machine.proofs.Measure.{take_less}
use Rattle.nf_machine.proofs.Tickets.{found_each}
use Rattle.nf_machine.proofs.Charge.{Charged, spent, spent_to, node_within}
use Rattle.nf_machine.proofs.Ends.{history_good}
use Rattle.nf_machine.proofs.Final.{reached}
use Rattle.nf_bounds.specs.Bounds.{IsBounded}
use Rattle.nf_bounds.proofs.Calm.{Calm, step_calm}

-- each ticket took a move, and each take has a ticket
record Spent (g : List PlainNode) (all : ℕ) (s : State) : Type 0 where
  moves : s.next + moves_left g s ≤ all
  taken : (i : ℕ) → length (s.spots i).taken < s.next

calm_spent : (g : List PlainNode) (all : ℕ) (s u : State) → Calm g s u → Spent g all s → Spent g all u
calm_spent g all s u c h = record {
  moves = (let a = c.next in let b = c.moves in let d = h.moves in omega arith);
  taken = λ i. (let a = c.next in let b = ap length (c.taken i) in let d = h.taken i in omega arith);
}

node_of_take : (g : List PlainNode) (s : State) (i port place t n : ℕ) → TakeIsLegal g s i port place t n → i < length g
node_of_take g s i port place t n legal = elim (cases_Bool (nat_lt i (length g))) [
  | inl e ↦ grind (arith, nat_tests)
  | inr f ↦ absurd (let z : length g ≤ i = grind (arith, nat_tests) in let e : node_at g i ≡ no_node = get_or_past g i no_node z in
      let m : MayTake no_node (source []) (s.spots i) port place = subst (λ (node : PlainNode). MayTake node node.kind (s.spots i) port place) e legal.ready in m)
]

take_spent : (g : List PlainNode) (ok : IsGraph g) (all : ℕ) (s : State) (i port place t n : ℕ) → TakeIsLegal g s i port place t n → Spent g all s → Spent g all (step g s (taking i port place t n))
take_spent g ok all s i port place t n legal h =
    let k = take_at g s i port place in
    let new : Spot = record (s.spots i) { waiting = left_at k.slot place (s.spots i).waiting; taken = k ∷ (s.spots i).taken } in
    record {
      moves = (let a = take_less g ok s i port place t n (node_of_take g s i port place t n legal) legal in let b = h.moves in omega (arith, a, b));
      taken = put_all (λ j z. length z.taken < suc s.next) s.spots i new (let a = h.taken i in omega arith) (λ j ne. (let a = h.taken j in omega arith));
    }

step_spent : (g : List PlainNode) (ok : IsGraph g) (R : Rules) (all : ℕ) (s : State) (e : PlainEvent) → ChargeOk s → IsLegal g R s e → Spent g all s → Spent g all (step g s e)
step_spent g ok R all s (taking i port place t n) c l h = take_spent g ok all s i port place t n l h
step_spent g ok R all s (pass i k) c l h = calm_spent g all s (step g s (pass i k)) (step_calm g R s (pass i k) c l (λ x. x)) h
step_spent g ok R all s (give t a) c l h = calm_spent g all s (step g s (give t a)) (step_calm g R s (give t a) c l (λ x. x)) h
step_spent g ok R all s (start t cause) c l h = calm_spent g all s (step g s (start t cause)) (step_calm g R s (start t cause) c l (λ x. x)) h
step_spent g ok R all s (finish t r outs) c l h = calm_spent g all s (step g s (finish t r outs)) (step_calm g R s (finish t r outs) c l (λ x. x)) h
step_spent g ok R all s (reuse t r outs) c l h = calm_spent g all s (step g s (reuse t r outs)) (step_calm g R s (reuse t r outs) c l (λ x. x)) h
step_spent g ok R all s (close i) c l h = calm_spent g all s (step g s (close i)) (step_calm g R s (close i) c l (λ x. x)) h
step_spent g ok R all s (abort t cause) c l h = calm_spent g all s (step g s (abort t cause)) (step_calm g R s (abort t cause) c l (λ x. x)) h
step_spent g ok R all s halt c l h = calm_spent g all s (step g s halt) (step_calm g R s halt c l (λ x. x)) h

replay_spent : (g : List PlainNode) (ok : IsGraph g) (R : Rules) (all : ℕ) (s : State) (es : List PlainEvent) → ChargeOk s → IsLawful g R s es → Spent g all s → Spent g all (replay g s es)
replay_spent g ok R all s [] c l h = h
replay_spent g ok R all s (e ∷ es) c l h = replay_spent g ok R all (step g s e) es (step_limit g R s e l.0 c) l.1 (step_spent g ok R all s e c l.0 h)

-- ---- the opening

nothing_waits : (n : ℕ) → waits_to none n ≡ 0
nothing_waits zero = refl
nothing_waits (suc k) = let a = nothing_waits k in omega arith

new_at_most : (kind : Kind) (ts : List Take) → cond (is_new kind ts) 1 0 ≤ 1
new_at_most kind ts = one (is_new kind ts)
  where
    one : (b : Bool) → cond b 1 0 ≤ 1
    one true = omega arith
    one false = omega arith

open_work : (node : PlainNode) (kind : Kind) → spot_work node (opened kind) ≤ 2
open_work node (source items) = let a = nothing_waits (length node.ports) in let b = new_at_most node.kind [] in omega arith
open_work node (operator op) = let a = nothing_waits (length node.ports) in let b = new_at_most node.kind [] in omega arith
open_work node (process q) = let a = nothing_waits (length node.ports) in let b = new_at_most node.kind [] in omega arith

opening_work : (g : List PlainNode) (n : ℕ) → work_to g (opening g).spots n ≤ 2 * n
opening_work g zero = omega arith
opening_work g (suc i) = let a = opening_work g i in let b = open_work (node_at g i) (node_at g i).kind in omega (arith, a, b)

none_taken : (kind : Kind) → length (opened kind).taken < 1
none_taken (source items) = omega arith
none_taken (operator op) = omega arith
none_taken (process q) = omega arith

opening_spent : (g : List PlainNode) → length g ≤ 65536 → Spent g 67239938 (opening g)
opening_spent g few = record {
  moves = (let a = opening_work g (length g) in omega (arith, a, few));
  taken = λ i. none_taken (node_at g i).kind;
}

-- ---- attempts

few_told : (R : Rules) → IsRules R → (i : ℕ) (inputs : List Plain) (n a : ℕ) (told : List Report) → a ≤ 101 → AreTriedAgain (R.job i inputs n) (R.outputs i inputs) a told → a + length told ≤ 101
few_told R rules i inputs n a [] l h = omega arith
few_told R rules i inputs n a (r ∷ told) l h = elim (cases_eq a 101) [
  | inl e ↦ absurd (rules.last i inputs r (subst (λ m. R.outputs i inputs m r ≡ Ok Again) e h.1))
  | inr ne ↦ (let m : suc a ≤ 101 = grind arith in let b = few_told R rules i inputs n (suc a) told m h.2 in omega arith)
]

-- ---- passes

ones_at_most : {A : Type 0} (f : A → ℕ) → ((x : A) → 1 ≤ f x) → (n : ℕ) (xs : List A) → n ≤ length xs → n ≤ tally f (take n xs)
ones_at_most f one zero xs l = omega arith
ones_at_most f one (suc n) [] l = absurd (omega arith)
ones_at_most f one (suc n) (x ∷ xs) l = let a = ones_at_most f one n xs (omega arith) in let b = one x in omega arith

costs_one : (x : Plain) → 1 ≤ cost x
costs_one x = omega arith

-- what passed to one port is charged among what passed to all of them
port_spent : (E : ℕ → Spot) (passed : ℕ → ℕ) (k : ℕ) (ps : List Port) (j m : ℕ) → k + j ≡ m → j < length ps → passed m ≤ length (feed E (port_in ps j)) → passed m ≤ spent E passed k ps
port_spent E passed k [] j m e l h = absurd (omega arith)
port_spent E passed k (p ∷ ps) zero m e l h =
    let z : m ≡ k = omega arith in
    let a : passed k ≤ length (feed E p) = subst (λ n. passed n ≤ length (feed E p)) z h in
    let b = ones_at_most cost costs_one (passed k) (feed E p) a in
    let c = ap passed z in omega (arith, a, b, c)
port_spent E passed k (p ∷ ps) (suc j) m e l h = let a = port_spent E passed (suc k) ps j m (omega arith) (omega arith) h in omega (arith, a)

node_spent : (E : ℕ → Spot) (g : List PlainNode) (i n : ℕ) → i < n → spent E (E i).passed 0 (node_at g i).ports ≤ spent_to E g n
node_spent E g i zero l = absurd (omega arith)
node_spent E g i (suc j) l = elim (cases_eq i j) [
  | inl e ↦ (let a = ap (λ m. spent E (E m).passed 0 (node_at g m).ports) e in omega (arith, a))
  | inr ne ↦ (let o : i < j = grind arith in let a = node_spent E g i j o in omega (arith, a))
]

few_passed : (g : List PlainNode) (R : Rules) (s : State) → Good g R s → Charged g s → (i k : ℕ) → k < length (node_at g i).ports → (s.spots i).passed k ≤ s.charge
few_passed g R s good charged i k l =
    let a = port_spent s.spots (s.spots i).passed 0 (node_at g i).ports k k (omega arith) l ((good.spots i).ports.fits k) in
    let b = node_spent s.spots g i (length g) (node_within g i k l) in omega (arith, a, b, charged)

-- ---- the whole

all_pass : {A : Type 0} (xs : List A) → passes (λ x. true) xs ≡ length xs
all_pass [] = refl
all_pass (x ∷ xs) = let a = all_pass xs in omega arith

in_flight : (i : ℕ) (ts : List Ticket) → flying i (λ t. true) ts ≡ count_by (λ k. k.node == i) ts
in_flight i ts = tally_same (λ (t : Ticket). one_if ((t.node == i) && true)) (λ (t : Ticket). one_if (t.node == i)) (λ t. ap one_if (and-true (t.node == i))) ts ∙ sym (count_is_passes (λ (k : Ticket). k.node == i) ts)

pub bounded : (g : List PlainNode) (R : Rules) (h : List PlainEvent) → IsGraph g → length g ≤ 65536 → IsRules R → IsHistory g R h → IsBounded g (after g h)
bounded g R h ok few rules lawful =
    let s = after g h in
    let good : Good g R s = history_good g R ok h lawful in
    let limited : ChargeOk s = replay_limit g R (opening g) h lawful (opening_limit g) in
    let spent : Spent g 67239938 s = replay_spent g ok R 67239938 (opening g) h (opening_limit g) lawful (opening_spent g few) in
    record {
      next = (let a = spent.moves in omega arith);
      taken = spent.taken;
      pushed = λ i. (let m = (good.spots i).flight.most (λ t. true) in
          let a = all_pass (s.spots i).pushed in let b = all_pass (s.spots i).taken in let c = in_flight i s.tickets in omega (arith, m, a, b, c));
      passed = λ i. (good.spots i).ports.fits;
      charge = limited.low;
      few = λ run i k l. (let a = few_passed g R s good (reached g R ok h lawful).charged i k l in let b = limited.low run in omega arith);
      attempt = λ t k e. (let o = found_each (TicketOk g R s.spots) t s.tickets k e good.tickets in let f = few_told R rules k.node k.take.inputs k.take.n 1 k.told (omega arith) o.again in omega arith);
      still = λ t k e. open_ticket g R s t k good e;
    }
