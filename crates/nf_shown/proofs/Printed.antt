-- What a run that ended well printed is what its graph means.
use Rattle.std.proofs.Common.{◌≡◌, ℕ, ◌+◌, ◌<◌, List, [], ◌∷◌, ◌++◌, map, length, Bool, true, false, cond, ◌&&◌, refl, ap, sym, ◌∙◌, arith}
use Rattle.std.specs.Prelude.{◌==◌, nat_lt, if◌then◌else◌, Option, Some, None, is_none, Result, Ok, Err}
use Rattle.std.proofs.lemmas.Bool.{true≢false}
use Rattle.std.proofs.lemmas.Bool.Decides.{nat_tests}
use Rattle.nf_value.specs.Plain.{Plain}
use Rattle.nf_value.specs.declared.fault.EvalFault.{EvalFault}
use Rattle.nf_bag.specs.Bag.{IsSameBag}
use Rattle.nf_job.specs.declared.report.Report.{Report}
use Rattle.nf_job.specs.declared.emitted.Outputs.TheVariants.{Emits, Ignored, Failed, Again}
use Rattle.nf_opstream.specs.Operator.{Operator}
use Rattle.nf_opstream.specs.Push.{Push}
use Rattle.nf_opstream.proofs.Pushes.{same_bag}
use Rattle.nf_opstream.proofs.Tally.{passes, tally-append, one_if, Same, same_map, same_trans}
use Rattle.nf_graph.specs.Rules.{Rules, Outs}
use Rattle.nf_graph.specs.Node.{Kind, source, operator, process, PlainNode, node_at, IsGraph}
use Rattle.nf_graph.specs.Meaning.{Outcomes, put, bags, cost, deliveries, pushes, printed}
use Rattle.nf_graph.proofs.Fix.{made_by_nodes}
use Rattle.nf_graph.proofs.Lists.{put_all}
use Rattle.nf_graph.proofs.Singles.{has_singles}
use Rattle.nf_machine.specs.Event.{PlainEvent, PlainStop, charge_stop, pass, taking, give, start, finish, reuse, close, abort, halt}
use Rattle.nf_machine.specs.History.{Agrees, IsHistory, after, all_closed, ended_well}
use Rattle.nf_machine.specs.State.{Ticket, Spot, State, opened, opening}
use Rattle.nf_machine.specs.Step.{Given, at_ticket, do_close, do_finish, do_give, do_pass, give_push, limit, next_item, op_ends, op_gives, or_stop, passed_on, push_with, replay, step, ticket_at, without}
use Rattle.nf_machine.proofs.Confluence.{op_whole}
use Rattle.nf_machine.proofs.Faultless.{closed_at}
use Rattle.nf_machine.proofs.Final.{reached}
use Rattle.nf_machine.proofs.Good.{OpMade}
use Rattle.nf_machine.proofs.Theorem.{all_fit, kind_within}
use Rattle.nf_core.specs.Told.{told_from}
use Rattle.nf_shown.specs.Shown.{is_of, printed_by, printed_in}

eq_self : (n : ℕ) → (n == n) ≡ true
eq_self n = grind (arith, nat_tests)

eq_not : (n m : ℕ) → (m ≡ n → ⊥) → (n == m) ≡ false
eq_not n m h = grind (arith, nat_tests)

-- ---- a run that isn't stopped wasn't

some_stop : (x : PlainStop) → Some x ≡ None → ⊥
some_stop x e = cc

or_stopped : (o : Option PlainStop) (x : PlainStop) → or_stop o (Some x) ≡ None → ⊥
or_stopped None x e = some_stop x e
or_stopped (Some y) x e = some_stop y e

or_kept : (o cause : Option PlainStop) → or_stop o cause ≡ None → o ≡ None
or_kept None cause e = refl
or_kept (Some y) cause e = absurd (some_stop y e)

cond_stop : (b : Bool) (u v : State) (o : Option PlainStop) → (u.stop ≡ None → ⊥) → v.stop ≡ o → (cond b u v).stop ≡ None → o ≡ None
cond_stop true u v o stopped same e = absurd (stopped e)
cond_stop false u v o stopped same e = sym same ∙ e

-- a Pass past the limit, and one within it
abbrev past : State → ℕ → ℕ → Plain → State
past s i k x = record s { spots = put s.spots i (passed_on (s.spots i) k); charge = s.charge + cost x; stop = Some (charge_stop (s.charge + cost x)) }

abbrev inside : State → ℕ → ℕ → Plain → State
inside s i k x =
    let sp = passed_on (s.spots i) k in
    record s { spots = put s.spots i (record sp { waiting = put sp.waiting k (sp.waiting k ++ x ∷ []) }); charge = s.charge + cost x }

pass_stop : (s : State) (i k : ℕ) (x : Plain) → (do_pass s i k x).stop ≡ None → s.stop ≡ None
pass_stop s i k x h = cond_stop (nat_lt limit (s.charge + cost x)) (past s i k x) (inside s i k x) s.stop (some_stop (charge_stop (s.charge + cost x))) refl h

give_stop : (s : State) (i : ℕ) (x : Push) (r : Given) → (give_push s i x r).stop ≡ None → s.stop ≡ None
give_stop s i x (Ok es) e = e
give_stop s i x (Err f) e = absurd (or_stopped s.stop _ e)

answer_stop : (g : List PlainNode) (s : State) (k : Ticket) (a : Result Plain EvalFault) → (do_give g s k a).stop ≡ None → s.stop ≡ None
answer_stop g s k (Ok v) e = give_stop s k.node (push_with k.take v) (op_gives (node_at g k.node).kind (s.spots k.node).pushed (push_with k.take v)) e
answer_stop g s k (Err f) e = absurd (or_stopped s.stop _ e)

finish_stop : (s : State) (k : Ticket) (r : Report) (outs : Outs) → (do_finish s k r outs).stop ≡ None → s.stop ≡ None
finish_stop s k r (Ok Again) e = e
finish_stop s k r (Ok (Emits vs)) e = e
finish_stop s k r (Ok Ignored) e = e
finish_stop s k r (Ok (Failed f)) e = absurd (or_stopped s.stop _ e)
finish_stop s k r (Err f) e = absurd (or_stopped s.stop _ e)

close_stop : (s : State) (i : ℕ) (r : Given) → (do_close s i r).stop ≡ None → s.stop ≡ None
close_stop s i (Ok es) e = e
close_stop s i (Err f) e = absurd (or_stopped s.stop _ e)

ticket_stop : (s : State) (t : ℕ) (o : Option Ticket) (f : State → Ticket → State) → ((u : State) (k : Ticket) → (f u k).stop ≡ None → u.stop ≡ None) → (at_ticket s t o f).stop ≡ None → s.stop ≡ None
ticket_stop s t None f keeps e = e
ticket_stop s t (Some k) f keeps e = keeps (record s { tickets = without t s.tickets }) k e

step_stop : (g : List PlainNode) (s : State) (e : PlainEvent) → (step g s e).stop ≡ None → s.stop ≡ None
step_stop g s (pass i k) h = pass_stop s i k (next_item g s i k) h
step_stop g s (taking i port place t n) h = h
step_stop g s (give t a) h = ticket_stop s t (ticket_at t s.tickets) _ (λ u k z. answer_stop g u k a z) h
step_stop g s (start t cause) h = ticket_stop s t (ticket_at t s.tickets) _ (λ u k z. z) h
step_stop g s (finish t r outs) h = ticket_stop s t (ticket_at t s.tickets) _ (λ u k z. finish_stop u k r outs z) h
step_stop g s (reuse t r outs) h = ticket_stop s t (ticket_at t s.tickets) _ (λ u k z. finish_stop u k r outs z) h
step_stop g s (close i) h = close_stop s i (op_ends (node_at g i).kind (s.spots i).pushed) h
step_stop g s (abort t cause) h = ticket_stop s t (ticket_at t s.tickets) _ (λ u k z. or_kept u.stop cause z) h
step_stop g s halt h = absurd (some_stop _ h)

replay_stop : (g : List PlainNode) (s : State) (h : List PlainEvent) → (replay g s h).stop ≡ None → s.stop ≡ None
replay_stop g s [] e = e
replay_stop g s (x ∷ h) e = step_stop g s x (replay_stop g (step g s x) h e)

-- ---- what was printed is what was pushed

plus_none : (a b : ℕ) → a ≡ b → a ≡ 0 + b
plus_none a b e = omega (arith, e)

abbrev answers : Spot → List Plain
answers sp = map (λ x. x.answer) sp.pushed

module _ (p : Plain → Bool) (i : ℕ) where
  -- the answers of node i in a state
  abbrev at : State → ℕ
  at s = passes p (answers (s.spots i))

  put_pushed : (E : ℕ → Spot) (j : ℕ) (sp : Spot) → sp.pushed ≡ (E j).pushed → passes p (answers (put E j sp i)) ≡ passes p (answers (E i))
  put_pushed E j sp same =
      put_all (λ m z. passes p (answers z) ≡ passes p (answers (E m))) E j sp (ap (λ (q : List Push). passes p (map (λ x. x.answer) q)) same) (λ m n. refl) i

  cond_at : (b : Bool) (u v : State) (n : ℕ) → at u ≡ n → at v ≡ n → at (cond b u v) ≡ n
  cond_at true u v n x y = x
  cond_at false u v n x y = y

  pass_at : (s : State) (j k : ℕ) (x : Plain) → at (do_pass s j k x) ≡ at s
  pass_at s j k x = cond_at (nat_lt limit (s.charge + cost x)) (past s j k x) (inside s j k x) (at s) (put_pushed s.spots j _ refl) (put_pushed s.spots j _ refl)

  finish_at : (s : State) (k : Ticket) (r : Report) (outs : Outs) → at (do_finish s k r outs) ≡ at s
  finish_at s k r (Ok Again) = refl
  finish_at s k r (Ok (Emits vs)) = put_pushed s.spots k.node _ refl
  finish_at s k r (Ok Ignored) = put_pushed s.spots k.node _ refl
  finish_at s k r (Ok (Failed f)) = put_pushed s.spots k.node _ refl
  finish_at s k r (Err f) = put_pushed s.spots k.node _ refl

  close_at : (s : State) (j : ℕ) (r : Given) → at (do_close s j r) ≡ at s
  close_at s j (Ok es) = put_pushed s.spots j _ refl
  close_at s j (Err f) = put_pushed s.spots j _ refl

  ticket_kept : (s : State) (t : ℕ) (o : Option Ticket) (f : State → Ticket → State) → ((u : State) (k : Ticket) → at (f u k) ≡ at u) → at (at_ticket s t o f) ≡ at s
  ticket_kept s t None f keeps = refl
  ticket_kept s t (Some k) f keeps = keeps (record s { tickets = without t s.tickets }) k

  -- a push at the ticket's node
  push_at : (E : ℕ → Spot) (j : ℕ) (sp : Spot) (v : Plain) → answers sp ≡ v ∷ answers (E j) → passes p (answers (put E j sp i)) ≡ passes p (if j == i then v ∷ [] else []) + passes p (answers (E i))
  push_at E j sp v more =
      put_all (λ m z. passes p (answers z) ≡ passes p (if j == m then v ∷ [] else []) + passes p (answers (E m))) E j sp
      (let same : (j == j) ≡ true = eq_self j in rw same (ap (passes p) more ∙ omega arith))
      (λ m n. let other : (j == m) ≡ false = eq_not j m n in rw other (plus_none (passes p (answers (E m))) (passes p (answers (E m))) refl)) i

  give_at : (s : State) (k : Ticket) (v : Plain) (r : Given) → (give_push s k.node (push_with k.take v) r).stop ≡ None
      → at (give_push s k.node (push_with k.take v) r) ≡ passes p (if k.node == i then v ∷ [] else []) + at s
  give_at s k v (Ok es) e = push_at s.spots k.node _ v refl
  give_at s k v (Err f) e = absurd (or_stopped s.stop _ e)

  answer_at : (g : List PlainNode) (s : State) (t : ℕ) (o : Option Ticket) (v : Plain) → (at_ticket s t o (λ u k. do_give g u k (Ok v))).stop ≡ None
      → at (at_ticket s t o (λ u k. do_give g u k (Ok v))) ≡ passes p (if is_of i o then v ∷ [] else []) + at s
  answer_at g s t None v e = plus_none (at s) (at s) refl
  answer_at g s t (Some k) v e =
      give_at (record s { tickets = without t s.tickets }) k v (op_gives (node_at g k.node).kind (s.spots k.node).pushed (push_with k.take v)) e

  fault_at : (g : List PlainNode) (s : State) (t : ℕ) (o : Option Ticket) (f : EvalFault) → at (at_ticket s t o (λ u k. do_give g u k (Err f))) ≡ at s
  fault_at g s t None f = refl
  fault_at g s t (Some k) f = refl

  step_at : (g : List PlainNode) (s : State) (e : PlainEvent) → (step g s e).stop ≡ None → at (step g s e) ≡ passes p (printed_by i s e) + at s
  step_at g s (pass j k) h = plus_none _ _ (pass_at s j k (next_item g s j k))
  step_at g s (taking j port place t n) h = plus_none _ _ (put_pushed s.spots j _ refl)
  step_at g s (give t (Ok v)) h = answer_at g s t (ticket_at t s.tickets) v h
  step_at g s (give t (Err f)) h = plus_none _ _ (fault_at g s t (ticket_at t s.tickets) f)
  step_at g s (start t cause) h = plus_none _ _ (ticket_kept s t (ticket_at t s.tickets) _ (λ u k. refl))
  step_at g s (finish t r outs) h = plus_none _ _ (ticket_kept s t (ticket_at t s.tickets) _ (λ u k. finish_at u k r outs))
  step_at g s (reuse t r outs) h = plus_none _ _ (ticket_kept s t (ticket_at t s.tickets) _ (λ u k. finish_at u k r outs))
  step_at g s (close j) h = plus_none _ _ (close_at s j (op_ends (node_at g j).kind (s.spots j).pushed))
  step_at g s (abort t cause) h = plus_none _ _ (ticket_kept s t (ticket_at t s.tickets) _ (λ u k. refl))
  step_at g s halt h = plus_none _ _ refl

  replay_at : (g : List PlainNode) (s : State) (h : List PlainEvent) → (replay g s h).stop ≡ None → at (replay g s h) ≡ passes p (told_from (printed_by i) g s h) + at s
  replay_at g s [] e = plus_none (at s) (at s) refl
  replay_at g s (x ∷ h) e =
      let one = step_at g s x (replay_stop g (step g s x) h e) in
      let rest = replay_at g (step g s x) h e in
      let both = tally-append (λ y. one_if (p y)) (printed_by i s x) (told_from (printed_by i) g (step g s x) h) in
      omega (arith, one, rest, both)

-- ---- a run that ended well

nothing_pushed : (kind : Kind) → (opened kind).pushed ≡ []
nothing_pushed (source items) = refl
nothing_pushed (operator op) = refl
nothing_pushed (process queue) = refl

both_true : (a b : Bool) → (a && b) ≡ true → (a ≡ true) × (b ≡ true)
both_true true b h = (refl, h)
both_true false b h = absurd (true≢false (sym h))

none_is : (o : Option PlainStop) → is_none o ≡ true → o ≡ None
none_is None h = refl
none_is (Some x) h = absurd (true≢false (sym h))

-- all that was printed was pushed, and nothing else
same_answers : (g : List PlainNode) (h : List PlainEvent) (i : ℕ) → (after g h).stop ≡ None → Same (printed_in g h i) (answers ((after g h).spots i))
same_answers g h i running = record {
  at = λ p. let z = replay_at p i g (opening g) h running in
      let none : passes p (answers (opened (node_at g i).kind)) ≡ 0 = ap (λ (q : List Push). passes p (map (λ x. x.answer) q)) (nothing_pushed (node_at g i).kind) in
      omega (arith, z, none);
}

pub printed_well : (g : List PlainNode) (R : Rules) (o : Outcomes) (h : List PlainEvent) (i : ℕ) (op : Operator) → IsGraph g → IsHistory g R h → Agrees o (after g h) → ended_well g (after g h) ≡ true
    → (node_at g i).kind ≡ operator op → IsSameBag (printed_in g h i) (printed R o g i)
printed_well g R o h i op ok lawful agree well is =
    let s = after g h in
    let good = (reached g R ok h lawful).good in
    let ends = both_true (all_closed g s) (is_none s.stop) well in
    let B = bags R o g in
    let made : OpMade R i op (s.spots i) = (rw is at (good.spots i).made) in
    let within : i < length g = kind_within g i (λ e. (let z : source [] ≡ operator op = sym e ∙ is in cc)) in
    let shut = closed_at s.spots (length g) i ends.0 within in
    let fits = λ (j : ℕ) (l : j < i). all_fit g R ok o s good agree B (made_by_nodes g R o ok) (has_singles g R o ok) j in
    let whole : Same (s.spots i).pushed (pushes R i (deliveries B (node_at g i))) = op_whole g R ok s good B i fits op is made shut in
    same_bag (same_trans (same_answers g h i (none_is s.stop ends.1)) (same_map (λ x. x.answer) whole))
