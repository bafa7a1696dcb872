-- Each event but a Take leaves the takes as they are, and no more moves than before.
use Rattle.std.proofs.Common.{◌≡◌, ℕ, ◌+◌, ◌-◌, ◌<◌, ◌≤◌, List, [], ◌∷◌, ◌++◌, length, true, refl, ap, ◌∙◌, subst, arith, inl, inr}
use Rattle.std.specs.Prelude.{nat_lt, Option, Some, None, Ok, Err}
use Rattle.std.proofs.lemmas.Bool.{cases_Bool}
use Rattle.std.proofs.lemmas.Bool.Decides.{nat_tests}
use Rattle.std.proofs.lemmas.List.{get_or_past}
use Rattle.nf_value.specs.Plain.{Plain}
use Rattle.nf_job.specs.declared.report.Report.{Report}
use Rattle.nf_job.specs.declared.emitted.Outputs.TheVariants.{Emits, Ignored, Failed, Again}
use Rattle.nf_opstream.specs.Push.{Push}
use Rattle.nf_opstream.specs.Operator.{to_out}
use Rattle.nf_graph.specs.Rules.{Rules, Outs}
use Rattle.nf_graph.specs.Node.{source, PlainNode, no_node, node_at}
use Rattle.nf_graph.specs.Meaning.{put, cost}
use Rattle.nf_graph.proofs.Lists.{put_all}
use Rattle.nf_machine.specs.Event.{PlainEvent, pass, taking, give, start, finish, reuse, close, abort, halt}
use Rattle.nf_machine.specs.State.{Ticket, Spot, State}
use Rattle.nf_machine.specs.Step.{limit, ticket_at, without, with_ticket, or_stop, passed_on, do_pass, next_item, Given, pushed_on, op_gives, op_ends, push_with, give_push, do_give, ended_on, end_of, do_finish, do_close, at_ticket, step}
use Rattle.nf_machine.specs.Legal.{MayClose, CloseIsLegal, PassIsLegal, IsLegal}
use Rattle.nf_machine.specs.Going.{spot_work, work_to, moves_left}
use Rattle.nf_machine.proofs.Limit.{ChargeOk}
use Rattle.nf_machine.proofs.Measure.{work_put, pass_less, close_less}

pub record Calm (g : List PlainNode) (s u : State) : Type 0 where
  pub next : u.next ≡ s.next
  pub moves : moves_left g u ≤ moves_left g s
  pub taken : (i : ℕ) → (u.spots i).taken ≡ (s.spots i).taken

taken_put : (E : ℕ → Spot) (i : ℕ) (sp : Spot) → sp.taken ≡ (E i).taken → (j : ℕ) → (put E i sp j).taken ≡ (E j).taken
taken_put E i sp e = put_all (λ j z. z.taken ≡ (E j).taken) E i sp e (λ j n. refl)

work_same : (g : List PlainNode) (E : ℕ → Spot) (i : ℕ) (sp : Spot) (n : ℕ) → spot_work (node_at g i) sp ≡ spot_work (node_at g i) (E i) → work_to g (put E i sp) n ≡ work_to g E n
work_same g E i sp n e = elim (cases_Bool (nat_lt i n)) [
  | inl t ↦ (let l : i < n = grind (arith, nat_tests) in let a = (work_put g E i sp n).0 l in omega (arith, a, e))
  | inr f ↦ (let l : n ≤ i = grind (arith, nat_tests) in (work_put g E i sp n).1 l)
]

-- one node's part changes, in what is neither taken nor left to do
calm_put : (g : List PlainNode) (s u : State) (i : ℕ) (sp : Spot) → u.spots ≡ put s.spots i sp → u.charge ≡ s.charge → u.next ≡ s.next → spot_work (node_at g i) sp ≡ spot_work (node_at g i) (s.spots i) → sp.taken ≡ (s.spots i).taken → Calm g s u
calm_put g s u i sp e c x w t = record {
  next = x;
  moves = (let a : work_to g u.spots (length g) ≡ work_to g s.spots (length g) = ap (λ (E : ℕ → Spot). work_to g E (length g)) e ∙ work_same g s.spots i sp (length g) w in
      let b : limit + 1 - u.charge ≡ limit + 1 - s.charge = ap (λ n. limit + 1 - n) c in omega (arith, a, b));
  taken = λ j. ap (λ (E : ℕ → Spot). (E j).taken) e ∙ taken_put s.spots i sp t j;
}

calm_same : (g : List PlainNode) (s u : State) → u.spots ≡ s.spots → u.charge ≡ s.charge → u.next ≡ s.next → Calm g s u
calm_same g s u e c x = record {
  next = x;
  moves = (let a : work_to g u.spots (length g) ≡ work_to g s.spots (length g) = ap (λ (E : ℕ → Spot). work_to g E (length g)) e in
      let b : limit + 1 - u.charge ≡ limit + 1 - s.charge = ap (λ n. limit + 1 - n) c in omega (arith, a, b));
  taken = λ j. ap (λ (E : ℕ → Spot). (E j).taken) e;
}

calm_pass : (g : List PlainNode) (R : Rules) (s : State) (i k : ℕ) → ChargeOk s → PassIsLegal g s i k → Calm g s (step g s (pass i k))
calm_pass g R s i k limited legal = by (next_item g s i k) (pass_less g R s i k (limited.low legal.running) legal)
  where
    by : (x : Plain) → moves_left g (do_pass s i k x) < moves_left g s → Calm g s (do_pass s i k x)
    by x m = elim (cases_Bool (nat_lt limit (s.charge + cost x))) [
      | inl over ↦ (let l = rw over at m in rw over (record { next = refl; moves = omega arith; taken = taken_put s.spots i (passed_on (s.spots i) k) refl }))
      | inr below ↦ (let l = rw below at m in
          rw below (record { next = refl; moves = omega arith; taken = taken_put s.spots i (record (passed_on (s.spots i) k) { waiting = put (s.spots i).waiting k ((s.spots i).waiting k ++ x ∷ []) }) refl }))
    ]

calm_push : (g : List PlainNode) (s u : State) (i : ℕ) (x : Push) (r : Given) → u.spots ≡ s.spots → u.charge ≡ s.charge → u.next ≡ s.next → Calm g s (give_push u i x r)
calm_push g s u i x (Ok es) e c n =
    calm_put g s (give_push u i x (Ok es)) i (pushed_on (u.spots i) x es) (ap (λ (E : ℕ → Spot). put E i (pushed_on (u.spots i) x es)) e) c n
    (ap (λ (E : ℕ → Spot). spot_work (node_at g i) (E i)) e) (ap (λ (E : ℕ → Spot). (E i).taken) e)
calm_push g s u i x (Err f) e c n = calm_same g s (give_push u i x (Err f)) e c n

calm_give : (g : List PlainNode) (s : State) (t : ℕ) (a : _) (o : Option Ticket) → Calm g s (at_ticket s t o (λ s' k. do_give g s' k a))
calm_give g s t a None = calm_same g s s refl refl refl
calm_give g s t (Ok a) (Some k) = calm_push g s (record s { tickets = without t s.tickets }) k.node (push_with k.take a) (op_gives (node_at g k.node).kind (s.spots k.node).pushed (push_with k.take a)) refl refl refl
calm_give g s t (Err f) (Some k) = calm_same g s (do_give g (record s { tickets = without t s.tickets }) k (Err f)) refl refl refl

calm_start : (g : List PlainNode) (s : State) (t : ℕ) (o : Option Ticket) → Calm g s (at_ticket s t o (λ s' k. record s' { tickets = with_ticket (record k { started = true }) (s'.tickets) }))
calm_start g s t None = calm_same g s s refl refl refl
calm_start g s t (Some k) = calm_same g s (record s { tickets = with_ticket (record k { started = true }) (without t s.tickets) }) refl refl refl

calm_finish : (g : List PlainNode) (s : State) (t : ℕ) (r : Report) (outs : Outs) (o : Option Ticket) → Calm g s (at_ticket s t o (λ s' k. do_finish s' k r outs))
calm_finish g s t r outs None = calm_same g s s refl refl refl
calm_finish g s t r (Ok Again) (Some k) = calm_same g s (do_finish (record s { tickets = without t s.tickets }) k r (Ok Again)) refl refl refl
calm_finish g s t r (Ok (Emits vs)) (Some k) = calm_put g s (do_finish (record s { tickets = without t s.tickets }) k r (Ok (Emits vs))) k.node (ended_on (s.spots k.node) (end_of k r (Ok (Emits vs)))) refl refl refl refl refl
calm_finish g s t r (Ok Ignored) (Some k) = calm_put g s (do_finish (record s { tickets = without t s.tickets }) k r (Ok Ignored)) k.node (ended_on (s.spots k.node) (end_of k r (Ok Ignored))) refl refl refl refl refl
calm_finish g s t r (Ok (Failed f)) (Some k) = calm_put g s (do_finish (record s { tickets = without t s.tickets }) k r (Ok (Failed f))) k.node (ended_on (s.spots k.node) (end_of k r (Ok (Failed f)))) refl refl refl refl refl
calm_finish g s t r (Err f) (Some k) = calm_put g s (do_finish (record s { tickets = without t s.tickets }) k r (Err f)) k.node (ended_on (s.spots k.node) (end_of k r (Err f))) refl refl refl refl refl

calm_abort : (g : List PlainNode) (s : State) (t : ℕ) (cause : _) (o : Option Ticket) → Calm g s (at_ticket s t o (λ s' k. record s' { gone = k ∷ s'.gone; stop = or_stop s'.stop cause }))
calm_abort g s t cause None = calm_same g s s refl refl refl
calm_abort g s t cause (Some k) = calm_same g s (record s { tickets = without t s.tickets; gone = k ∷ s.gone; stop = or_stop s.stop cause }) refl refl refl

close_within : (g : List PlainNode) (s : State) (i : ℕ) → CloseIsLegal g s i → i < length g
close_within g s i legal = elim (cases_Bool (nat_lt i (length g))) [
  | inl e ↦ grind (arith, nat_tests)
  | inr f ↦ absurd (let z : length g ≤ i = grind (arith, nat_tests) in let e : node_at g i ≡ no_node = get_or_past g i no_node z in
      let m : MayClose no_node (source []) (s.spots i) = subst (λ (node : PlainNode). MayClose node node.kind (s.spots i)) e legal.done in m)
]

calm_close : (g : List PlainNode) (s : State) (i : ℕ) (r : Given) → moves_left g (do_close s i r) < moves_left g s → Calm g s (do_close s i r)
calm_close g s i (Ok es) m = record { next = refl; moves = omega arith; taken = taken_put s.spots i (record (s.spots i) { closed = true; emitted = λ o. (s.spots i).emitted o ++ to_out o es }) refl }
calm_close g s i (Err f) m = record { next = refl; moves = omega arith; taken = taken_put s.spots i (record (s.spots i) { closed = true }) refl }

-- a Take
abbrev pub IsTaking : PlainEvent → Type 0
IsTaking (pass i k) = ⊥
IsTaking (taking i port place t n) = Unit {0}
IsTaking (give t a) = ⊥
IsTaking (start t cause) = ⊥
IsTaking (finish t r outs) = ⊥
IsTaking (reuse t r outs) = ⊥
IsTaking (close i) = ⊥
IsTaking (abort t cause) = ⊥
IsTaking halt = ⊥

pub step_calm : (g : List PlainNode) (R : Rules) (s : State) (e : PlainEvent) → ChargeOk s → IsLegal g R s e → (IsTaking e → ⊥) → Calm g s (step g s e)
step_calm g R s (pass i k) c l n = calm_pass g R s i k c l
step_calm g R s (taking i port place t m) c l n = absurd (n tt)
step_calm g R s (give t a) c l n = calm_give g s t a (ticket_at t s.tickets)
step_calm g R s (start t cause) c l n = calm_start g s t (ticket_at t s.tickets)
step_calm g R s (finish t r outs) c l n = calm_finish g s t r outs (ticket_at t s.tickets)
step_calm g R s (reuse t r outs) c l n = calm_finish g s t r outs (ticket_at t s.tickets)
step_calm g R s (close i) c l n = let r = op_ends (node_at g i).kind (s.spots i).pushed in calm_close g s i r (close_less g s i r (close_within g s i l) l.still)
step_calm g R s (abort t cause) c l n = calm_abort g s t cause (ticket_at t s.tickets)
step_calm g R s halt c l n = calm_same g s (step g s halt) refl refl refl
