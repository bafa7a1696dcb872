-- What is kept of a history, event by event.
use Rattle.std.proofs.Common.{◌≡◌, ℕ, ◌+◌, ◌<◌, List, [], ◌∷◌, ◌++◌, length, get_or, Bool, true, false, cond, refl, ap, sym, ◌∙◌, subst, arith, inl, inr, append-nil, length-append, nat_lt}
use Rattle.std.specs.Prelude.{◌==◌, if◌then◌else◌, Option, Some, None, MatchOption, Result, Ok, Err}
use Rattle.std.specs.List.{AllByRecursion}
use Rattle.std.proofs.lemmas.Bool.{cases_Bool, cases_eq}
use Rattle.std.proofs.lemmas.Bool.Decides.{nat_tests}
use Rattle.std.proofs.lemmas.List.{get_or_append_left, get_or-set_same, get_or-set_other, length-set}
use Rattle.std.proofs.Math.Seq.{get_or-append_seam}
use Rattle.nf_value.specs.Plain.{Plain}
use Rattle.nf_value.specs.declared.fault.EvalFault.{EvalFault}
use Rattle.nf_job.specs.declared.report.Report.{Report}
use Rattle.nf_job.specs.declared.emitted.Outputs.TheVariants.{Emits, Ignored, Failed, Again}
use Rattle.nf_opstream.specs.Push.{Push}
use Rattle.nf_graph.specs.Rules.{Rules, Outs}
use Rattle.nf_graph.specs.Node.{PlainNode, node_at}
use Rattle.nf_graph.specs.Meaning.{cost}
use Rattle.nf_machine.specs.Event.{PlainEvent, pass, taking, give, start, finish, reuse, close, abort, halt}
use Rattle.nf_machine.specs.Legal.{InFlight, GiveIsLegal}
use Rattle.nf_machine.specs.State.{Ticket, State}
use Rattle.nf_machine.specs.Step.{Given, at_ticket, do_close, do_finish, do_give, do_pass, give_push, limit, next_item, op_ends, op_gives, push_with, step, take_at, ticket_at, with_ticket, without}
use Rattle.nf_machine.proofs.Tickets.{each_with, found_each, without_each}
use Rattle.nf_shown.specs.Shown.{HasRead, HasTaker, and_printed, is_of, kept_if, printed_by, with_more}

-- ---- the tickets after an event

-- P holds of each ticket, and the next ticket's number is as before
record Stay (P : Ticket → Type 0) (s u : State) : Type 0 where
  next : u.next ≡ s.next
  each : AllByRecursion P s.tickets → AllByRecursion P u.tickets

-- P looks at a ticket's number and its node alone
abbrev Blind : (Ticket → Type 0) → Type 0
Blind P = (k : Ticket) (told : List Report) (started : Bool) → P k → P (record k { told = told; started = started })

module _ (P : Ticket → Type 0) (blind : Blind P) where
  cond_stays : (b : Bool) (s u v : State) → Stay P s u → Stay P s v → Stay P s (cond b u v)
  cond_stays true s u v x y = x
  cond_stays false s u v x y = y

  stays : (s : State) → Stay P s s
  stays s = record { next = refl; each = λ h. h }

  pass_stays : (s : State) (i k : ℕ) (x : Plain) → Stay P s (do_pass s i k x)
  pass_stays s i k x = cond_stays (nat_lt limit (s.charge + cost x)) s _ _ (record { next = refl; each = λ h. h }) (record { next = refl; each = λ h. h })

  -- what is done with a ticket that was in flight
  abbrev Goes : State → Ticket → State → Type 0
  Goes s k u = (u.next ≡ s.next) × (P k → AllByRecursion P s.tickets → AllByRecursion P u.tickets)

  ticket_stays : (s : State) (t : ℕ) (f : State → Ticket → State) → ((u : State) (k : Ticket) → Goes u k (f u k)) → Stay P s (at_ticket s t (ticket_at t s.tickets) f)
  ticket_stays s t f goes = by (ticket_at t s.tickets) refl
    where
      by : (o : Option Ticket) → ticket_at t s.tickets ≡ o → Stay P s (at_ticket s t o f)
      by None e = record { next = refl; each = λ h. h }
      by (Some k) e =
          let z = goes (record s { tickets = without t s.tickets }) k in
          record { next = z.0; each = λ h. z.1 (found_each P t s.tickets k e h) (without_each P t s.tickets h) }

  push_goes : (s : State) (k : Ticket) (x : Push) (r : Given) → Goes s k (give_push s k.node x r)
  push_goes s k x (Ok es) = (refl, λ p h. h)
  push_goes s k x (Err f) = (refl, λ p h. h)

  give_goes : (g : List PlainNode) (a : Result Plain EvalFault) (s : State) (k : Ticket) → Goes s k (do_give g s k a)
  give_goes g (Ok v) s k = push_goes s k (push_with k.take v) (op_gives (node_at g k.node).kind (s.spots k.node).pushed (push_with k.take v))
  give_goes g (Err f) s k = (refl, λ p h. h)

  finish_goes : (r : Report) (outs : Outs) (s : State) (k : Ticket) → Goes s k (do_finish s k r outs)
  finish_goes r (Ok Again) s k = (refl, λ p h. each_with P s.tickets (record k { told = k.told ++ r ∷ []; started = false }) h (blind k (k.told ++ r ∷ []) false p))
  finish_goes r (Ok (Emits vs)) s k = (refl, λ p h. h)
  finish_goes r (Ok Ignored) s k = (refl, λ p h. h)
  finish_goes r (Ok (Failed f)) s k = (refl, λ p h. h)
  finish_goes r (Err f) s k = (refl, λ p h. h)

  close_stays : (s : State) (i : ℕ) (r : Given) → Stay P s (do_close s i r)
  close_stays s i (Ok es) = record { next = refl; each = λ h. h }
  close_stays s i (Err f) = record { next = refl; each = λ h. h }

  give_stays : (g : List PlainNode) (s : State) (t : ℕ) (a : Result Plain EvalFault) → Stay P s (step g s (give t a))
  give_stays g s t a = ticket_stays s t (λ u k. do_give g u k a) (λ u k. give_goes g a u k)

-- ---- takers

taker_blind : (takers : List ℕ) → Blind (HasTaker takers)
taker_blind takers k told started h = record { within = h.within; is = h.is }

more_takers : (takers : List ℕ) (node : ℕ) (ts : List Ticket) → AllByRecursion (HasTaker takers) ts → AllByRecursion (HasTaker (takers ++ node ∷ [])) ts
more_takers takers node [] h = tt
more_takers takers node (k ∷ ks) h = (
  record {
    within = omega (arith, h.0.within, length-append takers (node ∷ []));
    is = get_or_append_left takers (node ∷ []) 0 k.number h.0.within ∙ h.0.is;
  },
  more_takers takers node ks h.1,
)

own_taker : (takers : List ℕ) (k : Ticket) → length takers ≡ k.number → HasTaker (takers ++ k.node ∷ []) k
own_taker takers k e = record {
  within = omega (arith, e, length-append takers (k.node ∷ []));
  is = subst (λ n. get_or (takers ++ k.node ∷ []) n 0 ≡ k.node) e (get_or-append_seam takers k.node [] 0);
}

found_number : (t : ℕ) (ts : List Ticket) (k : Ticket) → ticket_at t ts ≡ Some k → k.number ≡ t
found_number t [] k h = absurd cc
found_number t (u ∷ us) k h = elim (cases_Bool (u.number == t)) [
  | inl e ↦ (let a : Some u ≡ Some k = (rw e at h) in let b : u ≡ k = cc in let c : u.number ≡ t = grind (arith, nat_tests) in subst (λ (z : Ticket). z.number ≡ t) b c)
  | inr e ↦ (let a : ticket_at t us ≡ Some k = (rw e at h) in found_number t us k a)
]

-- ---- events that print nothing

silent : (are : List Bool) (printed : ℕ → List Plain) (s u : State) (e : PlainEvent) (takers : List ℕ) (lists : List (List Plain)) → ((i : ℕ) → printed_by i s e ≡ []) → HasRead are printed s takers lists
    → Stay (HasTaker takers) s u → HasRead are (and_printed printed s e) u takers lists
silent are printed s u e takers lists none h stay = record {
  next = h.next ∙ sym stay.next;
  each = stay.each h.each;
  number = h.number;
  lists_are = λ i. h.lists_are i ∙ ap (kept_if (get_or are i false)) (sym (ap (λ vs. printed i ++ vs) (none i) ∙ append-nil (printed i)));
}

-- a node takes
pub taken : (g : List PlainNode) (R : Rules) (s : State) (printed : ℕ → List Plain) (are : List Bool) (takers new : List ℕ) (lists : List (List Plain)) (i port place t n : ℕ) → new ≡ takers ++ i ∷ [] → HasRead are printed s takers lists
    → HasRead are (and_printed printed s (taking i port place t n)) (step g s (taking i port place t n)) new lists
taken g R s printed are takers new lists i port place t n more h =
    let k : Ticket = record { number = s.next; node = i; take = take_at g s i port place; told = []; started = false } in
    subst (λ (v : List ℕ). HasRead are (and_printed printed s (taking i port place t n)) (step g s (taking i port place t n)) v lists) (sym more) (record {
      next = length-append takers (i ∷ []) ∙ (let e = h.next in omega (arith, e));
      each = each_with (HasTaker (takers ++ i ∷ [])) s.tickets k (more_takers takers i s.tickets h.each) (own_taker takers k h.next);
      number = h.number;
      lists_are = λ j. h.lists_are j ∙ ap (kept_if (get_or are j false)) (sym (append-nil (printed j)));
    })

-- a fault is given
pub fault_given : (g : List PlainNode) (s : State) (printed : ℕ → List Plain) (are : List Bool) (takers : List ℕ) (lists : List (List Plain)) (t : ℕ) (f : EvalFault) → HasRead are printed s takers lists
    → HasRead are (and_printed printed s (give t (Err f))) (step g s (give t (Err f))) takers lists
fault_given g s printed are takers lists t f h =
    silent are printed s (step g s (give t (Err f))) (give t (Err f)) takers lists (λ i. refl) h (give_stays (HasTaker takers) (taker_blind takers) g s t (Err f))

-- ---- an answer

-- what the event prints at node i, where node j took the ticket
printed_at : (s : State) (t : ℕ) (k : Ticket) (v : Plain) (i : ℕ) → ticket_at t s.tickets ≡ Some k → printed_by i s (give t (Ok v)) ≡ (if k.node == i then v ∷ [] else [])
printed_at s t k v i e = ap (λ o. if is_of i o then v ∷ [] else []) e

-- an answer of a node that isn't a view
pub answer_dropped : (g : List PlainNode) (R : Rules) (s : State) (printed : ℕ → List Plain) (are : List Bool) (takers : List ℕ) (lists : List (List Plain)) (t : ℕ) (v : Plain) → HasRead are printed s takers lists
    → InFlight s t (λ k. GiveIsLegal g R s k (Ok v)) → get_or are (get_or takers t 0) false ≡ false
    → HasRead are (and_printed printed s (give t (Ok v))) (step g s (give t (Ok v))) takers lists
answer_dropped g R s printed are takers lists t v h legal other = by (ticket_at t s.tickets) refl legal
  where
    stay : Stay (HasTaker takers) s (step g s (give t (Ok v)))
    stay = give_stays (HasTaker takers) (taker_blind takers) g s t (Ok v)

    same : (k : Ticket) → ticket_at t s.tickets ≡ Some k → (i : ℕ) → kept_if (get_or are i false) (printed i) ≡ kept_if (get_or are i false) (and_printed printed s (give t (Ok v)) i)
    same k e i =
        let taker = found_each (HasTaker takers) t s.tickets k e h.each in
        let number = found_number t s.tickets k e in
        elim (cases_Bool (k.node == i)) [
          | inl own ↦ (let at : k.node ≡ i = grind (arith, nat_tests) in
              let none : get_or are i false ≡ false = ap (λ m. get_or are m false) (sym at ∙ sym taker.is ∙ ap (λ m. get_or takers m 0) number) ∙ other in
              rw none refl)
          | inr apart ↦ ap (kept_if (get_or are i false)) (sym (ap (λ vs. printed i ++ vs) (printed_at s t k v i e ∙ ap (λ b. if b then v ∷ [] else []) apart) ∙ append-nil (printed i)))
        ]

    by : (o : Option Ticket) → ticket_at t s.tickets ≡ o → MatchOption o ⊥ (λ k. GiveIsLegal g R s k (Ok v)) → HasRead are (and_printed printed s (give t (Ok v))) (step g s (give t (Ok v))) takers lists
    by None e l = absurd l
    by (Some k) e l = record {
      next = h.next ∙ sym stay.next;
      each = stay.each h.each;
      number = h.number;
      lists_are = λ i. h.lists_are i ∙ same k e i;
    }

-- a view's answer
pub answer_kept : (g : List PlainNode) (R : Rules) (s : State) (printed : ℕ → List Plain) (are : List Bool) (takers : List ℕ) (lists new : List (List Plain)) (t : ℕ) (v : Plain) → HasRead are printed s takers lists
    → InFlight s t (λ k. GiveIsLegal g R s k (Ok v)) → get_or are (get_or takers t 0) false ≡ true → get_or takers t 0 < length lists → new ≡ with_more lists (get_or takers t 0) v
    → HasRead are (and_printed printed s (give t (Ok v))) (step g s (give t (Ok v))) takers new
answer_kept g R s printed are takers lists new t v h legal view within more =
    subst (λ (w : List (List Plain)). HasRead are (and_printed printed s (give t (Ok v))) (step g s (give t (Ok v))) takers w) (sym more) (by (ticket_at t s.tickets) refl legal)
  where
    j : ℕ
    j = get_or takers t 0

    stay : Stay (HasTaker takers) s (step g s (give t (Ok v)))
    stay = give_stays (HasTaker takers) (taker_blind takers) g s t (Ok v)

    one : (k : Ticket) → ticket_at t s.tickets ≡ Some k → (i : ℕ) → get_or (with_more lists j v) i [] ≡ kept_if (get_or are i false) (and_printed printed s (give t (Ok v)) i)
    one k e i =
        let taker = found_each (HasTaker takers) t s.tickets k e h.each in
        let number = found_number t s.tickets k e in
        let node : k.node ≡ j = sym taker.is ∙ ap (λ m. get_or takers m 0) number in
        elim (cases_eq i j) [
          | inl at ↦ (let own : (k.node == i) ≡ true = grind (arith, nat_tests) in
              let prints : printed_by i s (give t (Ok v)) ≡ v ∷ [] = printed_at s t k v i e ∙ ap (λ b. if b then v ∷ [] else []) own in
              let is_view : get_or are i false ≡ true = ap (λ m. get_or are m false) at ∙ view in
              let was : get_or lists i [] ≡ printed i = h.lists_are i ∙ ap (λ b. kept_if b (printed i)) is_view in
              let set_here : get_or (with_more lists j v) i [] ≡ get_or lists i [] ++ v ∷ [] = subst (λ m. get_or (with_more lists m v) i [] ≡ get_or lists i [] ++ v ∷ []) at (get_or-set_same lists i (get_or lists i [] ++ v ∷ []) [] (omega (arith, within, at))) in
              set_here ∙ ap (λ vs. vs ++ v ∷ []) was ∙ sym (ap (λ b. kept_if b (and_printed printed s (give t (Ok v)) i)) is_view ∙ ap (λ vs. printed i ++ vs) prints))
          | inr not ↦ (let no : (k.node == i) ≡ false = grind (arith, nat_tests) in
              let silence : printed_by i s (give t (Ok v)) ≡ [] = printed_at s t k v i e ∙ ap (λ b. if b then v ∷ [] else []) no in
              get_or-set_other lists j i (get_or lists j [] ++ v ∷ []) [] not ∙ h.lists_are i
              ∙ ap (kept_if (get_or are i false)) (sym (ap (λ vs. printed i ++ vs) silence ∙ append-nil (printed i))))
        ]

    by : (o : Option Ticket) → ticket_at t s.tickets ≡ o → MatchOption o ⊥ (λ k. GiveIsLegal g R s k (Ok v)) → HasRead are (and_printed printed s (give t (Ok v))) (step g s (give t (Ok v))) takers (with_more lists j v)
    by None e l = absurd l
    by (Some k) e l = record {
      next = h.next ∙ sym stay.next;
      each = stay.each h.each;
      number = length-set lists j (get_or lists j [] ++ v ∷ []) ∙ h.number;
      lists_are = one k e;
    }

-- ---- the other events

abbrev IsOther : PlainEvent → Type 0
IsOther (taking i port place t n) = ⊥
IsOther (give t a) = ⊥
IsOther _ = Unit {0}

pub other_read : (g : List PlainNode) (s : State) (printed : ℕ → List Plain) (are : List Bool) (takers : List ℕ) (lists : List (List Plain)) (e : PlainEvent) → IsOther e → HasRead are printed s takers lists
    → HasRead are (and_printed printed s e) (step g s e) takers lists
other_read g s printed are takers lists (pass i k) o h = silent are printed s _ (pass i k) takers lists (λ j. refl) h (pass_stays (HasTaker takers) (taker_blind takers) s i k (next_item g s i k))
other_read g s printed are takers lists (taking i port place t n) o h = absurd o
other_read g s printed are takers lists (give t a) o h = absurd o
other_read g s printed are takers lists (start t cause) o h =
    silent are printed s _ (start t cause) takers lists (λ j. refl) h
    (ticket_stays (HasTaker takers) (taker_blind takers) s t (λ u k. record u { tickets = with_ticket (record k { started = true }) u.tickets })
    (λ u k. (refl, λ p each. each_with (HasTaker takers) u.tickets (record k { started = true }) each (taker_blind takers k k.told true p))))
other_read g s printed are takers lists (finish t r outs) o h =
    silent are printed s _ (finish t r outs) takers lists (λ j. refl) h
    (ticket_stays (HasTaker takers) (taker_blind takers) s t (λ u k. do_finish u k r outs) (λ u k. finish_goes (HasTaker takers) (taker_blind takers) r outs u k))
other_read g s printed are takers lists (reuse t r outs) o h =
    silent are printed s _ (reuse t r outs) takers lists (λ j. refl) h
    (ticket_stays (HasTaker takers) (taker_blind takers) s t (λ u k. do_finish u k r outs) (λ u k. finish_goes (HasTaker takers) (taker_blind takers) r outs u k))
other_read g s printed are takers lists (close i) o h =
    silent are printed s _ (close i) takers lists (λ j. refl) h (close_stays (HasTaker takers) (taker_blind takers) s i (op_ends (node_at g i).kind (s.spots i).pushed))
other_read g s printed are takers lists (abort t cause) o h =
    silent are printed s _ (abort t cause) takers lists (λ j. refl) h
    (ticket_stays (HasTaker takers) (taker_blind takers) s t _ (λ u k. (refl, λ p each. each)))
other_read g s printed are takers lists halt o h = silent are printed s _ halt takers lists (λ j. refl) h (record { next = refl; each = λ each. each })
