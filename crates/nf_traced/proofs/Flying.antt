-- What the takes so far have to do with the tickets in flight.
use Rattle.std.proofs.Common.{◌≡◌, ℕ, suc, ◌+◌, ◌<◌, ◌≤◌, List, [], ◌∷◌, ◌++◌, map, length, Bool, true, false, refl, ap, sym, ◌∙◌, subst, arith, inl, inr, length-append}
use Rattle.std.specs.Prelude.{◌==◌, nat_lt, if◌then◌else◌, Option, Some, None, MatchOption, Result, Ok, Err}
use Rattle.std.specs.List.{AllByRecursion}
use Rattle.std.proofs.lemmas.Bool.{cases_Bool, cases_eq}
use Rattle.std.proofs.lemmas.Bool.Decides.{nat_tests}
use Rattle.std.proofs.lemmas.List.{length-map}
use Rattle.nf_value.specs.Plain.{Plain}
use Rattle.nf_value.specs.declared.fault.EvalFault.{EvalFault}
use Rattle.nf_job.specs.declared.report.Report.{Report}
use Rattle.nf_job.specs.declared.emitted.Outputs.TheVariants.{Emits, Ignored, Failed, Again}
use Rattle.nf_opstream.specs.Push.{Push}
use Rattle.nf_opstream.proofs.Tally.{passes, one_if, tally-append}
use Rattle.nf_graph.specs.Rules.{Rules, IsRules, Outs, last_attempt}
use Rattle.nf_graph.specs.Node.{PlainNode, node_at}
use Rattle.nf_graph.specs.Meaning.{cost}
use Rattle.nf_machine.specs.Event.{PlainEvent, PlainStop, pass, taking, give, start, finish, reuse, close, abort, halt}
use Rattle.nf_machine.specs.Legal.{IsLegal, GiveIsLegal, StartIsLegal, FinishIsLegal, ReuseIsLegal, AbortIsLegal, ReportIsLegal}
use Rattle.nf_machine.specs.State.{Ticket, State, attempt_of}
use Rattle.nf_machine.specs.Step.{Given, at_ticket, do_close, do_finish, do_give, do_pass, give_push, limit, next_item, op_ends, op_gives, or_stop, push_with, step, take_at, ticket_at, with_ticket, without}
use Rattle.nf_machine.proofs.Tickets.{each_with, found_each, found_tally, without_each}
use Rattle.nf_flow.specs.Questions.{is_again}
use Rattle.nf_trace.specs.declared.task.TaskStatus.{TaskStatus}
use Rattle.nf_traced.specs.declared.taken.Taken.{Taken}
use Rattle.nf_traced.specs.Takes.{new_take}
use Rattle.nf_traced.specs.Reading.{AreFew, IsNumbered, noted}
use Rattle.nf_traced.proofs.Numbered.{few_again, few_more, few_same, numbered_more, numbered_noted, reached_at, reached_left, reached_new, reached_other, reached_own, reached_past}

-- the ticket's take has reached the ticket's attempt
abbrev HasReached : List Taken → Ticket → Type 0
HasReached takes k = reached_at k.number takes ≡ Some (attempt_of k)

-- how many of these tickets have this number
abbrev named : ℕ → List Ticket → ℕ
named t ts = passes (λ k. k.number == t) ts

pub record Flying (s : State) (takes : List Taken) : Type 0 where
  pub next : suc (length takes) ≡ s.next
  pub numbered : IsNumbered 1 takes
  pub few : AreFew takes
  pub once : (t : ℕ) → named t s.tickets ≤ 1
  pub each : AllByRecursion (HasReached takes) s.tickets

-- ---- tickets

found_number : (t : ℕ) (ts : List Ticket) (k : Ticket) → ticket_at t ts ≡ Some k → k.number ≡ t
found_number t [] k h = absurd cc
found_number t (u ∷ us) k h = elim (cases_Bool (u.number == t)) [
  | inl e ↦ (let a : Some u ≡ Some k = (rw e at h) in let b : u ≡ k = cc in let c : u.number ≡ t = grind (arith, nat_tests) in subst (λ (z : Ticket). z.number ≡ t) b c)
  | inr e ↦ (let a : ticket_at t us ≡ Some k = (rw e at h) in found_number t us k a)
]

own_number : (k : Ticket) (t : ℕ) → k.number ≡ t → one_if (k.number == t) ≡ 1
own_number k t e = let own : (k.number == t) ≡ true = grind (arith, nat_tests) in ap one_if own

less_named : (t : ℕ) (ts : List Ticket) (k : Ticket) → ticket_at t ts ≡ Some k → (u : ℕ) → named u (without t ts) ≤ named u ts
less_named t ts k e u = let a = found_tally (λ z. one_if (z.number == u)) t ts k e in omega (arith, a)

none_left : (t : ℕ) (ts : List Ticket) (k : Ticket) → ticket_at t ts ≡ Some k → named t ts ≤ 1 → named t (without t ts) ≡ 0
none_left t ts k e once =
    let a = found_tally (λ z. one_if (z.number == t)) t ts k e in
    let b = own_number k t (found_number t ts k e) in omega (arith, a, b, once)

-- a ticket comes back in place of the one of its number
back_named : (t : ℕ) (ts : List Ticket) (k : Ticket) (told : List Report) (started : Bool) → ticket_at t ts ≡ Some k → (u : ℕ)
    → named u (with_ticket (record k { told = told; started = started }) (without t ts)) ≡ named u ts
back_named t ts k told started e u =
    let f : Ticket → ℕ = λ z. one_if (z.number == u) in
    let a = found_tally f t ts k e in
    let b = tally-append f (without t ts) (record k { told = told; started = started } ∷ []) in omega (arith, a, b)

-- ---- takes of other tickets

each_noted : (takes : List Taken) (t : ℕ) (again : Bool) (st : TaskStatus) (ts : List Ticket) → named t ts ≡ 0 → AllByRecursion (HasReached takes) ts
    → AllByRecursion (HasReached (map (noted t again st) takes)) ts
each_noted takes t again st [] z h = tt
each_noted takes t again st (k ∷ ks) z h =
    let ne : k.number ≡ t → ⊥ = λ e. (let b = own_number k t e in omega (arith, z, b)) in
    (reached_other t k.number again st takes ne ∙ h.0, each_noted takes t again st ks (omega (arith, z)) h.1)

each_more : (takes : List Taken) (x : Taken) (ts : List Ticket) → AllByRecursion (HasReached takes) ts → AllByRecursion (HasReached (takes ++ x ∷ [])) ts
each_more takes x [] h = tt
each_more takes x (k ∷ ks) h = (reached_left k.number takes (x ∷ []) (attempt_of k) h.0, each_more takes x ks h.1)

-- no ticket in flight has the next number
none_next : (takes : List Taken) (t : ℕ) (ts : List Ticket) → IsNumbered 1 takes → t ≡ suc (length takes) → AllByRecursion (HasReached takes) ts → named t ts ≡ 0
none_next takes t [] n e h = refl
none_next takes t (k ∷ ks) n e h = elim (cases_eq k.number t) [
  | inl own ↦ absurd (let past : 1 + length takes ≤ k.number = omega (arith, own, e) in
      let a : None ≡ Some (attempt_of k) = sym (reached_past k.number 1 takes n past) ∙ h.0 in cc)
  | inr ne ↦ (let apart : (k.number == t) ≡ false = grind (arith, nat_tests) in
      let b : one_if (k.number == t) ≡ 0 = ap one_if apart in
      let c = none_next takes t ks n e h.1 in omega (arith, b, c))
]

-- ---- a state with the same tickets, or with one less

same_flies : (s u : State) (takes : List Taken) → u.next ≡ s.next → u.tickets ≡ s.tickets → Flying s takes → Flying u takes
same_flies s u takes next tickets h = record {
  next = h.next ∙ sym next;
  numbered = h.numbered;
  few = h.few;
  once = λ t. subst (λ (ts : List Ticket). named t ts ≤ 1) (sym tickets) (h.once t);
  each = subst (AllByRecursion (HasReached takes)) (sym tickets) h.each;
}

less_flies : (s : State) (takes : List Taken) (t : ℕ) (k : Ticket) → ticket_at t s.tickets ≡ Some k → Flying s takes → Flying (record s { tickets = without t s.tickets }) takes
less_flies s takes t k e h = record {
  next = h.next;
  numbered = h.numbered;
  few = h.few;
  once = λ u. (let a = less_named t s.tickets k e u in let b = h.once u in omega (arith, a, b));
  each = without_each (HasReached takes) t s.tickets h.each;
}

-- nothing in flight has the ticket's number any more
noted_flies : (s : State) (takes : List Taken) (t : ℕ) (st : TaskStatus) → named t s.tickets ≡ 0 → Flying s takes → Flying s (map (noted t false st) takes)
noted_flies s takes t st z h = record {
  next = ap suc (length-map takes (noted t false st)) ∙ h.next;
  numbered = numbered_noted t false st 1 takes h.numbered;
  few = few_same t st takes h.few;
  once = h.once;
  each = each_noted takes t false st s.tickets z h.each;
}

-- the ticket of the attempt after this one comes back
again_flies : (s : State) (takes : List Taken) (t : ℕ) (st : TaskStatus) (k : Ticket) (r : Report) → ticket_at t s.tickets ≡ Some k → attempt_of k < last_attempt → Flying s takes
    → Flying (record s { tickets = with_ticket (record k { told = k.told ++ r ∷ []; started = false }) (without t s.tickets) }) (map (noted t true st) takes)
again_flies s takes t st k r e l h =
    let back : Ticket = record k { told = k.told ++ r ∷ []; started = false } in
    let is : k.number ≡ t = found_number t s.tickets k e in
    let own : HasReached takes k = found_each (HasReached takes) t s.tickets k e h.each in
    let reached : reached_at t takes ≡ Some (attempt_of k) = subst (λ n. reached_at n takes ≡ Some (attempt_of k)) is own in
    let z : named t (without t s.tickets) ≡ 0 = none_left t s.tickets k e (h.once t) in
    let more : attempt_of k + 1 ≡ attempt_of back = (let a = length-append k.told (r ∷ []) in omega (arith, a)) in
    let comes : reached_at back.number (map (noted t true st) takes) ≡ Some (attempt_of back) =
    ap (λ n. reached_at n (map (noted t true st) takes)) is ∙ reached_own t true st takes (attempt_of k) reached ∙ ap (λ n. Some n) more in
    record {
      next = ap suc (length-map takes (noted t true st)) ∙ h.next;
      numbered = numbered_noted t true st 1 takes h.numbered;
      few = few_again t st 1 takes (attempt_of k) h.numbered reached l h.few;
      once = λ u. subst (λ n. n ≤ 1) (sym (back_named t s.tickets k (k.told ++ r ∷ []) false e u)) (h.once u);
      each = each_with (HasReached (map (noted t true st) takes)) (without t s.tickets) back
          (each_noted takes t true st (without t s.tickets) z (without_each (HasReached takes) t s.tickets h.each)) comes;
    }

-- ---- the events

at_most : (b : Bool) → one_if b ≤ 1
at_most true = omega arith
at_most false = omega arith

pub taken_flies : (g : List PlainNode) (s : State) (takes : List Taken) (i port place t n : ℕ) → t ≡ s.next → Flying s takes
    → Flying (step g s (taking i port place t n)) (takes ++ new_take t i n ∷ [])
taken_flies g s takes i port place t n is h =
    let k : Ticket = record { number = s.next; node = i; take = take_at g s i port place; told = []; started = false } in
    let x : Taken = new_take t i n in
    let next = h.next in
    let none : named s.next s.tickets ≡ 0 = none_next takes s.next s.tickets h.numbered (sym h.next) h.each in
    let past : reached_at s.next takes ≡ None = reached_past s.next 1 takes h.numbered (omega (arith, next)) in
    record {
      next = (let a = length-append takes (x ∷ []) in omega (arith, a, next));
      numbered = numbered_more 1 takes x h.numbered (omega (arith, is, next));
      few = few_more takes x h.few (omega arith);
      once = λ u. (let a = tally-append (λ z. one_if (z.number == u)) s.tickets (k ∷ []) in let b = one_new u none (h.once u) in omega (arith, a, b));
      each = each_with (HasReached (takes ++ x ∷ [])) s.tickets k (each_more takes x s.tickets h.each) (reached_new s.next takes x past is);
    }
  where
    one_new : (u : ℕ) → named s.next s.tickets ≡ 0 → named u s.tickets ≤ 1 → named u s.tickets + one_if (s.next == u) ≤ 1
    one_new u none once = elim (cases_eq s.next u) [
      | inl e ↦ (let a : named u s.tickets ≡ 0 = subst (λ m. named m s.tickets ≡ 0) e none in let b = at_most (s.next == u) in omega (arith, a, b))
      | inr ne ↦ (let apart : (s.next == u) ≡ false = grind (arith, nat_tests) in let b : one_if (s.next == u) ≡ 0 = ap one_if apart in omega (arith, b, once))
    ]

-- an attempt with a report that is tried again isn't the last
not_last : (g : List PlainNode) (R : Rules) (s : State) (takes : List Taken) (t : ℕ) (k : Ticket) (r : Report) → IsRules R → ticket_at t s.tickets ≡ Some k
    → ReportIsLegal g R k r (Ok Again) → Flying s takes → attempt_of k < last_attempt
not_last g R s takes t k r rules e legal h = elim (cases_eq (attempt_of k) last_attempt) [
  | inl last ↦ absurd (rules.last k.node k.take.inputs r (ap (λ m. R.outputs k.node k.take.inputs m r) (sym last) ∙ sym legal.by_rule))
  | inr ne ↦ (let own : HasReached takes k = found_each (HasReached takes) t s.tickets k e h.each in
      let most : attempt_of k ≤ last_attempt = few_at k.number takes (attempt_of k) own h.few in grind arith)
]
  where
    few_at : (u : ℕ) (xs : List Taken) (v : ℕ) → reached_at u xs ≡ Some v → AreFew xs → v ≤ last_attempt
    few_at u [] v a few = absurd cc
    few_at u (x ∷ xs) v a few = elim (cases_Bool (u == x.ticket)) [
      | inl own ↦ (let b : Some x.reached ≡ Some v = ap (λ c. if c then Some x.reached else reached_at u xs) (sym own) ∙ a in
          let same : x.reached ≡ v = cc in subst (λ m. m ≤ last_attempt) same few.0)
      | inr f ↦ few_at u xs v (ap (λ c. if c then Some x.reached else reached_at u xs) (sym f) ∙ a) few.1
    ]

-- an attempt comes back
back_flies : (g : List PlainNode) (R : Rules) (s : State) (takes : List Taken) (t : ℕ) (st : TaskStatus) (k : Ticket) (r : Report) (outs : Outs) → IsRules R
    → ticket_at t s.tickets ≡ Some k → ReportIsLegal g R k r outs → Flying s takes
    → Flying (do_finish (record s { tickets = without t s.tickets }) k r outs) (map (noted t (is_again outs) st) takes)
back_flies g R s takes t st k r outs rules e legal h = by outs legal
  where
    gone : Flying (record s { tickets = without t s.tickets }) (map (noted t false st) takes)
    gone = noted_flies (record s { tickets = without t s.tickets }) takes t st (none_left t s.tickets k e (h.once t)) (less_flies s takes t k e h)

    by : (o : Outs) → ReportIsLegal g R k r o → Flying (do_finish (record s { tickets = without t s.tickets }) k r o) (map (noted t (is_again o) st) takes)
    by (Ok Again) l = again_flies s takes t st k r e (not_last g R s takes t k r rules e l h) h
    by (Ok (Emits vs)) l = same_flies (record s { tickets = without t s.tickets }) (do_finish (record s { tickets = without t s.tickets }) k r (Ok (Emits vs))) (map (noted t false st) takes) refl refl gone
    by (Ok Ignored) l = same_flies (record s { tickets = without t s.tickets }) (do_finish (record s { tickets = without t s.tickets }) k r (Ok Ignored)) (map (noted t false st) takes) refl refl gone
    by (Ok (Failed f)) l = same_flies (record s { tickets = without t s.tickets }) (do_finish (record s { tickets = without t s.tickets }) k r (Ok (Failed f))) (map (noted t false st) takes) refl refl gone
    by (Err f) l = same_flies (record s { tickets = without t s.tickets }) (do_finish (record s { tickets = without t s.tickets }) k r (Err f)) (map (noted t false st) takes) refl refl gone

pub finish_flies : (g : List PlainNode) (R : Rules) (s : State) (takes : List Taken) (t : ℕ) (st : TaskStatus) (r : Report) (outs : Outs) → IsRules R
    → IsLegal g R s (finish t r outs) → Flying s takes → Flying (step g s (finish t r outs)) (map (noted t (is_again outs) st) takes)
finish_flies g R s takes t st r outs rules legal h = by (ticket_at t s.tickets) refl legal
  where
    by : (o : Option Ticket) → ticket_at t s.tickets ≡ o → MatchOption o ⊥ (λ k. FinishIsLegal g R k r outs)
        → Flying (at_ticket s t o (λ s' k. do_finish s' k r outs)) (map (noted t (is_again outs) st) takes)
    by None e l = absurd l
    by (Some k) e l = back_flies g R s takes t st k r outs rules e l.report h

pub reuse_flies : (g : List PlainNode) (R : Rules) (s : State) (takes : List Taken) (t : ℕ) (st : TaskStatus) (r : Report) (outs : Outs) → IsRules R
    → IsLegal g R s (reuse t r outs) → Flying s takes → Flying (step g s (reuse t r outs)) (map (noted t (is_again outs) st) takes)
reuse_flies g R s takes t st r outs rules legal h = by (ticket_at t s.tickets) refl legal
  where
    by : (o : Option Ticket) → ticket_at t s.tickets ≡ o → MatchOption o ⊥ (λ k. ReuseIsLegal g R s k r outs)
        → Flying (at_ticket s t o (λ s' k. do_finish s' k r outs)) (map (noted t (is_again outs) st) takes)
    by None e l = absurd l
    by (Some k) e l = back_flies g R s takes t st k r outs rules e l.report h

pub abort_flies : (g : List PlainNode) (R : Rules) (s : State) (takes : List Taken) (t : ℕ) (st : TaskStatus) (cause : Option PlainStop)
    → IsLegal g R s (abort t cause) → Flying s takes → Flying (step g s (abort t cause)) (map (noted t false st) takes)
abort_flies g R s takes t st cause legal h = by (ticket_at t s.tickets) refl legal
  where
    by : (o : Option Ticket) → ticket_at t s.tickets ≡ o → MatchOption o ⊥ (λ k. AbortIsLegal g R s k cause)
        → Flying (at_ticket s t o (λ s' k. record s' { gone = k ∷ s'.gone; stop = or_stop s'.stop cause })) (map (noted t false st) takes)
    by None e l = absurd l
    by (Some k) e l =
        let less : State = record s { tickets = without t s.tickets } in
        same_flies less (record less { gone = k ∷ s.gone; stop = or_stop s.stop cause }) (map (noted t false st) takes) refl refl
        (noted_flies less takes t st (none_left t s.tickets k e (h.once t)) (less_flies s takes t k e h))

-- ---- events of which the takes tell nothing

-- neither a take, nor an attempt that comes back, nor a ticket that is given up
abbrev pub IsElse : PlainEvent → Type 0
IsElse (taking i port place t n) = ⊥
IsElse (finish t r outs) = ⊥
IsElse (reuse t r outs) = ⊥
IsElse (abort t cause) = ⊥
IsElse _ = Unit {0}

module _ (takes : List Taken) where
  cond_flies : (b : Bool) (u v : State) → Flying u takes → Flying v takes → Flying (if b then u else v) takes
  cond_flies true u v x y = x
  cond_flies false u v x y = y

  pass_flies : (s : State) (i k : ℕ) (x : Plain) → Flying s takes → Flying (do_pass s i k x) takes
  pass_flies s i k x h = cond_flies (nat_lt limit (s.charge + cost x)) _ _ (same_flies s _ takes refl refl h) (same_flies s _ takes refl refl h)

  push_flies : (s : State) (i : ℕ) (x : Push) (r : Given) → Flying s takes → Flying (give_push s i x r) takes
  push_flies s i x (Ok es) h = same_flies s (give_push s i x (Ok es)) takes refl refl h
  push_flies s i x (Err f) h = same_flies s (give_push s i x (Err f)) takes refl refl h

  given_flies : (g : List PlainNode) (s : State) (k : Ticket) (a : Result Plain EvalFault) → Flying s takes → Flying (do_give g s k a) takes
  given_flies g s k (Ok v) h = push_flies s k.node (push_with k.take v) (op_gives (node_at g k.node).kind (s.spots k.node).pushed (push_with k.take v)) h
  given_flies g s k (Err f) h = same_flies s (do_give g s k (Err f)) takes refl refl h

  give_flies : (g : List PlainNode) (R : Rules) (s : State) (t : ℕ) (a : Result Plain EvalFault) → IsLegal g R s (give t a) → Flying s takes → Flying (step g s (give t a)) takes
  give_flies g R s t a legal h = by (ticket_at t s.tickets) refl legal
    where
      by : (o : Option Ticket) → ticket_at t s.tickets ≡ o → MatchOption o ⊥ (λ k. GiveIsLegal g R s k a) → Flying (at_ticket s t o (λ s' k. do_give g s' k a)) takes
      by None e l = absurd l
      by (Some k) e l = given_flies g (record s { tickets = without t s.tickets }) k a (less_flies s takes t k e h)

  started_flies : (s : State) (t : ℕ) (k : Ticket) → ticket_at t s.tickets ≡ Some k → Flying s takes
      → Flying (record s { tickets = with_ticket (record k { started = true }) (without t s.tickets) }) takes
  started_flies s t k e h = record {
    next = h.next;
    numbered = h.numbered;
    few = h.few;
    once = λ u. subst (λ n. n ≤ 1) (sym (back_named t s.tickets k k.told true e u)) (h.once u);
    each = each_with (HasReached takes) (without t s.tickets) (record k { started = true }) (without_each (HasReached takes) t s.tickets h.each)
        (found_each (HasReached takes) t s.tickets k e h.each);
  }

  close_flies : (s : State) (i : ℕ) (r : Given) → Flying s takes → Flying (do_close s i r) takes
  close_flies s i (Ok es) h = same_flies s (do_close s i (Ok es)) takes refl refl h
  close_flies s i (Err f) h = same_flies s (do_close s i (Err f)) takes refl refl h

  pub else_flies : (g : List PlainNode) (R : Rules) (s : State) (e : PlainEvent) → IsElse e → IsLegal g R s e → Flying s takes → Flying (step g s e) takes
  else_flies g R s (taking i port place t n) o legal h = absurd o
  else_flies g R s (finish t r outs) o legal h = absurd o
  else_flies g R s (reuse t r outs) o legal h = absurd o
  else_flies g R s (abort t cause) o legal h = absurd o
  else_flies g R s (pass i k) o legal h = pass_flies s i k (next_item g s i k) h
  else_flies g R s (give t a) o legal h = give_flies g R s t a legal h
  else_flies g R s (start t cause) o legal h = by (ticket_at t s.tickets) refl legal
    where
      by : (o : Option Ticket) → ticket_at t s.tickets ≡ o → MatchOption o ⊥ (StartIsLegal g R s)
          → Flying (at_ticket s t o (λ s' k. record s' { tickets = with_ticket (record k { started = true }) s'.tickets })) takes
      by None e l = absurd l
      by (Some k) e l = started_flies s t k e h
  else_flies g R s (close i) o legal h = close_flies s i (op_ends (node_at g i).kind (s.spots i).pushed) h
  else_flies g R s halt o legal h = same_flies s (step g s halt) takes refl refl h
