-- No two tickets in flight have one number.
use Rattle.std.proofs.Common.{◌≡◌, ℕ, suc, ◌+◌, ◌≤◌, List, [], ◌∷◌, ◌++◌, Bool, true, false, cond, refl, ap, sym, ◌∙◌, arith, inl, inr}
use Rattle.std.specs.Prelude.{◌==◌, nat_lt, Option, Some, None, Result, Ok, Err}
use Rattle.std.proofs.lemmas.Bool.{cases_eq}
use Rattle.std.proofs.lemmas.Bool.Decides.{nat_tests}
use Rattle.nf_value.specs.Plain.{Plain}
use Rattle.nf_value.specs.declared.fault.EvalFault.{EvalFault}
use Rattle.nf_opstream.specs.Push.{Push}
use Rattle.nf_opstream.proofs.Tally.{one_if, passes, tally-append}
use Rattle.nf_job.specs.declared.report.Report.{Report}
use Rattle.nf_job.specs.declared.emitted.Outputs.TheVariants.{Emits, Ignored, Failed, Again}
use Rattle.nf_graph.specs.Meaning.{cost, put}
use Rattle.nf_graph.specs.Node.{PlainNode, node_at}
use Rattle.nf_graph.specs.Rules.{Outs}
use Rattle.nf_machine.specs.Event.{PlainEvent, charge_stop, pass, taking, give, start, finish, reuse, close, abort, halt}
use Rattle.nf_machine.specs.State.{Spot, State, Ticket, opening}
use Rattle.nf_machine.specs.Step.{Given, at_ticket, do_close, do_finish, do_give, do_pass, give_push, limit, next_item, op_ends, op_gives, or_stop, passed_on, push_with, replay, step, take_at, ticket_at, with_ticket, without}
use Rattle.nf_machine.proofs.Tickets.{found_tally}

-- how many tickets have the number
abbrev pub counted : ℕ → List Ticket → ℕ
counted n ts = passes (λ (k : Ticket). k.number == n) ts

-- each number is that of one ticket at most, and the next one's is of none
pub record AreDistinct (s : State) : Type 0 where
  pub once : (n : ℕ) → counted n s.tickets ≤ 1
  pub free : (n : ℕ) → s.next ≤ n → counted n s.tickets ≡ 0

-- no ticket more
record Fewer (s u : State) : Type 0 where
  next : u.next ≡ s.next
  at : (n : ℕ) → counted n u.tickets ≤ counted n s.tickets

fewer : {s u : State} → AreDistinct s → Fewer s u → AreDistinct u
fewer d f = record {
  once = λ n. (let a = d.once n in let b = f.at n in omega (arith, a, b));
  free = λ n l. (let e = f.next in let a = d.free n (omega arith) in let b = f.at n in omega (arith, a, b));
}

same : (s : State) → Fewer s s
same s = record { next = refl; at = λ n. omega arith }

-- ---- what each event does to tickets

pass_same : (s : State) (i p : ℕ) (x : Plain) → Fewer s (do_pass s i p x)
pass_same s i p x = by (nat_lt limit (s.charge + cost x))
  where
    sp : Spot
    sp = passed_on (s.spots i) p

    by : (b : Bool) → Fewer s (cond b
        (record s { spots = put s.spots i sp; charge = s.charge + cost x; stop = Some (charge_stop (s.charge + cost x)) })
        (record s { spots = put s.spots i (record sp { waiting = put sp.waiting p (sp.waiting p ++ x ∷ []) }); charge = s.charge + cost x }))
    by true = record { next = refl; at = λ n. omega arith }
    by false = record { next = refl; at = λ n. omega arith }

push_same : (s : State) (i : ℕ) (x : Push) (given : Given) → Fewer s (give_push s i x given)
push_same s i x (Ok es) = record { next = refl; at = λ n. omega arith }
push_same s i x (Err f) = record { next = refl; at = λ n. omega arith }

close_same : (s : State) (i : ℕ) (given : Given) → Fewer s (do_close s i given)
close_same s i (Ok es) = record { next = refl; at = λ n. omega arith }
close_same s i (Err f) = record { next = refl; at = λ n. omega arith }

give_same : (g : List PlainNode) (s : State) (k : Ticket) (a : Result Plain EvalFault) → Fewer s (do_give g s k a)
give_same g s k (Ok a) = push_same s k.node (push_with k.take a) (op_gives (node_at g k.node).kind (s.spots k.node).pushed (push_with k.take a))
give_same g s k (Err f) = record { next = refl; at = λ n. omega arith }

-- a ticket less, which may come back otherwise than it was
left : (n t : ℕ) (ts : List Ticket) (k : Ticket) → ticket_at t ts ≡ Some k → counted n (without t ts) ≤ counted n ts
left n t ts k there = (let a = found_tally (λ u. one_if (u.number == n)) t ts k there in omega (arith, a))

back : (n t : ℕ) (ts : List Ticket) (k w : Ticket) → ticket_at t ts ≡ Some k → w.number ≡ k.number → counted n (with_ticket w (without t ts)) ≤ counted n ts
back n t ts k w there e =
    let f : Ticket → ℕ = λ u. one_if (u.number == n) in
    let a = found_tally f t ts k there in let b = tally-append f (without t ts) (w ∷ []) in
    let c : one_if (w.number == n) ≡ one_if (k.number == n) = ap (λ m. one_if (m == n)) e in omega (arith, a, b, c)

end_fewer : (s : State) (t : ℕ) (k : Ticket) (r : Report) (outs : Outs) → ticket_at t s.tickets ≡ Some k → Fewer s (do_finish (record s { tickets = without t s.tickets }) k r outs)
end_fewer s t k r (Ok Again) there = record { next = refl; at = λ n. back n t s.tickets k (record k { told = k.told ++ r ∷ []; started = false }) there refl }
end_fewer s t k r (Ok (Emits vs)) there = record { next = refl; at = λ n. left n t s.tickets k there }
end_fewer s t k r (Ok Ignored) there = record { next = refl; at = λ n. left n t s.tickets k there }
end_fewer s t k r (Ok (Failed f)) there = record { next = refl; at = λ n. left n t s.tickets k there }
end_fewer s t k r (Err f) there = record { next = refl; at = λ n. left n t s.tickets k there }

give_fewer : (g : List PlainNode) (s : State) (t : ℕ) (k : Ticket) (a : Result Plain EvalFault) → ticket_at t s.tickets ≡ Some k → Fewer s (do_give g (record s { tickets = without t s.tickets }) k a)
give_fewer g s t k a there = (let h = give_same g (record s { tickets = without t s.tickets }) k a in record { next = h.next; at = λ n. (let x = h.at n in let y = left n t s.tickets k there in omega (arith, x, y)) })

at_fewer : (s : State) (t : ℕ) (f : State → Ticket → State) → ((k : Ticket) → ticket_at t s.tickets ≡ Some k → Fewer s (f (record s { tickets = without t s.tickets }) k)) → Fewer s (at_ticket s t (ticket_at t s.tickets) f)
at_fewer s t f h = by (ticket_at t s.tickets) h
  where
    by : (o : Option Ticket) → ((k : Ticket) → o ≡ Some k → Fewer s (f (record s { tickets = without t s.tickets }) k)) → Fewer s (at_ticket s t o f)
    by None h = same s
    by (Some k) h = h k refl

-- ---- all events

take_distinct : (s : State) (k : Ticket) (u : State) → AreDistinct s → k.number ≡ s.next → u.tickets ≡ with_ticket k s.tickets → u.next ≡ suc s.next → AreDistinct u
take_distinct s k u d is ts next = record {
  once = λ n. elim (cases_eq n s.next) [
    | inl e ↦ (let a = more n in let b = d.free n (omega arith) in let c = one n in omega (arith, a, b, c))
    | inr other ↦ (let a = more n in let b = d.once n in let c = none n (λ e. other (sym e ∙ is)) in omega (arith, a, b, c))
  ];
  free = λ n l. (let a = more n in let b = d.free n (omega arith) in let c = none n (λ e. absurd (omega arith)) in omega (arith, a, b, c));
}
  where
    more : (n : ℕ) → counted n u.tickets ≡ counted n s.tickets + (one_if (k.number == n) + 0)
    more n = ap (counted n) ts ∙ tally-append (λ v. one_if (v.number == n)) s.tickets (k ∷ [])

    one : (n : ℕ) → one_if (k.number == n) ≤ 1
    one n = by (k.number == n)
      where
        by : (b : Bool) → one_if b ≤ 1
        by true = omega arith
        by false = omega arith

    none : (n : ℕ) → (k.number ≡ n → ⊥) → one_if (k.number == n) ≡ 0
    none n ne = (let e : (k.number == n) ≡ false = grind (arith, nat_tests) in ap one_if e)

step_distinct : (g : List PlainNode) (s : State) (x : PlainEvent) → AreDistinct s → AreDistinct (step g s x)
step_distinct g s (pass i p) d = fewer d (pass_same s i p (next_item g s i p))
step_distinct g s (taking i port place t n) d = take_distinct s (record { number = s.next; node = i; take = take_at g s i port place; told = []; started = false }) (step g s (taking i port place t n)) d refl refl refl
step_distinct g s (give t a) d = fewer d (at_fewer s t (λ s' k. do_give g s' k a) (λ k there. give_fewer g s t k a there))
step_distinct g s (start t cause) d = fewer d (at_fewer s t (λ s' k. record s' { tickets = with_ticket (record k { started = true }) s'.tickets }) (λ k there. record { next = refl; at = λ n. back n t s.tickets k (record k { started = true }) there refl }))
step_distinct g s (finish t r outs) d = fewer d (at_fewer s t (λ s' k. do_finish s' k r outs) (λ k there. end_fewer s t k r outs there))
step_distinct g s (reuse t r outs) d = fewer d (at_fewer s t (λ s' k. do_finish s' k r outs) (λ k there. end_fewer s t k r outs there))
step_distinct g s (close i) d = fewer d (close_same s i (op_ends (node_at g i).kind (s.spots i).pushed))
step_distinct g s (abort t cause) d = fewer d (at_fewer s t (λ s' k. record s' { gone = k ∷ s'.gone; stop = or_stop s'.stop cause }) (λ k there. record { next = refl; at = λ n. left n t s.tickets k there }))
step_distinct g s halt d = record { once = d.once; free = d.free }

replay_distinct : (g : List PlainNode) (s : State) (h : List PlainEvent) → AreDistinct s → AreDistinct (replay g s h)
replay_distinct g s [] d = d
replay_distinct g s (x ∷ h) d = replay_distinct g (step g s x) h (step_distinct g s x d)

pub distinct : (g : List PlainNode) (h : List PlainEvent) → AreDistinct (replay g (opening g) h)
distinct g h = replay_distinct g (opening g) h (record { once = λ n. omega arith; free = λ n l. refl })
