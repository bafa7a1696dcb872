-- No attempt that ended is in flight: no instance is taken twice, and the attempts of a ticket rise. No number is in flight twice.
use Rattle.std.proofs.Common.{◌≡◌, ℕ, suc, ◌+◌, ◌<◌, ◌≤◌, List, [], ◌∷◌, ◌++◌, Bool, true, false, cond, not, nat_lt, refl, ap, sym, ◌∙◌, subst, arith, length, inl, inr, ◌⊎◌}
use Rattle.std.specs.Prelude.{Option, Some, None, ◌==◌, ◌&&◌, MatchOption, Result, Ok, Err}
use Rattle.std.specs.List.{AllByRecursion}
use Rattle.std.proofs.lemmas.Bool.{cases_Bool}
use Rattle.std.proofs.lemmas.Bool.Decides.{nat_tests}
use Rattle.std.proofs.lemmas.List.{length_push, append-nil, append_assoc}
use Rattle.nf_value.specs.Plain.{Plain}
use Rattle.nf_value.specs.declared.fault.EvalFault.{EvalFault}
use Rattle.nf_opstream.specs.Push.{Push}
use Rattle.nf_opstream.proofs.Tally.{one_if, passes, tally-append, tally_more, count_is_passes}
use Rattle.nf_job.specs.declared.report.Report.{Report}
use Rattle.nf_job.specs.declared.emitted.Outputs.TheVariants.{Emits, Ignored, Failed, Again}
use Rattle.nf_graph.specs.Node.{Kind, source, operator, process, PlainNode, node_at}
use Rattle.nf_graph.specs.Rules.{Outs, Rules}
use Rattle.nf_graph.specs.Meaning.{put, same_inputs, cost}
use Rattle.nf_graph.proofs.Lists.{inputs_law}
use Rattle.nf_machine.specs.declared.event.Cause.{Cause}
use Rattle.nf_machine.specs.Event.{PlainEvent, PlainStop, pass, taking, give, start, finish, reuse, close, abort, halt}
use Rattle.nf_machine.specs.State.{Take, Ticket, Spot, State, attempt_of, instance, opening}
use Rattle.nf_machine.specs.Step.{step, replay, limit, or_stop, ticket_at, without, with_ticket, at_ticket, do_pass, do_give, do_finish, do_close, do_take, take_at, give_push, n_of, Given}
use Rattle.nf_machine.specs.Legal.{IsLegal, IsProcessKind, FinishIsLegal}
use Rattle.nf_machine.specs.History.{IsLawful, is_instance}
use Rattle.nf_machine.proofs.Tickets.{found_tally}
use Rattle.nf_flight.proofs.Tickets.{at_with, at_without_same, found_number, if_number, number_yes, or_ticket}
use Rattle.nf_stored.specs.Attempts.{Attempt}
use Rattle.nf_core.specs.Told.{Ending, told_from, finished_by, ending_of, attempt_at}

-- the ticket is of the attempt's instance
abbrev pub is_at : Attempt → Ticket → Bool
is_at A k = (k.node == A.node) && is_instance A.inputs A.n (instance k.take)

-- and its attempt isn't a later one
abbrev pub is_late : Attempt → Ticket → Bool
is_late A k = is_at A k && not (nat_lt A.attempt (attempt_of k))

-- the ticket has this number
abbrev pub has_number : ℕ → Ticket → Bool
has_number n k = k.number == n

-- how many takes of the node had inputs equal to the attempt's
abbrev pub equals : State → Attempt → ℕ
equals s A = passes (λ u. same_inputs A.inputs u.inputs) (s.spots A.node).taken

-- an attempt of an instance that was taken, whose ticket isn't in flight with it any more
pub record IsPast (g : List PlainNode) (s : State) (A : Attempt) : Type 0 where
  pub kind : IsProcessKind (node_at g A.node).kind
  pub taken : A.n < equals s A
  pub none : passes (is_late A) s.tickets ≡ 0

pub record IsOrderly (g : List PlainNode) (s : State) (past : List Ending) : Type 0 where
  -- an instance is in flight at most once, and only if it was taken
  pub lone : (A : Attempt) → IsProcessKind (node_at g A.node).kind → passes (is_at A) s.tickets ≤ one_if (nat_lt A.n (equals s A))
  pub each : AllByRecursion (λ e. IsPast g s e.attempt) past
  -- a number is in flight at most once, and not before it was given
  pub once : (n : ℕ) → passes (has_number n) s.tickets ≤ 1
  pub fresh : (n : ℕ) → s.next ≤ n → passes (has_number n) s.tickets ≡ 0

-- no ticket more, no attempt earlier, and the same takes
pub record Fewer (s u : State) : Type 0 where
  pub at : (A : Attempt) → passes (is_at A) u.tickets ≤ passes (is_at A) s.tickets
  pub late : (A : Attempt) → passes (is_late A) u.tickets ≤ passes (is_late A) s.tickets
  pub taken : (j : ℕ) → (u.spots j).taken ≡ (s.spots j).taken
  pub numbers : (n : ℕ) → passes (has_number n) u.tickets ≤ passes (has_number n) s.tickets
  pub next : u.next ≡ s.next

past_on : (g : List PlainNode) (s u : State) → Fewer s u → (past : List Ending) → AllByRecursion (λ e. IsPast g s e.attempt) past → AllByRecursion (λ e. IsPast g u e.attempt) past
past_on g s u f [] h = tt
past_on g s u f (e ∷ past) h = (one e.attempt h.0, past_on g s u f past h.1) where
  one : (A : Attempt) → IsPast g s A → IsPast g u A
  one A p = record {
    kind = p.kind;
    taken = (let same : equals u A ≡ equals s A = ap (passes (λ v. same_inputs A.inputs v.inputs)) (f.taken A.node) in let t = p.taken in omega (arith, same, t));
    none = (let l = f.late A in let n = p.none in omega (arith, l, n));
  }

pub orderly_on : {g : List PlainNode} {s u : State} {past : List Ending} → Fewer s u → IsOrderly g s past → IsOrderly g u past
orderly_on {g} {s} {u} {past} f o = record {
  lone = λ A kind. (let same : equals u A ≡ equals s A = ap (passes (λ v. same_inputs A.inputs v.inputs)) (f.taken A.node) in
      let l = f.at A in let m = o.lone A kind in rw same (omega (arith, l, m)));
  each = past_on g s u f past o.each;
  once = λ n. (let l = f.numbers n in let m = o.once n in omega (arith, l, m));
  fresh = λ n h. (let e = f.next in let l = f.numbers n in let m = o.fresh n (omega (arith, e, h)) in omega (arith, l, m));
}

-- ---- the events that take nothing

all_same : (s u : State) → u.tickets ≡ s.tickets → u.next ≡ s.next → ((j : ℕ) → (u.spots j).taken ≡ (s.spots j).taken) → Fewer s u
all_same s u same next takes = record {
  at = λ A. (let e = ap (passes (is_at A)) same in omega (arith, e));
  late = λ A. (let e = ap (passes (is_late A)) same in omega (arith, e));
  taken = takes;
  numbers = λ n. (let e = ap (passes (has_number n)) same in omega (arith, e));
  next = next;
}

-- a spot that keeps what it took
same_taken : (spots : ℕ → Spot) (i : ℕ) (sp : Spot) → sp.taken ≡ (spots i).taken → (j : ℕ) → (put spots i sp j).taken ≡ (spots j).taken
same_taken spots i sp same j = elim (cases_Bool (j == i)) [
  | inl e ↦ (let at : j ≡ i = grind (arith, nat_tests, e) in rw e (same ∙ ap (λ m. (spots m).taken) (sym at)))
  | inr e ↦ rw e refl
]

passes_less : (p : Ticket → Bool) (t : ℕ) (ts : List Ticket) (k : Ticket) → ticket_at t ts ≡ Some k → passes p (without t ts) ≤ passes p ts
passes_less p t ts k h = let a = found_tally (λ u. one_if (p u)) t ts k h in omega (arith, a)

-- a ticket left
left_fewer : (s u : State) (t : ℕ) (k : Ticket) → ticket_at t s.tickets ≡ Some k → u.tickets ≡ without t s.tickets → u.next ≡ s.next → ((j : ℕ) → (u.spots j).taken ≡ (s.spots j).taken) → Fewer s u
left_fewer s u t k there same next takes = record {
  at = λ A. (let e = ap (passes (is_at A)) same in let l = passes_less (is_at A) t s.tickets k there in omega (arith, e, l));
  late = λ A. (let e = ap (passes (is_late A)) same in let l = passes_less (is_late A) t s.tickets k there in omega (arith, e, l));
  taken = takes;
  numbers = λ n. (let e = ap (passes (has_number n)) same in let l = passes_less (has_number n) t s.tickets k there in omega (arith, e, l));
  next = next;
}

-- a ticket came back with another start, or a later attempt
back_fewer : (s u : State) (t : ℕ) (k : Ticket) (told : List Report) (started : Bool) → ticket_at t s.tickets ≡ Some k → length k.told ≤ length told
    → u.tickets ≡ with_ticket (record k { told = told; started = started }) (without t s.tickets) → u.next ≡ s.next → ((j : ℕ) → (u.spots j).taken ≡ (s.spots j).taken) → Fewer s u
back_fewer s u t k told started there more same next takes = record {
  at = λ A. (let e = ap (passes (is_at A)) same in
      let a = tally-append (λ v. one_if (is_at A v)) (without t s.tickets) (record k { told = told; started = started } ∷ []) in
      let b = found_tally (λ v. one_if (is_at A v)) t s.tickets k there in omega (arith, e, a, b));
  late = λ A. (let e = ap (passes (is_late A)) same in
      let a = tally-append (λ v. one_if (is_late A v)) (without t s.tickets) (record k { told = told; started = started } ∷ []) in
      let b = found_tally (λ v. one_if (is_late A v)) t s.tickets k there in
      let c = later (is_at A k) A.attempt (length k.told) (length told) more in omega (arith, e, a, b, c));
  taken = takes;
  numbers = λ n. (let e = ap (passes (has_number n)) same in
      let a = tally-append (λ v. one_if (has_number n v)) (without t s.tickets) (record k { told = told; started = started } ∷ []) in
      let b = found_tally (λ v. one_if (has_number n v)) t s.tickets k there in omega (arith, e, a, b));
  next = next;
} where
  later : (b : Bool) (n x y : ℕ) → x ≤ y → one_if (b && not (nat_lt n (suc y))) ≤ one_if (b && not (nat_lt n (suc x)))
  later true n x y h = grind (arith, nat_tests, h)
  later false n x y h = omega arith

cond_fewer : (b : Bool) (s u v : State) → Fewer s u → Fewer s v → Fewer s (cond b u v)
cond_fewer true s u v f g = f
cond_fewer false s u v f g = g

pass_fewer : (s : State) (i k : ℕ) (x : Plain) → Fewer s (do_pass s i k x)
pass_fewer s i k x = cond_fewer (nat_lt limit (s.charge + cost x)) s _ _
    (all_same s _ refl refl (same_taken s.spots i _ refl))
    (all_same s _ refl refl (same_taken s.spots i _ refl))

close_fewer : (s : State) (i : ℕ) (r : Given) → Fewer s (do_close s i r)
close_fewer s i (Ok es) = all_same s _ refl refl (same_taken s.spots i _ refl)
close_fewer s i (Err f) = all_same s _ refl refl (same_taken s.spots i _ refl)

give_fewer : (g : List PlainNode) (s : State) (t : ℕ) (a : Result Plain EvalFault) → Fewer s (at_ticket s t (ticket_at t s.tickets) (λ s' k. do_give g s' k a))
give_fewer g s t a = by_ticket (ticket_at t s.tickets) refl a where
  pushed : (k : Ticket) → ticket_at t s.tickets ≡ Some k → (x : Push) (r : Given) → Fewer s (give_push (record s { tickets = without t s.tickets }) k.node x r)
  pushed k there x (Ok es) = left_fewer s _ t k there refl refl (same_taken s.spots k.node _ refl)
  pushed k there x (Err f) = left_fewer s _ t k there refl refl (λ j. refl)

  by_ticket : (o : Option Ticket) → ticket_at t s.tickets ≡ o → (a : Result Plain EvalFault) → Fewer s (at_ticket s t o (λ s' k. do_give g s' k a))
  by_ticket None there a = all_same s s refl refl (λ j. refl)
  by_ticket (Some k) there (Ok a) = pushed k there _ _
  by_ticket (Some k) there (Err f) = left_fewer s _ t k there refl refl (λ j. refl)

finish_fewer : (s : State) (t : ℕ) (k : Ticket) (r : Report) (outs : Outs) → ticket_at t s.tickets ≡ Some k → Fewer s (do_finish (record s { tickets = without t s.tickets }) k r outs)
finish_fewer s t k r (Ok Again) there = back_fewer s _ t k (k.told ++ r ∷ []) false there (let l = length_push k.told r in omega (arith, l)) refl refl (λ j. refl)
finish_fewer s t k r (Ok (Emits vs)) there = left_fewer s _ t k there refl refl (same_taken s.spots k.node _ refl)
finish_fewer s t k r (Ok Ignored) there = left_fewer s _ t k there refl refl (same_taken s.spots k.node _ refl)
finish_fewer s t k r (Ok (Failed f)) there = left_fewer s _ t k there refl refl (same_taken s.spots k.node _ refl)
finish_fewer s t k r (Err f) there = left_fewer s _ t k there refl refl (same_taken s.spots k.node _ refl)

end_fewer : (s : State) (t : ℕ) (r : Report) (outs : Outs) → Fewer s (at_ticket s t (ticket_at t s.tickets) (λ s' k. do_finish s' k r outs))
end_fewer s t r outs = by_ticket (ticket_at t s.tickets) refl where
  by_ticket : (o : Option Ticket) → ticket_at t s.tickets ≡ o → Fewer s (at_ticket s t o (λ s' k. do_finish s' k r outs))
  by_ticket None there = all_same s s refl refl (λ j. refl)
  by_ticket (Some k) there = finish_fewer s t k r outs there

start_fewer : (g : List PlainNode) (s : State) (t : ℕ) (c : Cause) → Fewer s (step g s (start t c))
start_fewer g s t c = by_ticket (ticket_at t s.tickets) refl where
  by_ticket : (o : Option Ticket) → ticket_at t s.tickets ≡ o → Fewer s (at_ticket s t o (λ s' k. record s' { tickets = with_ticket (record k { started = true }) s'.tickets }))
  by_ticket None there = all_same s s refl refl (λ j. refl)
  by_ticket (Some k) there = back_fewer s _ t k k.told true there (omega arith) refl refl (λ j. refl)

abort_fewer : (g : List PlainNode) (s : State) (t : ℕ) (c : Option PlainStop) → Fewer s (step g s (abort t c))
abort_fewer g s t c = by_ticket (ticket_at t s.tickets) refl where
  by_ticket : (o : Option Ticket) → ticket_at t s.tickets ≡ o → Fewer s (at_ticket s t o (λ s' k. record s' { gone = k ∷ s'.gone; stop = or_stop s'.stop c }))
  by_ticket None there = all_same s s refl refl (λ j. refl)
  by_ticket (Some k) there = left_fewer s _ t k there refl refl (λ j. refl)

-- ---- Take

number_of_equals : (kind : Kind) (taken : List Take) (inputs : List Plain) → IsProcessKind kind → n_of kind taken inputs ≡ passes (λ u. same_inputs inputs u.inputs) taken
number_of_equals (source items) taken inputs p = absurd p
number_of_equals (operator op) taken inputs p = absurd p
number_of_equals (process q) taken inputs p = count_is_passes (λ u. same_inputs inputs u.inputs) taken

-- the ticket of a take
abbrev pub made : State → ℕ → Take → Ticket
made s i t = record { number = s.next; node = i; take = t; told = []; started = false }

-- the new ticket isn't of the attempt's instance
pub record Misses (s u : State) (A : Attempt) (k : Ticket) : Type 0 where
  pub other : is_at A k ≡ false
  pub more : equals s A ≤ equals u A

-- or it is, and then it is the next of the equal takes
pub record Hits (s u : State) (A : Attempt) (k : Ticket) : Type 0 where
  pub next : A.n ≡ equals s A
  pub more : equals u A ≡ suc (equals s A)

take_counts : (g : List PlainNode) (s : State) (i port place : ℕ) (A : Attempt) → IsProcessKind (node_at g A.node).kind
    → Misses s (do_take s i place (take_at g s i port place)) A (made s i (take_at g s i port place)) ⊎ Hits s (do_take s i place (take_at g s i port place)) A (made s i (take_at g s i port place))
take_counts g s i port place A kind = elim (cases_Bool (A.node == i)) [
  | inl e ↦ here (let at : A.node ≡ i = grind (arith, nat_tests, e) in at) e
  | inr e ↦ inl (record {
    other = (let off : (i == A.node) ≡ false = grind (arith, nat_tests, e) in rw off refl);
    more = (let same : equals (do_take s i place (take_at g s i port place)) A ≡ equals s A = rw e refl in omega (arith, same));
  })
] where
  here : A.node ≡ i → (A.node == i) ≡ true
      → Misses s (do_take s i place (take_at g s i port place)) A (made s i (take_at g s i port place)) ⊎ Hits s (do_take s i place (take_at g s i port place)) A (made s i (take_at g s i port place))
  here at e = by_inputs (same_inputs A.inputs (take_at g s i port place).inputs) refl (A.n == (take_at g s i port place).n) refl where
    on : (i == A.node) ≡ true
    on = grind (arith, nat_tests, e)

    before : passes (λ u. same_inputs A.inputs u.inputs) (s.spots i).taken ≡ equals s A
    before = ap (λ j. passes (λ u. same_inputs A.inputs u.inputs) (s.spots j).taken) (sym at)

    after : equals (do_take s i place (take_at g s i port place)) A ≡ one_if (same_inputs A.inputs (take_at g s i port place).inputs) + equals s A
    after = rw e (ap (λ n. one_if (same_inputs A.inputs (take_at g s i port place).inputs) + n) before)

    number : A.inputs ≡ (take_at g s i port place).inputs → (take_at g s i port place).n ≡ equals s A
    number same =
        number_of_equals (node_at g i).kind (s.spots i).taken (take_at g s i port place).inputs (subst (λ j. IsProcessKind (node_at g j).kind) at kind)
        ∙ (ap (λ (xs : List Plain). passes (λ u. same_inputs xs u.inputs) (s.spots i).taken) (sym same) ∙ before)

    by_inputs : (b : Bool) → same_inputs A.inputs (take_at g s i port place).inputs ≡ b → (c : Bool) → (A.n == (take_at g s i port place).n) ≡ c
        → Misses s (do_take s i place (take_at g s i port place)) A (made s i (take_at g s i port place)) ⊎ Hits s (do_take s i place (take_at g s i port place)) A (made s i (take_at g s i port place))
    by_inputs false f c d = inl (record { other = rw (on, f) refl; more = (let a = after in let b = ap one_if f in omega (arith, a, b)) })
    by_inputs true f false d = inl (record { other = rw (on, f, d) refl; more = (let a = after in omega (arith, a)) })
    by_inputs true f true d =
        let n = number (inputs_law.same A.inputs (take_at g s i port place).inputs f) in
        inr (record { next = (let q : A.n ≡ (take_at g s i port place).n = grind (arith, nat_tests, d) in q ∙ n); more = (let a = after in let b = ap one_if f in omega (arith, a, b)) })

lone_more : (n e u : ℕ) → e ≤ u → one_if (nat_lt n e) ≤ one_if (nat_lt n u)
lone_more n e u h = grind (arith, nat_tests, h)

lone_next : (n e u : ℕ) → n ≡ e → u ≡ suc e → (one_if (nat_lt n e) ≡ 0) × (one_if (nat_lt n u) ≡ 1)
lone_next n e u a b = (grind (arith, nat_tests, a), grind (arith, nat_tests, a, b))

take_orderly : (g : List PlainNode) (s : State) (i port place : ℕ) (past : List Ending) → IsOrderly g s past → IsOrderly g (do_take s i place (take_at g s i port place)) past
take_orderly g s i port place past o = record {
  lone = λ A kind. lone_by A kind (take_counts g s i port place A kind);
  each = each_on past o.each;
  once = λ n. once_by n (has_number n (made s i (take_at g s i port place))) refl;
  fresh = λ n h. (let a = tally-append (λ v. one_if (has_number n v)) s.tickets (made s i (take_at g s i port place) ∷ []) in
      let off : has_number n (made s i (take_at g s i port place)) ≡ false = grind (arith, nat_tests, h) in
      let b = ap one_if off in let m = o.fresh n (omega (arith, h)) in omega (arith, a, b, m));
} where
  once_by : (n : ℕ) (b : Bool) → has_number n (made s i (take_at g s i port place)) ≡ b → passes (has_number n) (do_take s i place (take_at g s i port place)).tickets ≤ 1
  once_by n true e =
      let a = tally-append (λ v. one_if (has_number n v)) s.tickets (made s i (take_at g s i port place) ∷ []) in
      let b = ap one_if e in
      let q : s.next ≡ n = grind (arith, nat_tests, e) in
      let m = o.fresh n (omega (arith, q)) in omega (arith, a, b, m)
  once_by n false e =
      let a = tally-append (λ v. one_if (has_number n v)) s.tickets (made s i (take_at g s i port place) ∷ []) in
      let b = ap one_if e in let m = o.once n in omega (arith, a, b, m)

  lone_by : (A : Attempt) → IsProcessKind (node_at g A.node).kind → Misses s (do_take s i place (take_at g s i port place)) A (made s i (take_at g s i port place)) ⊎ Hits s (do_take s i place (take_at g s i port place)) A (made s i (take_at g s i port place))
      → passes (is_at A) (do_take s i place (take_at g s i port place)).tickets ≤ one_if (nat_lt A.n (equals (do_take s i place (take_at g s i port place)) A))
  lone_by A kind (inl m) =
      let a = tally-append (λ v. one_if (is_at A v)) s.tickets (made s i (take_at g s i port place) ∷ []) in
      let b = ap one_if m.other in
      let c = lone_more A.n (equals s A) _ m.more in
      let d = o.lone A kind in
      omega (arith, a, b, c, d)
  lone_by A kind (inr h) =
      let a = tally-append (λ v. one_if (is_at A v)) s.tickets (made s i (take_at g s i port place) ∷ []) in
      let b = lone_next A.n (equals s A) _ h.next h.more in
      let c = one_at_most (is_at A (made s i (take_at g s i port place))) in
      let d = o.lone A kind in
      omega (arith, a, b.0, b.1, c, d)
    where
      one_at_most : (b : Bool) → one_if b ≤ 1
      one_at_most true = omega arith
      one_at_most false = omega arith

  past_by : (A : Attempt) → IsPast g s A → Misses s (do_take s i place (take_at g s i port place)) A (made s i (take_at g s i port place)) ⊎ Hits s (do_take s i place (take_at g s i port place)) A (made s i (take_at g s i port place))
      → IsPast g (do_take s i place (take_at g s i port place)) A
  past_by A p (inl m) = record {
    kind = p.kind;
    taken = (let a = p.taken in let b = m.more in omega (arith, a, b));
    none = (let a = tally-append (λ v. one_if (is_late A v)) s.tickets (made s i (take_at g s i port place) ∷ []) in
        let b : one_if (is_late A (made s i (take_at g s i port place))) ≡ 0 = rw m.other refl in let n = p.none in omega (arith, a, b, n));
  }
  past_by A p (inr h) = absurd (let a = p.taken in let b = h.next in omega (arith, a, b))

  each_on : (past : List Ending) → AllByRecursion (λ e. IsPast g s e.attempt) past → AllByRecursion (λ e. IsPast g (do_take s i place (take_at g s i port place)) e.attempt) past
  each_on [] h = tt
  each_on (e ∷ past) h = (past_by e.attempt h.0 (take_counts g s i port place e.attempt h.0.kind), each_on past h.1)

-- ---- an attempt that ends

pub all_more : {A : Type 0} (P : A → Type 0) (xs ys : List A) → AllByRecursion P xs → AllByRecursion P ys → AllByRecursion P (xs ++ ys)
all_more P [] ys a b = b
all_more P (x ∷ xs) ys a b = (a.0, all_more P xs ys a.1 b)

pub is_own : (k : Ticket) → is_at (attempt_at k) k ≡ true
is_own k =
    let a : (k.node == k.node) ≡ true = grind (arith, nat_tests) in
    let b : (k.take.n == k.take.n) ≡ true = grind (arith, nat_tests) in
    rw (a, inputs_law.self k.take.inputs, b) refl

-- without the ticket, no other is of its instance
alone : (g : List PlainNode) (s : State) (past : List Ending) (t : ℕ) (k : Ticket) → IsOrderly g s past → ticket_at t s.tickets ≡ Some k → IsProcessKind (node_at g k.node).kind
    → (passes (is_at (attempt_at k)) (without t s.tickets) ≡ 0) × (k.take.n < equals s (attempt_at k))
alone g s past t k o there kind =
    let a = found_tally (λ v. one_if (is_at (attempt_at k) v)) t s.tickets k there in
    let b = ap one_if (is_own k) in
    let c = o.lone (attempt_at k) kind in
    by_test (nat_lt k.take.n (equals s (attempt_at k))) refl (omega (arith, a, b, c))
  where
    by_test : (x : Bool) → nat_lt k.take.n (equals s (attempt_at k)) ≡ x → suc (passes (is_at (attempt_at k)) (without t s.tickets)) ≤ one_if x
        → (passes (is_at (attempt_at k)) (without t s.tickets) ≡ 0) × (k.take.n < equals s (attempt_at k))
    by_test true e h = (omega (arith, h), grind (arith, nat_tests, e))
    by_test false e h = absurd (omega (arith, h))

late_less : (A : Attempt) (ts : List Ticket) → passes (is_at A) ts ≡ 0 → passes (is_late A) ts ≡ 0
late_less A ts h = let a = tally_more (λ v. one_if (is_late A v)) (λ v. one_if (is_at A v)) (λ v. less (is_at A v) _) ts in omega (arith, a, h) where
  less : (b c : Bool) → one_if (b && c) ≤ one_if b
  less true true = omega arith
  less true false = omega arith
  less false c = omega arith

-- the attempt is past once its ticket left, or has a later one
ended_past : (g : List PlainNode) (s u : State) (past : List Ending) (t : ℕ) (k : Ticket) (more : List Ticket) → IsOrderly g s past → ticket_at t s.tickets ≡ Some k → IsProcessKind (node_at g k.node).kind
    → u.tickets ≡ without t s.tickets ++ more → passes (is_late (attempt_at k)) more ≡ 0 → ((j : ℕ) → (u.spots j).taken ≡ (s.spots j).taken) → IsPast g u (attempt_at k)
ended_past g s u past t k more o there kind is later takes =
    let a = alone g s past t k o there kind in
    record {
      kind = kind;
      taken = (let same : equals u (attempt_at k) ≡ equals s (attempt_at k) = ap (passes (λ v. same_inputs k.take.inputs v.inputs)) (takes k.node) in let b = a.1 in omega (arith, same, b));
      none = (let b = ap (passes (is_late (attempt_at k))) is in let c = tally-append (λ v. one_if (is_late (attempt_at k) v)) (without t s.tickets) more in
          let d = late_less (attempt_at k) (without t s.tickets) a.0 in omega (arith, b, c, d, later));
    }

again_later : (k : Ticket) (r : Report) → passes (is_late (attempt_at k)) (record k { told = k.told ++ r ∷ []; started = false } ∷ []) ≡ 0
again_later k r =
    let l = length_push k.told r in
    let e : nat_lt (suc (length k.told)) (suc (length (k.told ++ r ∷ []))) ≡ true = grind (arith, nat_tests, l) in
    rw e (by_test (is_at (attempt_at k) (record k { told = k.told ++ r ∷ []; started = false })))
  where
    by_test : (b : Bool) → one_if (b && false) + 0 ≡ 0
    by_test true = omega arith
    by_test false = omega arith

finish_past : (g : List PlainNode) (s : State) (past : List Ending) (t : ℕ) (k : Ticket) (r : Report) (outs : Outs) → IsOrderly g s past → ticket_at t s.tickets ≡ Some k → IsProcessKind (node_at g k.node).kind
    → IsPast g (do_finish (record s { tickets = without t s.tickets }) k r outs) (attempt_at k)
finish_past g s past t k r (Ok Again) o there kind = ended_past g s _ past t k (record k { told = k.told ++ r ∷ []; started = false } ∷ []) o there kind refl (again_later k r) (λ j. refl)
finish_past g s past t k r (Ok (Emits vs)) o there kind = ended_past g s _ past t k [] o there kind (sym (append-nil _)) refl (same_taken s.spots k.node _ refl)
finish_past g s past t k r (Ok Ignored) o there kind = ended_past g s _ past t k [] o there kind (sym (append-nil _)) refl (same_taken s.spots k.node _ refl)
finish_past g s past t k r (Ok (Failed f)) o there kind = ended_past g s _ past t k [] o there kind (sym (append-nil _)) refl (same_taken s.spots k.node _ refl)
finish_past g s past t k r (Err f) o there kind = ended_past g s _ past t k [] o there kind (sym (append-nil _)) refl (same_taken s.spots k.node _ refl)

-- ---- all events

none_more : {g : List PlainNode} {s : State} {past : List Ending} → IsOrderly g s past → IsOrderly g s (past ++ [])
none_more {past = past} o = rw (append-nil past) o

pub step_orderly : (g : List PlainNode) (R : Rules) (s : State) (e : PlainEvent) (past : List Ending) → IsLegal g R s e → IsOrderly g s past → IsOrderly g (step g s e) (past ++ finished_by s e)
step_orderly g R s (pass i k) past l o = none_more (orderly_on (pass_fewer s i k _) o)
step_orderly g R s (taking i port place t n) past l o = none_more (take_orderly g s i port place past o)
step_orderly g R s (give t a) past l o = none_more (orderly_on (give_fewer g s t a) o)
step_orderly g R s (start t c) past l o = none_more (orderly_on (start_fewer g s t c) o)
step_orderly g R s (reuse t r outs) past l o = none_more (orderly_on (end_fewer s t r outs) o)
step_orderly g R s (close i) past l o = none_more (orderly_on (close_fewer s i _) o)
step_orderly g R s (abort t c) past l o = none_more (orderly_on (abort_fewer g s t c) o)
step_orderly g R s halt past l o = none_more (orderly_on (all_same s _ refl refl (λ j. refl)) o)
step_orderly g R s (finish t r outs) past l o = by_ticket (ticket_at t s.tickets) refl l where
  by_ticket : (x : Option Ticket) → ticket_at t s.tickets ≡ x → MatchOption x ⊥ (λ k. FinishIsLegal g R k r outs)
      → IsOrderly g (at_ticket s t x (λ s' k. do_finish s' k r outs)) (past ++ ending_of x r)
  by_ticket None there l = absurd l
  by_ticket (Some k) there l =
      let u = orderly_on (finish_fewer s t k r outs there) o in
      record { lone = u.lone; once = u.once; fresh = u.fresh; each = all_more (λ e. IsPast g _ e.attempt) past _ u.each (finish_past g s past t k r outs o there l.report.kind, tt) }

pub history_orderly : (g : List PlainNode) (R : Rules) (s : State) (h : List PlainEvent) (past : List Ending) → IsLawful g R s h → IsOrderly g s past → IsOrderly g (replay g s h) (past ++ told_from finished_by g s h)
history_orderly g R s [] past l o = none_more o
history_orderly g R s (e ∷ h) past l o =
    rw (sym (append_assoc past (finished_by s e) (told_from finished_by g (step g s e) h)))
    (history_orderly g R (step g s e) h (past ++ finished_by s e) l.1 (step_orderly g R s e past l.0 o))

pub opening_orderly : (g : List PlainNode) → IsOrderly g (opening g) []
opening_orderly g = record { lone = λ A kind. omega arith; each = tt; once = λ n. omega arith; fresh = λ n h. refl }

-- an attempt in flight is not past
pub flying_not_past : (g : List PlainNode) (s : State) (t : ℕ) (k : Ticket) → ticket_at t s.tickets ≡ Some k → IsPast g s (attempt_at k) → ⊥
flying_not_past g s t k there p =
    let a = found_tally (λ v. one_if (is_late (attempt_at k) v)) t s.tickets k there in
    let off : nat_lt (suc (length k.told)) (suc (length k.told)) ≡ false = grind (arith, nat_tests) in
    let b : one_if (is_late (attempt_at k) k) ≡ 1 = rw (is_own k, off) refl in
    let n = p.none in
    omega (arith, a, b, n)

-- a ticket whose attempt starts is found then
pub start_there : (g : List PlainNode) (s : State) (past : List Ending) (t : ℕ) (k : Ticket) (c : Cause) → IsOrderly g s past → ticket_at t s.tickets ≡ Some k
    → ticket_at t (step g s (start t c)).tickets ≡ Some (record k { started = true })
start_there g s past t k c o there = ap (λ (u : State). ticket_at t u.tickets) started ∙ found where
  started : step g s (start t c) ≡ record s { tickets = with_ticket (record k { started = true }) (without t s.tickets) }
  started = ap (λ x. at_ticket s t x (λ s' k. record s' { tickets = with_ticket (record k { started = true }) s'.tickets })) there

  found : ticket_at t (with_ticket (record k { started = true }) (without t s.tickets)) ≡ Some (record k { started = true })
  found =
      at_with t (without t s.tickets) (record k { started = true })
      ∙ (ap (λ x. or_ticket x (if_number t (record k { started = true }))) (at_without_same t s.tickets (o.once t)) ∙ number_yes t (record k { started = true }) (found_number t s.tickets k there))
