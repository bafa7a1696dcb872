-- What is kept of a history up to a state: where the tasks of the tickets in flight stand.
use Rattle.std.proofs.Common.{◌≡◌, ℕ, suc, ◌+◌, ◌-◌, ◌^◌, ◌<◌, ◌≤◌, min, List, [], ◌∷◌, ◌++◌, length, get_or, set, Bool, true, false, refl, ap, sym, ◌∙◌, subst, arith, inl, inr, length-append, append-nil}
use Rattle.std.specs.Prelude.{◌==◌, nat_lt, if◌then◌else◌, Option, Some, None, MatchOption, Result, Ok, Err}
use Rattle.std.specs.List.{AllByRecursion}
use Rattle.std.proofs.lemmas.Bool.{cases_Bool, cases_eq}
use Rattle.std.proofs.lemmas.Bool.Decides.{nat_tests}
use Rattle.std.proofs.lemmas.List.{append_assoc, get_or_append_left, get_or-set_same, get_or-set_other, length-set}
use Rattle.std.proofs.Math.Seq.{get_or-append_seam}
use Rattle.nf_value.specs.Plain.{Plain}
use Rattle.nf_value.specs.declared.fault.EvalFault.{EvalFault}
use Rattle.nf_job.specs.declared.report.Report.{Report}
use Rattle.nf_job.specs.declared.emitted.Outputs.TheVariants.{Emits, Ignored, Failed, Again}
use Rattle.nf_opstream.specs.Push.{Push}
use Rattle.nf_opstream.proofs.Tally.{passes, one_if, tally-append}
use Rattle.nf_graph.specs.Rules.{Rules, IsRules, Outs, last_attempt}
use Rattle.nf_graph.specs.Node.{Kind, source, operator, process, PlainNode, node_at}
use Rattle.nf_graph.specs.Meaning.{cost}
use Rattle.nf_machine.specs.Event.{PlainEvent, pass, taking, give, start, finish, reuse, close, abort, halt}
use Rattle.nf_machine.specs.Legal.{IsProcessKind, FinishIsLegal, ReuseIsLegal, ReportIsLegal}
use Rattle.nf_machine.specs.History.{IsLawful}
use Rattle.nf_machine.specs.State.{Ticket, State, attempt_of, opening}
use Rattle.nf_machine.specs.Step.{Given, at_ticket, do_close, do_finish, do_give, do_pass, give_push, limit, next_item, op_ends, op_gives, push_with, step, take_at, ticket_at, with_ticket, without}
use Rattle.nf_machine.proofs.Tickets.{each_with, found_each, found_tally, without_each}
use Rattle.nf_core.specs.Told.{told_from}
use Rattle.nf_flow.specs.Questions.{inputs_by, inputs_taken, or_else, process_inputs}
use Rattle.nf_tasks.specs.Judged.{Judged}
use Rattle.nf_tasks.specs.declared.target_list.Target.{Target}
use Rattle.nf_meaning.specs.Tasks.{targets_if}
use Rattle.nf_published.specs.declared.reading.Tried.{Tried}
use Rattle.nf_published.specs.Published.{Publishing, published_by, published_for, published_in}
use Rattle.nf_published.specs.Reading.{no_try, first_try, next_try, tries_after, judged_targets, published_if}

-- ---- tickets by their numbers

-- how many of these tickets have this number
abbrev named : ℕ → List Ticket → ℕ
named t ts = passes (λ k. k.number == t) ts

found_number : (t : ℕ) (ts : List Ticket) (k : Ticket) → ticket_at t ts ≡ Some k → k.number ≡ t
found_number t [] k h = absurd cc
found_number t (u ∷ us) k h = elim (cases_Bool (u.number == t)) [
  | inl e ↦ (let a : Some u ≡ Some k = (rw e at h) in let b : u ≡ k = cc in let c : u.number ≡ t = grind (arith, nat_tests) in subst (λ (z : Ticket). z.number ≡ t) b c)
  | inr e ↦ (let a : ticket_at t us ≡ Some k = (rw e at h) in found_number t us k a)
]

own_number : (k : Ticket) (t : ℕ) → k.number ≡ t → one_if (k.number == t) ≡ 1
own_number k t e = let own : (k.number == t) ≡ true = grind (arith, nat_tests) in ap one_if own

other_number : (k : Ticket) (t : ℕ) → (k.number ≡ t → ⊥) → one_if (k.number == t) ≡ 0
other_number k t n = let other : (k.number == t) ≡ false = grind (arith, nat_tests) in ap one_if other

less_named : (t : ℕ) (ts : List Ticket) (k : Ticket) → ticket_at t ts ≡ Some k → (u : ℕ) → named u (without t ts) ≤ named u ts
less_named t ts k e u = let a = found_tally (λ z. one_if (z.number == u)) t ts k e in omega (arith, a)

none_left : (t : ℕ) (ts : List Ticket) (k : Ticket) → ticket_at t ts ≡ Some k → named t ts ≤ 1 → named t (without t ts) ≡ 0
none_left t ts k e once =
    let a = found_tally (λ z. one_if (z.number == t)) t ts k e in
    let b = own_number k t (found_number t ts k e) in omega (arith, a, b, once)

-- a ticket comes back in place of the one of its number
back_named : (t : ℕ) (ts : List Ticket) (k : Ticket) (told : List Report) (started : Bool) → ticket_at t ts ≡ Some k → (u : ℕ)
    → named u (with_ticket (record k { told = told; started = started }) (without t ts)) ≡ named u ts
back_named t ts k told started e u =
    let f : Ticket → ℕ = λ z. one_if (z.number == u) in
    let a = found_tally f t ts k e in
    let b = tally-append f (without t ts) (record k { told = told; started = started } ∷ []) in omega (arith, a, b)

none_next : (P : Ticket → Type 0) (t : ℕ) (ts : List Ticket) → ((k : Ticket) → P k → k.number < t) → AllByRecursion P ts → named t ts ≡ 0
none_next P t [] below h = refl
none_next P t (k ∷ ks) below h =
    let l = below k h.0 in
    let b = other_number k t (λ e. omega (arith, e, l)) in
    let c = none_next P t ks below h.1 in omega (arith, b, c)

-- ---- the tickets after an event

-- a fact that doesn't look at whether a ticket is started
abbrev Blind : (Ticket → Type 0) → Type 0
Blind P = (k : Ticket) (started : Bool) → P k → P (record k { started = started })

-- P holds of each ticket, no two have one number, and the next one's number is as before
record Stay (P : Ticket → Type 0) (s u : State) : Type 0 where
  next : u.next ≡ s.next
  once : ((t : ℕ) → named t s.tickets ≤ 1) → (t : ℕ) → named t u.tickets ≤ 1
  each : AllByRecursion P s.tickets → AllByRecursion P u.tickets

module _ (P : Ticket → Type 0) (blind : Blind P) where
  same_stays : (s u : State) → u.next ≡ s.next → u.tickets ≡ s.tickets → Stay P s u
  same_stays s u next same = record {
    next = next;
    once = λ h t. subst (λ (ts : List Ticket). named t ts ≤ 1) (sym same) (h t);
    each = λ h. subst (AllByRecursion P) (sym same) h;
  }

  cond_stays : (b : Bool) (s u v : State) → Stay P s u → Stay P s v → Stay P s (if b then u else v)
  cond_stays true s u v x y = x
  cond_stays false s u v x y = y

  pass_stays : (s : State) (i k : ℕ) (x : Plain) → Stay P s (do_pass s i k x)
  pass_stays s i k x = cond_stays (nat_lt limit (s.charge + cost x)) s _ _ (same_stays s _ refl refl) (same_stays s _ refl refl)

  close_stays : (s : State) (i : ℕ) (r : Given) → Stay P s (do_close s i r)
  close_stays s i (Ok es) = same_stays s _ refl refl
  close_stays s i (Err f) = same_stays s _ refl refl

  -- the ticket leaves
  less_stays : (s : State) (t : ℕ) (k : Ticket) (u : State) → ticket_at t s.tickets ≡ Some k → u.next ≡ s.next → u.tickets ≡ without t s.tickets → Stay P s u
  less_stays s t k u e next less = record {
    next = next;
    once = λ h v. subst (λ (ts : List Ticket). named v ts ≤ 1) (sym less) (let a = less_named t s.tickets k e v in let b = h v in omega (arith, a, b));
    each = λ h. subst (AllByRecursion P) (sym less) (without_each P t s.tickets h);
  }

  start_stays : (s : State) (t : ℕ) (o : Option Ticket) → ticket_at t s.tickets ≡ o → Stay P s (at_ticket s t o (λ u k. record u { tickets = with_ticket (record k { started = true }) u.tickets }))
  start_stays s t None e = same_stays s s refl refl
  start_stays s t (Some k) e = record {
    next = refl;
    once = λ h u. subst (λ n. n ≤ 1) (sym (back_named t s.tickets k k.told true e u)) (h u);
    each = λ h. each_with P (without t s.tickets) (record k { started = true }) (without_each P t s.tickets h) (blind k true (found_each P t s.tickets k e h));
  }

  -- what is done with a ticket that left
  leave_stays : (s : State) (t : ℕ) (o : Option Ticket) (f : State → Ticket → State) → ticket_at t s.tickets ≡ o → ((u : State) (k : Ticket) → ((f u k).next ≡ u.next) × ((f u k).tickets ≡ u.tickets)) → Stay P s (at_ticket s t o f)
  leave_stays s t None f e goes = same_stays s s refl refl
  leave_stays s t (Some k) f e goes = let z = goes (record s { tickets = without t s.tickets }) k in less_stays s t k _ e z.0 z.1

pushed_on : (s : State) (i : ℕ) (x : Push) (r : Given) → ((give_push s i x r).next ≡ s.next) × ((give_push s i x r).tickets ≡ s.tickets)
pushed_on s i x (Ok es) = (refl, refl)
pushed_on s i x (Err f) = (refl, refl)

given_on : (g : List PlainNode) (a : Result Plain EvalFault) (s : State) (k : Ticket) → ((do_give g s k a).next ≡ s.next) × ((do_give g s k a).tickets ≡ s.tickets)
given_on g (Ok v) s k = pushed_on s k.node (push_with k.take v) (op_gives (node_at g k.node).kind (s.spots k.node).pushed (push_with k.take v))
given_on g (Err f) s k = (refl, refl)

-- an event of which nothing is read
abbrev pub IsElse : PlainEvent → Type 0
IsElse (taking i port place t n) = ⊥
IsElse (finish t r outs) = ⊥
IsElse (reuse t r outs) = ⊥
IsElse _ = Unit {0}

-- a report alone decides, or nothing does
one_if_last : (P : Publishing) (r : Report) (outs : Outs) (x : Tried) (inputs : List Plain) → published_if P r outs x (Some inputs) ≡ targets_if outs (P x.node inputs x.attempt r) []
one_if_last P r (Ok (Emits vs)) x inputs = by (P x.node inputs x.attempt r)
  where
    by : (j : Judged (List Target)) → judged_targets j ≡ targets_if (Ok (Emits vs)) j []
    by (Ok ts) = refl
    by (Err f) = refl
one_if_last P r (Ok Ignored) x inputs = refl
one_if_last P r (Ok (Failed f)) x inputs = refl
one_if_last P r (Ok Again) x inputs = refl
one_if_last P r (Err f) x inputs = refl

-- ---- where the tickets' tasks stand

-- the ticket's task stands in the list, and its inputs are told
pub record Stands (g : List PlainNode) (told : ℕ → Option (List Plain)) (tries : List Tried) (k : Ticket) : Type 0 where
  pub within : k.number < length tries
  pub is : get_or tries k.number no_try ≡ record { node = k.node; attempt = attempt_of k }
  pub few : attempt_of k ≤ last_attempt
  pub inputs : IsProcessKind (node_at g k.node).kind → told k.number ≡ Some k.take.inputs

pub record Kept (g : List PlainNode) (told : ℕ → Option (List Plain)) (s : State) (tries : List Tried) : Type 0 where
  pub next : length tries ≡ s.next
  pub once : (t : ℕ) → named t s.tickets ≤ 1
  pub each : AllByRecursion (Stands g told tries) s.tickets

module _ (g : List PlainNode) (told : ℕ → Option (List Plain)) where
  stands_blind : (tries : List Tried) → Blind (Stands g told tries)
  stands_blind tries k started h = record { within = h.within; is = h.is; few = h.few; inputs = h.inputs }

  stays : (s u : State) (tries : List Tried) → Stay (Stands g told tries) s u → Kept g told s tries → Kept g told u tries
  stays s u tries stay h = record { next = h.next ∙ sym stay.next; once = stay.once h.once; each = stay.each h.each }

  -- ---- a take

  more_stand : (tries : List Tried) (x : Tried) (ts : List Ticket) → AllByRecursion (Stands g told tries) ts → AllByRecursion (Stands g told (tries ++ x ∷ [])) ts
  more_stand tries x [] h = tt
  more_stand tries x (k ∷ ks) h = (
    record {
      within = (let l = h.0.within in let n = length-append tries (x ∷ []) in omega (arith, l, n));
      is = get_or_append_left tries (x ∷ []) no_try k.number h.0.within ∙ h.0.is;
      few = h.0.few;
      inputs = h.0.inputs;
    },
    more_stand tries x ks h.1,
  )

  one_new : (s : State) (next u : ℕ) → named next s.tickets ≡ 0 → named u s.tickets ≤ 1 → named u s.tickets + one_if (next == u) ≤ 1
  one_new s next u none once = elim (cases_eq next u) [
    | inl e ↦ (let a : named u s.tickets ≡ 0 = subst (λ m. named m s.tickets ≡ 0) e none in let own : (next == u) ≡ true = grind (arith, nat_tests) in let b : one_if (next == u) ≡ 1 = ap one_if own in omega (arith, a, b))
    | inr ne ↦ (let apart : (next == u) ≡ false = grind (arith, nat_tests) in let b : one_if (next == u) ≡ 0 = ap one_if apart in omega (arith, b, once))
  ]

  take_kept : (s : State) (tries : List Tried) (i port place t n : ℕ) → (IsProcessKind (node_at g i).kind → told s.next ≡ Some (take_at g s i port place).inputs) → Kept g told s tries
      → Kept g told (step g s (taking i port place t n)) (tries ++ first_try i ∷ [])
  take_kept s tries i port place t n inputs h =
      let k : Ticket = record { number = s.next; node = i; take = take_at g s i port place; told = []; started = false } in
      let next = h.next in
      let long = length-append tries (first_try i ∷ []) in
      let none : named s.next s.tickets ≡ 0 = none_next (Stands g told tries) s.next s.tickets (λ u z. (let l = z.within in omega (arith, l, next))) h.each in
      record {
        next = omega (arith, long, next);
        once = λ u. (let a = tally-append (λ z. one_if (z.number == u)) s.tickets (k ∷ []) in let b = one_new s s.next u none (h.once u) in omega (arith, a, b));
        each = each_with (Stands g told (tries ++ first_try i ∷ [])) s.tickets k (more_stand tries (first_try i) s.tickets h.each) (record {
          within = omega (arith, long, next);
          is = subst (λ m. get_or (tries ++ first_try i ∷ []) m no_try ≡ first_try i) next (get_or-append_seam tries (first_try i) [] no_try);
          few = omega arith;
          inputs = inputs;
        });
      }

  -- ---- a task that is tried again

  others_stand : (tries : List Tried) (t : ℕ) (x : Tried) (ts : List Ticket) → named t ts ≡ 0 → AllByRecursion (Stands g told tries) ts → AllByRecursion (Stands g told (set tries t x)) ts
  others_stand tries t x [] z h = tt
  others_stand tries t x (k ∷ ks) z h =
      let ne : k.number ≡ t → ⊥ = λ e. (let b = own_number k t e in omega (arith, z, b)) in (
        record {
          within = (let l = h.0.within in let n = length-set tries t x in omega (arith, l, n));
          is = get_or-set_other tries t k.number x no_try ne ∙ h.0.is;
          few = h.0.few;
          inputs = h.0.inputs;
        },
        others_stand tries t x ks (omega (arith, z)) h.1,
      )

  again_kept : (s : State) (tries : List Tried) (t : ℕ) (k : Ticket) (r : Report) → ticket_at t s.tickets ≡ Some k → attempt_of k < last_attempt → Kept g told s tries
      → Kept g told (record s { tickets = with_ticket (record k { told = k.told ++ r ∷ []; started = false }) (without t s.tickets) }) (set tries t (next_try (get_or tries t no_try)))
  again_kept s tries t k r e l h =
      let x : Tried = next_try (get_or tries t no_try) in
      let back : Ticket = record k { told = k.told ++ r ∷ []; started = false } in
      let number : k.number ≡ t = found_number t s.tickets k e in
      let own : Stands g told tries k = found_each (Stands g told tries) t s.tickets k e h.each in
      let here : get_or tries t no_try ≡ record { node = k.node; attempt = attempt_of k } = subst (λ m. get_or tries m no_try ≡ record { node = k.node; attempt = attempt_of k }) number own.is in
      let within : t < length tries = (let w = own.within in omega (arith, w, number)) in
      let long = length-append k.told (r ∷ []) in
      let more : min (attempt_of k + 1) (2 ^ 32 - 1) ≡ attempt_of back = omega (arith, long, l) in
      let due : x ≡ record { node = k.node; attempt = attempt_of back } = ap next_try here ∙ ap (λ m. record { node = k.node; attempt = m }) more in
      let same : length (set tries t x) ≡ length tries = length-set tries t x in
      record {
        next = same ∙ h.next;
        once = λ u. subst (λ n. n ≤ 1) (sym (back_named t s.tickets k (k.told ++ r ∷ []) false e u)) (h.once u);
        each = each_with (Stands g told (set tries t x)) (without t s.tickets) back
            (others_stand tries t x (without t s.tickets) (none_left t s.tickets k e (h.once t)) (without_each (Stands g told tries) t s.tickets h.each)) (record {
              within = omega (arith, within, same, number);
              is = ap (λ m. get_or (set tries t x) m no_try) number ∙ get_or-set_same tries t x no_try within ∙ due;
              few = omega (arith, long, l);
              inputs = own.inputs;
            });
      }

  -- an attempt with a report that is tried again isn't the last
  not_last : (R : Rules) (k : Ticket) (r : Report) → IsRules R → ReportIsLegal g R k r (Ok Again) → attempt_of k ≤ last_attempt → attempt_of k < last_attempt
  not_last R k r rules legal most = elim (cases_eq (attempt_of k) last_attempt) [
    | inl last ↦ absurd (rules.last k.node k.take.inputs r (ap (λ m. R.outputs k.node k.take.inputs m r) (sym last) ∙ sym legal.by_rule))
    | inr ne ↦ grind arith
  ]

  back_kept : (R : Rules) (s : State) (tries : List Tried) (t : ℕ) (r : Report) (outs : Outs) (o : Option Ticket) → IsRules R → ticket_at t s.tickets ≡ o → MatchOption o ⊥ (λ k. ReportIsLegal g R k r outs) → Kept g told s tries
      → Kept g told (at_ticket s t o (λ u k. do_finish u k r outs)) (tries_after t outs tries)
  back_kept R s tries t r outs None rules e l h = absurd l
  back_kept R s tries t r (Ok Again) (Some k) rules e l h =
      again_kept s tries t k r e (not_last R k r rules l (found_each (Stands g told tries) t s.tickets k e h.each).few) h
  back_kept R s tries t r (Ok (Emits vs)) (Some k) rules e l h = stays s _ tries (less_stays (Stands g told tries) (stands_blind tries) s t k _ e refl refl) h
  back_kept R s tries t r (Ok Ignored) (Some k) rules e l h = stays s _ tries (less_stays (Stands g told tries) (stands_blind tries) s t k _ e refl refl) h
  back_kept R s tries t r (Ok (Failed f)) (Some k) rules e l h = stays s _ tries (less_stays (Stands g told tries) (stands_blind tries) s t k _ e refl refl) h
  back_kept R s tries t r (Err f) (Some k) rules e l h = stays s _ tries (less_stays (Stands g told tries) (stands_blind tries) s t k _ e refl refl) h

  -- what its report publishes is what was read of it
  back_publishes : (R : Rules) (P : Publishing) (s : State) (tries : List Tried) (t : ℕ) (r : Report) (outs : Outs) (o : Option Ticket) → ticket_at t s.tickets ≡ o → MatchOption o ⊥ (λ k. ReportIsLegal g R k r outs) → Kept g told s tries
      → published_if P r outs (get_or tries t no_try) (told t) ≡ published_for P r outs o
  back_publishes R P s tries t r outs None e l h = absurd l
  back_publishes R P s tries t r outs (Some k) e l h =
      let number : k.number ≡ t = found_number t s.tickets k e in
      let own : Stands g told tries k = found_each (Stands g told tries) t s.tickets k e h.each in
      ap (λ m. published_if P r outs (get_or tries m no_try) (told m)) (sym number)
      ∙ ap (λ (x : Tried). published_if P r outs x (told k.number)) own.is
      ∙ ap (published_if P r outs (record { node = k.node; attempt = attempt_of k })) (own.inputs l.kind)
      ∙ one_if_last P r outs (record { node = k.node; attempt = attempt_of k }) k.take.inputs

  else_kept : (s : State) (tries : List Tried) (e : PlainEvent) → IsElse e → Kept g told s tries → Kept g told (step g s e) tries
  else_kept s tries (taking i port place t n) o h = absurd o
  else_kept s tries (finish t r outs) o h = absurd o
  else_kept s tries (reuse t r outs) o h = absurd o
  else_kept s tries (pass i k) o h = stays s _ tries (pass_stays (Stands g told tries) (stands_blind tries) s i k (next_item g s i k)) h
  else_kept s tries (give t a) o h = stays s _ tries (leave_stays (Stands g told tries) (stands_blind tries) s t (ticket_at t s.tickets) _ refl (λ u k. given_on g a u k)) h
  else_kept s tries (start t cause) o h = stays s _ tries (start_stays (Stands g told tries) (stands_blind tries) s t (ticket_at t s.tickets) refl) h
  else_kept s tries (close i) o h = stays s _ tries (close_stays (Stands g told tries) (stands_blind tries) s i (op_ends (node_at g i).kind (s.spots i).pushed)) h
  else_kept s tries (abort t cause) o h = stays s _ tries (leave_stays (Stands g told tries) (stands_blind tries) s t (ticket_at t s.tickets) _ refl (λ u k. (refl, refl))) h
  else_kept s tries halt o h = stays s _ tries (same_stays (Stands g told tries) (stands_blind tries) s _ refl refl) h

-- ---- a whole history

abbrev pub inputs_of : List PlainNode → List PlainEvent → ℕ → Option (List Plain)
inputs_of g h t = inputs_taken g (opening g) t h

-- What was read of the events before these: with what these publish it is all that the run published
pub record KeepsSoFar (g : List PlainNode) (R : Rules) (P : Publishing) (h rest : List PlainEvent) (tries : List Tried) (targets : List Target) : Type 0 where
  pub now : State
  pub lawful : IsLawful g R now rest
  pub kept : Kept g (inputs_of g h) now tries
  -- the takes to come alone tell the inputs of the tickets to come
  pub fresh : (t : ℕ) → now.next ≤ t → inputs_taken g now t rest ≡ inputs_of g h t
  pub whole : targets ++ told_from (published_by P) g now rest ≡ published_in P g h

module _ (g : List PlainNode) (R : Rules) (P : Publishing) (h : List PlainEvent) where
  pub keeps_first : (tries : List Tried) → IsLawful g R (opening g) h → length tries ≡ 1 → KeepsSoFar g R P h h tries []
  keeps_first tries lawful one = record {
    now = opening g;
    lawful = lawful;
    kept = record { next = one; once = λ t. omega arith; each = tt };
    fresh = λ t l. refl;
    whole = refl;
  }

  -- the event is read, which takes nothing
  keeps_on : (e : PlainEvent) (rest : List PlainEvent) (tries new : List Tried) (targets all : List Target) (k : KeepsSoFar g R P h (e ∷ rest) tries targets) → ((t : ℕ) → inputs_by g k.now t e ≡ None) → (step g k.now e).next ≡ k.now.next
      → Kept g (inputs_of g h) (step g k.now e) new → all ≡ targets ++ published_by P k.now e → KeepsSoFar g R P h rest new all
  keeps_on e rest tries new targets all k silent next kept more = record {
    now = step g k.now e;
    lawful = k.lawful.1;
    kept = kept;
    fresh = λ t l. sym (ap (λ o. or_else o (inputs_taken g (step g k.now e) t rest)) (silent t)) ∙ k.fresh t (omega (arith, l, next));
    whole = ap (λ (ts : List Target). ts ++ told_from (published_by P) g (step g k.now e) rest) more
        ∙ append_assoc targets (published_by P k.now e) (told_from (published_by P) g (step g k.now e) rest) ∙ k.whole;
  }

  process_told : (kind : Kind) (inputs : List Plain) (o : Option (List Plain)) → IsProcessKind kind → or_else (process_inputs kind inputs) o ≡ Some inputs
  process_told (source items) inputs o is = absurd is
  process_told (operator op) inputs o is = absurd is
  process_told (process q) inputs o is = refl

  pub keeps_take : (i port place t n : ℕ) (rest : List PlainEvent) (tries : List Tried) (targets : List Target) → KeepsSoFar g R P h (taking i port place t n ∷ rest) tries targets
      → KeepsSoFar g R P h rest (tries ++ first_try i ∷ []) targets
  keeps_take i port place t n rest tries targets k =
      let s = k.now in
      let u = step g s (taking i port place t n) in
      let is : t ≡ s.next = k.lawful.0.ticket in
      let own : (t == s.next) ≡ true = grind (arith, nat_tests) in
      record {
        now = u;
        lawful = k.lawful.1;
        kept = take_kept g (inputs_of g h) s tries i port place t n
            (λ task. sym (k.fresh s.next (omega arith))
            ∙ ap (λ b. or_else (if b then process_inputs (node_at g i).kind (take_at g s i port place).inputs else None) (inputs_taken g u s.next rest)) own
            ∙ process_told (node_at g i).kind (take_at g s i port place).inputs (inputs_taken g u s.next rest) task) k.kept;
        fresh = λ v l. (
            let apart : (t == v) ≡ false = (let below : suc s.next ≤ v = l in grind (arith, nat_tests)) in
            sym (ap (λ b. or_else (if b then process_inputs (node_at g i).kind (take_at g s i port place).inputs else None) (inputs_taken g u v rest)) apart)
            ∙ k.fresh v (omega (arith, l)));
        whole = k.whole;
      }

  report_legal : (s : State) (r : Report) (outs : Outs) (o : Option Ticket) → MatchOption o ⊥ (λ k. FinishIsLegal g R k r outs) → MatchOption o ⊥ (λ k. ReportIsLegal g R k r outs)
  report_legal s r outs None l = l
  report_legal s r outs (Some k) l = l.report

  reuse_legal : (s : State) (r : Report) (outs : Outs) (o : Option Ticket) → MatchOption o ⊥ (λ k. ReuseIsLegal g R s k r outs) → MatchOption o ⊥ (λ k. ReportIsLegal g R k r outs)
  reuse_legal s r outs None l = l
  reuse_legal s r outs (Some k) l = l.report

  finish_next : (s : State) (k : Ticket) (r : Report) (outs : Outs) → (do_finish s k r outs).next ≡ s.next
  finish_next s k r (Ok Again) = refl
  finish_next s k r (Ok (Emits vs)) = refl
  finish_next s k r (Ok Ignored) = refl
  finish_next s k r (Ok (Failed f)) = refl
  finish_next s k r (Err f) = refl

  back_next : (s : State) (t : ℕ) (o : Option Ticket) (r : Report) (outs : Outs) → (at_ticket s t o (λ u k. do_finish u k r outs)).next ≡ s.next
  back_next s t None r outs = refl
  back_next s t (Some k) r outs = finish_next (record s { tickets = without t s.tickets }) k r outs

  pub keeps_finish : (t : ℕ) (r : Report) (outs : Outs) (rest : List PlainEvent) (tries new : List Tried) (targets all : List Target) → IsRules R → KeepsSoFar g R P h (finish t r outs ∷ rest) tries targets
      → new ≡ tries_after t outs tries → all ≡ targets ++ published_if P r outs (get_or tries t no_try) (inputs_of g h t) → KeepsSoFar g R P h rest new all
  keeps_finish t r outs rest tries new targets all rules k is more =
      let s = k.now in
      let legal = report_legal s r outs (ticket_at t s.tickets) k.lawful.0 in
      keeps_on (finish t r outs) rest tries new targets all k (λ u. refl) (back_next s t (ticket_at t s.tickets) r outs)
      (subst (Kept g (inputs_of g h) (step g s (finish t r outs))) (sym is) (back_kept g (inputs_of g h) R s tries t r outs (ticket_at t s.tickets) rules refl legal k.kept))
      (more ∙ ap (λ (ts : List Target). targets ++ ts) (back_publishes g (inputs_of g h) R P s tries t r outs (ticket_at t s.tickets) refl legal k.kept))

  pub keeps_reuse : (t : ℕ) (r : Report) (outs : Outs) (rest : List PlainEvent) (tries new : List Tried) (targets all : List Target) → IsRules R → KeepsSoFar g R P h (reuse t r outs ∷ rest) tries targets
      → new ≡ tries_after t outs tries → all ≡ targets ++ published_if P r outs (get_or tries t no_try) (inputs_of g h t) → KeepsSoFar g R P h rest new all
  keeps_reuse t r outs rest tries new targets all rules k is more =
      let s = k.now in
      let legal = reuse_legal s r outs (ticket_at t s.tickets) k.lawful.0 in
      keeps_on (reuse t r outs) rest tries new targets all k (λ u. refl) (back_next s t (ticket_at t s.tickets) r outs)
      (subst (Kept g (inputs_of g h) (step g s (reuse t r outs))) (sym is) (back_kept g (inputs_of g h) R s tries t r outs (ticket_at t s.tickets) rules refl legal k.kept))
      (more ∙ ap (λ (ts : List Target). targets ++ ts) (back_publishes g (inputs_of g h) R P s tries t r outs (ticket_at t s.tickets) refl legal k.kept))

  silent_else : (s : State) (e : PlainEvent) → IsElse e → (t : ℕ) → inputs_by g s t e ≡ None
  silent_else s (taking i port place u n) o t = absurd o
  silent_else s (finish u r outs) o t = absurd o
  silent_else s (reuse u r outs) o t = absurd o
  silent_else s (pass i k) o t = refl
  silent_else s (give u a) o t = refl
  silent_else s (start u cause) o t = refl
  silent_else s (close i) o t = refl
  silent_else s (abort u cause) o t = refl
  silent_else s halt o t = refl

  else_none : (s : State) (e : PlainEvent) → IsElse e → published_by P s e ≡ []
  else_none s (taking i port place u n) o = absurd o
  else_none s (finish u r outs) o = absurd o
  else_none s (reuse u r outs) o = absurd o
  else_none s (pass i k) o = refl
  else_none s (give u a) o = refl
  else_none s (start u cause) o = refl
  else_none s (close i) o = refl
  else_none s (abort u cause) o = refl
  else_none s halt o = refl

  cond_next : (b : Bool) (u v : State) (n : ℕ) → u.next ≡ n → v.next ≡ n → (if b then u else v).next ≡ n
  cond_next true u v n x y = x
  cond_next false u v n x y = y

  leave_next : (s : State) (t : ℕ) (o : Option Ticket) (f : State → Ticket → State) → ((u : State) (k : Ticket) → (f u k).next ≡ u.next) → (at_ticket s t o f).next ≡ s.next
  leave_next s t None f goes = refl
  leave_next s t (Some k) f goes = goes (record s { tickets = without t s.tickets }) k

  close_next : (s : State) (i : ℕ) (r : Given) → (do_close s i r).next ≡ s.next
  close_next s i (Ok es) = refl
  close_next s i (Err f) = refl

  else_next : (s : State) (e : PlainEvent) → IsElse e → (step g s e).next ≡ s.next
  else_next s (taking i port place u n) o = absurd o
  else_next s (finish u r outs) o = absurd o
  else_next s (reuse u r outs) o = absurd o
  else_next s (pass i k) o = cond_next (nat_lt limit (s.charge + cost (next_item g s i k))) _ _ s.next refl refl
  else_next s (give u a) o = leave_next s u (ticket_at u s.tickets) _ (λ v k. (given_on g a v k).0)
  else_next s (start u cause) o = leave_next s u (ticket_at u s.tickets) _ (λ v k. refl)
  else_next s (close i) o = close_next s i (op_ends (node_at g i).kind (s.spots i).pushed)
  else_next s (abort u cause) o = leave_next s u (ticket_at u s.tickets) _ (λ v k. refl)
  else_next s halt o = refl

  pub keeps_else : (e : PlainEvent) (rest : List PlainEvent) (tries : List Tried) (targets : List Target) → IsElse e → KeepsSoFar g R P h (e ∷ rest) tries targets → KeepsSoFar g R P h rest tries targets
  keeps_else e rest tries targets o k =
      keeps_on e rest tries tries targets targets k (silent_else k.now e o) (else_next k.now e o) (else_kept g (inputs_of g h) k.now tries e o k.kept)
      (sym (ap (λ (ts : List Target). targets ++ ts) (else_none k.now e o) ∙ append-nil targets))

  pub keeps_all : (tries : List Tried) (targets : List Target) → KeepsSoFar g R P h [] tries targets → targets ≡ published_in P g h
  keeps_all tries targets k = sym (append-nil targets) ∙ k.whole
