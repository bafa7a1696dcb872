-- The outcomes that a run was told agree with it.
use Rattle.std.proofs.Common.{◌≡◌, ℕ, ◌+◌, ◌≤◌, List, [], ◌∷◌, ◌++◌, map, Bool, true, false, ◌&&◌, refl, ap, sym, ◌∙◌, subst, arith, ◌⊎◌, inl, inr, append-nil}
use Rattle.std.specs.Prelude.{◌==◌, nat_lt, Option, Some, None, Result, Ok, Err, MatchOption}
use Rattle.std.specs.List.{AllByRecursion}
use Rattle.std.proofs.lemmas.Bool.{cases_Bool}
use Rattle.std.proofs.lemmas.Bool.Decides.{nat_tests}
use Rattle.nf_value.specs.Plain.{Plain}
use Rattle.nf_value.specs.declared.fault.EvalFault.{EvalFault}
use Rattle.nf_job.specs.declared.report.Report.{Report}
use Rattle.nf_job.specs.declared.emitted.Outputs.TheVariants.{Emits, Ignored, Failed, Again}
use Rattle.nf_opstream.specs.Push.{Push}
use Rattle.nf_opstream.specs.Operator.{to_out}
use Rattle.nf_opstream.proofs.Tally.{one_if, passes, tally-map}
use Rattle.nf_opstream.proofs.Members.{In}
use Rattle.nf_graph.specs.Rules.{Rules, Outs}
use Rattle.nf_graph.specs.Node.{Kind, source, operator, process, PlainNode, node_at, IsGraph}
use Rattle.nf_graph.specs.Meaning.{put, same_inputs, cost}
use Rattle.nf_graph.specs.Faults.{task_fails}
use Rattle.nf_graph.proofs.Bags.{numbered_once}
use Rattle.nf_graph.proofs.Lists.{put_all, inputs_law}
use Rattle.nf_machine.specs.Event.{PlainStop, fault_stop, PlainEvent, pass, taking, give, start, finish, reuse, close, abort, halt}
use Rattle.nf_machine.specs.State.{Take, Ended, Ticket, Spot, State, instance, opened, opening}
use Rattle.nf_machine.specs.Step.{limit, ticket_at, without, with_ticket, or_stop, passed_on, do_pass, next_item, take_at, left_at, Given, pushed_on, op_gives, op_ends, push_with, give_push, do_give, ended_on, end_of, ends_at, do_finish, do_close, at_ticket, step, replay}
use Rattle.nf_machine.specs.Legal.{IsProcessKind, FinishIsLegal, ReuseIsLegal, IsLegal}
use Rattle.nf_machine.specs.History.{IsLawful, after, IsHistory, IsPrefix, Agrees}
use Rattle.nf_machine.specs.History.{is_instance, told_by_ended, told_by_tickets, or_else, outcomes_of}
use Rattle.nf_machine.proofs.Membership.{in_of}
use Rattle.nf_machine.proofs.Good.{flying, Formed, MadeOk, Good}
use Rattle.nf_machine.proofs.Tickets.{found_tally, found_each, without_each, flying_more, flying_less, same_more, same_back, each_with}
use Rattle.nf_machine.proofs.Ends.{history_good}

-- each take has at most one task that came back, is in flight or was given up
abbrev Counted : (ℕ → Spot) → List Ticket → List Ticket → Type 0
Counted E ts gone = (i : ℕ) (p : Take → Bool) → passes (λ e. p e.take) (E i).ended + flying i p ts + flying i p gone ≤ passes p (E i).taken

-- only a process's ticket is told reports
abbrev NoneTold : List PlainNode → Ticket → Type 0
NoneTold g k = (IsProcessKind (node_at g k.node).kind → ⊥) → k.told ≡ []

pub record Apart (g : List PlainNode) (s : State) : Type 0 where
  pub counted : Counted s.spots s.tickets s.gone
  pub tickets : AllByRecursion (NoneTold g) s.tickets
  pub gone : AllByRecursion (NoneTold g) s.gone

-- one spot changes, but not what it took or what came back
same_counted : (E : ℕ → Spot) (i : ℕ) (sp : Spot) (ts gone : List Ticket) → sp.ended ≡ (E i).ended → sp.taken ≡ (E i).taken → Counted E ts gone → Counted (put E i sp) ts gone
same_counted E i sp ts gone e t h = put_all (λ j (z : Spot). (p : Take → Bool) → passes (λ e. p e.take) z.ended + flying j p ts + flying j p gone ≤ passes p z.taken) E i sp
    (λ p. (let a : passes (λ (e : Ended). p e.take) sp.ended ≡ passes (λ (e : Ended). p e.take) (E i).ended = ap (λ (es : List Ended). passes (λ e. p e.take) es) e in let b : passes p sp.taken ≡ passes p (E i).taken = ap (passes p) t in omega (arith, a, b, h i p)))
    (λ j n p. h j p)

module _ (g : List PlainNode) (s : State) (t : ℕ) (k : Ticket) (found : ticket_at t s.tickets ≡ Some k) (h : Apart g s) where
  -- the ticket leaves
  left_counted : Counted s.spots (without t s.tickets) s.gone
  left_counted = λ i p. (let a = found_tally (λ u. one_if ((u.node == i) && p u.take)) t s.tickets k found in omega (arith, a, h.counted i p))

  back_counted : (told : List Report) (started : Bool) → Counted s.spots (with_ticket (record k { told = told; started = started }) (without t s.tickets)) s.gone
  back_counted told started = λ i p. (let a = (same_back t s.tickets k told started found i).at p in omega (arith, a, h.counted i p))

  ended_counted : (e : Ended) → e.take ≡ k.take → Counted (put s.spots k.node (ended_on (s.spots k.node) e)) (without t s.tickets) s.gone
  ended_counted e is = put_all (λ j (z : Spot). (p : Take → Bool) → passes (λ e. p e.take) z.ended + flying j p (without t s.tickets) + flying j p s.gone ≤ passes p z.taken) s.spots k.node (ended_on (s.spots k.node) e)
      (λ p. (let a = flying_less p t s.tickets k found in let b : one_if (p e.take) ≡ one_if (p k.take) = ap (λ z. one_if (p z)) is in omega (arith, a, b, h.counted k.node p)))
      (λ j n p. (let a = found_tally (λ u. one_if ((u.node == j) && p u.take)) t s.tickets k found in omega (arith, a, h.counted j p)))

  gone_counted : Counted s.spots (without t s.tickets) (k ∷ s.gone)
  gone_counted = λ i p. (let a = found_tally (λ u. one_if ((u.node == i) && p u.take)) t s.tickets k found in omega (arith, a, h.counted i p))

  told_of : NoneTold g k
  told_of = found_each (NoneTold g) t s.tickets k found h.tickets

  rest_told : AllByRecursion (NoneTold g) (without t s.tickets)
  rest_told = without_each (NoneTold g) t s.tickets h.tickets

push_apart : (g : List PlainNode) (u : State) (i : ℕ) (x : Push) (r : Given) → Apart g u → Apart g (give_push u i x r)
push_apart g u i x (Ok es) h = record { counted = same_counted u.spots i (pushed_on (u.spots i) x es) u.tickets u.gone refl refl h.counted; tickets = h.tickets; gone = h.gone }
push_apart g u i x (Err f) h = record { counted = h.counted; tickets = h.tickets; gone = h.gone }

give_apart : (g : List PlainNode) (s : State) (t : ℕ) (a : Result Plain EvalFault) (o : Option Ticket) → ticket_at t s.tickets ≡ o → Apart g s → Apart g (at_ticket s t o (λ s' k. do_give g s' k a))
give_apart g s t a None e h = h
give_apart g s t (Ok a) (Some k) e h = push_apart g (record s { tickets = without t s.tickets }) k.node (push_with k.take a) (op_gives (node_at g k.node).kind (s.spots k.node).pushed (push_with k.take a))
    (record { counted = left_counted g s t k e h; tickets = rest_told g s t k e h; gone = h.gone })
give_apart g s t (Err f) (Some k) e h = record { counted = left_counted g s t k e h; tickets = rest_told g s t k e h; gone = h.gone }

start_apart : (g : List PlainNode) (s : State) (t : ℕ) (o : Option Ticket) → ticket_at t s.tickets ≡ o → Apart g s → Apart g (at_ticket s t o (λ s' k. record s' { tickets = with_ticket (record k { started = true }) (s'.tickets) }))
start_apart g s t None e h = h
start_apart g s t (Some k) e h = record {
  counted = back_counted g s t k e h k.told true;
  tickets = each_with (NoneTold g) (without t s.tickets) (record k { started = true }) (rest_told g s t k e h) (told_of g s t k e h);
  gone = h.gone;
}

ends_apart : (g : List PlainNode) (s : State) (t : ℕ) (k : Ticket) (r : Report) (outs : Outs) (stop : Option PlainStop) → ticket_at t s.tickets ≡ Some k → Apart g s
    → Apart g (record (ends_at (record s { tickets = without t s.tickets }) k (end_of k r outs)) { stop = stop })
ends_apart g s t k r outs stop e h = record { counted = ended_counted g s t k e h (end_of k r outs) refl; tickets = rest_told g s t k e h; gone = h.gone }

finish_apart : (g : List PlainNode) (s : State) (t : ℕ) (r : Report) (outs : Outs) (k : Ticket) → IsProcessKind (node_at g k.node).kind → ticket_at t s.tickets ≡ Some k → Apart g s → Apart g (do_finish (record s { tickets = without t s.tickets }) k r outs)
finish_apart g s t r (Ok (Emits vs)) k pr e h = ends_apart g s t k r (Ok (Emits vs)) s.stop e h
finish_apart g s t r (Ok Ignored) k pr e h = ends_apart g s t k r (Ok Ignored) s.stop e h
finish_apart g s t r (Ok (Failed f)) k pr e h = ends_apart g s t k r (Ok (Failed f)) (or_stop s.stop (Some (fault_stop (task_fails k.node k.take.inputs k.take.n f)))) e h
finish_apart g s t r (Err f) k pr e h = ends_apart g s t k r (Err f) (or_stop s.stop (Some (fault_stop (task_fails k.node k.take.inputs k.take.n f)))) e h
finish_apart g s t r (Ok Again) k pr e h = record {
  counted = back_counted g s t k e h (k.told ++ r ∷ []) false;
  tickets = each_with (NoneTold g) (without t s.tickets) (record k { told = k.told ++ r ∷ []; started = false }) (rest_told g s t k e h) (λ o. absurd (o pr));
  gone = h.gone;
}

report_apart : (g : List PlainNode) (s : State) (t : ℕ) (r : Report) (outs : Outs) (P : Ticket → Type 0) → ((k : Ticket) → P k → IsProcessKind (node_at g k.node).kind) → (o : Option Ticket) → ticket_at t s.tickets ≡ o → MatchOption o ⊥ P → Apart g s
    → Apart g (at_ticket s t o (λ s' k. do_finish s' k r outs))
report_apart g s t r outs P kind None e l h = absurd l
report_apart g s t r outs P kind (Some k) e l h = finish_apart g s t r outs k (kind k l) e h

abort_apart : (g : List PlainNode) (s : State) (t : ℕ) (cause : Option PlainStop) (o : Option Ticket) → ticket_at t s.tickets ≡ o → Apart g s → Apart g (at_ticket s t o (λ s' k. record s' { gone = k ∷ s'.gone; stop = or_stop s'.stop cause }))
abort_apart g s t cause None e h = h
abort_apart g s t cause (Some k) e h = record { counted = gone_counted g s t k e h; tickets = rest_told g s t k e h; gone = (told_of g s t k e h, h.gone) }

take_apart : (g : List PlainNode) (s : State) (i port place t n : ℕ) → Apart g s → Apart g (step g s (taking i port place t n))
take_apart g s i port place t n h =
    let k = take_at g s i port place in
    let ticket : Ticket = record { number = s.next; node = i; take = k; told = []; started = false } in
    let new = record (s.spots i) { waiting = left_at k.slot place (s.spots i).waiting; taken = k ∷ (s.spots i).taken } in
    record {
      counted = put_all (λ j (z : Spot). (p : Take → Bool) → passes (λ e. p e.take) z.ended + flying j p (with_ticket ticket s.tickets) + flying j p s.gone ≤ passes p z.taken) s.spots i new
          (λ p. (let a = flying_more p ticket s.tickets in omega (arith, a, h.counted i p)))
          (λ j n p. (let a = (same_more ticket s.tickets j n).at p in omega (arith, a, h.counted j p)));
      tickets = each_with (NoneTold g) s.tickets ticket h.tickets (λ o. refl);
      gone = h.gone;
    }

pass_apart : (g : List PlainNode) (s : State) (i k : ℕ) (x : Plain) → Apart g s → Apart g (do_pass s i k x)
pass_apart g s i k x h = elim (cases_Bool (nat_lt limit (s.charge + cost x))) [
  | inl over ↦ rw over (record { counted = same_counted s.spots i (passed_on (s.spots i) k) s.tickets s.gone refl refl h.counted; tickets = h.tickets; gone = h.gone })
  | inr below ↦ rw below (record { counted = same_counted s.spots i (record (passed_on (s.spots i) k) { waiting = put (s.spots i).waiting k ((s.spots i).waiting k ++ x ∷ []) }) s.tickets s.gone refl refl h.counted; tickets = h.tickets; gone = h.gone })
]

close_apart : (g : List PlainNode) (s : State) (i : ℕ) (r : Given) → Apart g s → Apart g (do_close s i r)
close_apart g s i (Ok es) h = record { counted = same_counted s.spots i (record (s.spots i) { closed = true; emitted = λ out. (s.spots i).emitted out ++ to_out out es }) s.tickets s.gone refl refl h.counted; tickets = h.tickets; gone = h.gone }
close_apart g s i (Err f) h = record { counted = same_counted s.spots i (record (s.spots i) { closed = true }) s.tickets s.gone refl refl h.counted; tickets = h.tickets; gone = h.gone }

step_apart : (g : List PlainNode) (R : Rules) (s : State) (e : PlainEvent) → IsLegal g R s e → Apart g s → Apart g (step g s e)
step_apart g R s (pass i k) l h = pass_apart g s i k (next_item g s i k) h
step_apart g R s (taking i port place t n) l h = take_apart g s i port place t n h
step_apart g R s (give t a) l h = give_apart g s t a (ticket_at t s.tickets) refl h
step_apart g R s (start t cause) l h = start_apart g s t (ticket_at t s.tickets) refl h
step_apart g R s (finish t r outs) l h = report_apart g s t r outs (λ k. FinishIsLegal g R k r outs) (λ k w. w.report.kind) (ticket_at t s.tickets) refl l h
step_apart g R s (reuse t r outs) l h = report_apart g s t r outs (λ k. ReuseIsLegal g R s k r outs) (λ k w. w.report.kind) (ticket_at t s.tickets) refl l h
step_apart g R s (close i) l h = close_apart g s i (op_ends (node_at g i).kind (s.spots i).pushed) h
step_apart g R s (abort t cause) l h = abort_apart g s t cause (ticket_at t s.tickets) refl h
step_apart g R s halt l h = record { counted = h.counted; tickets = h.tickets; gone = h.gone }

replay_apart : (g : List PlainNode) (R : Rules) (s : State) (es : List PlainEvent) → IsLawful g R s es → Apart g s → Apart g (replay g s es)
replay_apart g R s [] l h = h
replay_apart g R s (e ∷ es) l h = replay_apart g R (step g s e) es l.1 (step_apart g R s e l.0 h)

open_counted : (i : ℕ) (kind : Kind) (p : Take → Bool) → passes (λ e. p e.take) (opened kind).ended + flying i p [] + flying i p [] ≤ passes p (opened kind).taken
open_counted i (source items) p = omega arith
open_counted i (operator op) p = omega arith
open_counted i (process q) p = omega arith

opening_apart : (g : List PlainNode) → Apart g (opening g)
opening_apart g = record { counted = λ i p. open_counted i (node_at g i).kind p; tickets = tt; gone = tt }

-- ---- what is found

same_prefix : (rs : List Report) (found : Option (List Report)) (rest : List Report) → found ≡ Some rs → IsPrefix rs (or_else found rest)
same_prefix rs found rest e = record { rest = []; is = ap (λ o. or_else o rest) e ∙ sym (append-nil rs) }

skip : (found : Option (List Report)) (rest : List Report) → found ≡ None → or_else found rest ≡ rest
skip found rest e = ap (λ o. or_else o rest) e

module _ (inputs : List Plain) (n : ℕ) where
  at_ended : (es : List Ended) (e : Ended) → In e es → is_instance inputs n (instance e.take) ≡ true → passes (λ e. is_instance inputs n (instance e.take)) es ≤ 1 → told_by_ended inputs n es ≡ Some e.told
  at_ended [] e m i l = absurd m
  at_ended (x ∷ es) e m i l = elim m [
    | inl same ↦ (let a : is_instance inputs n (instance x.take) ≡ true = subst (λ (z : Ended). is_instance inputs n (instance z.take) ≡ true) same i in rw a (ap (λ (z : Ended). Some z.told) (sym same)))
    | inr more ↦ elim (cases_Bool (is_instance inputs n (instance x.take))) [
      | inl t ↦ absurd (let a : one_if (is_instance inputs n (instance x.take)) ≡ 1 = rw t refl in let b = one_more es e more i in omega (arith, a, b, l))
      | inr f ↦ rw f (at_ended es e more i (omega (arith, l)))
    ]
  ]
    where
      one_more : (es : List Ended) (e : Ended) → In e es → is_instance inputs n (instance e.take) ≡ true → 1 ≤ passes (λ e. is_instance inputs n (instance e.take)) es
      one_more [] e m i = absurd m
      one_more (x ∷ es) e m i = elim m [
        | inl same ↦ (let a : one_if (is_instance inputs n (instance x.take)) ≡ 1 = ap one_if (subst (λ (z : Ended). is_instance inputs n (instance z.take) ≡ true) same i) in omega (arith, a))
        | inr more ↦ omega (arith, one_more es e more i)
      ]

  no_ended : (es : List Ended) → passes (λ e. is_instance inputs n (instance e.take)) es ≡ 0 → told_by_ended inputs n es ≡ None
  no_ended [] h = refl
  no_ended (x ∷ es) h = elim (cases_Bool (is_instance inputs n (instance x.take))) [
    | inl t ↦ absurd (let a : one_if (is_instance inputs n (instance x.take)) ≡ 1 = rw t refl in omega (arith, a, h))
    | inr f ↦ rw f (no_ended es (omega (arith, h)))
  ]

  module _ (i : ℕ) where
    abbrev here : Ticket → Bool
    here k = (k.node == i) && is_instance inputs n (instance k.take)

    one_here : (ks : List Ticket) (k : Ticket) → In k ks → here k ≡ true → 1 ≤ passes here ks
    one_here [] k m e = absurd m
    one_here (x ∷ ks) k m e = elim m [
      | inl same ↦ (let a : one_if (here x) ≡ 1 = ap one_if (subst (λ (z : Ticket). here z ≡ true) same e) in omega (arith, a))
      | inr more ↦ omega (arith, one_here ks k more e)
    ]

    at_ticket_told : (ks : List Ticket) (k : Ticket) → In k ks → here k ≡ true → passes here ks ≤ 1 → told_by_tickets i inputs n ks ≡ Some k.told
    at_ticket_told [] k m e l = absurd m
    at_ticket_told (x ∷ ks) k m e l = elim m [
      | inl same ↦ (let a : here x ≡ true = subst (λ (z : Ticket). here z ≡ true) same e in rw a (ap (λ (z : Ticket). Some z.told) (sym same)))
      | inr more ↦ elim (cases_Bool (here x)) [
        | inl t ↦ absurd (let a : one_if (here x) ≡ 1 = rw t refl in let b = one_here ks k more e in omega (arith, a, b, l))
        | inr f ↦ rw f (at_ticket_told ks k more e (omega (arith, l)))
      ]
    ]

    no_ticket : (ks : List Ticket) → passes here ks ≡ 0 → told_by_tickets i inputs n ks ≡ None
    no_ticket [] h = refl
    no_ticket (x ∷ ks) h = elim (cases_Bool (here x)) [
      | inl t ↦ absurd (let a : one_if (here x) ≡ 1 = rw t refl in omega (arith, a, h))
      | inr f ↦ rw f (no_ticket ks (omega (arith, h)))
    ]

itself : (inputs : List Plain) (n : ℕ) → is_instance inputs n (inputs, n) ≡ true
itself inputs n = let a = inputs_law.self inputs in let b : (n == n) ≡ true = grind (arith, nat_tests) in rw (a, b) refl

here_itself : (k : Ticket) → here k.take.inputs k.take.n k.node k ≡ true
here_itself k = let a : (k.node == k.node) ≡ true = grind (arith, nat_tests) in rw (a, itself k.take.inputs k.take.n) refl

nothing_told : (rs : List Report) → IsPrefix [] rs
nothing_told rs = record { rest = rs; is = refl }

module _ (g : List PlainNode) (R : Rules) (s : State) (good : Good g R s) (h : Apart g s) where
  -- of an instance of a process at most one stands anywhere
  at_most : (i : ℕ) → IsProcessKind (node_at g i).kind → (inputs : List Plain) (n : ℕ)
      → passes (λ e. is_instance inputs n (instance e.take)) (s.spots i).ended + passes (here inputs n i) s.tickets + passes (here inputs n i) s.gone ≤ 1
  at_most i pr inputs n =
      let e = (good.spots i).takes.numbers pr in
      let a : passes (is_instance inputs n) (map instance (s.spots i).taken) ≤ 1 = rw e (numbered_once same_inputs inputs_law inputs n (map (λ t. t.inputs) (s.spots i).taken)) in
      let b = tally-map (λ z. one_if (is_instance inputs n z)) instance (s.spots i).taken in
      omega (arith, a, b, h.counted i (λ t. is_instance inputs n (instance t)))

  ended_process : (i : ℕ) (e : Ended) → In e (s.spots i).ended → IsProcessKind (node_at g i).kind
  ended_process i e m = by (node_at g i).kind (good.spots i).made (good.spots i).takes.formed
    where
      some : (es : List Ended) → In e es → passes (λ e. true) es ≡ 0 → ⊥
      some [] m z = m
      some (x ∷ es) m z = omega (arith, z)

      none_taken : (items : List Plain) (ts : List Take) → AllByRecursion (Formed s.spots (node_at g i) (source items)) ts → passes (λ t. true) ts ≡ 0
      none_taken items [] f = refl
      none_taken items (t ∷ ts) f = absurd f.0

      by : (kind : Kind) → MadeOk R i kind (s.spots i) → AllByRecursion (Formed s.spots (node_at g i) kind) (s.spots i).taken → IsProcessKind kind
      by (source items) made formed = some (s.spots i).ended m (let a = none_taken items (s.spots i).taken formed in omega (arith, a, h.counted i (λ t. true)))
      by (operator op) made formed = some (s.spots i).ended m (ap (passes (λ e. true)) made.no_ended)
      by (process q) made formed = tt

  decide : (kind : Kind) → IsProcessKind kind ⊎ (IsProcessKind kind → ⊥)
  decide (source items) = inr (λ z. z)
  decide (operator op) = inr (λ z. z)
  decide (process q) = inl tt

  each_in : {A : Type 0} (P : A → Type 0) (xs : List A) (x : A) → AllByRecursion P xs → In x xs → P x
  each_in P [] x a m = absurd m
  each_in P (y ∷ xs) x a m = elim m [ inl e ↦ subst P (sym e) a.0 | inr r ↦ each_in P xs x a.1 r ]

  told_nothing : (k : Ticket) → k.told ≡ [] → (rs : List Report) → IsPrefix k.told rs
  told_nothing k e rs = subst (λ z. IsPrefix z rs) (sym e) (nothing_told rs)

  ended_agrees : (i : ℕ) (e : Ended) → In e (s.spots i).ended → IsPrefix e.told (outcomes_of s i e.take.inputs e.take.n)
  ended_agrees i e m =
      let a = at_most i (ended_process i e m) e.take.inputs e.take.n in
      let found = at_ended e.take.inputs e.take.n (s.spots i).ended e m (itself e.take.inputs e.take.n) (omega (arith, a)) in
      same_prefix e.told (told_by_ended e.take.inputs e.take.n (s.spots i).ended) _ found

  flying_agrees : (k : Ticket) → In k s.tickets → IsPrefix k.told (outcomes_of s k.node k.take.inputs k.take.n)
  flying_agrees k m = elim (decide (node_at g k.node).kind) [
    | inl pr ↦ (
        let a = at_most k.node pr k.take.inputs k.take.n in
        let b = one_here k.take.inputs k.take.n k.node s.tickets k m (here_itself k) in
        let none = no_ended k.take.inputs k.take.n (s.spots k.node).ended (omega (arith, a, b)) in
        let found = at_ticket_told k.take.inputs k.take.n k.node s.tickets k m (here_itself k) (omega (arith, a)) in
        let gone = or_else (told_by_tickets k.node k.take.inputs k.take.n s.gone) [] in
        subst (IsPrefix k.told) (sym (skip (told_by_ended k.take.inputs k.take.n (s.spots k.node).ended) (or_else (told_by_tickets k.node k.take.inputs k.take.n s.tickets) gone) none))
        (same_prefix k.told (told_by_tickets k.node k.take.inputs k.take.n s.tickets) gone found))
    | inr other ↦ told_nothing k (each_in (NoneTold g) s.tickets k h.tickets m other) (outcomes_of s k.node k.take.inputs k.take.n)
  ]

  gone_agrees : (k : Ticket) → In k s.gone → IsPrefix k.told (outcomes_of s k.node k.take.inputs k.take.n)
  gone_agrees k m = elim (decide (node_at g k.node).kind) [
    | inl pr ↦ (
        let a = at_most k.node pr k.take.inputs k.take.n in
        let b = one_here k.take.inputs k.take.n k.node s.gone k m (here_itself k) in
        let none = no_ended k.take.inputs k.take.n (s.spots k.node).ended (omega (arith, a, b)) in
        let empty = no_ticket k.take.inputs k.take.n k.node s.tickets (omega (arith, a, b)) in
        let found = at_ticket_told k.take.inputs k.take.n k.node s.gone k m (here_itself k) (omega (arith, a)) in
        let gone = or_else (told_by_tickets k.node k.take.inputs k.take.n s.gone) [] in
        subst (IsPrefix k.told) (sym (skip (told_by_ended k.take.inputs k.take.n (s.spots k.node).ended) (or_else (told_by_tickets k.node k.take.inputs k.take.n s.tickets) gone) none ∙ skip (told_by_tickets k.node k.take.inputs k.take.n s.tickets) gone empty))
        (same_prefix k.told (told_by_tickets k.node k.take.inputs k.take.n s.gone) [] found))
    | inr other ↦ told_nothing k (each_in (NoneTold g) s.gone k h.gone m other) (outcomes_of s k.node k.take.inputs k.take.n)
  ]

  agrees : Agrees (outcomes_of s) s
  agrees = record {
    ended = λ i e c. ended_agrees i e (in_of e (s.spots i).ended c);
    gone = λ k c. gone_agrees k (in_of k s.gone c);
    flying = λ k c. flying_agrees k (in_of k s.tickets c);
  }

pub own_outcomes : (g : List PlainNode) (R : Rules) (h : List PlainEvent) → IsGraph g → IsHistory g R h → Agrees (outcomes_of (after g h)) (after g h)
own_outcomes g R h ok lawful = agrees g R (after g h) (history_good g R ok h lawful) (replay_apart g R (opening g) h lawful (opening_apart g))
