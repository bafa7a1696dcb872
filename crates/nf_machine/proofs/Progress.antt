-- Where nothing is in flight, an open node has a move.
use Rattle.std.proofs.Common.{◌≡◌, ℕ, zero, suc, ◌<◌, ◌≤◌, List, [], ◌∷◌, length, Bool, true, false, ◌&&◌, ◌||◌, not, refl, ap, sym, ◌∙◌, subst, arith, ◌⊎◌, inl, inr}
use Rattle.std.specs.Prelude.{nat_lt, Option, Some, None, is_some}
use Rattle.std.proofs.lemmas.Bool.{cases_eq, cases_Bool, true≢false}
use Rattle.std.proofs.lemmas.Bool.Decides.{nat_tests}
use Rattle.nf_value.specs.Plain.{Plain}
use Rattle.nf_graph.specs.Rules.{Rules}
use Rattle.nf_graph.specs.Node.{Kind, source, operator, process, PlainNode, port_at, node_at, IsGraph}
use Rattle.nf_machine.specs.Event.{PlainStop, PlainEvent, pass, taking, close}
use Rattle.nf_machine.specs.State.{Take, Ticket, Spot, State, feed}
use Rattle.nf_machine.specs.Step.{take_at}
use Rattle.nf_machine.specs.Legal.{Holds, MayTake, Lacks, MayClose}
use Rattle.nf_machine.specs.History.{after, IsHistory, closed_to, all_closed, is_quiet, is_over}
use Rattle.nf_machine.specs.Going.{HasMove}
use Rattle.nf_machine.proofs.Good.{Once, SourceMade, Good}
use Rattle.nf_machine.proofs.Ends.{history_good}

pub record Found (p : ℕ → Bool) (n : ℕ) : Type 0 where
  pub at : ℕ
  pub within : at < n
  pub yes : p at ≡ true
  pub first : (k : ℕ) → k < at → p k ≡ false

search_below : (p : ℕ → Bool) (n : ℕ) → Found p n ⊎ ((k : ℕ) → k < n → p k ≡ false)
search_below p zero = inr (λ k l. absurd (omega arith))
search_below p (suc n) = elim (search_below p n) [
  | inl f ↦ inl (record { at = f.at; within = (let w = f.within in omega arith); yes = f.yes; first = f.first })
  | inr none ↦ elim (cases_Bool (p n)) [
    | inl t ↦ inl (record { at = n; within = omega arith; yes = t; first = none })
    | inr f ↦ inr (λ k l. elim (cases_eq k n) [ inl e ↦ subst (λ m. p m ≡ false) (sym e) f | inr o ↦ none k (grind arith) ])
  ]
]

long : (xs : List Plain) → nat_lt 0 (length xs) ≡ true → 0 < length xs
long xs h = grind (arith, nat_tests)

none_long : (xs : List Plain) → nat_lt 0 (length xs) ≡ false → xs ≡ []
none_long [] h = refl
none_long (x ∷ xs) h = absurd (let z : nat_lt 0 (suc (length xs)) ≡ true = grind (arith, nat_tests) in true≢false (sym z ∙ h))

module _ (g : List PlainNode) (R : Rules) (s : State) (good : Good g R s) (run : s.stop ≡ None) (quiet : s.tickets ≡ []) (i : ℕ) (isopen : (s.spots i).closed ≡ false)
    (producers : (k : ℕ) → k < length (node_at g i).ports → (s.spots (port_at (node_at g i) k).from).closed ≡ true) where
  pass_move : (k : ℕ) → k < length (node_at g i).ports → (s.spots i).passed k < length (feed s.spots (port_at (node_at g i) k)) → HasMove g R s
  pass_move k l m = record { event = pass i k; move = tt; legal = record { running = run; within = l; more = m } }

  take_move : (port place : ℕ) → MayTake (node_at g i) (node_at g i).kind (s.spots i) port place → HasMove g R s
  take_move port place m = record { event = taking i port place s.next (take_at g s i port place).n; move = tt; legal = record { running = run; ready = m; ticket = refl; number = refl } }

  close_move : ((k : ℕ) → k < length (node_at g i).ports → (s.spots i).passed k ≡ length (feed s.spots (port_at (node_at g i) k))) → MayClose (node_at g i) (node_at g i).kind (s.spots i) → HasMove g R s
  close_move p d = record { event = close i; move = tt; legal = record { running = run; still = isopen; producers = producers; passed = p; flight = rw quiet refl; done = d } }

  -- a single port that holds nothing, or none
  lack_or_held : Lacks (node_at g i) (s.spots i) ⊎ Holds (node_at g i) (s.spots i)
  lack_or_held = elim (search_below (λ k. (port_at (node_at g i) k).value && not (nat_lt 0 (length ((s.spots i).waiting k)))) (length (node_at g i).ports)) [
    | inl f ↦ (let b = both (port_at (node_at g i) f.at).value (nat_lt 0 (length ((s.spots i).waiting f.at))) f.yes in
        inl (record { port = f.at; within = f.within; value = b.0; nothing = none_long ((s.spots i).waiting f.at) b.1 }))
    | inr none ↦ inr (λ k l single. long ((s.spots i).waiting k) (held (port_at (node_at g i) k).value (nat_lt 0 (length ((s.spots i).waiting k))) single (none k l)))
  ]
    where
      both : (a b : Bool) → (a && not b) ≡ true → (a ≡ true) × (b ≡ false)
      both true true h = absurd (true≢false (sym h))
      both true false h = (refl, refl)
      both false b h = absurd (true≢false (sym h))

      held : (a b : Bool) → a ≡ true → (a && not b) ≡ false → b ≡ true
      held true true e h = refl
      held true false e h = absurd (true≢false h)
      held false b e h = absurd (true≢false (sym e))

  kind_move : (kind : Kind) → (node_at g i).kind ≡ kind → ((k : ℕ) → k < length (node_at g i).ports → (s.spots i).passed k ≡ length (feed s.spots (port_at (node_at g i) k))) → HasMove g R s
  kind_move (source items) is all = absurd (let made : SourceMade items (s.spots i) = (rw is at (good.spots i).made) in true≢false (sym made.shut ∙ isopen))
  kind_move (operator op) is all = elim (search_below (λ k. nat_lt 0 (length ((s.spots i).waiting k))) (length (node_at g i).ports)) [
    | inl f ↦ take_move f.at 0 (rw is (f.within, long ((s.spots i).waiting f.at) f.yes))
    | inr none ↦ close_move all (rw is (λ k l. none_long ((s.spots i).waiting k) (none k l)))
  ]
  kind_move (process (Some q)) is all = elim lack_or_held [
    | inl l ↦ close_move all (rw is (inl l))
    | inr h ↦ elim (cases_Bool (nat_lt 0 (length ((s.spots i).waiting q)))) [
      | inl t ↦ take_move q 0 (rw is (refl, long ((s.spots i).waiting q) t, h))
      | inr f ↦ close_move all (rw is (inr (none_long ((s.spots i).waiting q) f)))
    ]
  ]
  kind_move (process None) is all = elim lack_or_held [
    | inl l ↦ close_move all (rw is (inl l))
    | inr h ↦ by h (s.spots i).taken refl
  ]
    where
      by : Holds (node_at g i) (s.spots i) → (taken : List Take) → (s.spots i).taken ≡ taken → HasMove g R s
      by h [] e = take_move 0 0 (rw is (refl, refl, h, e))
      by h (t ∷ ts) e = close_move all (rw is (inr (let o : Once (process None) (s.spots i) = (rw is at (good.spots i).takes.once) in let l = o.0 in let z : length (s.spots i).taken ≡ suc (length ts) = ap length e in omega arith)))

  node_move : HasMove g R s
  node_move = elim (search_below (λ k. nat_lt ((s.spots i).passed k) (length (feed s.spots (port_at (node_at g i) k)))) (length (node_at g i).ports)) [
    | inl f ↦ pass_move f.at f.within (let y = f.yes in grind (arith, nat_tests))
    | inr none ↦ kind_move (node_at g i).kind refl (λ k l. (let a = none k l in let b = (good.spots i).ports.fits k in not_more ((s.spots i).passed k) (length (feed s.spots (port_at (node_at g i) k))) a b))
  ]
    where
      not_more : (a b : ℕ) → nat_lt a b ≡ false → a ≤ b → a ≡ b
      not_more a b h l = grind (arith, nat_tests)

-- an open node among the first n
find_open : (E : ℕ → Spot) (n : ℕ) → closed_to E n ≡ false → (i : ℕ) × ((E i).closed ≡ false)
find_open E zero h = absurd (true≢false h)
find_open E (suc i) h = elim (cases_Bool (E i).closed) [
  | inl t ↦ find_open E i (by (E i).closed (closed_to E i) t h)
  | inr f ↦ (i, f)
]
  where
    by : (a b : Bool) → a ≡ true → (a && b) ≡ false → b ≡ false
    by true b t h = h
    by false b t h = absurd (true≢false (sym t))

or_false : (a b : Bool) → (a || b) ≡ false → (a ≡ false) × (b ≡ false)
or_false true b h = absurd (true≢false h)
or_false false b h = (refl, h)

goes_where_open : (g : List PlainNode) (R : Rules) (ok : IsGraph g) (s : State) → Good g R s → s.stop ≡ None → s.tickets ≡ [] → (i : ℕ) → (s.spots i).closed ≡ false → HasMove g R s
goes_where_open g R ok s good run quiet i isopen =
    elim (search_below (λ j. not (s.spots j).closed) (suc i)) [
      | inl f ↦ node_move g R s good run quiet f.at (not_true (s.spots f.at).closed f.yes) (λ k l. not_false (s.spots (port_at (node_at g f.at) k).from).closed (f.first (port_at (node_at g f.at) k).from (ok.earlier f.at k l)))
      | inr none ↦ absurd (true≢false (sym (not_false (s.spots i).closed (none i (omega arith))) ∙ isopen))
    ]
  where
    not_true : (b : Bool) → not b ≡ true → b ≡ false
    not_true true h = absurd (true≢false (sym h))
    not_true false h = refl

    not_false : (b : Bool) → not b ≡ false → b ≡ true
    not_false true h = refl
    not_false false h = absurd (true≢false h)

pub goes_on : (g : List PlainNode) (R : Rules) (h : List PlainEvent) → IsGraph g → IsHistory g R h → is_over g (after g h) ≡ false → (after g h).tickets ≡ [] → HasMove g R (after g h)
goes_on g R h ok lawful more quiet =
    let s = after g h in
    let b = or_false (all_closed g s) (is_some s.stop && is_quiet s.tickets) more in
    let found = find_open s.spots (length g) b.0 in
    goes_where_open g R ok s (history_good g R ok h lawful) (running s.stop s.tickets quiet b.1) quiet found.0 found.1
  where
    running : (o : Option PlainStop) (ts : List Ticket) → ts ≡ [] → (is_some o && is_quiet ts) ≡ false → o ≡ None
    running None ts e h = refl
    running (Some x) [] e h = absurd (true≢false h)
    running (Some x) (t ∷ ts) e h = absurd cc
