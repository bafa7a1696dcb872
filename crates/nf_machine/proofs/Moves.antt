-- AllByRecursion event keeps the invariant.
use Rattle.std.proofs.Common.{◌≡◌, ℕ, zero, suc, ◌+◌, ◌<◌, ◌≤◌, List, [], ◌∷◌, ◌++◌, map, length, take, drop, get_or, Bool, true, false, ◌&&◌, refl, ap, sym, ◌∙◌, subst, arith, inl, inr, add-one}
use Rattle.std.specs.Prelude.{◌==◌, nat_lt, Option, Some, None, is_none, remove, count_by}
use Rattle.std.specs.List.{AllByRecursion}
use Rattle.std.proofs.lemmas.Bool.{cases_eq, cases_Bool, true≢false}
use Rattle.std.proofs.lemmas.Bool.Decides.{nat_tests}
use Rattle.std.proofs.lemmas.List.{take_more, take-append-drop, drop_more}
use Rattle.nf_value.specs.Plain.{Plain, null}
use Rattle.nf_opstream.proofs.Tally.{one_if, passes, tally-append, tally-map, count_is_passes}
use Rattle.nf_graph.specs.declared.port.Port.{Port}
use Rattle.nf_graph.specs.Rules.{Rules}
use Rattle.nf_graph.specs.Node.{Kind, source, operator, process, PlainNode, port_in, port_at, node_at, IsGraph}
use Rattle.nf_graph.specs.Meaning.{put, same_inputs, filled, cost}
use Rattle.nf_graph.proofs.Lists.{put_same, put_other, put_all, filled_same}
use Rattle.nf_machine.specs.Event.{PlainStop, pass, taking}
use Rattle.nf_machine.specs.State.{Take, Ticket, Spot, State, feed}
use Rattle.nf_machine.specs.Step.{limit, with_ticket, passed_on, slot_of, heads, takes, take_at, left_at, step}
use Rattle.nf_machine.specs.Legal.{IsProcessKind, Holds, MayTake, PassIsLegal, TakeIsLegal}
use Rattle.nf_machine.proofs.Good.{take_of, from_port, flying, seen, PortsOk, feed_head, ProcessTake, Formed, Once, MadeOk, Done, SpotOk, TicketOk, Good}
use Rattle.nf_machine.proofs.Frame.{Grows, no_more, grows_put, or_kept, SameFlight, spot_kept, tickets_kept, unmoved}
use Rattle.nf_machine.proofs.Tickets.{flying_more, same_more, same_as, each_with}

-- a fact of two functions, given_by a put in each
pub put_both : {A B : Type 0} (P : ℕ → A → B → Type 0) (f : ℕ → A) (h : ℕ → B) (i : ℕ) (x : A) (y : B) → P i x y → ((j : ℕ) → (j ≡ i → ⊥) → P j (f j) (h j)) → (j : ℕ) → P j (put f i x j) (put h i y j)
put_both P f h i x y here there j = elim (cases_eq j i) [
  | inl e ↦ subst (λ m. P m (put f i x m) (put h i y m)) (sym e) (rw (put_same f i x, put_same h i y) here)
  | inr n ↦ rw (put_other f i x j n, put_other h i y j n) (there j n)
]

-- the other spots stay, and the one that moved is good
pub others : (g : List PlainNode) (R : Rules) (E : ℕ → Spot) (ts us : List Ticket) (going going' : Bool) (i : ℕ) (sp : Spot)
    → Grows E (put E i sp) → (going' ≡ true → going ≡ true) → ((j : ℕ) → (j ≡ i → ⊥) → SameFlight j ts us)
    → ((j : ℕ) → SpotOk g R E ts going j (E j)) → SpotOk g R (put E i sp) us going' i sp
    → (j : ℕ) → SpotOk g R (put E i sp) us going' j (put E i sp j)
others g R E ts us going going' i sp grows w same all here =
    put_all (λ j s. SpotOk g R (put E i sp) us going' j s) E i sp here
    (λ j n. spot_kept g R E (put E i sp) grows ts us going going' j (E j) w (same j n) (all j))

pub grows_here : (E : ℕ → Spot) (i : ℕ) (sp : Spot) → (E i).closed ≡ false → sp.emitted ≡ (E i).emitted → Grows E (put E i sp)
grows_here E i sp h e = grows_put E i sp h (λ out. rw e (no_more ((E i).emitted out)))

none_going : (o : Option PlainStop) → is_none o ≡ true → o ≡ None
none_going None h = refl
none_going (Some x) h = absurd (true≢false (sym h))

-- ### Pass

-- a node that may pass isn't closed
pub open_pass : (g : List PlainNode) (R : Rules) (s : State) (i k : ℕ) → Good g R s → PassIsLegal g s i k → (s.spots i).closed ≡ false
open_pass g R s i k good legal = elim (cases_Bool (s.spots i).closed) [
  | inl c ↦ absurd (let e = ((good.spots i).whole c).passed k legal.within in let m = legal.more in omega arith)
  | inr n ↦ n
]

module _ (F : ℕ → Spot) (nd : PlainNode) (sp : Spot) (k : ℕ) (x : Plain) where
  one_seen : sp.passed k < length (feed F (port_at nd k)) → x ≡ get_or (feed F (port_at nd k)) (sp.passed k) null → take (suc (sp.passed k)) (feed F (port_at nd k)) ≡ seen F nd sp k ++ x ∷ []
  one_seen h e = rw e (rw (← add-one) (take_more (feed F (port_at nd k)) (sp.passed k) null h))

  pub pass_waits : sp.passed k < length (feed F (port_at nd k)) → x ≡ get_or (feed F (port_at nd k)) (sp.passed k) null → sp.closed ≡ false
      → PortsOk F nd true sp → PortsOk F nd true (record (passed_on sp k) { waiting = put sp.waiting k (sp.waiting k ++ x ∷ []) })
  pass_waits l e isopen h =
      let both : (j : ℕ) (p : Plain → Bool) → passes p (put sp.waiting k (sp.waiting k ++ x ∷ []) j) + passes (from_port j p) sp.taken ≡ passes p (take (put sp.passed k (suc (sp.passed k)) j) (feed F (port_at nd j))) =
      put_both (λ j n w. (p : Plain → Bool) → passes p w + passes (from_port j p) sp.taken ≡ passes p (take n (feed F (port_at nd j)))) sp.passed sp.waiting k (suc (sp.passed k)) (sp.waiting k ++ x ∷ [])
      (λ p. rw (one_seen l e) (omega (arith, tally-append (λ y. one_if (p y)) (sp.waiting k) (x ∷ []), tally-append (λ y. one_if (p y)) (seen F nd sp k) (x ∷ []), h.all refl k p)))
      (λ j n p. h.all refl j p) in
      record {
        fits = put_all (λ j n. n ≤ length (feed F (port_at nd j))) sp.passed k (suc (sp.passed k)) l (λ j n. h.fits j);
        most = λ j p. omega (arith, both j p);
        all = λ s j p. both j p;
        held = λ s pr. put_both (λ j n w. (port_at nd j).value ≡ true → w ≡ take n (feed F (port_at nd j))) sp.passed sp.waiting k (suc (sp.passed k)) (sp.waiting k ++ x ∷ [])
            (λ single. rw (one_seen l e) (ap (λ r. r ++ x ∷ []) (h.held refl pr k single)))
            (λ j n single. h.held refl pr j single);
      }

  -- where the charge passes the limit
  pub pass_stops : sp.passed k < length (feed F (port_at nd k)) → x ≡ get_or (feed F (port_at nd k)) (sp.passed k) null → sp.closed ≡ false
      → PortsOk F nd true sp → PortsOk F nd false (passed_on sp k)
  pass_stops l e isopen h =
      let most : (j : ℕ) (p : Plain → Bool) → passes p (sp.waiting j) + passes (from_port j p) sp.taken ≤ passes p (take (put sp.passed k (suc (sp.passed k)) j) (feed F (port_at nd j))) =
      put_all (λ j n. (p : Plain → Bool) → passes p (sp.waiting j) + passes (from_port j p) sp.taken ≤ passes p (take n (feed F (port_at nd j)))) sp.passed k (suc (sp.passed k))
      (λ p. rw (one_seen l e) (omega (arith, tally-append (λ y. one_if (p y)) (seen F nd sp k) (x ∷ []), h.most k p)))
      (λ j n p. h.most j p) in
      record {
        fits = put_all (λ j n. n ≤ length (feed F (port_at nd j))) sp.passed k (suc (sp.passed k)) l (λ j n. h.fits j);
        most = most;
        all = λ s. absurd (true≢false (sym s ∙ isopen));
        held = λ s. absurd (true≢false (sym s));
      }

-- a spot whose ports alone changed
pub new_ports : (g : List PlainNode) (R : Rules) (F : ℕ → Spot) (ts : List Ticket) (going going' : Bool) (i : ℕ) (sp : Spot) (passed : ℕ → ℕ) (waiting : ℕ → List Plain)
    → (going' ≡ true → going ≡ true) → sp.closed ≡ false → SpotOk g R F ts going i sp
    → PortsOk F (node_at g i) going' (record sp { passed = passed; waiting = waiting })
    → SpotOk g R F ts going' i (record sp { passed = passed; waiting = waiting })
new_ports g R F ts going going' i sp passed waiting w isopen h ports = record {
  ports = ports;
  flight = record { most = h.flight.most; all = λ s. h.flight.all (or_kept going going' sp.closed w s) };
  takes = record { formed = h.takes.formed; numbers = h.takes.numbers; once = once_kept (node_at g i).kind h.takes.once };
  made = made_kept (node_at g i).kind h.made;
  clean = λ a c. absurd (true≢false (sym c ∙ isopen));
  whole = λ c. absurd (true≢false (sym c ∙ isopen));
  quiet = λ a. h.quiet (w a);
}
  where
    once_kept : (kind : Kind) → Once kind sp → Once kind (record sp { passed = passed; waiting = waiting })
    once_kept (source items) o = o
    once_kept (operator op) o = o
    once_kept (process None) o = o
    once_kept (process (Some q)) o = o

    made_kept : (kind : Kind) → MadeOk R i kind sp → MadeOk R i kind (record sp { passed = passed; waiting = waiting })
    made_kept (source items) m = record { emitted = m.emitted; shut = m.shut }
    made_kept (operator op) m = record { emitted = m.emitted; fine = m.fine; by_rule = m.by_rule; no_ended = m.no_ended }
    made_kept (process q) m = record { emitted = m.emitted; decision = m.decision; no_pushed = m.no_pushed }

pub pass_good : (g : List PlainNode) (R : Rules) (s : State) (i k : ℕ) → Good g R s → PassIsLegal g s i k → Good g R (step g s (pass i k))
pass_good g R s i k good legal =
    let E = s.spots in
    let sp = E i in
    let nd = node_at g i in
    let isopen = open_pass g R s i k good legal in
    let x = get_or (feed E (port_at nd k)) (sp.passed k) null in
    let run : is_none s.stop ≡ true = ap is_none legal.running in
    let old : (j : ℕ) → SpotOk g R E s.tickets true j (E j) = λ j. subst (λ b. SpotOk g R E s.tickets b j (E j)) run (good.spots j) in
    elim (cases_Bool (nat_lt limit (s.charge + cost x))) [
      | inl over ↦ rw over (
          let new = passed_on sp k in
          let F = put E i new in
          let grows = grows_here E i new isopen refl in
          let same : feed F (port_at nd k) ≡ feed E (port_at nd k) = unmoved E i new refl (port_at nd k) in
          let kept = spot_kept g R E F grows s.tickets s.tickets true true i sp (λ a. a) (same_as i s.tickets) (old i) in
          record {
            spots = others g R E s.tickets s.tickets true false i new grows (λ a. refl) (λ j n. same_as j s.tickets) old
                (new_ports g R F s.tickets true false i sp new.passed sp.waiting (λ a. refl) isopen kept
                (pass_stops F nd sp k x (rw same legal.more) (rw same refl) isopen kept.ports));
            tickets = tickets_kept g R E F grows s.tickets good.tickets;
            stop = tt;
          })
      | inr below ↦ rw (below, legal.running) (
          let new = record (passed_on sp k) { waiting = put sp.waiting k (sp.waiting k ++ x ∷ []) } in
          let F = put E i new in
          let grows = grows_here E i new isopen refl in
          let same : feed F (port_at nd k) ≡ feed E (port_at nd k) = unmoved E i new refl (port_at nd k) in
          let kept = spot_kept g R E F grows s.tickets s.tickets true true i sp (λ a. a) (same_as i s.tickets) (old i) in
          record {
            spots = others g R E s.tickets s.tickets true true i new grows (λ a. refl) (λ j n. same_as j s.tickets) old
                (new_ports g R F s.tickets true true i sp new.passed new.waiting (λ a. refl) isopen kept
                (pass_waits F nd sp k x (rw same legal.more) (rw same refl) isopen kept.ports));
            tickets = tickets_kept g R E F grows s.tickets good.tickets;
            stop = tt;
          })
    ]

pub once_same : (kind : Kind) (sp new : Spot) → new.taken ≡ sp.taken → Once kind sp → Once kind new
once_same (source items) sp new e o = o
once_same (operator op) sp new e o = o
once_same (process None) sp new e o = subst (λ z. (length z ≤ 1) × AllByRecursion (λ (t : Take). t.item ≡ null) z) (sym e) o
once_same (process (Some q)) sp new e o = o

-- ### Take

pub made_same : (R : Rules) (i : ℕ) (kind : Kind) (sp : Spot) (passed : ℕ → ℕ) (waiting : ℕ → List Plain) (taken : List Take) → MadeOk R i kind sp → MadeOk R i kind (record sp { passed = passed; waiting = waiting; taken = taken })
made_same R i (source items) sp a b c m = record { emitted = m.emitted; shut = m.shut }
made_same R i (operator op) sp a b c m = record { emitted = m.emitted; fine = m.fine; by_rule = m.by_rule; no_ended = m.no_ended }
made_same R i (process q) sp a b c m = record { emitted = m.emitted; decision = m.decision; no_pushed = m.no_pushed }

pub no_take : (nd : PlainNode) (kind : Kind) (sp : Spot) (port place : ℕ) → Done nd kind sp → MayTake nd kind sp port place → ⊥
no_take nd (source items) sp port place d m = m
no_take nd (operator op) sp port place d m = let e = d port m.0 in let l = m.1 in let z : length (sp.waiting port) ≡ 0 = rw e refl in omega arith
no_take nd (process None) sp port place d m = elim d [
  | inl lacks ↦ (let l = m.2 lacks.port lacks.within lacks.value in let z : length (sp.waiting lacks.port) ≡ 0 = rw lacks.nothing refl in omega arith)
  | inr one ↦ (let e = m.3 in let z : length sp.taken ≡ 0 = rw e refl in omega arith)
]
no_take nd (process (Some q)) sp port place d m = elim d [
  | inl lacks ↦ (let l = m.2 lacks.port lacks.within lacks.value in let z : length (sp.waiting lacks.port) ≡ 0 = rw lacks.nothing refl in omega arith)
  | inr none ↦ (let l = m.1 in let z : length (sp.waiting q) ≡ 0 = rw none refl in omega arith)
]

pub open_take : (g : List PlainNode) (R : Rules) (s : State) (i port place t n : ℕ) → Good g R s → TakeIsLegal g s i port place t n → (s.spots i).closed ≡ false
open_take g R s i port place t n good legal = elim (cases_Bool (s.spots i).closed) [
  | inl c ↦ absurd (no_take (node_at g i) (node_at g i).kind (s.spots i) port place ((good.spots i).whole c).done legal.ready)
  | inr n ↦ n
]

count_removed : (p : Plain → Bool) (xs : List Plain) (i : ℕ) → i < length xs → passes p (remove xs i) + one_if (p (get_or xs i null)) ≡ passes p xs
count_removed p xs i h =
    let a : passes p xs ≡ passes p (take i xs) + passes p (drop i xs) = ap (passes p) (sym (take-append-drop i xs)) ∙ tally-append (λ x. one_if (p x)) (take i xs) (drop i xs) in
    let b : drop i xs ≡ get_or xs i null ∷ drop (suc i) xs = rw (← add-one) (drop_more xs i null h) in
    let c : passes p (drop i xs) ≡ one_if (p (get_or xs i null)) + passes p (drop (suc i) xs) = ap (passes p) b in
    omega (arith, a, c, tally-append (λ x. one_if (p x)) (take i xs) (drop (suc i) xs))

eq_suc : (a b : ℕ) → a ≡ b → (suc a == suc b) ≡ true
eq_suc a b h = grind (arith, nat_tests)

ne_suc : (a b : ℕ) → (a ≡ b → ⊥) → (suc b == suc a) ≡ false
ne_suc a b h = grind (arith, nat_tests)

ne_zero : (a : ℕ) → (zero == suc a) ≡ false
ne_zero a = grind (arith, nat_tests)

-- what left the port and what waits are what waited
left_count : (slot place : ℕ) (waiting : ℕ → List Plain) (x : Plain) → ((k : ℕ) → slot ≡ suc k → (place < length (waiting k)) × (x ≡ get_or (waiting k) place null))
    → (j : ℕ) (p : Plain → Bool) → passes p (left_at slot place waiting j) + one_if ((slot == suc j) && p x) ≡ passes p (waiting j)
left_count zero place waiting x h = λ j p. rw (ne_zero j) (omega arith)
left_count (suc k) place waiting x h =
    let f = h k refl in
    put_all (λ j w. (p : Plain → Bool) → passes p w + one_if ((suc k == suc j) && p x) ≡ passes p (waiting j)) waiting k (remove (waiting k) place)
    (λ p. rw (eq_suc k k refl, f.1) (count_removed p (waiting k) place f.0))
    (λ j n p. rw (ne_suc j k n) (omega arith))

left_single : (slot place : ℕ) (waiting : ℕ → List Plain) (j : ℕ) → (slot ≡ suc j → ⊥) → left_at slot place waiting j ≡ waiting j
left_single zero place waiting j h = refl
left_single (suc k) place waiting j h = put_other waiting k (remove (waiting k) place) j (λ e. h (ap suc (sym e)))

not_below : 0 < 0 → ⊥
not_below h = omega arith

head_take : (n : ℕ) (xs : List Plain) → 0 < length (take n xs) → (get_or (take n xs) 0 null ≡ get_or xs 0 null) × (0 < length xs)
head_take zero xs h = absurd (not_below h)
head_take (suc n) [] h = absurd (not_below h)
head_take (suc n) (x ∷ xs) h = (refl, omega arith)

-- what a ready take is
pub record TakeFacts (F : ℕ → Spot) (nd : PlainNode) (sp : Spot) (port place : ℕ) (t : Take) : Type 0 where
  pub fits : (k : ℕ) → t.slot ≡ suc k → (place < length (sp.waiting k)) × (t.item ≡ get_or (sp.waiting k) place null)
  pub apart : IsProcessKind nd.kind → (j : ℕ) → (port_at nd j).value ≡ true → t.slot ≡ suc j → ⊥
  pub formed : Formed F nd nd.kind t
  pub number : IsProcessKind nd.kind → t.n ≡ count_by (λ u. same_inputs t.inputs u.inputs) sp.taken
  pub once : (w : ℕ → List Plain) → Once nd.kind (record sp { waiting = w; taken = t ∷ sp.taken })

process_formed : (F : ℕ → Spot) (nd : PlainNode) (q : Option ℕ) (sp : Spot) (x : Plain) (slot n : ℕ) → Holds nd sp → slot ≡ slot_of (process q) 0
    → ((k : ℕ) → (port_at nd k).value ≡ true → sp.waiting k ≡ seen F nd sp k)
    → ProcessTake F nd q (record { slot = slot; item = x; inputs = filled 0 nd.ports (heads sp) x; n = n })
process_formed F nd q sp x slot n held is wait = record {
  slot = is;
  inputs = filled_same 0 nd.ports (heads sp) (feed_head F nd) x (λ j l s. let i : 0 + j ≡ j = omega arith in rw i ((facts j l s).0));
  fed = λ k l s. (facts k l s).1;
}
  where
    facts : (j : ℕ) → j < length nd.ports → (port_at nd j).value ≡ true → (get_or (sp.waiting j) 0 null ≡ get_or (feed F (port_at nd j)) 0 null) × (0 < length (feed F (port_at nd j)))
    facts j l s = rw (wait j s) (head_take (sp.passed j) (feed F (port_at nd j)) (rw (wait j s) at (held j l s)))

take_facts : (F : ℕ → Spot) (ports : List Port) (kind : Kind) (sp : Spot) (port place : ℕ)
    → MayTake (record { kind = kind; ports = ports }) kind sp port place
    → ((q : ℕ) → kind ≡ process (Some q) → (port_in ports q).value ≡ false)
    → PortsOk F (record { kind = kind; ports = ports }) true sp
    → Once kind sp
    → TakeFacts F (record { kind = kind; ports = ports }) sp port place (takes (record { kind = kind; ports = ports }) sp port place)
take_facts F ports (source items) sp port place m queue h once = absurd m
take_facts F ports (operator op) sp port place m queue h once = record {
  fits = λ k e. let e' : port ≡ k = cc in (subst (λ j. place < length (sp.waiting j)) e' m.1, ap (λ (j : ℕ). get_or (sp.waiting j) place null) e');
  apart = λ z. absurd z;
  formed = record { within = m.0; slot = refl; inputs = refl; n = refl };
  number = λ z. absurd z;
  once = λ w. tt;
}
take_facts F ports (process None) sp port place m queue h once = record {
  fits = λ k e. absurd cc;
  apart = λ z j s e. cc;
  formed = process_formed F (record { kind = process None; ports = ports }) None sp null 0 _ m.2 refl (λ k s. h.held refl tt k s);
  number = λ z. refl;
  once = λ w. (rw m.3 (omega arith), (refl, once.1));
}
take_facts F ports (process (Some q)) sp port place m queue h once = record {
  fits = λ k e. let e' : q ≡ k = cc in (subst (λ j. place < length (sp.waiting j)) e' m.1, ap (λ (j : ℕ). get_or (sp.waiting j) place null) e');
  apart = λ z j s e. (let e' : q ≡ j = cc in true≢false (sym s ∙ subst (λ a. (port_in ports a).value ≡ false) e' (queue q refl)));
  formed = process_formed F (record { kind = process (Some q); ports = ports }) (Some q) sp (get_or (sp.waiting q) place null) (suc q) _ m.2 refl (λ k s. h.held refl tt k s);
  number = λ z. refl;
  once = λ w. tt;
}

take_ports : (F : ℕ → Spot) (nd : PlainNode) (sp : Spot) (port place : ℕ) (t : Take) → TakeFacts F nd sp port place t → sp.closed ≡ false
    → PortsOk F nd true sp → PortsOk F nd true (record sp { waiting = left_at t.slot place sp.waiting; taken = t ∷ sp.taken })
take_ports F nd sp port place t f isopen h =
    let both : (j : ℕ) (p : Plain → Bool) → passes p (left_at t.slot place sp.waiting j) + (one_if (from_port j p t) + passes (from_port j p) sp.taken) ≡ passes p (seen F nd sp j) =
    λ j p. omega (arith, h.all refl j p, left_count t.slot place sp.waiting t.item f.fits j p) in
    record {
      fits = h.fits;
      most = λ j p. omega (arith, both j p);
      all = λ s j p. both j p;
      held = λ s pr j single. left_single t.slot place sp.waiting j (f.apart pr j single) ∙ h.held refl pr j single;
    }

pub take_good : (g : List PlainNode) (R : Rules) (ok : IsGraph g) (s : State) (i port place t n : ℕ) → Good g R s → TakeIsLegal g s i port place t n → Good g R (step g s (taking i port place t n))
take_good g R ok s i port place t n good legal =
    let E = s.spots in
    let sp = E i in
    let nd = node_at g i in
    let isopen = open_take g R s i port place t n good legal in
    let run : is_none s.stop ≡ true = ap is_none legal.running in
    let old : (j : ℕ) → SpotOk g R E s.tickets true j (E j) = λ j. subst (λ b. SpotOk g R E s.tickets b j (E j)) run (good.spots j) in
    let k = take_at g s i port place in
    let new = record sp { waiting = left_at k.slot place sp.waiting; taken = k ∷ sp.taken } in
    let ticket : Ticket = record { number = s.next; node = i; take = k; told = []; started = false } in
    let us : List Ticket = with_ticket ticket s.tickets in
    let F = put E i new in
    let grows = grows_here E i new isopen refl in
    let kept = spot_kept g R E F grows s.tickets s.tickets true true i sp (λ a. a) (same_as i s.tickets) (old i) in
    let facts : TakeFacts F nd sp port place k = take_facts F nd.ports nd.kind sp port place legal.ready (λ q e. (ok.queues i q e).queue) kept.ports kept.takes.once in
    let flight : (p : Take → Bool) → passes (λ x. p (take_of x)) sp.pushed + passes (λ e. p e.take) sp.ended + flying i p us ≡ one_if (p k) + passes p sp.taken =
    λ p. omega (arith, kept.flight.all refl p, flying_more p ticket s.tickets) in
    rw (legal.running) (record {
      spots = others g R E s.tickets us true true i new grows (λ a. refl) (λ j n. same_more ticket s.tickets j n) old (record {
        ports = take_ports F nd sp port place k facts isopen kept.ports;
        flight = record { most = λ p. omega (arith, flight p); all = λ a p. flight p };
        takes = record {
          formed = (facts.formed, kept.takes.formed);
          numbers = λ pr. (let a = kept.takes.numbers pr in let b = facts.number pr in
              let c : count_by (same_inputs k.inputs) (map (λ u. u.inputs) sp.taken) ≡ k.n = count_is_passes (same_inputs k.inputs) (map (λ u. u.inputs) sp.taken) ∙ tally-map (λ y. one_if (same_inputs k.inputs y)) (λ u. u.inputs) sp.taken ∙ sym (count_is_passes (λ u. same_inputs k.inputs u.inputs) sp.taken) ∙ sym b in
              rw (c, a) refl);
          once = facts.once (left_at k.slot place sp.waiting);
        };
        made = made_same R i nd.kind sp sp.passed new.waiting new.taken kept.made;
        clean = λ a c. absurd (true≢false (sym c ∙ isopen));
        whole = λ c. absurd (true≢false (sym c ∙ isopen));
        quiet = λ a. kept.quiet refl;
      });
      tickets = each_with (TicketOk g R F) s.tickets ticket (tickets_kept g R E F grows s.tickets good.tickets) (record { formed = facts.formed; again = tt; job = λ b. absurd (true≢false (sym b)) });
      stop = tt;
    })
