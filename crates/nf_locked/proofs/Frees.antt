-- What holds whenever the lock is free holds after each event, too.
use Rattle.std.proofs.Common.{◌≡◌, ◌≢◌, ℕ, ◌+◌, ◌≤◌, List, [], ◌∷◌, ◌++◌, Bool, true, false, cond, refl, ap, sym, ◌∙◌, subst, arith, ◌⊎◌, inl, inr, length}
use Rattle.std.specs.Prelude.{Option, Some, None, ◌==◌, Result, Ok, Err, OnOk, OnErr, count_by}
use Rattle.std.specs.List.{AllByRecursion}
use Rattle.std.proofs.lemmas.Bool.Decides.{nat_tests}
use Rattle.std.proofs.lemmas.List.Sums.{sum_by-append}
use Rattle.nf_value.specs.declared.value.Value.{Value}
use Rattle.nf_value.specs.declared.fault.EvalFault.{EvalFault}
use Rattle.nf_opstream.proofs.Tally.{passes, one_if, count_is_passes}
use Rattle.nf_job.specs.declared.report.Report.{Report}
use Rattle.nf_graph.specs.Rules.{Outs, Rules}
use Rattle.nf_machine.specs.declared.event.Event.{Event}
use Rattle.nf_machine.specs.declared.event.Event.TheVariants as e
use Rattle.nf_machine.specs.declared.event.Cause.{Cause}
use Rattle.nf_machine.specs.declared.stop.Stop.{Stop}
use Rattle.nf_machine.specs.declared.stop.Stop.TheVariants as s
use Rattle.nf_machine.specs.declared.stop.Outside.TheVariants.{Lane, Keeper}
use Rattle.nf_machine.specs.State as machine
use Rattle.nf_machine.specs.State.{opening}
use Rattle.nf_machine.specs.Step.{step, without, with_ticket}
use Rattle.nf_machine.specs.History.{IsHistory}
use Rattle.nf_flight.specs.declared.ticket.Ticket.{Ticket}
use Rattle.nf_flight.specs.Ticket.{number_of}
use Rattle.nf_flight.proofs.Tickets.{found_number}
use Rattle.nf_flow.specs.Seen.{Seen, plain_of, events_of, state_of, grown}
use Rattle.nf_flow.specs.Questions.{IsFlying}
use Rattle.nf_core.specs.Calls.{GivesUp, EndsOrUp}
use Rattle.nf_core.specs.Opening.{Opening}
use Rattle.nf_core.proofs.Seens.{event_in}
use Rattle.nf_core.proofs.Orderly.{history_orderly, opening_orderly}
use Rattle.nf_core.proofs.Staying.{start_stays}
use Rattle.nf_serial.specs.Serial.{is_start, IsIdle}
use Rattle.nf_serial.proofs.Turns.{close_stays, pass_stays, tickets_grown}
use Rattle.nf_locked.specs.Entered.{Halts}
use Rattle.nf_locked.specs.Out.{AllOut, AreOut, tallies, tally}
use Rattle.nf_locked.specs.Locked.{Parts, IsFree, is_lanes, is_failure, starts_of, failures_of}
use Rattle.nf_locked.proofs.Returns.{Gains, Loses, out_kept, out_left, out_still}
use Rattle.nf_locked.proofs.Steps.{abort_left, finish_left, finish_with, give_left, reuse_left, reuse_with, start_with}

abbrev pub under : Seen → List (List Ticket) → ℕ → ℕ → Parts
under z out b l = record { flow = z; out = out; begun = b; failed = l }

-- ---- before the first ticket

empty_on : (P : Ticket → Type 0) (ts : List Ticket) → ((n : ℕ) → tally n ts ≡ 0) → AllByRecursion P ts
empty_on P [] h = tt
empty_on P (t ∷ ts) h = absurd (
    let a = h (number_of t) in
    let p = count_is_passes (λ u. number_of u == number_of t) (t ∷ ts) in
    let r : (number_of t == number_of t) ≡ true = grind (arith, nat_tests) in
    let f : one_if (number_of t == number_of t) ≡ 1 = ap one_if r in
    omega (arith, a, p, f))

empty_out : (P : Ticket → Type 0) (out : List (List Ticket)) → ((n : ℕ) → tallies n out ≡ 0) → AllOut P out
empty_out P [] h = tt
empty_out P (ts ∷ out) h = (
  empty_on P ts (λ n. (let q : tally n ts + tallies n out ≡ 0 = h n in omega (arith, q))),
  empty_out P out (λ n. (let q : tally n ts + tallies n out ≡ 0 = h n in omega (arith, q))),
)

pub free_new : (F : Opening) (z : Seen) (out : List (List Ticket)) (b l : ℕ) → IsIdle z → starts_of z ≡ 0 → failures_of z ≡ 0 → length out ≡ length F.lanes → ((n : ℕ) → tallies n out ≡ 0)
    → b ≡ 0 → l ≡ 0 → IsFree F (under z out b l)
free_new F z out b l idle starts failures lanes none begun failed = record {
  lanes = lanes;
  out = record {
    each = empty_out (IsFlying z) out none;
    same = λ n. (none n ∙ sym (ap (count_by (λ (k : machine.Ticket). k.number == n)) idle));
  };
  begun = begun ∙ sym starts;
  failed = failed ∙ sym failures;
}

-- ---- one event

pub counted : (p : Event → Bool) (z f : Seen) (x : Event) → f ≡ grown z x → count_by p f.history ≡ count_by p z.history + cond (p x) 1 0
counted p z f x is =
    let a = ap (λ (y : Seen). count_by p y.history) is in
    let b = sum_by-append (λ w. cond (p w) 1 0) z.history (x ∷ []) in
    omega (arith, a, b)

pub free_step : (F : Opening) (z f : Seen) (x : Event) (old new : List (List Ticket)) (b l c m : ℕ) → IsFree F (under z old b l) → f ≡ grown z x → length new ≡ length old → AreOut f new
    → c ≡ b + cond (is_start x) 1 0 → m ≡ l + cond (is_failure x) 1 0 → IsFree F (under f new c m)
free_step F z f x old new b l c m free is len out starts failures = record {
  lanes = len ∙ free.lanes;
  out = out;
  begun = (let n = counted is_start z f x is in let o = free.begun in omega (arith, n, o, starts));
  failed = (let n = counted is_failure z f x is in let o = free.failed in omega (arith, n, o, failures));
}

no_more : (b : Bool) (n : ℕ) → b ≡ false → n ≡ n + cond b 1 0
no_more b n off = let a : ◌≡◌ {A = ℕ} (cond b 1 0) 0 = rw off refl in omega (arith, a)

module _ (F : Opening) (z f : Seen) (old : List (List Ticket)) (b l : ℕ) (free : IsFree F (under z old b l)) where
  -- an event that leaves the tickets as they are
  pub free_still : (x : Event) → f ≡ grown z x → (step (plain_of z) (state_of z) (event_in z x)).tickets ≡ (state_of z).tickets → is_start x ≡ false → is_failure x ≡ false
      → IsFree F (under f old b l)
  free_still x is same starts failures =
      free_step F z f x old old b l b l free is refl (out_still z f old (tickets_grown z f x is ∙ same) free.out) (no_more (is_start x) b starts) (no_more (is_failure x) l failures)

  pub free_halted : Halts z f → IsFree F (under f old b l)
  free_halted (inl same) = subst (λ y. IsFree F (under y old b l)) (sym same.1) free
  free_halted (inr is) = free_still e.Halt is refl refl refl

  pub free_passed : {A E : Type 0} (i : ℕ) (r : Result A E) → OnOk r (f ≡ grown z (e.Pass i)) → OnErr r (f ≡ grown z e.Halt) → IsFree F (under f old b l)
  free_passed i (Ok v) ok err = free_still (e.Pass i) ok (pass_stays (state_of z) _ _ _) refl refl
  free_passed i (Err v) ok err = free_halted (inr err)

  pub free_closed : {A E : Type 0} (i : ℕ) (r : Result A E) → OnOk r (f ≡ grown z (e.Close i)) → OnErr r (f ≡ grown z e.Halt) → IsFree F (under f old b l)
  free_closed i (Ok v) ok err = free_still (e.Close i) ok (close_stays (state_of z) i _) refl refl
  free_closed i (Err v) ok err = free_halted (inr err)

-- ---- the event of a ticket that came back

pub innocent : (c : Option Stop) → c ≢ Some (s.Outside Lane) → is_lanes c ≡ false
innocent None off = refl
innocent (Some (s.Outside Lane)) off = absurd (off refl)
innocent (Some (s.Outside Keeper)) off = refl
innocent (Some s.Mem) off = refl
innocent (Some (s.Charge sum)) off = refl
innocent (Some (s.Op node fault)) off = refl
innocent (Some (s.Item node item fault)) off = refl
innocent (Some (s.Task node inputs n fault)) off = refl

pub once_flying : (R : Rules) (z : Seen) (n : ℕ) → IsHistory (plain_of z) R (events_of z) → count_by (λ (v : machine.Ticket). v.number == n) (state_of z).tickets ≤ 1
once_flying R z n lawful =
    let o = history_orderly (plain_of z) R (opening (plain_of z)) (events_of z) [] lawful (opening_orderly (plain_of z)) in
    let a : passes (λ (v : machine.Ticket). v.number == n) (state_of z).tickets ≤ 1 = o.once n in
    let c = count_is_passes (λ (v : machine.Ticket). v.number == n) (state_of z).tickets in
    omega (arith, a, c)

module _ (F : Opening) (R : Rules) (z f : Seen) (t : Ticket) (old mid : List (List Ticket)) (b l : ℕ) (free : IsFree F (under z old b l))
    (lawful : IsHistory (plain_of z) R (events_of z)) (loses : Loses t old mid) where
  fly : IsFlying z t
  fly = (loses.each (IsFlying z) free.out.each).0

  once : count_by (λ (v : machine.Ticket). v.number == number_of t) (state_of z).tickets ≤ 1
  once = once_flying R z (number_of t) lawful

  -- the ticket is gone
  free_gone : (x : Event) (m : ℕ) → length mid ≡ length old → f ≡ grown z x → (step (plain_of z) (state_of z) (event_in z x)).tickets ≡ without (number_of t) (state_of z).tickets
      → is_start x ≡ false → m ≡ l + cond (is_failure x) 1 0 → IsFree F (under f mid b m)
  free_gone x m len is gone starts failures =
      free_step F z f x old mid b l b m free is len (out_left z f t old mid free.out loses once (tickets_grown z f x is ∙ gone)) (no_more (is_start x) b starts) failures

  pub free_lost : (cause : Option Stop) (m : ℕ) → length mid ≡ length old → f ≡ grown z (e.Abort (number_of t) cause) → m ≡ l + cond (is_lanes cause) 1 0 → IsFree F (under f mid b m)
  free_lost cause m len is failures = free_gone (e.Abort (number_of t) cause) m len is (abort_left (plain_of z) (state_of z) (number_of t) fly.ticket fly.there _) refl failures

  pub free_up : length mid ≡ length old → GivesUp z t f → IsFree F (under f mid b l)
  free_up len up = free_lost up.cause l len up.is (no_more (is_lanes up.cause) l (innocent up.cause up.innocent))

  pub free_gave : (answer : Result Value EvalFault) → length mid ≡ length old → (f ≡ grown z (e.Give (number_of t) answer)) ⊎ GivesUp z t f → IsFree F (under f mid b l)
  free_gave answer len (inl is) = free_gone (e.Give (number_of t) answer) l len is (give_left (plain_of z) (state_of z) (number_of t) fly.ticket fly.there _) refl (omega arith)
  free_gave answer len (inr up) = free_up len up

  pub free_finished : (r : Report) (outs : Outs) → length mid ≡ length old → EndsOrUp z t (e.Finish (number_of t) r outs) outs None f → IsFree F (under f mid b l)
  free_finished r outs len (inl ends) =
      free_gone (e.Finish (number_of t) r outs) l len ends.is (finish_left (plain_of z) (state_of z) (number_of t) fly.ticket fly.there r outs ends.again) refl (omega arith)
  free_finished r outs len (inr up) = free_up len up

  pub free_reused : (r : Report) (outs : Outs) → length mid ≡ length old → EndsOrUp z t (e.Reuse (number_of t) r outs) outs None f → IsFree F (under f mid b l)
  free_reused r outs len (inl ends) =
      free_gone (e.Reuse (number_of t) r outs) l len ends.is (reuse_left (plain_of z) (state_of z) (number_of t) fly.ticket fly.there r outs ends.again) refl (omega arith)
  free_reused r outs len (inr up) = free_up len up

  -- the ticket, changed, is out again
  free_back : (x : Event) (u : Ticket) (k : machine.Ticket) (new : List (List Ticket)) (c : ℕ) → length new ≡ length old → f ≡ grown z x
      → (step (plain_of z) (state_of z) (event_in z x)).tickets ≡ with_ticket k (without (number_of t) (state_of z).tickets) → k.number ≡ number_of t → number_of u ≡ number_of t
      → IsFlying f u → Gains u mid new → is_failure x ≡ false → c ≡ b + cond (is_start x) 1 0 → IsFree F (under f new c l)
  free_back x u k new c len is back number same flies gains failures starts =
      free_step F z f x old new b l c l free is len (out_kept z f t old mid free.out loses once u k new (tickets_grown z f x is ∙ back) number same flies gains) starts
      (no_more (is_failure x) l failures)

  number_found : fly.ticket.number ≡ number_of t
  number_found = found_number (number_of t) (state_of z).tickets fly.ticket fly.there

  pub free_begun : (u : Ticket) (cause : Cause) (new : List (List Ticket)) (c : ℕ) → length new ≡ length old → u ≡ t → f ≡ grown z (e.Start (number_of t) cause) → Gains u mid new → c ≡ b + 1
      → IsFree F (under f new c l)
  free_begun u cause new c len same is gains starts =
      free_back (e.Start (number_of t) cause) u (record fly.ticket { started = true }) new c len is (start_with (plain_of z) (state_of z) (number_of t) fly.ticket fly.there cause)
      number_found (ap number_of same) flies gains refl starts
    where
      flies : IsFlying f u
      flies = subst (λ y. IsFlying y u) (sym is) (subst (IsFlying (grown z (e.Start (number_of t) cause))) (sym same) (start_stays R z t cause lawful fly))

  pub free_finished_again : (r : Report) (outs : Outs) (u : Ticket) (new : List (List Ticket)) → length new ≡ length old → EndsOrUp z t (e.Finish (number_of t) r outs) outs (Some u) f → Gains u mid new
      → IsFree F (under f new b l)
  free_finished_again r outs u new len ends gains =
      free_back (e.Finish (number_of t) r outs) u (record fly.ticket { told = fly.ticket.told ++ r ∷ []; started = false }) new b len ends.is
      (finish_with (plain_of z) (state_of z) (number_of t) fly.ticket fly.there r outs ends.again.0) number_found (ap number_of ends.again.1) ends.flying gains refl (omega arith)

  pub free_reused_again : (r : Report) (outs : Outs) (u : Ticket) (new : List (List Ticket)) → length new ≡ length old → EndsOrUp z t (e.Reuse (number_of t) r outs) outs (Some u) f → Gains u mid new
      → IsFree F (under f new b l)
  free_reused_again r outs u new len ends gains =
      free_back (e.Reuse (number_of t) r outs) u (record fly.ticket { told = fly.ticket.told ++ r ∷ []; started = false }) new b len ends.is
      (reuse_with (plain_of z) (state_of z) (number_of t) fly.ticket fly.there r outs ends.again.0) number_found (ap number_of ends.again.1) ends.flying gains refl (omega arith)

-- a ticket came back, and is out again as it was
pub free_looked : (F : Opening) (z f : Seen) (t u : Ticket) (old mid new : List (List Ticket)) (b l : ℕ) → IsFree F (under z old b l) → Loses t old mid → length new ≡ length old → u ≡ t → f ≡ z
    → Gains u mid new → IsFree F (under f new b l)
free_looked F z f t u old mid new b l free loses len same still gains = subst (λ y. IsFree F (under y new b l)) (sym still) (record {
  lanes = len ∙ free.lanes;
  out = record {
    each = (let h = loses.each (IsFlying z) free.out.each in gains.each (IsFlying z) h.1 (subst (IsFlying z) (sym same) h.0));
    same = λ m. (
        let p = loses.same m in
        let q = gains.same m in
        let o = free.out.same m in
        let r : one_if (number_of u == m) ≡ one_if (number_of t == m) = ap (λ v. one_if (number_of v == m)) same in
        omega (arith, p, q, o, r));
  };
  begun = free.begun;
  failed = free.failed;
})
