-- The list of one lane among those of all, in each call.
use Rattle.std.proofs.Common.{◌≡◌, ℕ, ◌+◌, ◌<◌, List, [], ◌∷◌, ◌++◌, cond, false, ap, sym, ◌∙◌, subst, arith, ◌⊎◌, length, map, set, get_or}
use Rattle.std.specs.Prelude.{Option, Some, None, Result}
use Rattle.std.proofs.lemmas.List.{length-map}
use Rattle.nf_value.specs.declared.value.Value.{Value}
use Rattle.nf_value.specs.declared.fault.EvalFault.{EvalFault}
use Rattle.nf_job.specs.declared.parts.JobParts.{JobParts}
use Rattle.nf_job.specs.declared.report.Report.{Report}
use Rattle.nf_graph.specs.Rules.{Outs, Rules}
use Rattle.nf_machine.specs.declared.event.Event.TheVariants as e
use Rattle.nf_machine.specs.declared.event.Cause.{Cause}
use Rattle.nf_machine.specs.declared.stop.Stop.{Stop}
use Rattle.nf_machine.specs.History.{IsHistory}
use Rattle.nf_flow.specs.Steps.{MayTake}
use Rattle.nf_flight.specs.declared.ticket.Ticket.{Ticket}
use Rattle.nf_flight.specs.Ticket.{number_of}
use Rattle.nf_flow.specs.Seen.{Seen, plain_of, events_of, state_of, grown, take_of}
use Rattle.nf_flow.specs.Questions.{IsFlying}
use Rattle.nf_core.specs.declared.next.Next.{Next}
use Rattle.nf_core.specs.declared.next.Next.TheVariants.{Run, Look, Over}
use Rattle.nf_core.specs.Calls.{GivesUp, EndsOrUp, IsNext, Starts}
use Rattle.nf_core.specs.Causes.{IsLeft}
use Rattle.nf_core.specs.Opening.{Opening}
use Rattle.nf_locked.specs.Entered.{Halts}
use Rattle.nf_locked.specs.Leaves.{IsWithout}
use Rattle.nf_locked.specs.Locked.{IsFree, is_lanes}
use Rattle.nf_locked.proofs.Changes.{gains, length_at, loses, regains, stays_at}
use Rattle.nf_locked.proofs.Frees.{free_begun, free_finished, free_finished_again, free_gave, free_halted, free_looked, free_lost, free_reused, free_reused_again, free_up, under}
use Rattle.nf_locked.proofs.Returns.{Loses}
use Rattle.nf_locked.proofs.Taking.{free_dropped, free_taken}

module _ (F : Opening) (R : Rules) {V : Type 0} (g : V → List Ticket) (vs : List V) (i : ℕ) (d v : V) (b l : ℕ) (z f : Seen)
    (free : IsFree F (under z (map g vs) b l)) (lane : i < length F.lanes) (place : d ≡ get_or vs i d) where
  within : i < length vs
  within = let a = free.lanes in let c = length-map vs g in omega (arith, a, c, lane)

  same_lists : g v ≡ g d → map g (set vs i v) ≡ map g vs
  same_lists same = stays_at g vs i v d within (same ∙ ap g place)

  -- no ticket was found
  pub unfound : g v ≡ g d → Halts z f → IsFree F (under f (map g (set vs i v)) b l)
  unfound same halted = subst (λ out. IsFree F (under f out b l)) (sym (same_lists same)) (free_halted F z f (map g vs) b l free halted)

  leaves : (t : Ticket) → IsWithout t (g d) (g v) → Loses t (map g vs) (map g (set vs i v))
  leaves t left = loses g vs i v d t within (subst (λ w. IsWithout t (g w) (g v)) place left)

  pub found_flying : (t : Ticket) → IsWithout t (g d) (g v) → IsFlying z t
  found_flying t left = ((leaves t left).each (IsFlying z) free.out.each).0

  -- ---- the ticket came back, and its event ended it

  pub lost_at : (t : Ticket) (cause : Option Stop) (m : ℕ) → IsWithout t (g d) (g v) → IsHistory (plain_of z) R (events_of z) → f ≡ grown z (e.Abort (number_of t) cause) → m ≡ l + cond (is_lanes cause) 1 0
      → IsFree F (under f (map g (set vs i v)) b m)
  lost_at t cause m left lawful is more = free_lost F R z f t (map g vs) (map g (set vs i v)) b l free lawful (leaves t left) cause m (length_at g vs i v) is more

  pub up_at : (t : Ticket) → IsWithout t (g d) (g v) → IsHistory (plain_of z) R (events_of z) → GivesUp z t f → IsFree F (under f (map g (set vs i v)) b l)
  up_at t left lawful up = free_up F R z f t (map g vs) (map g (set vs i v)) b l free lawful (leaves t left) (length_at g vs i v) up

  pub gave_at : (t : Ticket) (answer : Result Value EvalFault) → IsWithout t (g d) (g v) → IsHistory (plain_of z) R (events_of z) → (f ≡ grown z (e.Give (number_of t) answer)) ⊎ GivesUp z t f
      → IsFree F (under f (map g (set vs i v)) b l)
  gave_at t answer left lawful gave = free_gave F R z f t (map g vs) (map g (set vs i v)) b l free lawful (leaves t left) answer (length_at g vs i v) gave

  pub finished_at : (t : Ticket) (r : Report) (outs : Outs) (back : Option Ticket) → back ≡ None → IsWithout t (g d) (g v) → IsHistory (plain_of z) R (events_of z)
      → EndsOrUp z t (e.Finish (number_of t) r outs) outs back f → IsFree F (under f (map g (set vs i v)) b l)
  finished_at t r outs back none left lawful ends =
      free_finished F R z f t (map g vs) (map g (set vs i v)) b l free lawful (leaves t left) r outs (length_at g vs i v) (subst (λ o. EndsOrUp z t (e.Finish (number_of t) r outs) outs o f) none ends)

  pub reused_at : (t : Ticket) (r : Report) (outs : Outs) (back : Option Ticket) → back ≡ None → IsWithout t (g d) (g v) → IsHistory (plain_of z) R (events_of z)
      → EndsOrUp z t (e.Reuse (number_of t) r outs) outs back f → IsFree F (under f (map g (set vs i v)) b l)
  reused_at t r outs back none left lawful ends =
      free_reused F R z f t (map g vs) (map g (set vs i v)) b l free lawful (leaves t left) r outs (length_at g vs i v) (subst (λ o. EndsOrUp z t (e.Reuse (number_of t) r outs) outs o f) none ends)

  -- ---- it is out again

  pub finished_again_at : (t u : Ticket) (r : Report) (outs : Outs) (back : Option Ticket) (w : V) → back ≡ Some u → IsWithout t (g d) (g v) → IsHistory (plain_of z) R (events_of z)
      → EndsOrUp z t (e.Finish (number_of t) r outs) outs back f → g w ≡ g v ++ u ∷ [] → IsFree F (under f (map g (set vs i w)) b l)
  finished_again_at t u r outs back w some left lawful ends more =
      free_finished_again F R z f t (map g vs) (map g (set vs i v)) b l free lawful (leaves t left) r outs u (map g (set vs i w)) (length_at g vs i w)
      (subst (λ o. EndsOrUp z t (e.Finish (number_of t) r outs) outs o f) some ends) (regains g vs i v w u within more)

  pub reused_again_at : (t u : Ticket) (r : Report) (outs : Outs) (back : Option Ticket) (w : V) → back ≡ Some u → IsWithout t (g d) (g v) → IsHistory (plain_of z) R (events_of z)
      → EndsOrUp z t (e.Reuse (number_of t) r outs) outs back f → g w ≡ g v ++ u ∷ [] → IsFree F (under f (map g (set vs i w)) b l)
  reused_again_at t u r outs back w some left lawful ends more =
      free_reused_again F R z f t (map g vs) (map g (set vs i v)) b l free lawful (leaves t left) r outs u (map g (set vs i w)) (length_at g vs i w)
      (subst (λ o. EndsOrUp z t (e.Reuse (number_of t) r outs) outs o f) some ends) (regains g vs i v w u within more)

  begun_at : (t u : Ticket) (cause : Cause) (w : V) (c : ℕ) → IsWithout t (g d) (g v) → IsHistory (plain_of z) R (events_of z) → u ≡ t → f ≡ grown z (e.Start (number_of t) cause)
      → g w ≡ g v ++ u ∷ [] → c ≡ b + 1 → IsFree F (under f (map g (set vs i w)) c l)
  begun_at t u cause w c left lawful same is more starts =
      free_begun F R z f t (map g vs) (map g (set vs i v)) b l free lawful (leaves t left) u cause (map g (set vs i w)) c (length_at g vs i w) same is (regains g vs i v w u within more) starts

  -- what a look-up came to
  pub next_run_at : (job : JobParts) (t u : Ticket) (next : Next) (w : V) (c : ℕ) → next ≡ Run u → IsWithout t (g d) (g v) → IsHistory (plain_of z) R (events_of z) → IsNext F job z t next f
      → g w ≡ g v ++ u ∷ [] → c ≡ b + 1 → IsFree F (under f (map g (set vs i w)) c l)
  next_run_at job t u next w c at left lawful is more starts =
      let h : IsNext F job z t (Run u) f = subst (λ n. IsNext F job z t n f) at is in
      begun_at t u h.1.0 w c left lawful h.0 h.1.1 more starts

  pub next_look_at : (job : JobParts) (t u : Ticket) (r : Report) (next : Next) (w : V) → next ≡ Look u r → IsWithout t (g d) (g v) → IsNext F job z t next f → g w ≡ g v ++ u ∷ []
      → IsFree F (under f (map g (set vs i w)) b l)
  next_look_at job t u r next w at left is more =
      let h : IsNext F job z t (Look u r) f = subst (λ n. IsNext F job z t n f) at is in
      free_looked F z f t u (map g vs) (map g (set vs i v)) (map g (set vs i w)) b l free (leaves t left) (length_at g vs i w) h.0 h.2 (regains g vs i v w u within more)

  pub next_over_at : (job : JobParts) (t : Ticket) (next : Next) → next ≡ Over → IsWithout t (g d) (g v) → IsHistory (plain_of z) R (events_of z) → IsNext F job z t next f
      → IsFree F (under f (map g (set vs i v)) b l)
  next_over_at job t next at left lawful is = up_at t left lawful (subst (λ n. IsNext F job z t n f) at is)

  -- a Start with its cause
  pub started_at : (t u : Ticket) (cause : Cause) (back : Option Ticket) (w : V) (c : ℕ) → back ≡ Some u → IsWithout t (g d) (g v) → IsHistory (plain_of z) R (events_of z) → Starts z t cause back f
      → g w ≡ g v ++ u ∷ [] → c ≡ b + 1 → IsFree F (under f (map g (set vs i w)) c l)
  started_at t u cause back w c some left lawful is more starts =
      let h : Starts z t cause (Some u) f = subst (λ o. Starts z t cause o f) some is in
      begun_at t u cause w c left lawful h.0 h.1 more starts

  pub unstarted_at : (t : Ticket) (cause : Cause) (back : Option Ticket) → back ≡ None → IsWithout t (g d) (g v) → IsHistory (plain_of z) R (events_of z) → Starts z t cause back f
      → IsFree F (under f (map g (set vs i v)) b l)
  unstarted_at t cause back none left lawful is = up_at t left lawful (subst (λ o. Starts z t cause o f) none is)

-- what a look-up found
pub next_left : (F : Opening) (job : JobParts) (z f : Seen) (t u : Ticket) (r : Report) (next : Next) → next ≡ Look u r → IsNext F job z t next f → IsLeft F job r
next_left F job z f t u r next at is = let h : IsNext F job z t (Look u r) f = subst (λ n. IsNext F job z t n f) at is in h.1

-- ---- a Take

module _ (F : Opening) (R : Rules) {V : Type 0} (g : V → List Ticket) (vs : List V) (i : ℕ) (d v : V) (b l : ℕ) (z f : Seen)
    (free : IsFree F (under z (map g vs) b l)) (lane : i < length F.lanes) (place : d ≡ get_or vs i d) (node port from : ℕ) (t : Ticket)
    (lawful : IsHistory (plain_of z) R (events_of z)) (may : MayTake z.graph (state_of z) node port from) (is : f ≡ grown z (take_of z node port from))
    (number : number_of t ≡ (state_of z).next) (fly : IsFlying f t) where
  inside : i < length vs
  inside = let a = free.lanes in let c = length-map vs g in omega (arith, a, c, lane)

  pub taken_at : g v ≡ g d ++ t ∷ [] → IsFree F (under f (map g (set vs i v)) b l)
  taken_at more =
      free_taken R z f node port from t lawful may is number fly F (map g vs) (map g (set vs i v)) b l free (length_at g vs i v) (gains g vs i v d t inside (more ∙ ap (λ u. g u ++ t ∷ []) place))

  pub dropped_at : (u : Seen) (cause : Option Stop) → g v ≡ g d → u ≡ grown f (e.Abort (number_of t) cause) → is_lanes cause ≡ false → IsFree F (under u (map g (set vs i v)) b l)
  dropped_at u cause same up innocent =
      subst (λ out. IsFree F (under u out b l)) (sym (stays_at g vs i v d inside (same ∙ ap g place))) (free_dropped R z f node port from t lawful may is number fly F u cause (map g vs) b l free up innocent)
