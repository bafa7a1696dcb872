-- What a run keeps when a ticket's attempt starts, or is given up in its place.
use Rattle.std.proofs.Common.{◌≡◌, ◌≢◌, arith, ℕ, ◌≤◌, true, false, refl, sym, subst}
use Rattle.std.specs.Prelude.{Option, Some, None, is_none, is_some, Result, IfSome, MatchOption}
use Rattle.nf_value.specs.declared.value.Value.{Value}
use Rattle.nf_value.specs.declared.fault.EvalFault.{EvalFault}
use Rattle.nf_job.specs.declared.parts.JobParts.{JobParts}
use Rattle.nf_job.specs.declared.report.Report.{Report}
use Rattle.nf_graph.specs.Rules.{Rules}
use Rattle.nf_machine.specs.declared.event.Event.TheVariants as e
use Rattle.nf_machine.specs.declared.event.Cause.{Cause}
use Rattle.nf_machine.specs.declared.event.Cause.TheVariants.{NoRecord}
use Rattle.nf_machine.specs.declared.stop.Stop.{Stop}
use Rattle.nf_machine.specs.declared.stop.Stop.TheVariants as s
use Rattle.nf_machine.specs.declared.stop.Outside.TheVariants.{Keeper, Lane}
use Rattle.nf_host.specs.Faults.{Rose}
use Rattle.nf_stored.specs.Attempts.{IsJobOf}
use Rattle.nf_flight.specs.declared.ticket.Ticket.{Ticket}
use Rattle.nf_flight.specs.Ticket.{number_of}
use Rattle.nf_flow.specs.Seen.{Seen, state_of, grown, MayAdd}
use Rattle.nf_flow.specs.Questions.{IsFlying}
use Rattle.nf_core.specs.Opening.{Opening}
use Rattle.nf_core.specs.Told.{Ending, attempt_at, attempt_by}
use Rattle.nf_core.specs.declared.next.Next.{Next}
use Rattle.nf_core.specs.declared.next.Next.TheVariants.{Look}
use Rattle.nf_core.specs.Calls.{IsTask, IsAnswered, IsNext, Starts, GivesUp, run_or_over}
use Rattle.nf_core.specs.Causes.{IsCaused, IsLeft}
use Rattle.nf_core.specs.Leaves.{older_in, up_cause, MayStart, StartsOrUp}
use Rattle.nf_core.specs.Records.{key_of}
use Rattle.nf_record.specs.Lookup.{IsAnswer}
use Rattle.nf_record.specs.Laws.{RecordsReadBack}
use Rattle.nf_keeper.specs.Held.{Held}
use Rattle.nf_core.proofs.Asked.{asked}
use Rattle.nf_core.specs.Run.{Parts, IsRun}
use Rattle.nf_core.proofs.Seens.{in_flight}
use Rattle.nf_core.proofs.Entering.{writes_of}
use Rattle.nf_core.proofs.Events.{kept_quiet, kept_given_up, quiet_start}
use Rattle.nf_core.proofs.Legals.{may, start_legal, up_legal, up_innocent, outside_legal, job_at, grown_now}
use Rattle.nf_core.proofs.Viewed.{up_no_lane}

pub task_here : (f z : Seen) (t : Ticket) → f ≡ z → IsTask z t → IsTask f t
task_here f z t is h = subst (λ y. IsTask y t) (sym is) h

pub caused_here : (F : Opening) (f z : Seen) (job : JobParts) (cause : Cause) → f ≡ z → IsCaused F (writes_of F z) job cause → IsCaused F (writes_of F f) job cause
caused_here F f z job cause is h = subst (λ y. IsCaused F (writes_of F y) job cause) (sym is) h

pub answered_here : (R : Rules) (f z : Seen) (t : Ticket) (answer : Result Value EvalFault) → f ≡ z → IsAnswered R z t answer → IsAnswered R f t answer
answered_here R f z t answer is h = subst (λ y. IsAnswered R y t answer) (sym is) h

module _ {F : Opening} {D S : Type 0} {done : D → Ending → Type 0} {seen : S → Ending → Type 0} {z : Parts D S} where
  -- what a start asks
  pub may_start : (t : Ticket) (job : JobParts) (cause : Cause) → IsRun F done seen z → IsFlying z.flow t → IsTask z.flow t → IsJobOf F.rules (attempt_by t) job → MayStart z.flow t cause
  may_start t job cause run f task of on fresh = may (e.Start (number_of t) cause) run (start_legal F z.flow t job cause f task of on fresh)

  -- a ticket may always be given up
  pub may_up : (t : Ticket) → IsRun F done seen z → IsFlying z.flow t → MayAdd z.flow (e.Abort (number_of t) (up_cause z.flow))
  may_up t run f = may (e.Abort (number_of t) (up_cause z.flow)) run (up_legal F z.flow t f)

  pub may_blame_keeper : (t : Ticket) → IsRun F done seen z → IsFlying z.flow t → MayAdd z.flow (e.Abort (number_of t) (Some (s.Outside Keeper)))
  may_blame_keeper t run f = may (e.Abort (number_of t) (Some (s.Outside Keeper))) run (outside_legal F z.flow t Keeper f)

  pub kept_up : (t : Ticket) (u : Seen) (faults : ℕ) → IsRun F done seen z → IsFlying z.flow t → z.faults ≤ faults → u ≡ grown z.flow (e.Abort (number_of t) (up_cause z.flow))
      → IsRun F done seen (record z { flow = u; faults = faults })
  kept_up t u faults run f later new = kept_given_up (number_of t) (up_cause z.flow) u faults run (up_legal F z.flow t f) later (λ b. absurd (up_innocent z.flow Keeper b)) new

  pub kept_blamed : (t : Ticket) (u : Seen) (faults : ℕ) → IsRun F done seen z → IsFlying z.flow t → z.faults ≤ faults → Rose z.faults faults
      → u ≡ grown z.flow (e.Abort (number_of t) (Some (s.Outside Keeper))) → IsRun F done seen (record z { flow = u; faults = faults })
  kept_blamed t u faults run f later rose new =
      kept_given_up (number_of t) (Some (s.Outside Keeper)) u faults run (outside_legal F z.flow t Keeper f) later (λ b. let l = run.later in omega (arith, l, rose)) new

  pub kept_start : (t : Ticket) (job : JobParts) (cause : Cause) (r : Option Ticket) (u : Seen) (faults : ℕ) → IsRun F done seen z → IsFlying z.flow t → IsTask z.flow t
      → IsJobOf F.rules (attempt_by t) job → IsCaused F (writes_of F z.flow) job cause → z.faults ≤ faults → StartsOrUp z.flow t cause r u → IsRun F done seen (record z { flow = u; faults = faults })
  kept_start t job cause (Some v) u faults run f task of why later h =
      kept_quiet (e.Start (number_of t) cause) u faults run
      (quiet_start (start_legal F z.flow t job cause f task of h.2 h.3)
      (in_flight (state_of z.flow) (number_of t) f.ticket (λ k. (job : JobParts) × IsJobOf F.rules (attempt_at k) job × IsCaused F (writes_of F z.flow) job cause) f.there
      (job, job_at F.rules t f.ticket job f.is of, why))) later h.1
  kept_start t job cause None u faults run f task of why later h = kept_up t u faults run f later h

  -- a keeper that was only asked
  pub with_held : (held : Option Held) → IsRun F done seen z → held ≡ z.held → IsRun F done seen (record z { held = held })
  with_held held run same = subst (λ m. IsRun F done seen (record z { held = m })) (sym same) run

  pub with_faults : (faults : ℕ) → IsRun F done seen z → z.faults ≤ faults → IsRun F done seen (record z { faults = faults })
  with_faults faults run later = record {
    graph = run.graph;
    resumed = run.resumed;
    rules = run.rules;
    apart = run.apart;
    lawful = run.lawful;
    finished = run.finished;
    reused = run.reused;
    warranted = run.warranted;
    records = run.records;
    sound = run.sound;
    later = (let a = run.later in omega (arith, a, later));
    blamed = λ t c. let r = run.blamed t c in omega (arith, r, later);
  }

  -- what the answer of the keeper's records tells of the ticket's job
  pub answered : RecordsReadBack → (t : Ticket) (job : JobParts) (o : Option Report) → IsRun F done seen z → F.resumed ≡ true → is_some (state_of z.flow).stop ≡ false → IsFlying z.flow t
      → IsJobOf F.rules (attempt_by t) job → IfSome z.held (λ n. IsAnswer (n (key_of job)) (older_in n job) job o)
      → MatchOption o (IsCaused F (writes_of F z.flow) job NoRecord) (λ r. IsLeft F job r)
  answered law t job o run resumed on f of answer = asked law (number_of t) f.ticket job o run resumed on f.there (job_at F.rules t f.ticket job f.is of) answer

-- what callers see of it
pub next_so : (F : Opening) (job : JobParts) (z u : Seen) (t : Ticket) (cause : Cause) (r : Option Ticket) (n : Next) → n ≡ run_or_over r → Starts z t cause r u → IsNext F job z t n u
next_so F job z u t cause (Some v) n is h = subst (λ m. IsNext F job z t m u) (sym is) (h.0, (cause, h.1))
next_so F job z u t cause None n is h = subst (λ m. IsNext F job z t m u) (sym is) h

pub looks : (F : Opening) (job : JobParts) (z f : Seen) (t : Ticket) (r : Report) → f ≡ z → IsLeft F job r → is_some (state_of f).stop ≡ false → IsNext F job z t (Look t r) f
looks F job z f t r is left on = (refl, left, is, subst (λ y. is_none (state_of y).stop ≡ true) is (none_so (state_of f).stop on)) where
  none_so : {A : Type 0} (o : Option A) → is_some o ≡ false → is_none o ≡ true
  none_so None h = refl
  none_so (Some x) h = absurd (cc)

pub starts : (z f u : Seen) (t : Ticket) (cause : Cause) (r : Option Ticket) → f ≡ z → StartsOrUp f t cause r u → Starts z t cause r u
starts z f u t cause (Some v) is h = (h.0, grown_now z f u (e.Start (number_of t) cause) is h.1)
starts z f u t cause None is h = record { cause = up_cause f; innocent = up_no_lane f; is = grown_now z f u (e.Abort (number_of t) (up_cause f)) is h }

pub gave_up : (z f u : Seen) (t : Ticket) (cause : Option Stop) → cause ≢ Some (s.Outside Lane) → f ≡ z → u ≡ grown f (e.Abort (number_of t) cause) → GivesUp z t u
gave_up z f u t cause clean is new = record { cause = cause; innocent = clean; is = grown_now z f u (e.Abort (number_of t) cause) is new }
