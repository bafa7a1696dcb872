-- What a run keeps when a task's attempt ends, or is given up in its place.
use Rattle.std.proofs.Common.{◌≡◌, ◌≢◌, arith, ℕ, ◌≤◌, List, [], ◌∷◌, ◌++◌, true, false, ap, sym, subst, ◌∙◌, inl}
use Rattle.std.specs.Prelude.{Option, Some, None, is_some, option_map, IfSome, Result, Ok}
use Rattle.nf_job.specs.declared.parts.JobParts.{JobParts}
use Rattle.nf_job.specs.declared.report.Report.{Report}
use Rattle.nf_job.specs.JobText.{job_text}
use Rattle.nf_graph.specs.Rules.{Outs}
use Rattle.nf_machine.specs.declared.event.Event.{Event}
use Rattle.nf_machine.specs.declared.event.Event.TheVariants as e
use Rattle.nf_machine.specs.declared.stop.Stop.{Stop}
use Rattle.nf_machine.specs.declared.stop.Stop.TheVariants as s
use Rattle.nf_machine.specs.declared.stop.Outside.TheVariants.{Keeper, Lane}
use Rattle.nf_machine.specs.Event.{abort, stop_of, outside_stop}
use Rattle.nf_machine.specs.Legal.{IsLegal}
use Rattle.nf_host.specs.Faults.{Rose}
use Rattle.nf_stored.specs.Attempts.{IsJobOf}
use Rattle.nf_keeper.specs.Held.{Held, Both}
use Rattle.nf_record.specs.Laws.{RecordsReadBack, NoFrontIsARecord}
use Rattle.nf_flight.specs.declared.ticket.Ticket.{Ticket}
use Rattle.nf_flight.specs.Ticket.{number_of, node_of, inputs_of, attempt_of}
use Rattle.nf_flow.specs.Seen.{Seen, plain_of, state_of, roomy, grown, lost, MayAdd}
use Rattle.nf_flow.specs.Questions.{IsFlying, IsStarted, ComesBack}
use Rattle.nf_core.specs.declared.ran.Ran.{Ran}
use Rattle.nf_core.specs.Ran.{done_of, report_of, outs_of, bytes_of}
use Rattle.nf_core.specs.Opening.{Opening, GivesReport}
use Rattle.nf_core.specs.Told.{Ending, IsDoneOf, attempt_at, attempt_by}
use Rattle.nf_core.specs.Calls.{IsTask, IsEnteredBy, EndsOrUp, GivesUp}
use Rattle.nf_core.specs.Causes.{IsLeft}
use Rattle.nf_core.specs.Kept.{IsRecordFor, LeavesRecord}
use Rattle.nf_core.specs.Leaves.{up_cause}
use Rattle.nf_core.specs.Records.{is_recorded, key_of}
use Rattle.nf_core.specs.Run.{Parts, IsRun}
use Rattle.nf_core.proofs.Seens.{roomy_may}
use Rattle.nf_core.proofs.Events.{kept_given_up, kept_spoiled, kept_finished, kept_reused}
use Rattle.nf_core.proofs.Legals.{finish_legal, reuse_legal, up_legal, up_innocent, outside_legal, memory_legal, job_at, grown_on}
use Rattle.nf_core.proofs.Starting.{kept_up, task_here}

-- ---- tickets given up, wherever the call stands

pub may_up_now : (f m : Seen) (t : Ticket) → m ≡ f → MayAdd f (e.Abort (number_of t) (up_cause f)) → MayAdd m (e.Abort (number_of t) (up_cause m))
may_up_now f m t is h = subst (λ y. MayAdd y (e.Abort (number_of t) (up_cause y))) (sym is) h

pub may_up_on : (f m : Seen) (t : Ticket) → m ≡ roomy f → MayAdd f (e.Abort (number_of t) (up_cause f)) → MayAdd m (e.Abort (number_of t) (up_cause m))
may_up_on f m t is h = subst (λ y. MayAdd y (e.Abort (number_of t) (up_cause y))) (sym is) (roomy_may h)

pub may_on : (f m : Seen) (x : Event) → m ≡ roomy f → MayAdd f x → MayAdd m x
may_on f m x is h = subst (λ y. MayAdd y x) (sym is) (roomy_may h)

pub up_now : (f m u : Seen) (t : Ticket) → m ≡ f → u ≡ grown m (e.Abort (number_of t) (up_cause m)) → u ≡ grown f (e.Abort (number_of t) (up_cause f))
up_now f m u t is new = new ∙ ap (λ y. grown y (e.Abort (number_of t) (up_cause y))) is

pub up_on : (f m u : Seen) (t : Ticket) → m ≡ roomy f → u ≡ grown m (e.Abort (number_of t) (up_cause m)) → u ≡ grown f (e.Abort (number_of t) (up_cause f))
up_on f m u t is new = new ∙ ap (λ y. grown y (e.Abort (number_of t) (up_cause y))) is

-- ---- started attempts that end

-- what is known of one
pub record IsEnded (F : Opening) (z : Seen) (t : Ticket) (job : JobParts) (r : Report) (outs : Outs) (bytes : Option (List ℕ)) : Type 0 where
  pub flying : IsFlying z t
  pub task : IsTask z t
  pub of : IsJobOf F.rules (attempt_by t) job
  pub started : IsStarted z t true
  pub gives : GivesReport F (job_text job) r
  pub kept : IsRecordFor (is_recorded outs) job r bytes
  pub by_rule : outs ≡ F.rules.outputs (node_of t) (inputs_of t) (attempt_of t) r

module _ {D : Type 0} {genuine : D → Type 0} {job_in : D → List ℕ} {told : D → Report} where
  pub ended : (F : Opening) (f z : Seen) (t : Ticket) (job : JobParts) (x : Ran D) → f ≡ z → IsFlying z t → IsTask z t → IsJobOf F.rules (attempt_by t) job → IsStarted f t true
      → IsEnteredBy F (record { genuine = genuine; job = job_in; told = told }) t job x → IsEnded F f t job (report_of x) (outs_of x) (bytes_of x)
  ended F f z t job x is flying task of started by = record {
    flying = subst (λ y. IsFlying y t) (sym is) flying;
    task = task_here f z t is task;
    of = of;
    started = started;
    gives = by.world;
    kept = subst (λ r. IsRecordFor (is_recorded (outs_of x)) job r (bytes_of x)) (sym by.ran.report_is) by.ran.bytes_are;
    by_rule = subst (λ r. outs_of x ≡ F.rules.outputs (node_of t) (inputs_of t) (attempt_of t) r) (sym by.ran.report_is) by.ran.outs_are;
  }

  pub done_so : (F : Opening) (f : Seen) (t : Ticket) (job : JobParts) (x : Ran D) (flying : IsFlying f t) → IsJobOf F.rules (attempt_by t) job
      → IsEnteredBy F (record { genuine = genuine; job = job_in; told = told }) t job x → IsDoneOf genuine job_in told F.rules (done_of x) (record { attempt = attempt_at flying.ticket; report = report_of x })
  done_so F f t job x flying of by = record {
    real = by.real;
    text = record { job = job; of = job_at F.rules t flying.ticket job flying.is of; is = by.text };
    report = sym by.ran.report_is;
  }

-- want of memory blames nobody
pub mem_innocent : option_map stop_of (Some s.Mem) ≡ Some (outside_stop Keeper) → ⊥
mem_innocent h = cc

module _ {F : Opening} {D S : Type 0} {done : D → Ending → Type 0} {seen : S → Ending → Type 0} {z : Parts D S} where
  pub up_with_dones : (t : Ticket) (u : Seen) (dones : List D) → IsRun F done seen z → IsFlying z.flow t → dones ≡ z.dones
      → u ≡ grown z.flow (e.Abort (number_of t) (up_cause z.flow)) → IsRun F done seen (record z { flow = u; dones = dones })
  up_with_dones t u dones run f same new = subst (λ ds. IsRun F done seen (record z { flow = u; dones = ds })) (sym same) (kept_up t u z.faults run f (omega arith) new)

  pub up_with_seens : (t : Ticket) (u : Seen) (seens : List S) → IsRun F done seen z → IsFlying z.flow t → seens ≡ z.seens
      → u ≡ grown z.flow (e.Abort (number_of t) (up_cause z.flow)) → IsRun F done seen (record z { flow = u; seens = seens })
  up_with_seens t u seens run f same new = subst (λ ss. IsRun F done seen (record z { flow = u; seens = ss })) (sym same) (kept_up t u z.faults run f (omega arith) new)

  -- given up after a put of the record was begun
  pub kept_lost : {T E : Type 0} → RecordsReadBack → NoFrontIsARecord → (t : Ticket) (job : JobParts) (r : Report) (outs : Outs) (bytes : Option (List ℕ)) (cause : Option Stop) (u : Seen) (dones : List D)
      (held : Option Held) (faults : ℕ) (x : Result T E) → IsRun F done seen z → IsEnded F z.flow t job r outs bytes
      → IsLegal (plain_of z.flow) F.rules (state_of z.flow) (abort (number_of t) (option_map stop_of cause)) → dones ≡ z.dones
      → Both z.held held (LeavesRecord (key_of job) bytes x) → z.faults ≤ faults → (option_map stop_of cause ≡ Some (outside_stop Keeper) → Rose F.faults faults)
      → u ≡ grown z.flow (e.Abort (number_of t) cause) → IsRun F done seen (record z { flow = u; dones = dones; held = held; faults = faults })
  kept_lost law fronts t job r outs bytes cause u dones held faults x run k legal same left later blame new =
      let f = k.flying in
      subst (λ ds. IsRun F done seen (record z { flow = u; dones = ds; held = held; faults = faults })) (sym same)
      (kept_spoiled law fronts (number_of t) f.ticket cause u held faults job r (is_recorded outs) bytes x run legal f.there (sym (k.started f.ticket f.there)) (job_at F.rules t f.ticket job f.is k.of).job
      k.gives k.kept left later blame new)

  pub kept_lost_up : {T E : Type 0} → RecordsReadBack → NoFrontIsARecord → (t : Ticket) (job : JobParts) (r : Report) (outs : Outs) (bytes : Option (List ℕ)) (u : Seen) (dones : List D)
      (held : Option Held) (faults : ℕ) (x : Result T E) → IsRun F done seen z → IsEnded F z.flow t job r outs bytes → dones ≡ z.dones
      → Both z.held held (LeavesRecord (key_of job) bytes x) → z.faults ≤ faults
      → u ≡ grown z.flow (e.Abort (number_of t) (up_cause z.flow)) → IsRun F done seen (record z { flow = u; dones = dones; held = held; faults = faults })
  kept_lost_up law fronts t job r outs bytes u dones held faults x run k same left later new =
      kept_lost law fronts t job r outs bytes (up_cause z.flow) u dones held faults x run k (up_legal F z.flow t k.flying) same left later (λ b. absurd (up_innocent z.flow Keeper b)) new

  pub kept_lost_keeper : {T E : Type 0} → RecordsReadBack → NoFrontIsARecord → (t : Ticket) (job : JobParts) (r : Report) (outs : Outs) (bytes : Option (List ℕ)) (u : Seen) (dones : List D)
      (held : Option Held) (faults : ℕ) (x : Result T E) → IsRun F done seen z → IsEnded F z.flow t job r outs bytes → dones ≡ z.dones
      → Both z.held held (LeavesRecord (key_of job) bytes x) → z.faults ≤ faults → Rose z.faults faults
      → u ≡ grown z.flow (e.Abort (number_of t) (Some (s.Outside Keeper))) → IsRun F done seen (record z { flow = u; dones = dones; held = held; faults = faults })
  kept_lost_keeper law fronts t job r outs bytes u dones held faults x run k same left later rose new =
      kept_lost law fronts t job r outs bytes (Some (s.Outside Keeper)) u dones held faults x run k (outside_legal F z.flow t Keeper k.flying) same left later (λ b. let l = run.later in omega (arith, l, rose)) new

  -- for want of memory
  pub kept_lost_mem : {T E : Type 0} → RecordsReadBack → NoFrontIsARecord → (t : Ticket) (job : JobParts) (r : Report) (outs : Outs) (bytes : Option (List ℕ)) (u : Seen) (dones : List D)
      (held : Option Held) (faults : ℕ) (x : Result T E) → IsRun F done seen z → IsEnded F z.flow t job r outs bytes → dones ≡ z.dones
      → Both z.held held (LeavesRecord (key_of job) bytes x) → z.faults ≤ faults
      → u ≡ grown z.flow (lost (number_of t)) → IsRun F done seen (record z { flow = u; dones = dones; held = held; faults = faults })
  kept_lost_mem law fronts t job r outs bytes u dones held faults x run k same left later new =
      kept_lost law fronts t job r outs bytes (Some s.Mem) u dones held faults x run k (memory_legal F z.flow t k.flying) same left later (λ b. absurd (mem_innocent b)) new

  -- the attempt ended
  pub kept_ended : (T E : Type 0) (v : T) → RecordsReadBack → NoFrontIsARecord → (t : Ticket) (job : JobParts) (r : Report) (outs : Outs) (bytes : Option (List ℕ)) (u : Seen) (d : D) (before dones : List D)
      (held : Option Held) (faults : ℕ) → IsRun F done seen z → (k : IsEnded F z.flow t job r outs bytes) → before ≡ z.dones → dones ≡ before ++ d ∷ [] → done d (record { attempt = attempt_at k.flying.ticket; report = r })
      → Both z.held held (LeavesRecord {T = T} {E = E} (key_of job) bytes (Ok v)) → z.faults ≤ faults
      → u ≡ grown z.flow (e.Finish (number_of t) r outs) → IsRun F done seen (record z { flow = u; dones = dones; held = held; faults = faults })
  kept_ended T E v law fronts t job r outs bytes u d before dones held faults run k same more real left later new =
      let f = k.flying in
      kept_finished law fronts T E v (number_of t) f.ticket u held faults d dones job r outs bytes run (finish_legal F z.flow t r outs f k.task k.started k.by_rule) f.there (job_at F.rules t f.ticket job f.is k.of)
      k.gives k.kept left later (more ∙ ap (λ ds. ds ++ d ∷ []) same) real new

  -- the report that an earlier run left was taken in place of a run
  pub kept_taken : (t : Ticket) (f : IsFlying z.flow t) (job : JobParts) (r : Report) (outs : Outs) (u : Seen) (x : S) (before seens : List S) → IsRun F done seen z → IsTask z.flow t → IsJobOf F.rules (attempt_by t) job
      → is_some (state_of z.flow).stop ≡ false → IsStarted z.flow t false → outs ≡ F.rules.outputs (node_of t) (inputs_of t) (attempt_of t) r → IsLeft F job r
      → before ≡ z.seens → seens ≡ before ++ x ∷ [] → seen x (record { attempt = attempt_at f.ticket; report = r })
      → u ≡ grown z.flow (e.Reuse (number_of t) r outs) → IsRun F done seen (record z { flow = u; seens = seens })
  kept_taken t f job r outs u x before seens run task of on fresh by left same more real new =
      kept_reused (number_of t) f.ticket u x seens job r outs run (reuse_legal F z.flow t job r outs f task of on fresh by) f.there (job_at F.rules t f.ticket job f.is of) left
      (more ∙ ap (λ ss. ss ++ x ∷ []) same) real new

  -- given up for want of memory
  pub up_for_mem : (t : Ticket) (u : Seen) (seens : List S) → IsRun F done seen z → IsFlying z.flow t → seens ≡ z.seens
      → u ≡ grown z.flow (lost (number_of t)) → IsRun F done seen (record z { flow = u; seens = seens })
  up_for_mem t u seens run f same new =
      subst (λ ss. IsRun F done seen (record z { flow = u; seens = ss })) (sym same)
      (kept_given_up (number_of t) (Some s.Mem) u z.faults run (memory_legal F z.flow t f) (omega arith) (λ b. absurd (mem_innocent b)) new)

-- ---- what callers see

pub ended_so : (z f u : Seen) (t : Ticket) (x : Event) (outs : Outs) (back : Option Ticket) → f ≡ roomy z → u ≡ grown f x → ComesBack t outs back → IfSome back (IsFlying u)
    → EndsOrUp z t x outs back u
ended_so z f u t x outs None is new b flying = inl (record { is = grown_on z f u x is new; again = b; flying = tt })
ended_so z f u t x outs (Some v) is new b flying = record { is = grown_on z f u x is new; again = b; flying = flying }

pub gave_up_on : (z f u : Seen) (t : Ticket) (cause : Option Stop) → cause ≢ Some (s.Outside Lane) → f ≡ roomy z → u ≡ grown f (e.Abort (number_of t) cause) → GivesUp z t u
gave_up_on z f u t cause clean is new = record { cause = cause; innocent = clean; is = grown_on z f u (e.Abort (number_of t) cause) is new }
