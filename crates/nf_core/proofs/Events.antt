-- What a run keeps when it enters an event.
use Rattle.std.proofs.Common.{◌≡◌, ℕ, ◌≤◌, List, [], ◌∷◌, ◌++◌, Bool, true, false, refl, ap, sym, arith}
use Rattle.std.specs.Prelude.{Option, Some, None, option_map, Result, Ok, Err, OnOk, OnErr}
use Rattle.std.proofs.lemmas.List.{append-nil}
use Rattle.nf_value.specs.Plain.{Plain}
use Rattle.nf_value.specs.declared.fault.EvalFault.{EvalFault}
use Rattle.nf_job.specs.declared.parts.JobParts.{JobParts}
use Rattle.nf_job.specs.declared.report.Report.{Report}
use Rattle.nf_job.specs.JobText.{job_text}
use Rattle.nf_graph.specs.Rules.{Outs}
use Rattle.nf_machine.specs.declared.event.Event.{Event}
use Rattle.nf_machine.specs.declared.event.Event.TheVariants as e
use Rattle.nf_machine.specs.declared.event.Cause.{Cause}
use Rattle.nf_machine.specs.declared.stop.Stop.{Stop}
use Rattle.nf_machine.specs.declared.stop.Outside.TheVariants.{Keeper}
use Rattle.nf_machine.specs.Event.{PlainEvent, PlainStop, pass, taking, give, start, finish, reuse, close, abort, halt, stop_of, outside_stop}
use Rattle.nf_machine.specs.State.{Ticket}
use Rattle.nf_machine.specs.Step.{ticket_at}
use Rattle.nf_machine.specs.Legal.{IsLegal}
use Rattle.nf_host.specs.Faults.{Rose}
use Rattle.nf_keeper.specs.Held.{Held, Both}
use Rattle.nf_lane.specs.World.{World}
use Rattle.nf_stored.specs.Attempts.{job_of, IsJobOf}
use Rattle.nf_record.specs.Record.{record_for, IsWellFormed}
use Rattle.nf_record.specs.Laws.{RecordsReadBack, NoFrontIsARecord}
use Rattle.nf_flow.specs.Seen.{Seen, plain_of, state_of, grown}
use Rattle.nf_core.specs.Opening.{Opening, IsSteady, GivesReport}
use Rattle.nf_core.specs.Told.{Ending, attempt_at, finished_by, reused_by}
use Rattle.nf_core.specs.Records.{writes_by, key_of, is_recorded, IsSound}
use Rattle.nf_core.specs.Causes.{IsWarranted, IsLeft}
use Rattle.nf_core.specs.Kept.{IsRecordFor, LeavesRecord}
use Rattle.nf_core.specs.Run.{Parts, IsRun}
use Rattle.nf_core.proofs.Seens.{event_in}
use Rattle.nf_core.proofs.Entering.{Follows, writes_of, entered, both_map, both_refl}
use Rattle.nf_core.proofs.Records.{abort_follows, left_follows, finish_follows, stays_sound}

-- an event that ends no attempt and writes nothing
pub record IsQuiet (F : Opening) (z : Seen) (x : PlainEvent) : Type 0 where
  pub legal : IsLegal (plain_of z) F.rules (state_of z) x
  pub warranted : IsWarranted F (state_of z) (writes_of F z) x
  pub finished : finished_by (state_of z) x ≡ []
  pub reused : reused_by (state_of z) x ≡ []
  pub written : writes_by F.rules (state_of z) x ≡ []
  pub innocent : (t : ℕ) → x ≡ abort t (Some (outside_stop Keeper)) → ⊥

pub quiet_pass : {F : Opening} {z : Seen} {i k : ℕ} → IsLegal (plain_of z) F.rules (state_of z) (pass i k) → IsQuiet F z (pass i k)
quiet_pass l = record { legal = l; warranted = tt; finished = refl; reused = refl; written = refl; innocent = λ t q. absurd (cc) }

pub quiet_take : {F : Opening} {z : Seen} {i port place t n : ℕ} → IsLegal (plain_of z) F.rules (state_of z) (taking i port place t n) → IsQuiet F z (taking i port place t n)
quiet_take l = record { legal = l; warranted = tt; finished = refl; reused = refl; written = refl; innocent = λ t q. absurd (cc) }

pub quiet_close : {F : Opening} {z : Seen} {i : ℕ} → IsLegal (plain_of z) F.rules (state_of z) (close i) → IsQuiet F z (close i)
quiet_close l = record { legal = l; warranted = tt; finished = refl; reused = refl; written = refl; innocent = λ t q. absurd (cc) }

pub quiet_halt : {F : Opening} {z : Seen} → IsLegal (plain_of z) F.rules (state_of z) halt → IsQuiet F z halt
quiet_halt l = record { legal = l; warranted = tt; finished = refl; reused = refl; written = refl; innocent = λ t q. absurd (cc) }

pub quiet_give : {F : Opening} {z : Seen} {t : ℕ} {a : Result Plain EvalFault} → IsLegal (plain_of z) F.rules (state_of z) (give t a) → IsQuiet F z (give t a)
quiet_give l = record { legal = l; warranted = tt; finished = refl; reused = refl; written = refl; innocent = λ t q. absurd (cc) }

pub quiet_start : {F : Opening} {z : Seen} {t : ℕ} {c : Cause} → IsLegal (plain_of z) F.rules (state_of z) (start t c) → IsWarranted F (state_of z) (writes_of F z) (start t c) → IsQuiet F z (start t c)
quiet_start l w = record { legal = l; warranted = w; finished = refl; reused = refl; written = refl; innocent = λ t q. absurd (cc) }

pub kept_quiet : {F : Opening} {D S : Type 0} {done : D → Ending → Type 0} {seen : S → Ending → Type 0} {z : Parts D S} (x : Event) (f : Seen) (faults : ℕ) → IsRun F done seen z
    → IsQuiet F z.flow (event_in z.flow x) → z.faults ≤ faults → f ≡ grown z.flow x → IsRun F done seen (record z { flow = f; faults = faults })
kept_quiet {F} {done = done} {seen = seen} {z = z} x f faults k q later new = entered z (record z { flow = f; faults = faults }) x k
    (record {
      legal = q.legal;
      warranted = q.warranted;
      dones = [];
      dones_are = sym (append-nil z.dones);
      finished = rw q.finished tt;
      seens = [];
      seens_are = sym (append-nil z.seens);
      reused = rw q.reused tt;
      resumed = refl;
      records = rw q.written (both_refl _ z.held (λ m p u h. h));
      sound = λ w steady s. s;
      later = later;
      blamed = λ t is. absurd (q.innocent t is);
    })
    new

-- a call that entered the event, or Halt
pub kept_or_halt : {F : Opening} {D S A E : Type 0} {done : D → Ending → Type 0} {seen : S → Ending → Type 0} {z : Parts D S} (r : Result A E) (x : Event) (f : Seen) → IsRun F done seen z
    → IsQuiet F z.flow (event_in z.flow x) → (state_of z.flow).stop ≡ None → OnOk r (f ≡ grown z.flow x) → OnErr r (f ≡ grown z.flow e.Halt) → IsRun F done seen (record z { flow = f })
kept_or_halt {z = z} (Ok v) x f k q on ok err = kept_quiet x f z.faults k q (omega arith) ok
kept_or_halt {z = z} (Err v) x f k q on ok err = kept_quiet e.Halt f z.faults k (quiet_halt on) (omega arith) err

-- ---- tickets given up

cause_in : PlainEvent → Option PlainStop
cause_in (abort t c) = c
cause_in _ = None

same_cause : (t u : ℕ) (c d : Option PlainStop) → abort t c ≡ abort u d → c ≡ d
unfolding cause_in
same_cause t u c d e = ap cause_in e

pub kept_abort : {F : Opening} {D S : Type 0} {done : D → Ending → Type 0} {seen : S → Ending → Type 0} {z : Parts D S}
    (t : ℕ) (cause : Option Stop) (f : Seen) (held : Option Held) (faults : ℕ) → IsRun F done seen z
    → IsLegal (plain_of z.flow) F.rules (state_of z.flow) (abort t (option_map stop_of cause))
    → Both z.held held (Follows (writes_by F.rules (state_of z.flow) (abort t (option_map stop_of cause))))
    → ((w : World) → IsSteady w F → IsSound w z.held → IsSound w held)
    → z.faults ≤ faults → (option_map stop_of cause ≡ Some (outside_stop Keeper) → Rose F.faults faults)
    → f ≡ grown z.flow (e.Abort t cause) → IsRun F done seen (record z { flow = f; held = held; faults = faults })
kept_abort {F} {done = done} {seen = seen} {z = z} t cause f held faults k legal records sound later blame new =
    entered z (record z { flow = f; held = held; faults = faults }) (e.Abort t cause) k
    (record {
      legal = legal;
      warranted = tt;
      dones = [];
      dones_are = sym (append-nil z.dones);
      finished = tt;
      seens = [];
      seens_are = sym (append-nil z.seens);
      reused = tt;
      resumed = refl;
      records = records;
      sound = sound;
      later = later;
      blamed = λ u is. blame (same_cause t u (option_map stop_of cause) (Some (outside_stop Keeper)) is);
    })
    new

-- no put was begun
pub kept_given_up : {F : Opening} {D S : Type 0} {done : D → Ending → Type 0} {seen : S → Ending → Type 0} {z : Parts D S}
    (t : ℕ) (cause : Option Stop) (f : Seen) (faults : ℕ) → IsRun F done seen z
    → IsLegal (plain_of z.flow) F.rules (state_of z.flow) (abort t (option_map stop_of cause))
    → z.faults ≤ faults → (option_map stop_of cause ≡ Some (outside_stop Keeper) → Rose F.faults faults)
    → f ≡ grown z.flow (e.Abort t cause) → IsRun F done seen (record z { flow = f; faults = faults })
kept_given_up {F} {z = z} t cause f faults k legal later blame new =
    kept_abort t cause f z.held faults k legal (both_refl _ z.held (abort_follows F.rules (ticket_at t (state_of z.flow).tickets))) (λ w steady s. s) later blame new

-- a put of the record of the ticket's job was begun
pub kept_spoiled : {F : Opening} {D S T E : Type 0} {done : D → Ending → Type 0} {seen : S → Ending → Type 0} {z : Parts D S} → RecordsReadBack → NoFrontIsARecord
    → (t : ℕ) (k : Ticket) (cause : Option Stop) (f : Seen) (held : Option Held) (faults : ℕ) (job : JobParts) (r : Report) (recorded : Bool) (bytes : Option (List ℕ)) (x : Result T E)
    → IsRun F done seen z
    → IsLegal (plain_of z.flow) F.rules (state_of z.flow) (abort t (option_map stop_of cause))
    → ticket_at t (state_of z.flow).tickets ≡ Some k → k.started ≡ true → job_of F.rules (attempt_at k) ≡ Ok job
    → GivesReport F (job_text job) r → IsRecordFor recorded job r bytes → Both z.held held (LeavesRecord (key_of job) bytes x)
    → z.faults ≤ faults → (option_map stop_of cause ≡ Some (outside_stop Keeper) → Rose F.faults faults)
    → f ≡ grown z.flow (e.Abort t cause) → IsRun F done seen (record z { flow = f; held = held; faults = faults })
kept_spoiled {F} {z = z} law fronts t k cause f held faults job r recorded bytes x run legal there on is gives kept left later blame new =
    kept_abort t cause f held faults run legal
    (both_map z.held held left (λ m n p. rw there (left_follows F.rules k job bytes x m n on is p)))
    (λ w steady s. stays_sound law fronts F w recorded job r bytes x z.held held steady gives kept left s) later blame new

-- ---- attempts that end

pub kept_finished : {F : Opening} {D S : Type 0} {done : D → Ending → Type 0} {seen : S → Ending → Type 0} {z : Parts D S} → RecordsReadBack → NoFrontIsARecord
    → (T E : Type 0) (v : T) (t : ℕ) (k : Ticket) (f : Seen) (held : Option Held) (faults : ℕ) (d : D) (dones : List D) (job : JobParts) (r : Report) (outs : Outs) (bytes : Option (List ℕ))
    → IsRun F done seen z
    → IsLegal (plain_of z.flow) F.rules (state_of z.flow) (finish t r outs)
    → ticket_at t (state_of z.flow).tickets ≡ Some k → IsJobOf F.rules (attempt_at k) job
    → GivesReport F (job_text job) r → IsRecordFor (is_recorded outs) job r bytes
    → Both z.held held (LeavesRecord {T = T} {E = E} (key_of job) bytes (Ok v))
    → z.faults ≤ faults → dones ≡ z.dones ++ d ∷ [] → done d (record { attempt = attempt_at k; report = r })
    → f ≡ grown z.flow (e.Finish t r outs) → IsRun F done seen (record z { flow = f; dones = dones; held = held; faults = faults })
kept_finished {F} {done = done} {seen = seen} {z = z} law fronts T E v t k f held faults d dones job r outs bytes run legal there of gives kept left later more real new =
    entered z (record z { flow = f; dones = dones; held = held; faults = faults }) (e.Finish t r outs) run
    (record {
      legal = legal;
      warranted = rw there (job, of, record { given = gives; formed = well_formed (is_recorded outs) bytes kept });
      dones = d ∷ [];
      dones_are = more;
      finished = rw there (real, tt);
      seens = [];
      seens_are = sym (append-nil z.seens);
      reused = tt;
      resumed = refl;
      records = both_map z.held held left (λ m n p. rw there (finish_follows T E v F.rules k job r outs bytes m n of.job kept p));
      sound = λ w steady s. stays_sound law fronts F w (is_recorded outs) job r bytes (let x : Result T E = Ok v in x) z.held held steady gives kept left s;
      later = later;
      blamed = λ u is. absurd (cc);
    })
    new where
      well_formed : (b : Bool) (bytes : Option (List ℕ)) → IsRecordFor b job r bytes → b ≡ true → IsWellFormed (record_for job r)
      well_formed true (Some bytes) is on = is.well_formed
      well_formed true None is on = absurd is
      well_formed false bytes is on = absurd (cc)

pub kept_reused : {F : Opening} {D S : Type 0} {done : D → Ending → Type 0} {seen : S → Ending → Type 0} {z : Parts D S}
    (t : ℕ) (k : Ticket) (f : Seen) (s : S) (seens : List S) (job : JobParts) (r : Report) (outs : Outs) → IsRun F done seen z
    → IsLegal (plain_of z.flow) F.rules (state_of z.flow) (reuse t r outs)
    → ticket_at t (state_of z.flow).tickets ≡ Some k → IsJobOf F.rules (attempt_at k) job → IsLeft F job r
    → seens ≡ z.seens ++ s ∷ [] → seen s (record { attempt = attempt_at k; report = r })
    → f ≡ grown z.flow (e.Reuse t r outs) → IsRun F done seen (record z { flow = f; seens = seens })
kept_reused {F} {done = done} {seen = seen} {z = z} t k f s seens job r outs run legal there of was more real new =
    entered z (record z { flow = f; seens = seens }) (e.Reuse t r outs) run
    (record {
      legal = legal;
      warranted = rw there (job, of, was);
      dones = [];
      dones_are = sym (append-nil z.dones);
      finished = tt;
      seens = s ∷ [];
      seens_are = more;
      reused = rw there (real, tt);
      resumed = refl;
      records = both_refl _ z.held (λ m q u h. h);
      sound = λ w steady sound. sound;
      later = omega arith;
      blamed = λ u is. absurd (cc);
    })
    new
