-- Over lanes that tell one world, and from a sound keeper, a history tells the world's reports.
use Rattle.std.proofs.Common.{◌≡◌, List, [], ◌∷◌, ◌++◌, refl, sym, ◌∙◌, subst, append_assoc, inl, inr}
use Rattle.std.specs.Prelude.{ℕ, Option, Some, None, IfSome, IsSomeAnd, MatchOption}
use Rattle.sha2.specs.Sha256.{sha256}
use Rattle.nf_job.specs.declared.parts.JobParts.{JobParts}
use Rattle.nf_job.specs.declared.report.Report.{Report}
use Rattle.nf_job.specs.JobText.{job_text}
use Rattle.nf_graph.specs.Node.{PlainNode}
use Rattle.nf_keeper.specs.Held.{Held}
use Rattle.nf_lane.specs.World.{World, report_of}
use Rattle.nf_machine.specs.Event.{PlainEvent, pass, taking, give, start, finish, reuse, close, abort, halt}
use Rattle.nf_machine.specs.History.{after}
use Rattle.nf_machine.specs.State.{Ticket, State, opening}
use Rattle.nf_machine.specs.Step.{ticket_at}
use Rattle.nf_machine.proofs.Growing.{replay_grows}
use Rattle.nf_record.specs.declared.stored.Form.{Form}
use Rattle.nf_record.specs.declared.stored.Form.TheVariants.{Older, Current}
use Rattle.nf_record.specs.declared.stored.Record.{Record}
use Rattle.nf_record.specs.Record.{IsRecord}
use Rattle.nf_record.specs.Lookup.{IsRecordOf}
use Rattle.nf_stored.specs.Attempts.{IsJobOf}
use Rattle.nf_core.specs.Opening.{Opening}
use Rattle.nf_core.specs.Told.{attempt_at}
use Rattle.nf_core.specs.Causes.{HasJobWith, IsLeft}
use Rattle.nf_core.specs.Promises.{Promises}
use Rattle.nf_core.specs.Records.{IsHeld, IsSoundHeld, IsTrueRecord, key_of}
use Rattle.nf_steady.specs.Steady.{OpensOver}
use Rattle.nf_steady.proofs.Fronts.{IsGiven}
use Rattle.nf_steady.proofs.Fronted.{AllTell, Tells}

-- ---- records

-- a whole record that a sound keeper holds is true
true_at : (w : World) (bytes : Option (List ℕ)) (form : Form) (text : List ℕ) (r : Report)
    → IfSome bytes (λ b. (x : Record) → IsRecord b x → IsTrueRecord w x.form x.job x.report)
    → IsRecordOf form text bytes r → IsTrueRecord w form text r
true_at w None form text r sound is = absurd is
true_at w (Some b) form text r sound is = sound (record { form = form; job = text; report = r }) is

held_true : (w : World) (m : Held) (job : JobParts) (r : Report) → IsSoundHeld w m → IsHeld m job r
    → r ≡ report_of w (job_text job)
held_true w m job r sound (inl current) =
    true_at w (m (key_of job)) Current (job_text job) r (sound (key_of job)) current
held_true w m job r sound (inr older) =
    true_at w (m (sha256 older.text)) Older older.text r (sound (sha256 older.text)) older.there job older.has

left_true : (w : World) (held : Option Held) (job : JobParts) (r : Report) → IsSomeAnd held (IsSoundHeld w)
    → IfSome held (λ m. IsHeld m job r) → r ≡ report_of w (job_text job)
left_true w None job r sound is = absurd sound
left_true w (Some m) job r sound is = held_true w m job r sound is

-- ---- histories

module _ (w : World) (F : Opening) (g : List PlainNode) (h : List PlainEvent) (over : OpensOver w F)
    (promised : Promises F g h) where
  -- what is known of a ticket's job makes a report the world's for its attempt
  given_by : (s : State) (t : ℕ) (r : Report) (P : JobParts → Type 0)
      → ((job : JobParts) → P job → r ≡ report_of w (job_text job)) → HasJobWith F s t P
      → MatchOption (ticket_at t s.tickets) ⊥ (λ k. IsGiven w F.rules k r)
  given_by s t r P is has = by (ticket_at t s.tickets) has
    where
      by : (o : Option Ticket) → MatchOption o ⊥ (λ k. (job : JobParts) × IsJobOf F.rules (attempt_at k) job × P job)
          → MatchOption o ⊥ (λ k. IsGiven w F.rules k r)
      by None has = absurd has
      by (Some k) has = record { job = has.0; has = (has.1).job; is = is has.0 has.2 }

  tells : (earlier later : List PlainEvent) (e : PlainEvent) → h ≡ earlier ++ e ∷ later
      → Tells w g F.rules (after g earlier) e
  tells earlier later (finish t r outs) is =
      given_by (after g earlier) t r (λ job. r ≡ report_of w (job_text job)) (λ job same. same)
      (promised.world w over.lanes earlier later t r outs is)
  tells earlier later (reuse t r outs) is =
      given_by (after g earlier) t r (λ job. IsLeft F job r)
      (λ job left. left_true w F.held job r (over.keeper left.resumed) left.held)
      (promised.reused earlier later t r outs is)
  tells earlier later (pass i k) is = tt
  tells earlier later (taking i port place t n) is = tt
  tells earlier later (give t a) is = tt
  tells earlier later (start t cause) is = tt
  tells earlier later (close i) is = tt
  tells earlier later (abort t cause) is = tt
  tells earlier later halt is = tt

  all_from : (earlier later : List PlainEvent) → h ≡ earlier ++ later → AllTell w g F.rules (after g earlier) later
  all_from earlier [] is = tt
  all_from earlier (e ∷ later) is = (
    tells earlier later e is,
    subst (λ (s : State). AllTell w g F.rules s later) (replay_grows g (opening g) earlier e)
        (all_from (earlier ++ e ∷ []) later (is ∙ sym (append_assoc earlier (e ∷ []) later))),
  )

  pub all_tell : AllTell w g F.rules (opening g) h
  all_tell = all_from [] h refl
