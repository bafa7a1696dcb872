-- While a run goes on, all that its keeper holds is known.
use Rattle.std.proofs.Common.{◌≡◌, ℕ, List, [], ◌∷◌, ◌++◌, Bool, true, false, refl, if◌then◌else◌, inl, inr, ◌⊎◌}
use Rattle.std.specs.Prelude.{Option, Some, None, is_some, fold, bytes_eq, Result, Ok, Err, MatchOption}
use Rattle.std.proofs.lemmas.Slice.Eq.{bytes_eq-Decides}
use Rattle.nf_job.specs.declared.parts.JobParts.{JobParts}
use Rattle.nf_job.specs.declared.report.Report.{Report}
use Rattle.nf_job.specs.declared.fault.TaskFault.{TaskFault}
use Rattle.nf_job.specs.declared.emitted.Outputs.TheVariants.{Emits, Ignored, Failed, Again}
use Rattle.nf_graph.specs.Node.{PlainNode}
use Rattle.nf_graph.specs.Rules.{Outs, Rules}
use Rattle.nf_machine.specs.Event.{PlainEvent, PlainStop, pass, taking, give, start, finish, reuse, close, abort, halt}
use Rattle.nf_machine.specs.State.{Ticket, State}
use Rattle.nf_machine.specs.Step.{step, replay, ticket_at, at_ticket, do_finish, or_stop, without}
use Rattle.nf_machine.specs.Legal.{IsLegal, InFlight, GiveIsLegal, StartIsLegal, ReuseIsLegal, AbortIsLegal}
use Rattle.nf_machine.specs.History.{IsLawful}
use Rattle.nf_stored.specs.Attempts.{job_of}
use Rattle.nf_record.specs.Record.{record_code, record_for}
use Rattle.nf_core.specs.Told.{told_from, attempt_at}
use Rattle.nf_core.specs.Records.{Write, puts, spoils, puts_of, is_recorded, writes_by, finish_writes, key_of, known_after}

-- ---- stops

or_some : (a b : Option PlainStop) → is_some a ≡ true → is_some (or_stop a b) ≡ true
or_some None b h = absurd (cc)
or_some (Some x) b h = refl

some_or : (a : Option PlainStop) (x : PlainStop) → is_some (or_stop a (Some x)) ≡ true
some_or None x = refl
some_or (Some y) x = refl

-- what is legal only while the run goes on
pub runs : (s : State) (t : ℕ) (P : Ticket → Type 0) → ((k : Ticket) → P k → s.stop ≡ None) → InFlight s t P → s.stop ≡ None
runs s t P f h = by_ticket (ticket_at t s.tickets) h where
  by_ticket : (o : Option Ticket) → MatchOption o ⊥ P → s.stop ≡ None
  by_ticket None h = absurd h
  by_ticket (Some k) h = f k h

never : (s : State) {A : Type 0} → s.stop ≡ None → is_some s.stop ≡ true → A
never s off on = let e : false ≡ true = rw off at on in absurd (cc)

finish_stays : (s : State) (k : Ticket) (r : Report) (outs : Outs) → is_some s.stop ≡ true → is_some (do_finish s k r outs).stop ≡ true
finish_stays s k r (Ok Again) on = on
finish_stays s k r (Ok (Emits vs)) on = on
finish_stays s k r (Ok Ignored) on = on
finish_stays s k r (Ok (Failed f)) on = or_some s.stop _ on
finish_stays s k r (Err f) on = or_some s.stop _ on

stop_stays : (g : List PlainNode) (R : Rules) (s : State) (e : PlainEvent) → IsLegal g R s e → is_some s.stop ≡ true → is_some (step g s e).stop ≡ true
stop_stays g R s (pass i k) l on = never s l.running on
stop_stays g R s (taking i port place t n) l on = never s l.running on
stop_stays g R s (give t a) l on = never s (runs s t (λ k. GiveIsLegal g R s k a) (λ k p. p.running) l) on
stop_stays g R s (start t cause) l on = never s (runs s t (StartIsLegal g R s) (λ k p. p.running) l) on
stop_stays g R s (reuse t r outs) l on = never s (runs s t (λ k. ReuseIsLegal g R s k r outs) (λ k p. p.start.running) l) on
stop_stays g R s (close i) l on = never s l.running on
stop_stays g R s halt l on = never s l on
stop_stays g R s (finish t r outs) l on = by_ticket (ticket_at t s.tickets) where
  by_ticket : (o : Option Ticket) → is_some (at_ticket s t o (λ s' k. do_finish s' k r outs)).stop ≡ true
  by_ticket None = on
  by_ticket (Some k) = finish_stays (record s { tickets = without t s.tickets }) k r outs on
stop_stays g R s (abort t cause) l on = by_ticket (ticket_at t s.tickets) where
  by_ticket : (o : Option Ticket) → is_some (at_ticket s t o (λ s' k. record s' { gone = k ∷ s'.gone; stop = or_stop s'.stop cause })).stop ≡ true
  by_ticket None = on
  by_ticket (Some k) = or_some s.stop cause on

pub stays_on : (g : List PlainNode) (R : Rules) (s : State) (h : List PlainEvent) → IsLawful g R s h → is_some s.stop ≡ true → is_some (replay g s h).stop ≡ true
stays_on g R s [] l on = on
stays_on g R s (e ∷ h) l on = stays_on g R (step g s e) h l.1 (stop_stays g R s e l.0 on)

abort_stops : (g : List PlainNode) (R : Rules) (s : State) (t : ℕ) (cause : Option PlainStop) → IsLegal g R s (abort t cause) → is_some (step g s (abort t cause)).stop ≡ true
abort_stops g R s t cause l = by_ticket (ticket_at t s.tickets) cause l where
  by_ticket : (o : Option Ticket) (cause : Option PlainStop) → MatchOption o ⊥ (λ k. AbortIsLegal g R s k cause)
      → is_some (at_ticket s t o (λ s' k. record s' { gone = k ∷ s'.gone; stop = or_stop s'.stop cause })).stop ≡ true
  by_ticket None cause l = absurd l
  by_ticket (Some k) None l = or_some s.stop None l
  by_ticket (Some k) (Some x) l = some_or s.stop x

-- ---- writes

abbrev pub NoSpoils : List Write → Type 0
NoSpoils [] = Unit {0}
NoSpoils (puts job r ∷ ws) = NoSpoils ws
NoSpoils (spoils job ∷ ws) = ⊥

no_spoils_more : (ws vs : List Write) → NoSpoils ws → NoSpoils vs → NoSpoils (ws ++ vs)
no_spoils_more [] vs a b = b
no_spoils_more (puts job r ∷ ws) vs a b = no_spoils_more ws vs a b
no_spoils_more (spoils job ∷ ws) vs a b = absurd a

puts_alone : (b : Bool) (j : Result JobParts TaskFault) (r : Report) → NoSpoils (puts_of b j r)
puts_alone true (Ok job) r = tt
puts_alone true (Err f) r = tt
puts_alone false j r = tt

finish_alone : (R : Rules) (o : Option Ticket) (r : Report) (outs : Outs) → NoSpoils (finish_writes R o r outs)
finish_alone R None r outs = tt
finish_alone R (Some k) r outs = puts_alone (is_recorded outs) (job_of R (attempt_at k)) r

-- a run that isn't stopped has given up no ticket
pub running_is_clean : (g : List PlainNode) (R : Rules) (s : State) (h : List PlainEvent) → IsLawful g R s h → is_some (replay g s h).stop ≡ false → NoSpoils (told_from (writes_by R) g s h)
running_is_clean g R s [] l off = tt
running_is_clean g R s (e ∷ h) l off = no_spoils_more (writes_by R s e) _ (by_event e l.0 (λ on. let x = stays_on g R (step g s e) h l.1 on in absurd (cc))) (running_is_clean g R (step g s e) h l.1 off) where
  by_event : (e : PlainEvent) → IsLegal g R s e → (is_some (step g s e).stop ≡ true → ⊥) → NoSpoils (writes_by R s e)
  by_event (pass i k) l f = tt
  by_event (taking i port place t n) l f = tt
  by_event (give t a) l f = tt
  by_event (start t cause) l f = tt
  by_event (finish t r outs) l f = finish_alone R (ticket_at t s.tickets) r outs
  by_event (reuse t r outs) l f = tt
  by_event (close i) l f = tt
  by_event (abort t cause) l f = absurd (f (abort_stops g R s t cause l))
  by_event halt l f = tt

abbrev pub PutIn : List Write → JobParts → Report → Type 0
PutIn [] job r = ⊥
PutIn (puts j p ∷ ws) job r = ((j ≡ job) × (p ≡ r)) ⊎ PutIn ws job r
PutIn (spoils j ∷ ws) job r = PutIn ws job r

-- bytes that one of these writes put at the key q
pub record PutThere (q : List ℕ) (ws : List Write) (v : Option (List ℕ)) : Type 0 where
  pub job : JobParts
  pub report : Report
  pub there : PutIn ws job report
  pub at : key_of job ≡ q
  pub is : v ≡ Some (record_code (record_for job report))

-- the bytes at a key, and where they come from
pub record Origin (q : List ℕ) (ws : List Write) (k : Option (Option (List ℕ))) (x : Option (List ℕ)) : Type 0 where
  pub bytes : Option (List ℕ)
  pub known_is : k ≡ Some bytes
  pub comes : (bytes ≡ x) ⊎ PutThere q ws bytes

pub origin : (q : List ℕ) (ws : List Write) (k : Option (Option (List ℕ))) (x : Option (List ℕ)) → NoSpoils ws → k ≡ Some x → Origin q ws (fold (known_after q) k ws) x
origin q [] k x clean is = record { bytes = x; known_is = is; comes = inl refl }
origin q (spoils job ∷ ws) k x clean is = absurd clean
origin q (puts job r ∷ ws) k x clean is =
    by_key (bytes_eq (key_of job) q) refl (origin q ws (Some (Some (record_code (record_for job r)))) (Some (record_code (record_for job r))) clean refl) (origin q ws k x clean is) where
      put_now : key_of job ≡ q → (v : Option (List ℕ)) → (v ≡ Some (record_code (record_for job r))) ⊎ PutThere q ws v → PutThere q (puts job r ∷ ws) v
      put_now here v (inl e) = record { job = job; report = r; there = inl (refl, refl); at = here; is = e }
      put_now here v (inr p) = record { job = p.job; report = p.report; there = inr p.there; at = p.at; is = p.is }

      put_before : (v : Option (List ℕ)) → (v ≡ x) ⊎ PutThere q ws v → (v ≡ x) ⊎ PutThere q (puts job r ∷ ws) v
      put_before v (inl e) = inl e
      put_before v (inr p) = inr (record { job = p.job; report = p.report; there = inr p.there; at = p.at; is = p.is })

      by_key : (b : Bool) → bytes_eq (key_of job) q ≡ b → Origin q ws (fold (known_after q) (Some (Some (record_code (record_for job r)))) ws) (Some (record_code (record_for job r))) → Origin q ws (fold (known_after q) k ws) x
          → Origin q (puts job r ∷ ws) (fold (known_after q) (if b then Some (Some (record_code (record_for job r))) else k) ws) x
      by_key true e now before = record { bytes = now.bytes; known_is = now.known_is; comes = inr (put_now ((bytes_eq-Decides (key_of job) q).0 e) now.bytes now.comes) }
      by_key false e now before = record { bytes = before.bytes; known_is = before.known_is; comes = put_before before.bytes before.comes }
