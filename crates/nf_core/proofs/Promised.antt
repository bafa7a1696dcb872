-- The promises in the words of the history, from what a run keeps.
use Rattle.std.proofs.Common.{◌≡◌, ◌≢◌, ℕ, List, [], ◌∷◌, ◌++◌, false, refl, ap, sym, ◌∙◌, subst, inl, inr, ◌⊎◌}
use Rattle.std.specs.Prelude.{Option, Some, None, is_some, IfSome, MatchOption, ◌↔◌}
use Rattle.std.proofs.lemmas.List.{append_assoc, append-nil}
use Rattle.sha2.specs.Sha256.{sha256}
use Rattle.nf_job.specs.declared.parts.JobParts.{JobParts}
use Rattle.nf_job.specs.declared.report.Report.{Report}
use Rattle.nf_job.specs.JobText.{job_text}
use Rattle.nf_graph.specs.Node.{PlainNode}
use Rattle.nf_machine.specs.declared.event.Cause.{Cause}
use Rattle.nf_machine.specs.declared.event.Cause.TheVariants.{NotAsked, NoRecord, Gone}
use Rattle.nf_machine.specs.Event.{PlainEvent, start, reuse, finish}
use Rattle.nf_machine.specs.State.{Ticket, State, opening}
use Rattle.nf_machine.specs.Step.{step, replay, ticket_at}
use Rattle.nf_machine.specs.Legal.{IsLegal, StartIsLegal}
use Rattle.nf_machine.specs.History.{after, IsLawful}
use Rattle.nf_stored.specs.Attempts.{IsJobOf}
use Rattle.nf_keeper.specs.Held.{Held}
use Rattle.nf_record.specs.declared.stored.Form.{Form}
use Rattle.nf_record.specs.declared.stored.Form.TheVariants.{Older, Current}
use Rattle.nf_record.specs.Record.{record_code, record_for, IsRecord, IsWellFormed}
use Rattle.nf_record.specs.Lookup.{IsCurrent, IsRecordOf, HasNone}
use Rattle.nf_flow.specs.Seen.{plain_of, events_of}
use Rattle.nf_core.specs.Opening.{Opening}
use Rattle.nf_core.specs.Told.{Ending, told_from, told_in, attempt_at}
use Rattle.nf_core.specs.Records.{Write, puts, spoils, writes_by, key_of, known, IsMissing}
use Rattle.nf_core.specs.Causes.{IsWarranted, WarrantedFrom, HasJobWith, IsCaused}
use Rattle.nf_core.specs.Promises.{PutsOther, WasMissing, Promises}
use Rattle.nf_core.specs.Run.{Parts, IsRun}
use Rattle.nf_core.proofs.Records.{of_steady}
use Rattle.nf_core.proofs.Standing.{NoSpoils, runs, running_is_clean, PutIn, PutThere, origin}
use Rattle.nf_core.proofs.Asked.{put_ended}

-- each event is warranted by those before it
pub warranted_at : (F : Opening) (g : List PlainNode) (s : State) (ws : List Write) (earlier later : List PlainEvent) (e : PlainEvent) → WarrantedFrom F g s ws (earlier ++ e ∷ later)
    → IsWarranted F (replay g s earlier) (ws ++ told_from (writes_by F.rules) g s earlier) e
warranted_at F g s ws [] later e w = subst (λ v. IsWarranted F s v e) (sym (append-nil ws)) w.0
warranted_at F g s ws (x ∷ earlier) later e w =
    subst (λ v. IsWarranted F (replay g (step g s x) earlier) v e) (append_assoc ws (writes_by F.rules s x) (told_from (writes_by F.rules) g (step g s x) earlier))
    (warranted_at F g (step g s x) (ws ++ writes_by F.rules s x) earlier later e w.1)

-- and legal
pub legal_at : (g : List PlainNode) (F : Opening) (s : State) (earlier later : List PlainEvent) (e : PlainEvent) → IsLawful g F.rules s (earlier ++ e ∷ later)
    → IsLawful g F.rules s earlier × IsLegal g F.rules (replay g s earlier) e
legal_at g F s [] later e l = (tt, l.0)
legal_at g F s (x ∷ earlier) later e l = let r = legal_at g F (step g s x) earlier later e l.1 in ((l.0, r.0), r.1)

-- what holds of the ticket's job also holds with this
with_job : (F : Opening) (s : State) (t : ℕ) (P Q : JobParts → Type 0) → ((job : JobParts) → P job → Q job) → HasJobWith F s t P → HasJobWith F s t Q
with_job F s t P Q f h = by_ticket (ticket_at t s.tickets) h where
  by_ticket : (o : Option Ticket) → MatchOption o ⊥ (λ k. (job : JobParts) × IsJobOf F.rules (attempt_at k) job × P job) → MatchOption o ⊥ (λ k. (job : JobParts) × IsJobOf F.rules (attempt_at k) job × Q job)
  by_ticket None h = absurd h
  by_ticket (Some k) h = (h.0, h.1, f h.0 h.2)

-- a put that left no record of the job left another's
puts_other : (ws : List Write) (text q : List ℕ) (job : JobParts) (r : Report) → PutIn ws job r → key_of job ≡ q → job_text job ≢ text → PutsOther ws text q
puts_other [] text q job r p at off = absurd p
puts_other (spoils j ∷ ws) text q job r p at off = puts_other ws text q job r p at off
puts_other (puts j s ∷ ws) text q job r (inl e) at off = inl (ap key_of e.0 ∙ at, λ same. off (ap job_text (sym e.0) ∙ same))
puts_other (puts j s ∷ ws) text q job r (inr p) at off = inr (puts_other ws text q job r p at off)

pub warranted_front : (F : Opening) (g : List PlainNode) (s : State) (ws : List Write) (earlier later : List PlainEvent) → WarrantedFrom F g s ws (earlier ++ later) → WarrantedFrom F g s ws earlier
warranted_front F g s ws [] later w = tt
warranted_front F g s ws (x ∷ earlier) later w = (w.0, warranted_front F g (step g s x) (ws ++ writes_by F.rules s x) earlier later w.1)

-- a record that was put is one of each job with its text
own_record : (q : List ℕ) (ws : List Write) (v : Option (List ℕ)) (job : JobParts) (p : PutThere q ws v) → IsWellFormed (record_for p.job p.report) → job_text p.job ≡ job_text job → IsCurrent v job p.report
own_record q ws v job p formed same =
    subst (λ o. IsCurrent o job p.report) (sym p.is)
    (subst (λ text. IsRecord (record_code (record_for p.job p.report)) (record { form = Current; job = text; report = p.report })) same (record { spelled = refl; well_formed = formed }))

-- no record is known at a key: there was none, or another job's was put
missing_at : (m : Held) (ws : List Write) (q : List ℕ) (form : Form) (text own : List ℕ) → NoSpoils ws → IfSome (known m ws q) (λ v. HasNone (IsRecordOf form text v))
    → ((v : Option (List ℕ)) → known m ws q ≡ Some v → (p : PutThere q ws v) → job_text p.job ≡ own → ⊥) → HasNone (IsRecordOf form text (m q)) ⊎ PutsOther ws own q
missing_at m ws q form text own clean none off =
    let o = origin q ws (Some (m q)) (m q) clean refl in
    by_origin o.bytes o.known_is o.comes (rw o.known_is at none)
  where
    by_origin : (v : Option (List ℕ)) → known m ws q ≡ Some v → (v ≡ m q) ⊎ PutThere q ws v → HasNone (IsRecordOf form text v) → HasNone (IsRecordOf form text (m q)) ⊎ PutsOther ws own q
    by_origin v is (inl e) h = inl (subst (λ x. HasNone (IsRecordOf form text x)) e h)
    by_origin v is (inr p) h = inr (puts_other ws own q p.job p.report p.there p.at (off v is p))

was_missing : (m : Held) (ws : List Write) (job : JobParts) → NoSpoils ws → ((j : JobParts) (r : Report) → PutIn ws j r → IsWellFormed (record_for j r)) → IsMissing m ws job → WasMissing m ws job
was_missing m ws job clean formed h = record {
  current = missing_at m ws (key_of job) Current (job_text job) (job_text job) clean h.current (λ v is p same. here v is p same);
  older = λ text has. missing_at m ws (sha256 text) Older text (job_text job) clean (h.older text has) (λ v is p same. there text v is p same);
} where
  here : (v : Option (List ℕ)) → known m ws (key_of job) ≡ Some v → {q : List ℕ} (p : PutThere q ws v) → job_text p.job ≡ job_text job → ⊥
  here v is p same = (rw is at h.current) p.report (own_record _ ws v job p (formed p.job p.report p.there) same)

  there : (text : List ℕ) (v : Option (List ℕ)) → known m ws (sha256 text) ≡ Some v → (p : PutThere (sha256 text) ws v) → job_text p.job ≡ job_text job → ⊥
  there text v is p same =
      let key : key_of job ≡ sha256 text = ap sha256 (sym same) ∙ p.at in
      here v (ap (known m ws) key ∙ is) p same

told_cause : (F : Opening) (ws : List Write) (job : JobParts) (c : Cause) → IsCaused F ws job c → (c ≡ NotAsked) ↔ (F.resumed ≡ false)
told_cause F ws job NotAsked h = (λ _. h, λ _. refl)
told_cause F ws job NoRecord h = (λ e. absurd (cc), λ e. absurd (let y = h.0 in cc))
told_cause F ws job (Gone name) h = (λ e. absurd (cc), λ e. absurd (let y = h.0 in cc))

-- what a fact of the job shows that doesn't speak of it
of_job : (F : Opening) (s : State) (t : ℕ) (P : JobParts → Type 0) (Q : Type 0) → ((job : JobParts) → P job → Q) → HasJobWith F s t P → Q
of_job F s t P Q f h = by_ticket (ticket_at t s.tickets) h where
  by_ticket : (o : Option Ticket) → MatchOption o ⊥ (λ k. (job : JobParts) × IsJobOf F.rules (attempt_at k) job × P job) → Q
  by_ticket None h = absurd h
  by_ticket (Some k) h = f h.0 h.2

if_map : {A : Type 0} (P Q : A → Type 0) (o : Option A) → ((x : A) → P x → Q x) → IfSome o P → IfSome o Q
if_map P Q None f h = tt
if_map P Q (Some x) f h = f x h

module _ {F : Opening} {D S : Type 0} {done : D → Ending → Type 0} {seen : S → Ending → Type 0} {z : Parts D S} (k : IsRun F done seen z) where
  at : (earlier later : List PlainEvent) (e : PlainEvent) → events_of z.flow ≡ earlier ++ e ∷ later → IsWarranted F (after (plain_of z.flow) earlier) (told_in (writes_by F.rules) (plain_of z.flow) earlier) e
  at earlier later e is = warranted_at F (plain_of z.flow) (opening (plain_of z.flow)) [] earlier later e (rw is at k.warranted)

  missed : (earlier later : List PlainEvent) (t : ℕ) → events_of z.flow ≡ earlier ++ start t NoRecord ∷ later → (job : JobParts) (m : Held)
      → IsMissing m (told_in (writes_by F.rules) (plain_of z.flow) earlier) job → WasMissing m (told_in (writes_by F.rules) (plain_of z.flow) earlier) job
  missed earlier later t is job m h =
      let g = plain_of z.flow in
      let l = legal_at g F (opening g) earlier later (start t NoRecord) (rw is at k.lawful) in
      let on = runs (after g earlier) t (StartIsLegal g F.rules (after g earlier)) (λ u p. p.running) l.1 in
      let off : is_some (after g earlier).stop ≡ false = rw on refl in
      let clean = running_is_clean g F.rules (opening g) earlier l.0 off in
      let w = warranted_front F g (opening g) [] earlier (start t NoRecord ∷ later) (rw is at k.warranted) in
      was_missing m (told_in (writes_by F.rules) g earlier) job clean (λ j r i. (put_ended F g (opening g) [] earlier j r w i).formed) h

  pub promises : Promises F (plain_of z.flow) (events_of z.flow)
  promises = record {
    asked = λ earlier later t c is. of_job F (after (plain_of z.flow) earlier) t _ _ (λ job h. told_cause F _ job c h) (at earlier later (start t c) is);
    no_record = λ earlier later t is. with_job F (after (plain_of z.flow) earlier) t _ _ (λ job h. if_map _ _ F.held (λ m x. missed earlier later t is job m x) h.1) (at earlier later (start t NoRecord) is);
    gone = λ earlier later t name is. with_job F (after (plain_of z.flow) earlier) t _ _ (λ job h. h.1) (at earlier later (start t (Gone name)) is);
    reused = λ earlier later t r outs is. at earlier later (reuse t r outs) is;
    world = λ w steady earlier later t r outs is. with_job F (after (plain_of z.flow) earlier) t _ _ (λ job h. of_steady F w (job_text job) r steady h.given) (at earlier later (finish t r outs) is);
  }
