-- What asking the keeper shows of a ticket whose attempt isn't started.
use Rattle.std.proofs.Common.{◌≡◌, ℕ, List, [], ◌∷◌, ◌++◌, Bool, true, false, refl, ap, sym, ◌∙◌, subst, inl, inr, ◌⊎◌}
use Rattle.std.specs.Prelude.{Option, Some, None, is_some, IfSome, IsSomeAnd, MatchOption, Result, Ok, Err}
use Rattle.std.specs.List.{AllByRecursion}
use Rattle.sha2.specs.Sha256.{sha256}
use Rattle.nf_job.specs.JobText.{job_text, old_text_of}
use Rattle.nf_job.specs.declared.fault.TaskFault.{TaskFault}
use Rattle.nf_job.specs.declared.parts.JobParts.{JobParts}
use Rattle.nf_job.specs.declared.report.Report.{Report}
use Rattle.nf_graph.specs.Node.{PlainNode}
use Rattle.nf_graph.specs.Rules.{Outs, Rules}
use Rattle.nf_machine.specs.declared.event.Cause.TheVariants.{NoRecord}
use Rattle.nf_machine.specs.Event.{PlainEvent, pass, taking, give, start, finish, reuse, close, abort, halt}
use Rattle.nf_machine.specs.State.{Ticket, State, opening}
use Rattle.nf_machine.specs.Step.{step, ticket_at}
use Rattle.nf_stored.specs.Attempts.{IsJobOf, job_of}
use Rattle.nf_keeper.specs.Held.{Held, Both}
use Rattle.nf_record.specs.declared.stored.Form.TheVariants.{Older, Current}
use Rattle.nf_record.specs.declared.stored.Form.{Form}
use Rattle.nf_record.specs.declared.stored.Record.{Record}
use Rattle.nf_record.specs.Record.{record_code, record_for, IsRecord, IsWellFormed}
use Rattle.nf_record.specs.Lookup.{IsRecordOf, IsCurrent, IsOlder, HasNone, IsAnswer}
use Rattle.nf_record.specs.Laws.{RecordsReadBack}
use Rattle.nf_flow.specs.Seen.{plain_of, events_of, state_of}
use Rattle.nf_core.specs.Leaves.{older_in, held_for}
use Rattle.nf_core.specs.Opening.{Opening}
use Rattle.nf_core.specs.Told.{Ending, told_from, finished_by, ending_of, attempt_at}
use Rattle.nf_core.specs.Records.{Write, puts, spoils, puts_of, spoils_of, is_recorded, writes_by, finish_writes, abort_writes, key_of, known, Agrees, IsHeld, IsMissing}
use Rattle.nf_core.specs.Causes.{IsWarranted, WarrantedFrom, IsDue, IsCaused, IsLeft}
use Rattle.nf_core.specs.Run.{Parts, IsRun}
use Rattle.nf_core.proofs.Entering.{writes_of}
use Rattle.nf_core.proofs.Records.{one_record}
use Rattle.nf_core.proofs.Standing.{NoSpoils, running_is_clean, PutIn, PutThere, origin}
use Rattle.nf_core.proofs.Orderly.{IsPast, history_orderly, opening_orderly, flying_not_past}

-- ---- each put is of an attempt that ended

abbrev pub In : {A : Type 0} → A → List A → Type 0
In x [] = ⊥
In x (y ∷ ys) = (y ≡ x) ⊎ In x ys

in_all : {A : Type 0} (P : A → Type 0) (x : A) (xs : List A) → In x xs → AllByRecursion P xs → P x
in_all P x [] i h = absurd i
in_all P x (y ∷ ys) (inl e) h = subst P e h.0
in_all P x (y ∷ ys) (inr i) h = in_all P x ys i h.1

in_right : {A : Type 0} (x : A) (xs ys : List A) → In x ys → In x (xs ++ ys)
in_right x [] ys i = i
in_right x (z ∷ xs) ys i = inr (in_right x xs ys i)

in_left : {A : Type 0} (x : A) (xs ys : List A) → In x xs → In x (xs ++ ys)
in_left x [] ys i = absurd i
in_left x (z ∷ xs) ys (inl e) = inl e
in_left x (z ∷ xs) ys (inr i) = inr (in_left x xs ys i)

-- an attempt among these that ended has this job, of which such a record may be kept
pub record EndedWith (R : Rules) (past : List Ending) (job : JobParts) (r : Report) : Type 0 where
  pub ending : Ending
  pub among : In ending past
  pub of : IsJobOf R ending.attempt job
  pub formed : IsWellFormed (record_for job r)

put_split : (ws vs : List Write) (job : JobParts) (r : Report) → PutIn (ws ++ vs) job r → PutIn ws job r ⊎ PutIn vs job r
put_split [] vs job r p = inr p
put_split (spoils j ∷ ws) vs job r p = put_split ws vs job r p
put_split (puts j q ∷ ws) vs job r (inl e) = inl (inl e)
put_split (puts j q ∷ ws) vs job r (inr p) = more (put_split ws vs job r p) where
  more : PutIn ws job r ⊎ PutIn vs job r → (((j ≡ job) × (q ≡ r)) ⊎ PutIn ws job r) ⊎ PutIn vs job r
  more (inl x) = inl (inr x)
  more (inr x) = inr x

finish_put : (F : Opening) (o : Option Ticket) (r' : Report) (outs : Outs) (job : JobParts) (r : Report)
    → MatchOption o ⊥ (λ k. (j : JobParts) × IsJobOf F.rules (attempt_at k) j × IsDue F outs j r')
    → PutIn (finish_writes F.rules o r' outs) job r → EndedWith F.rules (ending_of o r') job r
finish_put F None r' outs job r w p = absurd p
finish_put F (Some k) r' outs job r w p = by_job (is_recorded outs) refl (job_of F.rules (attempt_at k)) refl p where
  by_job : (b : Bool) → is_recorded outs ≡ b → (j : Result JobParts TaskFault) → job_of F.rules (attempt_at k) ≡ j → PutIn (puts_of b j r') job r → EndedWith F.rules (ending_of (Some k) r') job r
  by_job false e j is p = absurd p
  by_job true e (Err f) is p = absurd p
  by_job true e (Ok j) is (inr p) = absurd p
  by_job true e (Ok j) is (inl p) =
      let same : Ok w.0 ≡ Ok j = sym w.1.job ∙ is in
      let one : w.0 ≡ job = cc in
      record {
        ending = record { attempt = attempt_at k; report = r' };
        among = inl refl;
        of = subst (λ x. IsJobOf F.rules (attempt_at k) x) one w.1;
        formed = subst (λ x. IsWellFormed (record_for job x)) p.1 (subst (λ x. IsWellFormed (record_for x r')) one (w.2.formed e));
      }

pub put_ended : (F : Opening) (g : List PlainNode) (s : State) (ws : List Write) (h : List PlainEvent) (job : JobParts) (r : Report) → WarrantedFrom F g s ws h
    → PutIn (told_from (writes_by F.rules) g s h) job r → EndedWith F.rules (told_from finished_by g s h) job r
put_ended F g s ws [] job r w p = absurd p
put_ended F g s ws (e ∷ h) job r w p =
    by_side (put_split (writes_by F.rules s e) _ job r p) (put_ended F g (step g s e) (ws ++ writes_by F.rules s e) h job r w.1) where
      here : (e : PlainEvent) → IsWarranted F s ws e → PutIn (writes_by F.rules s e) job r → EndedWith F.rules (finished_by s e) job r
      here (finish t r' outs) w p = finish_put F (ticket_at t s.tickets) r' outs job r w p
      here (pass i k) w p = absurd p
      here (taking i port place t n) w p = absurd p
      here (give t a) w p = absurd p
      here (start t c) w p = absurd p
      here (reuse t r' outs) w p = absurd p
      here (close i) w p = absurd p
      here (abort t c) w p = absurd (no_put (ticket_at t s.tickets) p) where
        no_put : (o : Option Ticket) → PutIn (abort_writes F.rules o) job r → ⊥
        no_put None p = p
        no_put (Some k) p = by_start k.started (job_of F.rules (attempt_at k)) p where
          by_start : (b : Bool) (j : Result JobParts TaskFault) → PutIn (spoils_of b j) job r → ⊥
          by_start true (Ok j) p = p
          by_start true (Err f) p = p
          by_start false j p = p
      here halt w p = absurd p

      by_side : PutIn (writes_by F.rules s e) job r ⊎ PutIn (told_from (writes_by F.rules) g (step g s e) h) job r
          → (PutIn (told_from (writes_by F.rules) g (step g s e) h) job r → EndedWith F.rules (told_from finished_by g (step g s e) h) job r) → EndedWith F.rules (finished_by s e ++ told_from finished_by g (step g s e) h) job r
      by_side (inl p) rest = let x = here e w.0 p in record { ending = x.ending; among = in_left x.ending (finished_by s e) _ x.among; of = x.of; formed = x.formed }
      by_side (inr p) rest = let x = rest p in
          record { ending = x.ending; among = in_right x.ending (finished_by s e) _ x.among; of = x.of; formed = x.formed }

-- ---- what the keeper answers

-- a record of the job of an attempt in flight isn't one that this run put
not_put : {F : Opening} {D S : Type 0} {done : D → Ending → Type 0} {seen : S → Ending → Type 0} {z : Parts D S} (t : ℕ) (k : Ticket) (job job' : JobParts) (r : Report) → IsRun F done seen z
    → ticket_at t (state_of z.flow).tickets ≡ Some k → IsJobOf F.rules (attempt_at k) job → PutIn (writes_of F z.flow) job' r → job_text job' ≡ job_text job → ⊥
not_put {F} {z = z} t k job job' r run there of p text =
    let g = plain_of z.flow in
    let x = put_ended F g (opening g) [] (events_of z.flow) job' r run.warranted p in
    let same = run.apart.apart x.ending.attempt (attempt_at k) job' job x.of of text in
    let o = history_orderly g F.rules (opening g) (events_of z.flow) [] run.lawful (opening_orderly g) in
    let past = in_all (λ e. IsPast g (state_of z.flow) e.attempt) x.ending _ x.among o.each in
    flying_not_past g (state_of z.flow) t k there (subst (λ A. IsPast g (state_of z.flow) A) same past)

-- a record that stands there, of this form and text, stood there at the opening if this run put none such
stood : RecordsReadBack → (ws : List Write) (form : Form) (text : List ℕ) (v x : Option (List ℕ)) (r : Report)
    → ((job : JobParts) (q : Report) → PutIn ws job q → IsWellFormed (record_for job q)) → ((job : JobParts) (q : Report) → PutIn ws job q → Current ≡ form → job_text job ≡ text → ⊥)
    → (q : List ℕ) → (v ≡ x) ⊎ PutThere q ws v → IsRecordOf form text v r → IsRecordOf form text x r
stood law ws form text v x r formed none q (inl e) h = subst (λ o. IsRecordOf form text o r) e h
stood law ws form text v x r formed none q (inr p) h =
    let h' : IsRecord (record_code (record_for p.job p.report)) (record { form = form; job = text; report = r }) = subst (λ o. IsRecordOf form text o r) p.is h in
    let own : IsRecord (record_code (record_for p.job p.report)) (record_for p.job p.report) = record { spelled = refl; well_formed = formed p.job p.report p.there } in
    let same = one_record law (record_code (record_for p.job p.report)) (record_for p.job p.report) (record { form = form; job = text; report = r }) own h' in
    absurd (none p.job p.report p.there (ap (λ (y : Record). y.form) same) (ap (λ (y : Record). y.job) same))

-- without a record now none is known
missing : (m n : Held) (ws : List Write) (job : JobParts) → Agrees m ws n → HasNone (IsCurrent (n (key_of job)) job) → HasNone (IsOlder (older_in n job) job) → IsMissing m ws job
missing m n ws job agrees current older = record {
  current = at_key (known m ws (key_of job)) (agrees (key_of job));
  older = λ text has. at_text text has (known m ws (sha256 text)) (agrees (sha256 text));
} where
  at_key : (k : Option (Option (List ℕ))) → IfSome k (λ v. n (key_of job) ≡ v) → IfSome k (λ v. HasNone (IsCurrent v job))
  at_key None h = tt
  at_key (Some v) h = subst (λ o. HasNone (IsCurrent o job)) h current

  at_text : (text : List ℕ) → old_text_of job ≡ Some text → (k : Option (Option (List ℕ))) → IfSome k (λ v. n (sha256 text) ≡ v) → IfSome k (λ v. HasNone (IsRecordOf Older text v))
  at_text text has None h = tt
  at_text text has (Some v) h = subst (λ o. HasNone (IsRecordOf Older text o)) h (rw has at older)

-- what stands at a key now stood there at the opening
found_at : RecordsReadBack → (m n : Held) (ws : List Write) (q : List ℕ) (form : Form) (text : List ℕ) (r : Report) → NoSpoils ws
    → ((job : JobParts) (p : Report) → PutIn ws job p → IsWellFormed (record_for job p)) → ((job : JobParts) (p : Report) → PutIn ws job p → Current ≡ form → job_text job ≡ text → ⊥)
    → Agrees m ws n → IsRecordOf form text (n q) r → IsRecordOf form text (m q) r
found_at law m n ws q form text r clean formed none agrees h =
    let o = origin q ws (Some (m q)) (m q) clean refl in
    let now : n q ≡ o.bytes = rw o.known_is at (agrees q) in
    stood law ws form text o.bytes (m q) r formed none q o.comes (subst (λ x. IsRecordOf form text x r) now h)

held_first : RecordsReadBack → (m n : Held) (ws : List Write) (job : JobParts) (r : Report) → NoSpoils ws
    → ((job' : JobParts) (p : Report) → PutIn ws job' p → IsWellFormed (record_for job' p)) → ((job' : JobParts) (p : Report) → PutIn ws job' p → job_text job' ≡ job_text job → ⊥)
    → Agrees m ws n → IsCurrent (n (key_of job)) job r ⊎ (HasNone (IsCurrent (n (key_of job)) job) × IsOlder (older_in n job) job r) → IsHeld m job r
held_first law m n ws job r clean formed none agrees (inl h) =
    inl (found_at law m n ws (key_of job) Current (job_text job) r clean formed (λ j p i e. none j p i) agrees h)
held_first law m n ws job r clean formed none agrees (inr h) = by_text (old_text_of job) refl h.1 where
  by_text : (o : Option (List ℕ)) → old_text_of job ≡ o → IsSomeAnd o (λ t. IsRecordOf Older t (held_for n o) r) → IsHeld m job r
  by_text None e h = absurd h
  by_text (Some text) e h = inr (record {
    text = text;
    has = e;
    there = found_at law m n ws (sha256 text) Older text r clean formed (λ j p i off e. cc) agrees h;
  })

pub asked : {F : Opening} {D S : Type 0} {done : D → Ending → Type 0} {seen : S → Ending → Type 0} {z : Parts D S} → RecordsReadBack
    → (t : ℕ) (k : Ticket) (job : JobParts) (o : Option Report) → IsRun F done seen z → F.resumed ≡ true → is_some (state_of z.flow).stop ≡ false
    → ticket_at t (state_of z.flow).tickets ≡ Some k → IsJobOf F.rules (attempt_at k) job
    → IfSome z.held (λ n. IsAnswer (n (key_of job)) (older_in n job) job o)
    → MatchOption o (IsCaused F (writes_of F z.flow) job NoRecord) (λ r. IsLeft F job r)
asked {F} {z = z} law t k job o run resumed running there of answer = by_answer o answer where
  clean : NoSpoils (writes_of F z.flow)
  clean = running_is_clean (plain_of z.flow) F.rules (opening (plain_of z.flow)) (events_of z.flow) run.lawful running

  formed : (job' : JobParts) (p : Report) → PutIn (writes_of F z.flow) job' p → IsWellFormed (record_for job' p)
  formed job' p i = (put_ended F (plain_of z.flow) (opening (plain_of z.flow)) [] (events_of z.flow) job' p run.warranted i).formed

  apart : (job' : JobParts) (p : Report) → PutIn (writes_of F z.flow) job' p → job_text job' ≡ job_text job → ⊥
  apart job' p i text = not_put t k job job' p run there of i text

  none : (a b : Option Held) → Both a b (λ m n. Agrees m (writes_of F z.flow) n) → IfSome b (λ n. IsAnswer (n (key_of job)) (older_in n job) job None) → IfSome a (λ m. IsMissing m (writes_of F z.flow) job)
  none None b p h = tt
  none (Some m) None p h = absurd p
  none (Some m) (Some n) p h = missing m n (writes_of F z.flow) job p h.0 h.1

  found : (r : Report) (a b : Option Held) → Both a b (λ m n. Agrees m (writes_of F z.flow) n) → IfSome b (λ n. IsAnswer (n (key_of job)) (older_in n job) job (Some r)) → IfSome a (λ m. IsHeld m job r)
  found r None b p h = tt
  found r (Some m) None p h = absurd p
  found r (Some m) (Some n) p h = held_first law m n (writes_of F z.flow) job r clean formed apart p h

  by_answer : (o : Option Report) → IfSome z.held (λ n. IsAnswer (n (key_of job)) (older_in n job) job o) → MatchOption o (IsCaused F (writes_of F z.flow) job NoRecord) (λ r. IsLeft F job r)
  by_answer None h = (resumed, none F.held z.held run.records h)
  by_answer (Some r) h = record { resumed = resumed; held = found r F.held z.held run.records h }
