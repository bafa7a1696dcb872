-- What a keeper that tells holds, from what a run keeps.
use Rattle.std.proofs.Common.{◌≡◌, ◌≢◌, ℕ, suc, List, [], ◌∷◌, ◌++◌, length, Bool, true, false, nat_lt, arith, refl, ap, sym, ◌∙◌, subst, if◌then◌else◌, inl, inr, ◌⊎◌}
use Rattle.std.specs.Prelude.{Option, Some, None, fold, bytes_eq, MatchOption, Result}
use Rattle.std.specs.List.{AllByRecursion}
use Rattle.std.proofs.lemmas.Bool.Decides.{nat_tests}
use Rattle.std.proofs.lemmas.List.{append_assoc, append-nil}
use Rattle.std.proofs.lemmas.List.Sums.{fold-append}
use Rattle.std.proofs.lemmas.Slice.Eq.{bytes_eq-Decides}
use Rattle.nf_opstream.proofs.Tally.{one_if, passes}
use Rattle.nf_job.specs.declared.fault.TaskFault.{TaskFault}
use Rattle.nf_job.specs.declared.parts.JobParts.{JobParts}
use Rattle.nf_job.specs.declared.report.Report.{Report}
use Rattle.nf_job.specs.JobText.{job_text}
use Rattle.nf_graph.specs.Node.{PlainNode}
use Rattle.nf_graph.specs.Rules.{Outs, Rules}
use Rattle.nf_machine.specs.Event.{PlainEvent, pass, taking, give, start, finish, reuse, close, abort, halt}
use Rattle.nf_machine.specs.State.{Ticket, State, opening}
use Rattle.nf_machine.specs.Step.{step, replay, ticket_at}
use Rattle.nf_machine.specs.History.{after, IsLawful}
use Rattle.nf_stored.specs.Attempts.{Attempt, IsJobOf, TellsApart, job_of}
use Rattle.nf_keeper.specs.Held.{Held, Both}
use Rattle.nf_record.specs.Record.{record_code, record_for, IsWellFormed}
use Rattle.nf_record.specs.Lookup.{IsCurrent}
use Rattle.nf_flow.specs.Seen.{plain_of, events_of}
use Rattle.nf_core.specs.Opening.{Opening}
use Rattle.nf_core.specs.Told.{Ending, told_from, told_in, finished_by, ending_of, attempt_at}
use Rattle.nf_core.specs.Records.{Write, puts, spoils, is_recorded, writes_by, key_of, known, known_after, Agrees}
use Rattle.nf_core.specs.Causes.{IsWarranted, WarrantedFrom, HasJobWith, IsDue, IsCaused}
use Rattle.nf_core.specs.Promises.{BeganOther, Keeps, StandsSince, job_list, jobs_of, started_by, writes_since}
use Rattle.nf_core.specs.Run.{Parts, IsRun}
use Rattle.nf_core.proofs.Orderly.{IsPast, IsOrderly, is_late, is_own, step_orderly, history_orderly, opening_orderly, flying_not_past}
use Rattle.nf_core.proofs.Promised.{legal_at, warranted_at, warranted_front}
use Rattle.nf_core.proofs.Started.{StartedWith, StartHas, StartsHave, WritesWith, started_step, each_write}

-- ---- lists of writes

-- a write at this key is of another job
more_other : (w : Write) (ws : List Write) (text q : List ℕ) (X : Type 0) → X ⊎ BeganOther ws text q → X ⊎ BeganOther (w ∷ ws) text q
more_other (puts job r) ws text q X (inl x) = inl x
more_other (puts job r) ws text q X (inr o) = inr (inr o)
more_other (spoils job) ws text q X (inl x) = inl x
more_other (spoils job) ws text q X (inr o) = inr (inr o)

-- bytes that are known at a key stay so, unless another job's record was begun there
still_there : (q text : List ℕ) (v : Option (List ℕ)) (ws : List Write) (k : Option (Option (List ℕ))) → AllByRecursion (WritesWith (λ job. job_text job ≢ text)) ws → k ≡ Some v
    → (fold (known_after q) k ws ≡ Some v) ⊎ BeganOther ws text q
still_there q text v [] k a e = inl e
still_there q text v (puts job r ∷ ws) k a e = by_key (bytes_eq (key_of job) q) refl (still_there q text v ws k a.1 e) where
  by_key : (b : Bool) → bytes_eq (key_of job) q ≡ b → (fold (known_after q) k ws ≡ Some v) ⊎ BeganOther ws text q
      → (fold (known_after q) (if b then Some (Some (record_code (record_for job r))) else k) ws ≡ Some v) ⊎ BeganOther (puts job r ∷ ws) text q
  by_key true h rest = inr (inl ((bytes_eq-Decides (key_of job) q).0 h, a.0))
  by_key false h rest = more_other (puts job r) ws text q _ rest
still_there q text v (spoils job ∷ ws) k a e = by_key (bytes_eq (key_of job) q) refl (still_there q text v ws k a.1 e) where
  by_key : (b : Bool) → bytes_eq (key_of job) q ≡ b → (fold (known_after q) k ws ≡ Some v) ⊎ BeganOther ws text q
      → (fold (known_after q) (if b then None else k) ws ≡ Some v) ⊎ BeganOther (spoils job ∷ ws) text q
  by_key true h rest = inr (inl ((bytes_eq-Decides (key_of job) q).0 h, a.0))
  by_key false h rest = more_other (spoils job) ws text q _ rest

-- and so do those at a key of none of the writes
elsewhere : (q : List ℕ) (ws : List Write) (k : Option (Option (List ℕ))) → AllByRecursion (WritesWith (λ job. key_of job ≢ q)) ws → fold (known_after q) k ws ≡ k
elsewhere q [] k a = refl
elsewhere q (puts job r ∷ ws) k a = by_key (bytes_eq (key_of job) q) refl (elsewhere q ws k a.1) where
  by_key : (b : Bool) → bytes_eq (key_of job) q ≡ b → fold (known_after q) k ws ≡ k → fold (known_after q) (if b then Some (Some (record_code (record_for job r))) else k) ws ≡ k
  by_key true h rest = absurd (a.0 ((bytes_eq-Decides (key_of job) q).0 h))
  by_key false h rest = rest
elsewhere q (spoils job ∷ ws) k a = by_key (bytes_eq (key_of job) q) refl (elsewhere q ws k a.1) where
  by_key : (b : Bool) → bytes_eq (key_of job) q ≡ b → fold (known_after q) k ws ≡ k → fold (known_after q) (if b then None else k) ws ≡ k
  by_key true h rest = absurd (a.0 ((bytes_eq-Decides (key_of job) q).0 h))
  by_key false h rest = rest

-- ---- starts

-- what holds of the job of a ticket
job_so : (F : Opening) (s : State) (t : ℕ) (P Q : JobParts → Type 0) → ((k : Ticket) → ticket_at t s.tickets ≡ Some k → (job : JobParts) → IsJobOf F.rules (attempt_at k) job → P job → Q job)
    → HasJobWith F s t P → HasJobWith F s t Q
job_so F s t P Q f h = by_ticket (ticket_at t s.tickets) refl h where
  by_ticket : (o : Option Ticket) → ticket_at t s.tickets ≡ o → MatchOption o ⊥ (λ k. (job : JobParts) × IsJobOf F.rules (attempt_at k) job × P job) → MatchOption o ⊥ (λ k. (job : JobParts) × IsJobOf F.rules (attempt_at k) job × Q job)
  by_ticket None there h = absurd h
  by_ticket (Some k) there h = (h.0, h.1, f k there h.0 h.1 h.2)

-- what holds of each job of a list holds of the ticket's job that is in it
one_of : (F : Opening) (P : JobParts → Type 0) (k : Ticket) (job : JobParts) → IsJobOf F.rules (attempt_at k) job → AllByRecursion P (job_list (job_of F.rules (attempt_at k))) → P job
one_of F P k job of h = (subst (λ (j : Result JobParts TaskFault). AllByRecursion P (job_list j)) of.job h).0

all_left : {A : Type 0} (P : A → Type 0) (xs ys : List A) → AllByRecursion P (xs ++ ys) → AllByRecursion P xs
all_left P [] ys h = tt
all_left P (x ∷ xs) ys h = (h.0, all_left P xs ys h.1)

all_right : {A : Type 0} (P : A → Type 0) (xs ys : List A) → AllByRecursion P (xs ++ ys) → AllByRecursion P ys
all_right P [] ys h = h
all_right P (x ∷ xs) ys h = all_right P xs ys h.1

-- what holds of the jobs of all starts
starts_of : (F : Opening) (P : JobParts → Type 0) (g : List PlainNode) (s : State) (ws : List Write) (h : List PlainEvent) → WarrantedFrom F g s ws h
    → AllByRecursion P (told_from (started_by F.rules) g s h) → StartsHave F P g s h
starts_of F P g s ws [] w a = tt
starts_of F P g s ws (e ∷ h) w a =
    (here e w.0 (all_left P (started_by F.rules s e) _ a), starts_of F P g (step g s e) (ws ++ writes_by F.rules s e) h w.1 (all_right P (started_by F.rules s e) _ a))
  where
    here : (e : PlainEvent) → IsWarranted F s ws e → AllByRecursion P (started_by F.rules s e) → StartHas F P s e
    here (start t c) w a = job_so F s t (λ job. IsCaused F ws job c) P (λ k there job of why. one_of F P k job of (subst (λ (o : Option Ticket). AllByRecursion P (jobs_of F.rules o)) there a)) w
    here (pass i k) w a = tt
    here (taking i port place t n) w a = tt
    here (give t x) w a = tt
    here (finish t r outs) w a = tt
    here (reuse t r outs) w a = tt
    here (close i) w a = tt
    here (abort t c) w a = tt
    here halt w a = tt

-- no attempt that ended starts again
apart_from : (F : Opening) (g : List PlainNode) (s : State) (ending : Ending) (past : List Ending) (job : JobParts) → TellsApart F.rules → IsJobOf F.rules ending.attempt job → IsOrderly g s (ending ∷ past)
    → (t : ℕ) (k : Ticket) → ticket_at t s.tickets ≡ Some k → (other : JobParts) → IsJobOf F.rules (attempt_at k) other → job_text other ≢ job_text job
apart_from F g s ending past job apart of o t k there other of' = λ same.
    flying_not_past g s t k there (subst (IsPast g s) (sym (apart.apart (attempt_at k) ending.attempt other job of' of same)) o.each.0)

starts_apart : (F : Opening) (g : List PlainNode) (s : State) (ws : List Write) (ending : Ending) (past : List Ending) (job : JobParts) (h : List PlainEvent) → TellsApart F.rules → IsJobOf F.rules ending.attempt job
    → IsLawful g F.rules s h → WarrantedFrom F g s ws h → IsOrderly g s (ending ∷ past) → StartsHave F (λ other. job_text other ≢ job_text job) g s h
starts_apart F g s ws ending past job [] apart of l w o = tt
starts_apart F g s ws ending past job (e ∷ h) apart of l w o =
    (here e w.0, starts_apart F g (step g s e) (ws ++ writes_by F.rules s e) ending (past ++ finished_by s e) job h apart of l.1 w.1 (step_orderly g F.rules s e (ending ∷ past) l.0 o))
  where
    here : (e : PlainEvent) → IsWarranted F s ws e → StartHas F (λ other. job_text other ≢ job_text job) s e
    here (start t c) w = job_so F s t (λ other. IsCaused F ws other c) (λ other. job_text other ≢ job_text job) (λ k there other of' why. apart_from F g s ending past job apart of o t k there other of') w
    here (pass i k) w = tt
    here (taking i port place t n) w = tt
    here (give t x) w = tt
    here (finish t r outs) w = tt
    here (reuse t r outs) w = tt
    here (close i) w = tt
    here (abort t c) w = tt
    here halt w = tt

-- ---- the promises

-- what is known at the job's key right after its Finish
put_known : (q : List ℕ) (job : JobParts) (r : Report) (k : Option (Option (List ℕ))) → key_of job ≡ q → known_after q k (puts job r) ≡ Some (Some (record_code (record_for job r)))
put_known q job r k at = let e : bytes_eq (key_of job) q ≡ true = (bytes_eq-Decides (key_of job) q).1 at in rw e refl

fresh_orderly : {g : List PlainNode} {s : State} {past : List Ending} → IsOrderly g s past → IsOrderly g s []
fresh_orderly o = record { lone = o.lone; each = tt; once = o.once; fresh = o.fresh }

told_more : {A : Type 0} (f : State → PlainEvent → List A) (g : List PlainNode) (s : State) (xs ys : List PlainEvent) → told_from f g s (xs ++ ys) ≡ told_from f g s xs ++ told_from f g (replay g s xs) ys
told_more f g s [] ys = refl
told_more f g s (x ∷ xs) ys = ap (λ zs. f s x ++ zs) (told_more f g (step g s x) xs ys) ∙ sym (append_assoc (f s x) (told_from f g (step g s x) xs) (told_from f g (replay g (step g s x) xs) ys))

replay_more : (g : List PlainNode) (s : State) (xs ys : List PlainEvent) → replay g s (xs ++ ys) ≡ replay g (replay g s xs) ys
replay_more g s [] ys = refl
replay_more g s (x ∷ xs) ys = replay_more g (step g s x) xs ys

lawful_after : (g : List PlainNode) (R : Rules) (s : State) (xs ys : List PlainEvent) → IsLawful g R s (xs ++ ys) → IsLawful g R (replay g s xs) ys
lawful_after g R s [] ys l = l
lawful_after g R s (x ∷ xs) ys l = lawful_after g R (step g s x) xs ys l.1

warranted_after : (F : Opening) (g : List PlainNode) (s : State) (ws : List Write) (xs ys : List PlainEvent) → WarrantedFrom F g s ws (xs ++ ys)
    → WarrantedFrom F g (replay g s xs) (ws ++ told_from (writes_by F.rules) g s xs) ys
warranted_after F g s ws [] ys w = subst (λ vs. WarrantedFrom F g s vs ys) (sym (append-nil ws)) w
warranted_after F g s ws (x ∷ xs) ys w =
    subst (λ vs. WarrantedFrom F g (replay g (step g s x) xs) vs ys) (append_assoc ws (writes_by F.rules s x) (told_from (writes_by F.rules) g (step g s x) xs))
    (warranted_after F g (step g s x) (ws ++ writes_by F.rules s x) xs ys w.1)

known_put : (q : List ℕ) (job : JobParts) (r : Report) (ws w rest : List Write) (m : Held) → w ≡ puts job r ∷ [] → key_of job ≡ q
    → known m (ws ++ (w ++ rest)) q ≡ fold (known_after q) (Some (Some (record_code (record_for job r)))) rest
known_put q job r ws w rest m is at =
    fold-append (known_after q) (Some (m q)) ws (w ++ rest)
    ∙ (fold-append (known_after q) (fold (known_after q) (Some (m q)) ws) w rest
    ∙ ap (λ k. fold (known_after q) k rest) (ap (fold (known_after q) (fold (known_after q) (Some (m q)) ws)) is ∙ put_known q job r (fold (known_after q) (Some (m q)) ws) at))

-- the record stands there, or another job's was begun
stands : (job : JobParts) (r : Report) (ws w rest : List Write) (m n : Held) → w ≡ puts job r ∷ [] → IsWellFormed (record_for job r) → AllByRecursion (WritesWith (λ other. job_text other ≢ job_text job)) rest
    → Agrees m (ws ++ (w ++ rest)) n → IsCurrent (n (key_of job)) job r ⊎ BeganOther rest (job_text job) (key_of job)
stands job r ws w rest m n is formed others agrees =
    by_case (still_there (key_of job) (job_text job) (Some (record_code (record_for job r))) rest (Some (Some (record_code (record_for job r)))) others refl)
  where
    own : IsCurrent (Some (record_code (record_for job r))) job r
    own = record { spelled = refl; well_formed = formed }

    by_case : (fold (known_after (key_of job)) (Some (Some (record_code (record_for job r)))) rest ≡ Some (Some (record_code (record_for job r)))) ⊎ BeganOther rest (job_text job) (key_of job)
        → IsCurrent (n (key_of job)) job r ⊎ BeganOther rest (job_text job) (key_of job)
    by_case (inl e) =
        let k : known m (ws ++ (w ++ rest)) (key_of job) ≡ Some (Some (record_code (record_for job r))) = known_put (key_of job) job r ws w rest m is refl ∙ e in
        let now : n (key_of job) ≡ Some (record_code (record_for job r)) = rw k at (agrees (key_of job)) in
        inl (subst (λ o. IsCurrent o job r) (sym now) own)
    by_case (inr o) = inr o

-- the tickets of started attempts have jobs
warranted_start : (F : Opening) (s : State) (ws : List Write) (e : PlainEvent) → IsWarranted F s ws e → StartHas F (λ job. Unit {0}) s e
warranted_start F s ws (start t c) w = job_so F s t (λ job. IsCaused F ws job c) (λ job. Unit {0}) (λ k there job of why. tt) w
warranted_start F s ws (pass i k) w = tt
warranted_start F s ws (taking i port place t n) w = tt
warranted_start F s ws (give t x) w = tt
warranted_start F s ws (finish t r outs) w = tt
warranted_start F s ws (reuse t r outs) w = tt
warranted_start F s ws (close i) w = tt
warranted_start F s ws (abort t c) w = tt
warranted_start F s ws halt w = tt

started_all : (F : Opening) (g : List PlainNode) (s : State) (ws : List Write) (h : List PlainEvent) → WarrantedFrom F g s ws h → AllByRecursion (StartedWith F (λ job. Unit {0})) s.tickets
    → AllByRecursion (StartedWith F (λ job. Unit {0})) (replay g s h).tickets
started_all F g s ws [] w a = a
started_all F g s ws (e ∷ h) w a = started_all F g (step g s e) (ws ++ writes_by F.rules s e) h w.1 (started_step F (λ job. Unit {0}) g s e (warranted_start F s ws e w.0) a)

none_of : {A : Type 0} (p : A → Bool) (xs : List A) → passes p xs ≡ 0 → AllByRecursion (λ x. p x ≡ false) xs
none_of p [] h = tt
none_of p (x ∷ xs) h = (by_test (p x) refl, none_of p xs (omega (arith, h))) where
  by_test : (b : Bool) → p x ≡ b → p x ≡ false
  by_test true e = absurd (let a = ap one_if e in omega (arith, a, h))
  by_test false e = e

-- a ticket in flight isn't of an attempt that ended
late_own : (k : Ticket) → is_late (attempt_at k) k ≡ true
late_own k = let off : nat_lt (suc (length k.told)) (suc (length k.told)) ≡ false = grind (arith, nat_tests) in rw (is_own k, off) refl

tickets_apart : (F : Opening) (A : Attempt) (job : JobParts) → TellsApart F.rules → IsJobOf F.rules A job → (ts : List Ticket) → AllByRecursion (StartedWith F (λ other. Unit {0})) ts
    → AllByRecursion (λ k. is_late A k ≡ false) ts → AllByRecursion (StartedWith F (λ other. job_text other ≢ job_text job)) ts
tickets_apart F A job apart of [] a b = tt
tickets_apart F A job apart of (k ∷ ts) a b = (one a.0 b.0, tickets_apart F A job apart of ts a.1 b.1) where
  clash : (other : JobParts) → IsJobOf F.rules (attempt_at k) other → is_late A k ≡ false → job_text other ≡ job_text job → ⊥
  clash other of' off same =
      let e : attempt_at k ≡ A = apart.apart (attempt_at k) A other job of' of same in
      let on : is_late A k ≡ true = subst (λ B. is_late B k ≡ true) e (late_own k) in
      cc

  one : StartedWith F (λ other. Unit {0}) k → is_late A k ≡ false → StartedWith F (λ other. job_text other ≢ job_text job) k
  one w off = λ on. let x = w on in (x.0, x.1, clash x.0 x.1 off)

-- what was written since a Finish is of other jobs
others_since : (F : Opening) (g : List PlainNode) (s : State) (ws : List Write) (t : ℕ) (k : Ticket) (r : Report) (outs : Outs) (job : JobParts) (later : List PlainEvent) (past : List Ending) → TellsApart F.rules
    → IsJobOf F.rules (attempt_at k) job → ticket_at t s.tickets ≡ Some k → IsOrderly g s past → IsLawful g F.rules s (finish t r outs ∷ later) → WarrantedFrom F g s ws (finish t r outs ∷ later)
    → AllByRecursion (StartedWith F (λ other. Unit {0})) s.tickets
    → AllByRecursion (WritesWith (λ other. job_text other ≢ job_text job)) (told_from (writes_by F.rules) g (step g s (finish t r outs)) later)
others_since F g s ws t k r outs job later past apart of there o lawful warranted started =
    each_write F (λ other. job_text other ≢ job_text job) g (step g s (finish t r outs)) later lawful.1
    (starts_apart F g (step g s (finish t r outs)) (ws ++ writes_by F.rules s (finish t r outs)) (record { attempt = attempt_at k; report = r }) [] job later apart of lawful.1 warranted.1 now)
    (tickets_apart F (attempt_at k) job apart of (step g s (finish t r outs)).tickets (started_step F (λ other. Unit {0}) g s (finish t r outs) tt started)
    (none_of (is_late (attempt_at k)) (step g s (finish t r outs)).tickets now.each.0.none))
  where
    now : IsOrderly g (step g s (finish t r outs)) (record { attempt = attempt_at k; report = r } ∷ [])
    now =
        subst (λ (x : Option Ticket). IsOrderly g (step g s (finish t r outs)) (ending_of x r)) there
        (step_orderly g F.rules s (finish t r outs) [] lawful.0 (fresh_orderly o))

module _ {F : Opening} {D S : Type 0} {done : D → Ending → Type 0} {seen : S → Ending → Type 0} {z : Parts D S} (k : IsRun F done seen z) where
  recorded_at : (earlier later : List PlainEvent) (t : ℕ) (r : Report) (outs : Outs) → events_of z.flow ≡ earlier ++ finish t r outs ∷ later → is_recorded outs ≡ true
      → (x : Ticket) → ticket_at t (after (plain_of z.flow) earlier).tickets ≡ Some x → (job : JobParts) → IsJobOf F.rules (attempt_at x) job → IsDue F outs job r
      → StandsSince z.held (told_from (writes_by F.rules) (plain_of z.flow) (step (plain_of z.flow) (after (plain_of z.flow) earlier) (finish t r outs)) later) job r
  recorded_at earlier later t r outs is rec x there job of due = by_held F.held z.held k.records where
    put : writes_by F.rules (after (plain_of z.flow) earlier) (finish t r outs) ≡ puts job r ∷ []
    put = rw (there, rec, of.job) refl

    lawful : IsLawful (plain_of z.flow) F.rules (after (plain_of z.flow) earlier) (finish t r outs ∷ later)
    lawful = lawful_after (plain_of z.flow) F.rules (opening (plain_of z.flow)) earlier (finish t r outs ∷ later) (rw is at k.lawful)

    first : IsLawful (plain_of z.flow) F.rules (opening (plain_of z.flow)) earlier
    first = (legal_at (plain_of z.flow) F (opening (plain_of z.flow)) earlier later (finish t r outs) (rw is at k.lawful)).0

    warranted : WarrantedFrom F (plain_of z.flow) (opening (plain_of z.flow)) [] (earlier ++ finish t r outs ∷ later)
    warranted = rw is at k.warranted

    others : AllByRecursion (WritesWith (λ other. job_text other ≢ job_text job)) (told_from (writes_by F.rules) (plain_of z.flow) (step (plain_of z.flow) (after (plain_of z.flow) earlier) (finish t r outs)) later)
    others =
        others_since F (plain_of z.flow) (after (plain_of z.flow) earlier) _ t x r outs job later _ k.apart of there
        (history_orderly (plain_of z.flow) F.rules (opening (plain_of z.flow)) earlier [] first (opening_orderly (plain_of z.flow))) lawful
        (warranted_after F (plain_of z.flow) (opening (plain_of z.flow)) [] earlier (finish t r outs ∷ later) warranted)
        (started_all F (plain_of z.flow) (opening (plain_of z.flow)) [] earlier (warranted_front F (plain_of z.flow) (opening (plain_of z.flow)) [] earlier (finish t r outs ∷ later) warranted) tt)

    told : told_in (writes_by F.rules) (plain_of z.flow) (events_of z.flow)
        ≡ told_in (writes_by F.rules) (plain_of z.flow) earlier ++ (writes_by F.rules (after (plain_of z.flow) earlier) (finish t r outs)
        ++ told_from (writes_by F.rules) (plain_of z.flow) (step (plain_of z.flow) (after (plain_of z.flow) earlier) (finish t r outs)) later)
    told = ap (told_in (writes_by F.rules) (plain_of z.flow)) is ∙ told_more (writes_by F.rules) (plain_of z.flow) (opening (plain_of z.flow)) earlier (finish t r outs ∷ later)

    by_held : (a b : Option Held) → Both a b (λ m n. Agrees m (told_in (writes_by F.rules) (plain_of z.flow) (events_of z.flow)) n)
        → StandsSince b (told_from (writes_by F.rules) (plain_of z.flow) (step (plain_of z.flow) (after (plain_of z.flow) earlier) (finish t r outs)) later) job r
    by_held None None p = tt
    by_held None (Some n) p = absurd p
    by_held (Some m) None p = tt
    by_held (Some m) (Some n) p =
        stands job r (told_in (writes_by F.rules) (plain_of z.flow) earlier) (writes_by F.rules (after (plain_of z.flow) earlier) (finish t r outs)) _ m n put (due.formed rec) others
        (subst (λ ws. Agrees m ws n) told p)

  untouched_at : (q : List ℕ) → AllByRecursion (λ job. key_of job ≢ q) (told_in (started_by F.rules) (plain_of z.flow) (events_of z.flow)) → Both F.held z.held (λ m n. n q ≡ m q)
  untouched_at q a = by_held F.held z.held k.records where
    written : AllByRecursion (WritesWith (λ job. key_of job ≢ q)) (told_in (writes_by F.rules) (plain_of z.flow) (events_of z.flow))
    written =
        each_write F (λ job. key_of job ≢ q) (plain_of z.flow) (opening (plain_of z.flow)) (events_of z.flow) k.lawful
        (starts_of F (λ job. key_of job ≢ q) (plain_of z.flow) (opening (plain_of z.flow)) [] (events_of z.flow) k.warranted a) tt

    by_held : (a b : Option Held) → Both a b (λ m n. Agrees m (told_in (writes_by F.rules) (plain_of z.flow) (events_of z.flow)) n) → Both a b (λ m n. n q ≡ m q)
    by_held None None p = tt
    by_held None (Some n) p = absurd p
    by_held (Some m) None p = absurd p
    by_held (Some m) (Some n) p =
        let e : known m (told_in (writes_by F.rules) (plain_of z.flow) (events_of z.flow)) q ≡ Some (m q) = elsewhere q (told_in (writes_by F.rules) (plain_of z.flow) (events_of z.flow)) (Some (m q)) written in
        rw e at (p q)

  pub keeps : Keeps F (plain_of z.flow) (events_of z.flow) z.held
  keeps = record {
    recorded = λ earlier later t r outs is rec.
        job_so F (after (plain_of z.flow) earlier) t (λ job. IsDue F outs job r) (λ job. StandsSince z.held (writes_since F (plain_of z.flow) (earlier ++ finish t r outs ∷ []) later) job r)
        (λ x there job of due. subst (λ s. StandsSince z.held (told_from (writes_by F.rules) (plain_of z.flow) s later) job r)
        (sym (replay_more (plain_of z.flow) (opening (plain_of z.flow)) earlier (finish t r outs ∷ []))) (recorded_at earlier later t r outs is rec x there job of due))
        (warranted_at F (plain_of z.flow) (opening (plain_of z.flow)) [] earlier later (finish t r outs) (rw is at k.warranted));
    untouched = untouched_at;
  }
