-- Records, what puts of them leave, and sound keepers.
use Rattle.std.proofs.Common.{◌≡◌, ℕ, ◌<◌, ◌≤◌, List, Bool, true, false, refl, ap, sym, ◌∙◌, subst, arith, take, length, if◌then◌else◌, inl, inr, ◌⊎◌}
use Rattle.std.specs.Prelude.{Option, Some, None, IfSome, fold, bytes_eq, Result, Ok, Err}
use Rattle.std.proofs.lemmas.Bool.{cases_lt}
use Rattle.std.proofs.lemmas.List.{take_all}
use Rattle.nf_job.specs.declared.fault.TaskFault.{TaskFault}
use Rattle.nf_job.specs.declared.parts.JobParts.{JobParts}
use Rattle.nf_job.specs.declared.report.Report.{Report}
use Rattle.nf_job.specs.JobText.{job_text}
use Rattle.nf_graph.specs.Rules.{Outs, Rules}
use Rattle.nf_machine.specs.State.{Ticket}
use Rattle.nf_stored.specs.Attempts.{job_of}
use Rattle.nf_keeper.specs.Held.{Held, HoldTheSame, IsPut, IsStopImage, put, Both}
use Rattle.nf_record.specs.declared.stored.Record.{Record}
use Rattle.nf_record.specs.Record.{record_code, record_for, IsRecord}
use Rattle.nf_record.specs.Reading.{record_in}
use Rattle.nf_record.specs.Laws.{RecordsReadBack, NoFrontIsARecord}
use Rattle.nf_lane.specs.World.{World, report_of}
use Rattle.nf_core.specs.Opening.{Opening, IsSteady, GivesReport}
use Rattle.nf_core.specs.Kept.{IsRecordFor, LeavesRecord}
use Rattle.nf_core.specs.Records.{puts_of, spoils_of, is_recorded, key_of, known_after, finish_writes, abort_writes, IsTrueRecord, IsSoundHeld, IsSound}
use Rattle.nf_core.specs.Told.{attempt_at}
use Rattle.nf_core.proofs.Entering.{Follows}

-- ---- what is known at a key

known_same : (b : Bool) (k v : Option (Option (List ℕ))) (x : Option (List ℕ)) → IfSome k (λ u. x ≡ u) → IfSome v (λ u. x ≡ u) → IfSome (if b then v else k) (λ u. x ≡ u)
known_same true k v x h e = e
known_same false k v x h e = h

-- what an Abort may spoil isn't known then; nothing else changes
pub spoils_nothing : (b : Bool) (j : Result JobParts TaskFault) (x : Option (List ℕ)) (q : List ℕ) (k : Option (Option (List ℕ))) → IfSome k (λ v. x ≡ v)
    → IfSome (fold (known_after q) k (spoils_of b j)) (λ v. x ≡ v)
spoils_nothing true (Ok job) x q k h = known_same (bytes_eq (key_of job) q) k None x h tt
spoils_nothing true (Err f) x q k h = h
spoils_nothing false j x q k h = h

pub abort_follows : (R : Rules) (o : Option Ticket) (m : Held) → Follows (abort_writes R o) m m
abort_follows R None m q k h = h
abort_follows R (Some t) m q k h = spoils_nothing t.started (job_of R (attempt_at t)) (m q) q k h

-- ---- puts

-- at another key all is as it was
image_elsewhere : (m n : Held) (key q : List ℕ) (bytes : List ℕ) → IsStopImage m key bytes n → bytes_eq key q ≡ false → n q ≡ m q
image_elsewhere m n key q bytes (inl f) far = f q
image_elsewhere m n key q bytes (inr p) far = p.1 q ∙ ap (λ b. if b then Some (take p.0 bytes) else m q) far

known_lost : (b : Bool) (k : Option (Option (List ℕ))) (x y : Option (List ℕ)) → IfSome k (λ v. y ≡ v) → (b ≡ false → x ≡ y) → IfSome (if b then None else k) (λ v. x ≡ v)
known_lost true k x y h e = tt
known_lost false (Some v) x y h e = e refl ∙ h
known_lost false None x y h e = tt

-- a put of the job's record that failed, of a ticket that is given up then
pub image_follows : (R : Rules) (t : Ticket) (job : JobParts) (bytes : List ℕ) (m n : Held) → t.started ≡ true → job_of R (attempt_at t) ≡ Ok job
    → IsStopImage m (key_of job) bytes n → Follows (abort_writes R (Some t)) m n
image_follows R t job bytes m n on is image q k h =
    rw (on, is) (known_lost (bytes_eq (key_of job) q) k (n q) (m q) h (image_elsewhere m n (key_of job) q bytes image))

same_follows : (R : Rules) (t : Ticket) (m n : Held) → HoldTheSame m n → Follows (abort_writes R (Some t)) m n
same_follows R t m n same q k h = spoils_nothing t.started (job_of R (attempt_at t)) (n q) q k (moved k h) where
  moved : (k : Option (Option (List ℕ))) → IfSome k (λ v. m q ≡ v) → IfSome k (λ v. n q ≡ v)
  moved None h = tt
  moved (Some v) h = same q ∙ h

-- the same where a record may have been put or none
pub left_follows : {T E : Type 0} (R : Rules) (t : Ticket) (job : JobParts) (bytes : Option (List ℕ)) (r : Result T E) (m n : Held) → t.started ≡ true
    → job_of R (attempt_at t) ≡ Ok job → LeavesRecord (key_of job) bytes r m n → Follows (abort_writes R (Some t)) m n
left_follows R t job None r m n on is same = same_follows R t m n same
left_follows R t job (Some bytes) (Ok u) m n on is p =
    image_follows R t job bytes m n on is (inr (length bytes, λ x. p x ∙ ap (λ (bs : List ℕ). put m (key_of job) bs x) (sym (whole bytes)))) where
      whole : (bs : List ℕ) → take (length bs) bs ≡ bs
      whole bs = take_all (length bs) bs (omega arith)
left_follows R t job (Some bytes) (Err f) m n on is image = image_follows R t job bytes m n on is image

known_put : (b : Bool) (k : Option (Option (List ℕ))) (x y : Option (List ℕ)) (bytes : List ℕ) → IfSome k (λ v. y ≡ v) → x ≡ (if b then Some bytes else y)
    → IfSome (if b then Some (Some bytes) else k) (λ v. x ≡ v)
known_put true k x y bytes h e = e
known_put false (Some v) x y bytes h e = e ∙ h
known_put false None x y bytes h e = tt

put_follows : (T E : Type 0) (v : T) (recorded : Bool) (job : JobParts) (r : Report) (bytes : Option (List ℕ)) (m n : Held) → IsRecordFor recorded job r bytes
    → LeavesRecord {T = T} {E = E} (key_of job) bytes (Ok v) m n → Follows (puts_of recorded (Ok job) r) m n
put_follows T E v true job r (Some bytes) m n is p = λ q k h.
    known_put (bytes_eq (key_of job) q) k (n q) (m q) (record_code (record_for job r)) h (p q ∙ ap (λ (bs : List ℕ). put m (key_of job) bs q) is.spelled)
put_follows T E v true job r None m n is p = absurd is
put_follows T E v false job r (Some bytes) m n is p = absurd is
put_follows T E v false job r None m n is p = moved where
  moved : (q : List ℕ) (k : Option (Option (List ℕ))) → IfSome k (λ v. m q ≡ v) → IfSome k (λ v. n q ≡ v)
  moved q None h = tt
  moved q (Some v) h = p q ∙ h

-- a Finish whose record was put, if one is kept
pub finish_follows : (T E : Type 0) (v : T) (R : Rules) (t : Ticket) (job : JobParts) (r : Report) (outs : Outs) (bytes : Option (List ℕ)) (m n : Held) → job_of R (attempt_at t) ≡ Ok job
    → IsRecordFor (is_recorded outs) job r bytes → LeavesRecord {T = T} {E = E} (key_of job) bytes (Ok v) m n
    → Follows (finish_writes R (Some t) r outs) m n
finish_follows T E v R t job r outs bytes m n is kept p = rw is (put_follows T E v (is_recorded outs) job r bytes m n kept p)

-- ---- sound keepers

pub one_record : RecordsReadBack → (bs : List ℕ) (r s : Record) → IsRecord bs r → IsRecord bs s → r ≡ s
one_record law bs r s p q =
    let a = law r p.well_formed in
    let b = law s q.well_formed in
    let c : record_code r ≡ record_code s = sym p.spelled ∙ q.spelled in
    let d : record_in (record_code r) ≡ record_in (record_code s) = ap record_in c in
    let e : Some r ≡ Some s = sym a ∙ (d ∙ b) in
    cc

true_record : (w : World) (job : JobParts) (r : Report) (s : Record) → r ≡ report_of w (job_text job) → record_for job r ≡ s → IsTrueRecord w s.form s.job s.report
true_record w job r s right is = subst (λ (x : Record). IsTrueRecord w x.form x.job x.report) is right

-- what stands at a key after a put of a front of the job's record
sound_front : RecordsReadBack → NoFrontIsARecord → (w : World) (job : JobParts) (r : Report) (bytes : List ℕ) (k : ℕ) → r ≡ report_of w (job_text job) → IsRecord bytes (record_for job r)
    → (s : Record) → IsRecord (take k bytes) s → IsTrueRecord w s.form s.job s.report
sound_front law fronts w job r bytes k right is s at = by_len (cases_lt k (length bytes)) where
  by_len : (k < length bytes) ⊎ (length bytes ≤ k) → IsTrueRecord w s.form s.job s.report
  by_len (inl short) = absurd (fronts (record_for job r) s k is.well_formed (subst (λ (bs : List ℕ). k < length bs) is.spelled short) (subst (λ (bs : List ℕ). IsRecord (take k bs) s) is.spelled at))
  by_len (inr long) =
      let whole : take k bytes ≡ bytes = take_all k bytes long in
      true_record w job r s right (one_record law bytes (record_for job r) s is (subst (λ (bs : List ℕ). IsRecord bs s) whole at))

sound_put : RecordsReadBack → NoFrontIsARecord → (w : World) (m n : Held) (job : JobParts) (r : Report) (bytes : List ℕ) (k : ℕ) → r ≡ report_of w (job_text job) → IsRecord bytes (record_for job r)
    → IsPut m (key_of job) (take k bytes) n → IsSoundHeld w m → IsSoundHeld w n
sound_put law fronts w m n job r bytes k right is p old q = rw (p q) (by_key (bytes_eq (key_of job) q)) where
  by_key : (b : Bool) → IfSome (if b then Some (take k bytes) else m q) (λ bs. (s : Record) → IsRecord bs s → IsTrueRecord w s.form s.job s.report)
  by_key true = sound_front law fronts w job r bytes k right is
  by_key false = old q

sound_same : (w : World) (m n : Held) → HoldTheSame m n → IsSoundHeld w m → IsSoundHeld w n
sound_same w m n same old q = rw (same q) (old q)

sound_image : RecordsReadBack → NoFrontIsARecord → (w : World) (m n : Held) (job : JobParts) (r : Report) (bytes : List ℕ) → r ≡ report_of w (job_text job) → IsRecord bytes (record_for job r)
    → IsStopImage m (key_of job) bytes n → IsSoundHeld w m → IsSoundHeld w n
sound_image law fronts w m n job r bytes right is (inl f) old = sound_same w m n f old
sound_image law fronts w m n job r bytes right is (inr p) old = sound_put law fronts w m n job r bytes p.0 right is p.1 old

sound_left : {T E : Type 0} → RecordsReadBack → NoFrontIsARecord → (w : World) (recorded : Bool) (job : JobParts) (r : Report) (bytes : Option (List ℕ)) (x : Result T E) (m n : Held)
    → r ≡ report_of w (job_text job) → IsRecordFor recorded job r bytes → LeavesRecord (key_of job) bytes x m n → IsSoundHeld w m → IsSoundHeld w n
sound_left law fronts w recorded job r None x m n right is p old = sound_same w m n p old
sound_left law fronts w true job r (Some bytes) (Ok u) m n right is p old = sound_put law fronts w m n job r bytes (length bytes) right is (λ q. p q ∙ ap (λ (bs : List ℕ). put m (key_of job) bs q) (sym (whole bytes))) old where
  whole : (bs : List ℕ) → take (length bs) bs ≡ bs
  whole bs = take_all (length bs) bs (omega arith)
sound_left law fronts w true job r (Some bytes) (Err e) m n right is p old = sound_image law fronts w m n job r bytes right is p old
sound_left law fronts w false job r (Some bytes) x m n right is p old = absurd is

-- a report of one of the lanes is the world's that all of them tell
pub of_steady : (F : Opening) (w : World) (text : List ℕ) (r : Report) → IsSteady w F → GivesReport F text r → r ≡ report_of w text
of_steady F w text r steady gives = by_world gives.lane.world (steady gives.place gives.lane gives.there) gives.told where
  by_world : (o : Option World) → o ≡ Some w → IfSome o (λ v. r ≡ report_of v text) → r ≡ report_of w text
  by_world None e h = absurd (cc)
  by_world (Some v) e h = let same : v ≡ w = cc in h ∙ ap (λ u. report_of u text) same

-- a keeper stays sound whatever a put of the job's record leaves
pub stays_sound : {T E : Type 0} → RecordsReadBack → NoFrontIsARecord → (F : Opening) (w : World) (recorded : Bool) (job : JobParts) (r : Report) (bytes : Option (List ℕ)) (x : Result T E) (a b : Option Held)
    → IsSteady w F → GivesReport F (job_text job) r → IsRecordFor recorded job r bytes → Both a b (LeavesRecord (key_of job) bytes x) → IsSound w a → IsSound w b
stays_sound law fronts F w recorded job r bytes x None None steady gives is p s = tt
stays_sound law fronts F w recorded job r bytes x None (Some n) steady gives is p s = absurd p
stays_sound law fronts F w recorded job r bytes x (Some m) None steady gives is p s = absurd p
stays_sound law fronts F w recorded job r bytes x (Some m) (Some n) steady gives is p s =
    sound_left law fronts w recorded job r bytes x m n (of_steady F w (job_text job) r steady gives) is p s
