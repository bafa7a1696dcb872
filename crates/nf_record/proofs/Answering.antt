-- The report that is kept for a job, from what was read.
use Rattle.std.proofs.Common.{◌≡◌, ℕ, List, ◌&&◌, Bool, true, false, cond, Option, None, Some, Result, Ok, Err, refl, ap, sym, subst, ◌∙◌, inl, inr}
use Rattle.std.specs.Prelude.{is_some, IsSomeAnd, IfOk}
use Rattle.std.specs.Option.{option_and_then, option_or}
use Rattle.std.specs.Str.{bytes_eq}
use Rattle.std.proofs.lemmas.Slice.Eq.{bytes_eq-Decides}
use Rattle.nf_job.specs.JobText.{job_text, old_text_of}
use Rattle.nf_job.specs.declared.parts.JobParts.{JobParts}
use Rattle.nf_job.specs.declared.report.Report.{Report}
use Rattle.nf_record.specs.declared.stored.Form.{Form}
use Rattle.nf_record.specs.declared.stored.Form.TheVariants.{Older, Current}
use Rattle.nf_record.specs.declared.stored.Record.{Record}
use Rattle.nf_record.specs.Record.{record_code, record_for, IsRecord, IsNoRecord, IsRead}
use Rattle.nf_record.specs.Reading.{record_in}
use Rattle.nf_record.specs.Lookup.{IsRecordOf, HasNone, IsReportAt, IsCurrent, IsAnswer, same_form, report_if, report_at, found_report}
use Rattle.nf_record.specs.Laws.{RecordsReadBack, OnlyRecordsAreRead, OwnRecordIsFound, IsShort, FoundIsAnswer}

abbrev record_with : Form → List ℕ → Report → Record
record_with form t p = record { form = form; job = t; report = p }

form_is : (f g : Form) → same_form f g ≡ true → g ≡ f
form_is Older Older h = refl
form_is Older Current h = absurd (cc)
form_is Current Older h = absurd (cc)
form_is Current Current h = refl

form_same : (f : Form) → same_form f f ≡ true
form_same Older = refl
form_same Current = refl

text_same : (t : List ℕ) → bytes_eq t t ≡ true
text_same t = (bytes_eq-Decides t t).1 refl

both : (a b : Bool) → a ≡ true → b ≡ true → (a && b) ≡ true
both a b f g = rw (f, g)

first_of_both : (a b : Bool) → (a && b) ≡ true → a ≡ true
first_of_both true b h = refl
first_of_both false b h = absurd (cc)

second_of_both : (a b : Bool) → (a && b) ≡ true → b ≡ true
second_of_both true b h = h
second_of_both false b h = absurd (cc)

abbrev is_of : Form → List ℕ → Record → Bool
is_of form t r = same_form form r.form && bytes_eq r.job t

is_of_own : (form : Form) (t : List ℕ) (p : Report) → is_of form t (record_with form t p) ≡ true
is_of_own form t p = both (same_form form form) (bytes_eq t t) (form_same form) (text_same t)

own_record : (form : Form) (t : List ℕ) (r : Record) → is_of form t r ≡ true → r ≡ record_with form t r.report
own_record form t r h =
    let f = form_is form r.form (first_of_both (same_form form r.form) (bytes_eq r.job t) h) in
    let j = (bytes_eq-Decides r.job t).0 (second_of_both (same_form form r.form) (bytes_eq r.job t) h) in
    λ i. record { form = f i; job = j i; report = r.report }

-- the bytes are a record; is it one with this form and job text?
pub judged : RecordsReadBack → (form : Form) (t bs : List ℕ) (r : Record) → IsRecord bs r → record_in bs ≡ Some r → IsReportAt form t (Some bs) (report_if form t r)
judged back form t bs r h is = by (is_of form t r) refl
  where
    by : (b : Bool) → is_of form t r ≡ b → IsReportAt form t (Some bs) (cond b (Some r.report) None)
    by true e = subst (IsRecord bs) (own_record form t r e) h
    by false e = λ p k.
        let other : record_in bs ≡ Some (record_with form t p) = ap record_in k.spelled ∙ back (record_with form t p) k.well_formed in
        let same : r ≡ record_with form t p = cc (is, other) in
        let yes : is_of form t r ≡ true = ap (is_of form t) same ∙ is_of_own form t p in
        absurd (cc (e, yes))

none_judged : (form : Form) (t bs : List ℕ) → IsNoRecord bs → IsReportAt form t (Some bs) None
none_judged form t bs none = λ p k. none (record_with form t p) k

-- what was read of the bytes, judged
pub reads_judged : RecordsReadBack → (form : Form) (t bs : List ℕ) (o : Option Record) (x : Option Report) → IsRead bs o → o ≡ record_in bs → x ≡ option_and_then (report_if form t) o → IsReportAt form t (Some bs) x
reads_judged back form t bs (Some r) x h is so = subst (IsReportAt form t (Some bs)) (sym so) (judged back form t bs r h (sym is))
reads_judged back form t bs None x h is so = subst (IsReportAt form t (Some bs)) (sym so) (none_judged form t bs h)

pub not_there : (form : Form) (t : List ℕ) → IsReportAt form t None None
not_there form t = λ p k. k

pub first_answer : (bytes old : Option (List ℕ)) (job : JobParts) (x : Option Report) → is_some x ≡ true → IsReportAt Current (job_text job) bytes x → IsAnswer bytes old job x
first_answer bytes old job (Some r) b h = inl h
first_answer bytes old job None b h = absurd (cc)

none_current : (bytes : Option (List ℕ)) (job : JobParts) (x : Option Report) → is_some x ≡ false → IsReportAt Current (job_text job) bytes x → HasNone (IsCurrent bytes job)
none_current bytes job (Some r) b h = absurd (cc)
none_current bytes job None b h = h

pub second_answer : (bytes old : Option (List ℕ)) (job : JobParts) (t : List ℕ) (x y : Option Report) → is_some x ≡ false → IsReportAt Current (job_text job) bytes x → Some t ≡ old_text_of job → IsReportAt Older t old y → IsAnswer bytes old job y
second_answer bytes old job t x (Some r) b h is k = inr (none_current bytes job x b h, subst (λ o. IsSomeAnd o (λ u. IsRecordOf Older u old r)) is k)
second_answer bytes old job t x None b h is k = (none_current bytes job x b h, λ r. subst (λ o. IsSomeAnd o (λ u. IsRecordOf Older u old r) → ⊥) is (k r))

pub no_answer : (bytes old : Option (List ℕ)) (job : JobParts) (x : Option Report) → is_some x ≡ false → IsReportAt Current (job_text job) bytes x → ◌≡◌ {A = Option (List ℕ)} None (old_text_of job) → IsAnswer bytes old job None
no_answer bytes old job x b h is = (none_current bytes job x b h, λ r. subst (λ o. IsSomeAnd o (λ u. IsRecordOf Older u old r) → ⊥) is (λ k. k))

or_first : (x y : Option Report) → is_some x ≡ true → x ≡ option_or x y
or_first (Some r) y b = refl
or_first None y b = absurd (cc)

or_second : (x y : Option Report) → is_some x ≡ false → y ≡ option_or x y
or_second (Some r) y b = absurd (cc)
or_second None y b = refl

pub first_found : (bytes old : Option (List ℕ)) (job : JobParts) (x : Option Report) → is_some x ≡ true → x ≡ report_at Current (job_text job) bytes → x ≡ found_report bytes old job
unfolding found_report
first_found bytes old job x b is = or_first x (option_and_then (λ t. report_at Older t old) (old_text_of job)) b ∙ ap (λ o. option_or o (option_and_then (λ t. report_at Older t old) (old_text_of job))) is

pub second_found : (bytes old : Option (List ℕ)) (job : JobParts) (x y : Option Report) → is_some x ≡ false → x ≡ report_at Current (job_text job) bytes → y ≡ option_and_then (λ t. report_at Older t old) (old_text_of job) → y ≡ found_report bytes old job
unfolding found_report
second_found bytes old job x y b is same = or_second x y b ∙ (λ i. option_or (is i) (same i))

pub own_found : RecordsReadBack → OwnRecordIsFound
unfolding found_report
own_found back job p old w =
    let t = job_text job in
    let at : report_at Current t (Some (record_code (record_for job p))) ≡ Some p =
    ap (option_and_then (report_if Current t)) (back (record_for job p) w) ∙ ap (λ b. cond b (Some p) None) (is_of_own Current t p) in
    ap (λ o. option_or o (option_and_then (λ u. report_at Older u old) (old_text_of job))) at

reported : RecordsReadBack → OnlyRecordsAreRead → (form : Form) (t : List ℕ) (bytes : Option (List ℕ)) → IsShort bytes → IsReportAt form t bytes (report_at form t bytes)
reported back only form t None small = not_there form t
reported back only form t (Some bs) small = by (record_in bs) refl
  where
    by : (o : Option Record) → record_in bs ≡ o → IsReportAt form t (Some bs) (option_and_then (report_if form t) o)
    by (Some r) is = judged back form t bs r (only bs r small is) is
    by None is = λ p k. let other : record_in bs ≡ Some (record_with form t p) = ap record_in k.spelled ∙ back (record_with form t p) k.well_formed in absurd (cc (is, other))

older_reported : RecordsReadBack → OnlyRecordsAreRead → (bytes old : Option (List ℕ)) (job : JobParts) (x : Option Report) → is_some x ≡ false → IsReportAt Current (job_text job) bytes x → IsShort old
    → (t : Option (List ℕ)) → t ≡ old_text_of job → IsAnswer bytes old job (option_and_then (λ u. report_at Older u old) t)
older_reported back only bytes old job x b h small (Some t) is = second_answer bytes old job t x (report_at Older t old) b h is (reported back only Older t old small)
older_reported back only bytes old job x b h small None is = no_answer bytes old job x b h is

answered : RecordsReadBack → OnlyRecordsAreRead → (bytes old : Option (List ℕ)) (job : JobParts) (x : Option Report) → IsReportAt Current (job_text job) bytes x → IsShort old
    → IsAnswer bytes old job (option_or x (option_and_then (λ u. report_at Older u old) (old_text_of job)))
answered back only bytes old job (Some r) h small = inl h
answered back only bytes old job None h small = older_reported back only bytes old job None refl h small (old_text_of job) refl

pub found_answered : RecordsReadBack → OnlyRecordsAreRead → FoundIsAnswer
unfolding found_report
found_answered back only bytes old job small smaller = answered back only bytes old job (report_at Current (job_text job) bytes) (reported back only Current (job_text job) bytes small) smaller

-- the answers of the call for the older record
pub older_answers : {E : Type 0} (bytes old : Option (List ℕ)) (job : JobParts) (t : List ℕ) (x : Option Report) (r : Result (Option Report) E) → is_some x ≡ false → IsReportAt Current (job_text job) bytes x → Some t ≡ old_text_of job
    → IfOk r (IsReportAt Older t old) → IfOk r (IsAnswer bytes old job)
older_answers bytes old job t x (Ok y) b h is k = second_answer bytes old job t x y b h is k
older_answers bytes old job t x (Err e) b h is k = tt

pub older_found : {E : Type 0} (bytes old : Option (List ℕ)) (job : JobParts) (t : List ℕ) (x : Option Report) (r : Result (Option Report) E) → is_some x ≡ false → x ≡ report_at Current (job_text job) bytes → Some t ≡ old_text_of job
    → IfOk r (λ o. o ≡ report_at Older t old) → IfOk r (λ o. o ≡ found_report bytes old job)
older_found bytes old job t x (Ok y) b so is k = second_found bytes old job x y b so (k ∙ ap (option_and_then (λ u. report_at Older u old)) is)
older_found bytes old job t x (Err e) b so is k = tt

pub none_found : (bytes old : Option (List ℕ)) (job : JobParts) (x : Option Report) → is_some x ≡ false → x ≡ report_at Current (job_text job) bytes → ◌≡◌ {A = Option (List ℕ)} None (old_text_of job) → None ≡ found_report bytes old job
none_found bytes old job x b so is = second_found bytes old job x None b so (ap (option_and_then (λ u. report_at Older u old)) is)
