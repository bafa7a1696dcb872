-- A value in which a record is found is the one that it is written as.
use Rattle.std.proofs.Common.{◌≡◌, ℕ, ◌<◌, ◌≤◌, ◌^◌, ℤ, pos, negsuc, List, [], ◌∷◌, ◌++◌, length, map, Bool, true, false, cond, Option, None, Some, Ok, Err, refl, ap, sym, subst, ◌∙◌, arith, append-nil, codes}
use Rattle.std.specs.Prelude.{FitsSigned, nat_lt}
use Rattle.std.specs.Int.{w32}
use Rattle.std.specs.Option.{option_and_then}
use Rattle.std.specs.Str.{bytes_eq}
use Rattle.std.proofs.lemmas.Bool.Decides.{nat_tests}
use Rattle.std.proofs.lemmas.Slice.Eq.{bytes_eq-Decides}
use Rattle.nf_value.specs.declared.file.FileRef.{FileRef}
use Rattle.nf_value.specs.Plain.{Plain, null, truth, int, text, file, list, table, Plains, no_items, item, plains_of}
use Rattle.nf_value.specs.Code.{code}
use Rattle.nf_value.specs.Depth.{depth_of}
use Rattle.nf_codec.specs.Reading.{Reading, read}
use Rattle.nf_codec.specs.Whole.{IsWhole}
use Rattle.nf_job.specs.JobText.{file_plain, files_plain}
use Rattle.nf_job.specs.declared.report.Captured.{Captured}
use Rattle.nf_job.specs.declared.report.Captured.TheVariants as captured
use Rattle.nf_job.specs.declared.report.Report.{Report}
use Rattle.nf_record.specs.declared.stored.Form.{Form}
use Rattle.nf_record.specs.declared.stored.Form.TheVariants.{Older, Current}
use Rattle.nf_record.specs.declared.stored.Record.{Record}
use Rattle.nf_record.specs.Record.{form_name, captured_plain, found_plain, report_plain, record_plain, record_code, IsRead}
use Rattle.nf_record.specs.Parts.{three_in, all_in, list_in, fits_exit, exit_in, captured_in, file_in, files_in, found_in, report_from, report_in, form_named, job_in, form_in}
use Rattle.nf_record.specs.Reading.{if_last, whole_in, record_from, record_of, record_in}
use Rattle.nf_record.specs.Laws.{OnlyRecordsAreRead}
use Rattle.nf_record.proofs.Options.{some_then, three_found}
use Rattle.nf_record.proofs.Back.{CodesReadBack, record_read}

job_exact : (v : Plain) (t : List ℕ) → job_in v ≡ Some t → v ≡ text t
job_exact null t h = absurd (cc)
job_exact (truth b) t h = absurd (cc)
job_exact (int i) t h = absurd (cc)
job_exact (text u) t h = let e : u ≡ t = cc in ap text e
job_exact (file n d l) t h = absurd (cc)
job_exact (list vs) t h = absurd (cc)
job_exact (table ps) t h = absurd (cc)

named_exact : (t : List ℕ) (f : Form) → form_named t ≡ Some f → t ≡ form_name f
named_exact t f h = by (bytes_eq t (codes "nfrec2")) (bytes_eq t (codes "nfrec1")) refl refl h
  where
    by : (a b : Bool) → bytes_eq t (codes "nfrec2") ≡ a → bytes_eq t (codes "nfrec1") ≡ b → cond a (Some Current) (cond b (Some Older) None) ≡ Some f → t ≡ form_name f
    by true b x y k = let e : Current ≡ f = cc in (bytes_eq-Decides t (codes "nfrec2")).0 x ∙ ap form_name e
    by false true x y k = let e : Older ≡ f = cc in (bytes_eq-Decides t (codes "nfrec1")).0 y ∙ ap form_name e
    by false false x y k = absurd (cc)

form_exact : (v : Plain) (f : Form) → form_in v ≡ Some f → v ≡ text (form_name f)
form_exact v f h = let s = some_then form_named (job_in v) f h in job_exact v s.0 s.1 ∙ ap text (named_exact s.0 f s.2)

is_below : (n : ℕ) → nat_lt n (2 ^ 31) ≡ true → n < 2 ^ 31
is_below n h = grind (arith, nat_tests)

fitting : (i : ℤ) → fits_exit i ≡ true → FitsSigned w32 i
fitting (pos n) h = record { sfits = is_below n h }
fitting (negsuc n) h = record { sfits = is_below n h }

int_exact : (j i : ℤ) (b : Bool) → fits_exit j ≡ b → cond b (Some j) None ≡ Some i → (int j ≡ int i) × FitsSigned w32 i
int_exact j i true f h = let e : j ≡ i = cc in (ap int e, subst (FitsSigned w32) e (fitting j f))
int_exact j i false f h = absurd (cc)

exit_exact : (v : Plain) (i : ℤ) → exit_in v ≡ Some i → (v ≡ int i) × FitsSigned w32 i
exit_exact null i h = absurd (cc)
exit_exact (truth b) i h = absurd (cc)
exit_exact (int j) i h = int_exact j i (fits_exit j) refl h
exit_exact (text t) i h = absurd (cc)
exit_exact (file n d l) i h = absurd (cc)
exit_exact (list vs) i h = absurd (cc)
exit_exact (table ps) i h = absurd (cc)

captured_exact : (v : Plain) (c : Captured) → captured_in v ≡ Some c → captured_plain c ≡ v
captured_exact null c h = let e : captured.None ≡ c = cc in ap captured_plain (sym e)
captured_exact (truth true) c h = absurd (cc)
captured_exact (truth false) c h = let e : captured.Bad ≡ c = cc in ap captured_plain (sym e)
captured_exact (int i) c h = absurd (cc)
captured_exact (text t) c h = let e : captured.Text t ≡ c = cc in ap captured_plain (sym e)
captured_exact (file n d l) c h = absurd (cc)
captured_exact (list vs) c h = absurd (cc)
captured_exact (table ps) c h = absurd (cc)

file_exact : (v : Plain) (f : FileRef) → file_in v ≡ Some f → file_plain f ≡ v
file_exact null f h = absurd (cc)
file_exact (truth b) f h = absurd (cc)
file_exact (int i) f h = absurd (cc)
file_exact (text t) f h = absurd (cc)
file_exact (file n d l) f h = let made : FileRef = record { name = n; digest = record { 0 = d }; len = l } in let e : made ≡ f = cc in ap file_plain (sym e)
file_exact (list vs) f h = absurd (cc)
file_exact (table ps) f h = absurd (cc)

all_exact : {A : Type 0} (f : Plain → Option A) (g : A → Plain) → ((v : Plain) (x : A) → f v ≡ Some x → g x ≡ v) → (vs : Plains) (xs : List A) → all_in f vs ≡ Some xs → plains_of (map g xs) ≡ vs
all_exact {A} f g exact no_items xs h = let e : ◌≡◌ {A = List A} [] xs = cc in ap (λ ys. plains_of (map g ys)) (sym e)
all_exact {A} f g exact (item v vs) xs h =
    let s = some_then (λ x. option_and_then (λ ys. Some (x ∷ ys)) (all_in f vs)) (f v) xs h in
    let t = some_then (λ ys. Some (s.0 ∷ ys)) (all_in f vs) xs s.2 in
    let e : s.0 ∷ t.0 ≡ xs = cc t.2 in
    ap (λ ys. plains_of (map g ys)) (sym e) ∙ (λ i. item (exact v s.0 s.1 i) (all_exact f g exact vs t.0 t.1 i))

list_exact : {A : Type 0} (f : Plain → Option A) (g : A → Plain) → ((v : Plain) (x : A) → f v ≡ Some x → g x ≡ v) → (v : Plain) (xs : List A) → list_in f v ≡ Some xs → list (plains_of (map g xs)) ≡ v
list_exact f g exact null xs h = absurd (cc)
list_exact f g exact (truth b) xs h = absurd (cc)
list_exact f g exact (int i) xs h = absurd (cc)
list_exact f g exact (text t) xs h = absurd (cc)
list_exact f g exact (file n d l) xs h = absurd (cc)
list_exact f g exact (list vs) xs h = ap list (all_exact f g exact vs xs h)
list_exact f g exact (table ps) xs h = absurd (cc)

files_exact : (v : Plain) (fs : List FileRef) → files_in v ≡ Some fs → files_plain fs ≡ v
files_exact = list_exact file_in file_plain file_exact

found_exact : (v : Plain) (fs : List (List FileRef)) → found_in v ≡ Some fs → found_plain fs ≡ v
found_exact = list_exact files_in files_plain files_exact

abbrev list_of : Plain × Plain × Plain → Plain
list_of p = list (plains_of (p.0 ∷ p.1 ∷ p.2 ∷ []))

three_exact : (v : Plain) (p : Plain × Plain × Plain) → three_in v ≡ Some p → v ≡ list_of p
three_exact null p h = absurd (cc)
three_exact (truth b) p h = absurd (cc)
three_exact (int i) p h = absurd (cc)
three_exact (text t) p h = absurd (cc)
three_exact (file n d l) p h = absurd (cc)
three_exact (list no_items) p h = absurd (cc)
three_exact (list (item a no_items)) p h = absurd (cc)
three_exact (list (item a (item b no_items))) p h = absurd (cc)
three_exact (list (item a (item b (item c no_items)))) p h = let made : Plain × Plain × Plain = (a, b, c) in let e : made ≡ p = cc in ap list_of e
three_exact (list (item a (item b (item c (item d vs))))) p h = absurd (cc)
three_exact (table ps) p h = absurd (cc)

report_exact : (v : Plain) (r : Report) → report_in v ≡ Some r → (report_plain r ≡ v) × FitsSigned w32 r.exit
report_exact v r h =
    let s = some_then report_from (three_in v) r h in
    let k : ℤ → Captured → List (List FileRef) → Report = λ e c f. record { exit = e; captured = c; found = f } in
    let t = three_found k (exit_in s.0.0) (captured_in s.0.1) (found_in s.0.2) r s.2 in
    let e = exit_exact s.0.0 t.0 t.3 in
    let c = captured_exact s.0.1 t.1 t.4 in
    let f = found_exact s.0.2 t.2 t.5 in
    (ap report_plain (sym t.6) ∙ (λ i. list_of (sym e.0 i, c i, f i)) ∙ sym (three_exact v s.0 s.1), subst (λ (q : Report). FitsSigned w32 q.exit) t.6 e.1)

pub record_exact : (v : Plain) (r : Record) → record_of v ≡ Some r → (record_plain r ≡ v) × FitsSigned w32 r.report.exit
record_exact v r h =
    let s = some_then record_from (three_in v) r h in
    let k : Form → List ℕ → Report → Record = λ f j p. record { form = f; job = j; report = p } in
    let t = three_found k (form_in s.0.0) (job_in s.0.1) (report_in s.0.2) r s.2 in
    let f = form_exact s.0.0 t.0 t.3 in
    let j = job_exact s.0.1 t.1 t.4 in
    let p = report_exact s.0.2 t.2 t.5 in
    (ap record_plain (sym t.6) ∙ (λ i. list_of (sym f i, sym j i, p.0 i)) ∙ sym (three_exact v s.0 s.1), subst (λ (q : Record). FitsSigned w32 q.report.exit) t.6 p.1)

abbrev got : Plain → List ℕ → Reading Plain
got v rest = Ok (v, rest)

last_exact : (w : Plain) (rest : List ℕ) (v : Plain) → if_last w rest ≡ Some v → got w rest ≡ got v []
last_exact w [] v h = let e : w ≡ v = cc in ap (λ u. got u []) e
last_exact w (b ∷ bs) v h = absurd (cc)

whole_exact : (o : Reading Plain) (v : Plain) → whole_in o ≡ Some v → o ≡ got v []
whole_exact (Ok p) v h = last_exact p.0 p.1 v h
whole_exact (Err e) v h = absurd (cc)

-- only codes are read
abbrev pub OnlyCodesAreRead : Type 0
OnlyCodesAreRead = (d : ℕ) (bs : List ℕ) (v : Plain) (rest : List ℕ) → length bs < 2 ^ 64 → read d bs ≡ Ok (v, rest) → (bs ≡ code v ++ rest) × IsWhole v × (depth_of v ≤ d)

pub record_only : OnlyCodesAreRead → OnlyRecordsAreRead
unfolding record_in record_code
record_only only bs r small h =
    let s = some_then record_of (whole_in (read 64 bs)) r h in
    let l = only 64 bs s.0 [] small (whole_exact (read 64 bs) s.0 s.1) in
    let x = record_exact s.0 r s.2 in
    record { spelled = l.0 ∙ append-nil (code s.0) ∙ ap code (sym x.0); well_formed = record { exit = x.1; whole = subst IsWhole (sym x.0) l.1 } }

-- what was read of the bytes is what they are
pub read_exactly : CodesReadBack → OnlyCodesAreRead → (bs : List ℕ) (o : Option Record) → length bs < 2 ^ 64 → o ≡ record_in bs → IsRead bs o
read_exactly back only bs (Some r) small is = record_only only bs r small (sym is)
read_exactly back only bs None small is = λ r h. let e : record_in bs ≡ Some r = ap record_in h.spelled ∙ record_read back r h.well_formed in absurd (cc (is, e))
