-- A record is found in the value that it was written as.
use Rattle.std.proofs.Common.{◌≡◌, ℕ, ◌<◌, ◌≤◌, ◌^◌, ℤ, pos, negsuc, List, [], ◌∷◌, ◌++◌, map, true, cond, Option, None, Some, Ok, refl, ap, sym, ◌∙◌, arith, append-nil}
use Rattle.std.specs.Prelude.{FitsSigned, nat_lt}
use Rattle.std.specs.Int.{w32}
use Rattle.std.specs.Option.{option_and_then}
use Rattle.std.proofs.lemmas.Bool.Decides.{nat_tests}
use Rattle.nf_value.specs.declared.file.FileRef.{FileRef}
use Rattle.nf_value.specs.Plain.{Plain, int, text, plains_of}
use Rattle.nf_value.specs.Code.{code}
use Rattle.nf_value.specs.Depth.{depth_of, deepest}
use Rattle.nf_codec.specs.Reading.{read}
use Rattle.nf_codec.specs.Whole.{IsWhole}
use Rattle.nf_job.specs.JobText.{file_plain, files_plain}
use Rattle.nf_job.specs.declared.report.Captured.{Captured}
use Rattle.nf_job.specs.declared.report.Captured.TheVariants as captured
use Rattle.nf_job.specs.declared.report.Report.{Report}
use Rattle.nf_record.specs.declared.stored.Form.{Form}
use Rattle.nf_record.specs.declared.stored.Form.TheVariants.{Older, Current}
use Rattle.nf_record.specs.declared.stored.Record.{Record}
use Rattle.nf_record.specs.Record.{form_name, captured_plain, found_plain, report_plain, record_plain, record_code}
use Rattle.nf_record.specs.Parts.{all_in, fits_exit, exit_in, captured_in, file_in, files_in, found_in, report_in, job_in, form_in}
use Rattle.nf_record.specs.Reading.{whole_in, record_of, record_in}
use Rattle.nf_record.specs.Laws.{RecordsReadBack}
use Rattle.nf_record.proofs.Options.{three_steps}

pub all_back : {A : Type 0} (f : Plain → Option A) (g : A → Plain) → ((x : A) → f (g x) ≡ Some x) → (xs : List A) → all_in f (plains_of (map g xs)) ≡ Some xs
all_back f g back [] = refl
all_back f g back (x ∷ xs) =
    ap (option_and_then (λ y. option_and_then (λ ys. Some (y ∷ ys)) (all_in f (plains_of (map g xs))))) (back x) ∙ ap (option_and_then (λ ys. Some (x ∷ ys))) (all_back f g back xs)

file_back : (f : FileRef) → file_in (file_plain f) ≡ Some f
file_back f = refl

files_back : (fs : List FileRef) → files_in (files_plain fs) ≡ Some fs
files_back fs = all_back file_in file_plain file_back fs

found_back : (fs : List (List FileRef)) → found_in (found_plain fs) ≡ Some fs
found_back fs = all_back files_in files_plain files_back fs

captured_back : (c : Captured) → captured_in (captured_plain c) ≡ Some c
captured_back captured.None = refl
captured_back captured.Bad = refl
captured_back (captured.Text t) = refl

below : (n : ℕ) → n < 2 ^ 31 → nat_lt n (2 ^ 31) ≡ true
below n h = grind (arith, nat_tests)

fits : (i : ℤ) → FitsSigned w32 i → fits_exit i ≡ true
fits (pos n) h = below n (omega (arith, h.sfits))
fits (negsuc n) h = below n (omega (arith, h.sfits))

exit_back : (i : ℤ) → FitsSigned w32 i → exit_in (int i) ≡ Some i
exit_back i h = ap (λ b. cond b (Some i) None) (fits i h)

report_back : (r : Report) → FitsSigned w32 r.exit → report_in (report_plain r) ≡ Some r
report_back r h =
    let k : ℤ → Captured → List (List FileRef) → Report = λ e c f. record { exit = e; captured = c; found = f } in
    three_steps k (exit_in (int r.exit)) (captured_in (captured_plain r.captured)) (found_in (found_plain r.found)) r.exit r.captured r.found
    (exit_back r.exit h) (captured_back r.captured) (found_back r.found)

form_back : (f : Form) → form_in (text (form_name f)) ≡ Some f
form_back Older = refl
form_back Current = refl

record_back : (r : Record) → FitsSigned w32 r.report.exit → record_of (record_plain r) ≡ Some r
record_back r h =
    let k : Form → List ℕ → Report → Record = λ f j p. record { form = f; job = j; report = p } in
    three_steps k (form_in (text (form_name r.form))) (job_in (text r.job)) (report_in (report_plain r.report)) r.form r.job r.report
    (form_back r.form) refl (report_back r.report h)

files_flat : (fs : List FileRef) → deepest (plains_of (map file_plain fs)) ≤ 0
files_flat [] = omega arith
files_flat (f ∷ fs) = omega (arith, files_flat fs)

found_flat : (fs : List (List FileRef)) → deepest (plains_of (map files_plain fs)) ≤ 1
found_flat [] = omega arith
found_flat (f ∷ fs) = omega (arith, files_flat f, found_flat fs)

captured_flat : (c : Captured) → depth_of (captured_plain c) ≤ 0
captured_flat captured.None = omega arith
captured_flat captured.Bad = omega arith
captured_flat (captured.Text t) = omega arith

record_flat : (r : Record) → depth_of (record_plain r) ≤ 64
record_flat r = omega (arith, captured_flat r.report.captured, found_flat r.report.found)

-- a code is read as its value
abbrev pub CodesReadBack : Type 0
CodesReadBack = (v : Plain) (d : ℕ) (rest : List ℕ) → IsWhole v → depth_of v ≤ d → read d (code v ++ rest) ≡ Ok (v, rest)

pub record_read : CodesReadBack → RecordsReadBack
unfolding record_in record_code
record_read back r w =
    ap (λ o. option_and_then record_of (whole_in o)) (ap (read 64) (sym (append-nil (code (record_plain r)))) ∙ back (record_plain r) 64 [] w.whole (record_flat r)) ∙ record_back r w.exit
