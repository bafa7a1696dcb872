-- The parts of a record in a value.
use Rattle.std.specs.Prelude.{ℕ, ℤ, pos, negsuc, ◌^◌, List, [], ◌∷◌, Bool, false, nat_lt, if◌then◌else◌, codes, None, Some}
use Rattle.std.specs.declared.option.Option.{Option}
use Rattle.std.specs.Option.{option_and_then}
use Rattle.std.specs.Str.{bytes_eq}
use Rattle.nf_value.specs.declared.file.FileRef.{FileRef}
use Rattle.nf_value.specs.Plain.{Plain, null, truth, int, text, file, list, Plains, no_items, item}
use Rattle.nf_job.specs.declared.report.Captured.{Captured}
use Rattle.nf_job.specs.declared.report.Captured.TheVariants as captured
use Rattle.nf_job.specs.declared.report.Report.{Report}
use Rattle.nf_record.specs.declared.stored.Form.{Form}
use Rattle.nf_record.specs.declared.stored.Form.TheVariants.{Older, Current}

abbrev pub three_of : Plains → Option (Plain × Plain × Plain)
three_of (item a (item b (item c no_items))) = Some (a, b, c)
three_of _ = None

-- the items of a list of three
abbrev pub three_in : Plain → Option (Plain × Plain × Plain)
three_in (list vs) = three_of vs
three_in _ = None

-- what f finds in each item, if it finds something in all
abbrev pub all_in : {A : Type 0} → (Plain → Option A) → Plains → Option (List A)
all_in f no_items = Some []
all_in f (item v vs) = option_and_then (λ x. option_and_then (λ xs. Some (x ∷ xs)) (all_in f vs)) (f v)

abbrev pub list_in : {A : Type 0} → (Plain → Option A) → Plain → Option (List A)
list_in f (list vs) = all_in f vs
list_in f _ = None

abbrev pub fits_exit : ℤ → Bool
fits_exit (pos n) = nat_lt n (2 ^ 31)
fits_exit (negsuc n) = nat_lt n (2 ^ 31)

-- an exit status of 32 bits
abbrev pub exit_in : Plain → Option ℤ
exit_in (int i) = if fits_exit i then Some i else None
exit_in _ = None

abbrev pub captured_in : Plain → Option Captured
captured_in null = Some captured.None
captured_in (truth false) = Some captured.Bad
captured_in (text t) = Some (captured.Text t)
captured_in _ = None

abbrev pub file_in : Plain → Option FileRef
file_in (file n d l) = Some (record { name = n; digest = record { 0 = d }; len = l })
file_in _ = None

abbrev pub files_in : Plain → Option (List FileRef)
files_in = list_in file_in

abbrev pub found_in : Plain → Option (List (List FileRef))
found_in = list_in files_in

abbrev pub report_from : Plain × Plain × Plain → Option Report
report_from p = option_and_then (λ e. option_and_then (λ c. option_and_then (λ f. Some (record { exit = e; captured = c; found = f })) (found_in p.2)) (captured_in p.1)) (exit_in p.0)

abbrev pub report_in : Plain → Option Report
report_in v = option_and_then report_from (three_in v)

abbrev pub form_named : List ℕ → Option Form
form_named t = if bytes_eq t (codes "nfrec2") then Some Current else (if bytes_eq t (codes "nfrec1") then Some Older else None)

-- a job's text
abbrev pub job_in : Plain → Option (List ℕ)
job_in (text t) = Some t
job_in _ = None

abbrev pub form_in : Plain → Option Form
form_in v = option_and_then form_named (job_in v)
