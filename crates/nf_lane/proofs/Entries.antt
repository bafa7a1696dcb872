-- Looking for a job's entry from the front.
use Rattle.std.proofs.Common.{◌≡◌, ℕ, ◌+◌, ◌<◌, ◌≤◌, List, length, get_or, drop, true, false, add-one}
use Rattle.std.proofs.Math.Seq.{drop-cons}
use Rattle.std.proofs.lemmas.List.{drop_all}
use Rattle.std.specs.Str.{bytes_eq}
use Rattle.nf_job.specs.declared.report.Report.{Report}
use Rattle.nf_lane.specs.World.{report_of, unknown}

pub at_entry : (w : List (List ℕ × Report)) (i : ℕ) (e : List ℕ × Report) (t : List ℕ) → i < length w → e ≡ get_or w i e → bytes_eq e.0 t ≡ true → report_of (drop i w) t ≡ e.1
at_entry w i e t h is same = rw (drop-cons w i e, ← is, same)

pub past_entry : (w : List (List ℕ × Report)) (i : ℕ) (e : List ℕ × Report) (t : List ℕ) → i < length w → e ≡ get_or w i e → bytes_eq e.0 t ≡ false → report_of (drop i w) t ≡ report_of (drop (i + 1) w) t
past_entry w i e t h is same = rw (drop-cons w i e, ← is, same, add-one)

pub no_entry : (w : List (List ℕ × Report)) (i : ℕ) (t : List ℕ) → length w ≤ i → report_of (drop i w) t ≡ unknown
no_entry w i t h = rw drop_all
