-- Clashes between the names of staged files.
use Rattle.std.specs.Prelude.{◌≡◌, ℕ, nat_eq, List, [], ◌∷◌, Bool, ◌||◌, codes, if◌then◌else◌, Result, Ok, Err, Option, None, Some, option_map}
use Rattle.std.specs.List.{list_any, starts_with}
use Rattle.std.specs.Str.{bytes_eq}
use Rattle.nf_value.specs.declared.file.FileRef.{FileRef}
use Rattle.nf_job.specs.declared.fault.TaskFault.TheVariants.{StageClash}
use Rattle.nf_tasks.specs.Judged.{Judged}

-- a name of the task's own files
abbrev pub is_reserved : List ℕ → Bool
is_reserved n = bytes_eq n (codes ".exitcode") || starts_with nat_eq n (codes ".command.")

abbrev pub stood_before : List ℕ → List (List ℕ) → Bool
stood_before n before = list_any (λ m. bytes_eq m n) before

-- the first name that stood before, where the task's own files and the files named in `before` did
abbrev pub first_clash : List (List ℕ) → List FileRef → Option (List ℕ)
first_clash before [] = None
first_clash before (f ∷ fs) =
    if is_reserved f.name || stood_before f.name before then Some f.name else first_clash (f.name ∷ before) fs

abbrev pub by_clash : List FileRef → Option (List ℕ) → Judged (List FileRef)
by_clash fs None = Ok fs
by_clash fs (Some n) = Err (StageClash n)

-- the files, if no name clashes
abbrev pub unclashing : List FileRef → Judged (List FileRef)
unclashing fs = by_clash fs (first_clash [] fs)
