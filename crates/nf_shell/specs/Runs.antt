-- What a run of a shell lane does.
use Rattle.std.specs.Prelude.{◌≡◌, ◌⊎◌, ℕ, ℤ, List, All, length, codes, Some}
use Rattle.std.specs.declared.option.Option.{Option}
use Rattle.std.specs.List.{AllZip}
use Rattle.std.specs.Fmt.{signed_decimal}
use Rattle.nf_job.specs.declared.parts.JobParts.{JobParts}
use Rattle.nf_job.specs.declared.report.Report.{Report}
use Rattle.nf_host.specs.Files.{Files}
use Rattle.nf_host.specs.Folders.{path_in, folder_of}
use Rattle.nf_host.specs.Starts.{Start, IsStatus, start_of, and_start}
use Rattle.nf_lane.specs.Child.{IsOutput}
use Rattle.nf_shell.specs.Damages.{IsDamageAmong, IsTrueOf}
use Rattle.nf_shell.specs.Folder.{IsReadyFor}
use Rattle.nf_shell.specs.Outputs.{AreStored, IsFound, IsOutputOf}
use Rattle.nf_shell.specs.Places.{task_dir}
use Rattle.nf_shell.specs.declared.run.Ran.{Ran}
use Rattle.nf_shell.specs.declared.run.Ran.TheVariants.{Ended, Damaged}

-- the report is of these files of a folder, by their names in it: the standard output, and for each pattern the files
-- that are its outputs
pub record IsReportOf (p : JobParts) (left : Files) (r : Report) : Type 0 where
  pub captured : IsOutputOf p.wants_stdout (left (codes ".command.out")) r.captured
  pub found : AllZip (λ pattern files. IsFound left pattern p.staged files) p.patterns r.found

-- the report is of what stands in the folder, which tells the exit status too, and its files are stored
pub record IsReportIn (work dir : List ℕ) (p : JobParts) (g : Files) (r : Report) : Type 0 where
  pub exit : g (path_in dir (codes ".exitcode")) ≡ Some (signed_decimal r.exit)
  pub of_folder : IsReportOf p (folder_of g dir) r
  pub stored : All (AreStored work g) r.found

-- the same of the job's folder
abbrev pub IsReportBy : List ℕ → JobParts → Files → Report → Type 0
IsReportBy work p g r = IsReportIn work (task_dir work p) p g r

-- a child of the job's folder, which was ready for the job when the child started
pub record IsStartFor (work : List ℕ) (p : JobParts) (s : Start) : Type 0 where
  pub folder : s.folder ≡ task_dir work p
  pub ready : IsReadyFor p s.files

-- such a child, which ended with the report's exit status, and the report is of what it left
pub record IsStartOf (work : List ℕ) (p : JobParts) (r : Report) (s : Start) : Type 0 where
  pub own : IsStartFor work p s
  pub status : s.status ≡ r.exit
  pub report : IsReportOf p s.left r

-- that child alone was started
abbrev pub StartsOne : List ℕ → JobParts → Report → Option (List Start) → Option (List Start) → Type 0
StartsOne work p r before after = (s : Start) × (after ≡ and_start before s) × IsStartOf work p r s

-- no child was started, or one in the job's folder, which was ready
abbrev pub StartsAtMostOne : List ℕ → JobParts → Option (List Start) → Option (List Start) → Type 0
StartsAtMostOne work p before after =
    (after ≡ before) ⊎ ((s : Start) × (after ≡ and_start before s) × IsStartFor work p s)

-- a report that a job of this kind can have: a status from 0 to 255, standard output if it is wanted, and a list for
-- each pattern
pub record IsReportFor (p : JobParts) (r : Report) : Type 0 where
  pub exit : IsStatus r.exit
  pub output : IsOutput p.wants_stdout r.captured
  pub found : length r.found ≡ length p.patterns

-- ---- in a folder

-- no child was started, or one in this folder
abbrev pub StartsIn : List ℕ → Files → Option (List Start) → Option (List Start) → Type 0
StartsIn dir f before after =
    (after ≡ before) ⊎ ((g : Files) × (z : ℤ) × (after ≡ and_start before (start_of f g dir z)))

-- a child was started in this folder and ended with the report's status, and the report is of what it left
abbrev pub EndsIn : List ℕ → JobParts → Files → Report → Option (List Start) → Option (List Start) → Type 0
EndsIn dir p f r before after =
    (g : Files) × (after ≡ and_start before (start_of f g dir r.exit)) × IsReportOf p (folder_of g dir) r

-- ---- by how a run ended

-- what is known of the end itself
abbrev pub IsEndFor : JobParts → Ran → Type 0
IsEndFor p (Ended r) = IsReportFor p r
IsEndFor p (Damaged d) = IsDamageAmong p.staged d

-- what it tells of these files
abbrev pub IsEndOf : List ℕ → JobParts → Files → Ran → Type 0
IsEndOf work p g (Ended r) = IsReportBy work p g r
IsEndOf work p g (Damaged d) = IsTrueOf work g d

-- which children were started: one, or none where a file was damaged
abbrev pub StartsFor : List ℕ → JobParts → Option (List Start) → Option (List Start) → Ran → Type 0
StartsFor work p before after (Ended r) = StartsOne work p r before after
StartsFor work p before after (Damaged d) = after ≡ before
