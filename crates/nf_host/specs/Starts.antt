-- The children that a host has started.
use Rattle.std.specs.Prelude.{ℕ, ℤ, pos, ◌≡◌, ◌≤◌, List, [], ◌∷◌, ◌++◌, None, Some, unwrap_or}
use Rattle.std.specs.declared.option.Option.{Option}
use Rattle.std.specs.Process.{exit_code}
use Rattle.std.specs.declared.process.ExitStatus.{ExitStatus}
use Rattle.nf_host.specs.declared.status.TheConstants.{NO_CODE_STATUS}
use Rattle.nf_host.specs.Files.{Files}
use Rattle.nf_host.specs.Folders.{folder_of}

-- a child that ended: its folder, its exit status, and the folder's files by their names, when it started and when it
-- ended
pub record Start : Type 0 where
  pub folder : List ℕ
  pub status : ℤ
  pub files : Files
  pub left : Files

-- a child of this folder, over the files when it started and when it ended
abbrev pub start_of : Files → Files → List ℕ → ℤ → Start
start_of f g dir z = record { folder = dir; status = z; files = folder_of f dir; left = folder_of g dir }

-- the children so far and one more, if they are told
abbrev pub and_start : Option (List Start) → Start → Option (List Start)
and_start None s = None
and_start (Some starts) s = Some (starts ++ s ∷ [])

-- the exit code of a process, or 255 if it has none
abbrev pub exit_number : ExitStatus → ℤ
exit_number s = unwrap_or (exit_code s) NO_CODE_STATUS

-- a number from 0 to 255
abbrev pub IsStatus : ℤ → Type 0
IsStatus z = (n : ℕ) × (n ≤ 255) × (z ≡ pos n)
