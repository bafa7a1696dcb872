-- Where a shell lane's files stand, which digests its file store has, and what a change leaves of both.
use Rattle.std.specs.Prelude.{◌≡◌, ℕ, ◌⊎◌, List, Bool, false, ◌&&◌, IsTrue, nat_le, length, codes, None, Some, bytes_eq}
use Rattle.std.specs.declared.option.Option.{Option}
use Rattle.sha2.specs.Sha256.{sha256}
use Rattle.nf_host.specs.Files.{Files}
use Rattle.nf_host.specs.Folders.{path_in, is_in}
use Rattle.nf_host.specs.declared.copies.TheConstants.{FILE_LIMIT}
use Rattle.nf_job.specs.JobText.{job_text, work_path}
use Rattle.nf_job.specs.declared.parts.JobParts.{JobParts}
use Rattle.nf_lane.specs.Store.{Store}

-- the folder of the job with this key
abbrev pub job_dir : List ℕ → List ℕ → List ℕ
job_dir work key = path_in work (work_path key)

-- the folder of a job
abbrev pub task_dir : List ℕ → JobParts → List ℕ
task_dir work p = job_dir work (sha256 (job_text p))

-- the path of the file with this digest in the file store
abbrev pub stored_at : List ℕ → List ℕ → List ℕ
stored_at work digest = path_in (path_in work (codes ".files")) (work_path digest)

-- whether a file isn't longer than a file may be
abbrev pub is_short : List ℕ → Bool
is_short b = nat_le (length b) FILE_LIMIT

-- whether a file is there, isn't too long, and has this digest
abbrev pub is_whole : List ℕ → Option (List ℕ) → Bool
is_whole digest None = false
is_whole digest (Some b) = bytes_eq (sha256 b) digest && is_short b

-- whether the file of a digest stands whole in the file store
abbrev pub is_stored : Files → List ℕ → List ℕ → Bool
is_stored f work digest = is_whole digest (f (stored_at work digest))

-- the file store in these files
abbrev pub stored_in : Files → List ℕ → Store
stored_in f work = λ digest. is_stored f work digest

-- a file of the store stands whole in the place of its digest
abbrev pub IsInPlace : List ℕ → List ℕ → Option (List ℕ) → Type 0
IsInPlace work path None = ⊥
IsInPlace work path (Some b) = (path ≡ stored_at work (sha256 b)) × IsTrue (is_short b)

-- the file at a path is as it was, or a file of the store was put there whole
abbrev pub StaysOrStored : List ℕ → List ℕ → Option (List ℕ) → Option (List ℕ) → Type 0
StaysOrStored work path before after = (after ≡ before) ⊎ IsInPlace work path after

-- every file but the one at this path is as it was, or is one of the store that was put there whole
abbrev pub KeepsOrStores : List ℕ → List ℕ → Files → Files → Type 0
KeepsOrStores work path f g = (q : List ℕ) → bytes_eq q path ≡ false → StaysOrStored work q (f q) (g q)

-- every file outside of this folder is as it was, or is one of the store that was put there whole
abbrev pub StoresOutside : List ℕ → List ℕ → Files → Files → Type 0
StoresOutside work dir f g = (q : List ℕ) → is_in dir q ≡ false → StaysOrStored work q (f q) (g q)

-- every file outside of a job's folder is as it was, or is one of the store that was put there whole
abbrev pub StoresBeside : List ℕ → JobParts → Files → Files → Type 0
StoresBeside work p f g = StoresOutside work (task_dir work p) f g

-- no file of the store is one of the folder
abbrev pub IsApart : List ℕ → List ℕ → Type 0
IsApart work dir = (digest name : List ℕ) → bytes_eq (stored_at work digest) (path_in dir name) ≡ false
