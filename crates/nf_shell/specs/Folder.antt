-- What a job's folder holds when its child starts.
use Rattle.std.specs.Prelude.{◌≡◌, ℕ, ◌==◌, List, [], ◌∷◌, ◌++◌, Bool, true, false, not, ◌&&◌, ◌||◌, All, IsTrue, codes, bytes_eq, Result, Ok, Err, None, Some}
use Rattle.std.specs.declared.option.Option.{Option}
use Rattle.std.specs.List.{starts_with}
use Rattle.sha2.specs.Sha256.{sha256}
use Rattle.nf_value.specs.declared.file.FileRef.{FileRef}
use Rattle.nf_job.specs.declared.parts.JobParts.{JobParts}
use Rattle.nf_host.specs.Files.{Files}
use Rattle.nf_host.specs.Folders.{is_name, folder_of}
use Rattle.nf_host.specs.declared.host.HostRefusal.{HostRefusal}
use Rattle.nf_shell.specs.Damages.{IsTrueOf}
use Rattle.nf_shell.specs.Outputs.{is_among}
use Rattle.nf_shell.specs.declared.damage.Damage.{Damage}

-- the standard input of a job: a text, or nothing
abbrev pub stdin_of : Option (List ℕ) → List ℕ
stdin_of None = []
stdin_of (Some text) = text

-- a name that a staged file may have: a plain name that isn't one of the lane's own
abbrev pub is_stageable : List ℕ → Bool
is_stageable name =
    is_name name && not (bytes_eq name (codes ".exitcode")) && not (starts_with (λ c d. c == d) name (codes ".command."))

-- files that may be staged together: each may be staged, and none has the name of another
abbrev pub are_stageable : List FileRef → Bool
are_stageable [] = true
are_stageable (f ∷ files) = is_stageable f.name && not (is_among files f.name) && are_stageable files

-- the bytes of this file, by its digest
abbrev pub HasDigest : Option (List ℕ) → List ℕ → Type 0
HasDigest None digest = ⊥
HasDigest (Some b) digest = sha256 b ≡ digest

-- a name that the lane puts into a job's folder
abbrev pub is_prepared : List FileRef → List ℕ → Bool
is_prepared staged name =
    bytes_eq name (codes ".command.sh") || (bytes_eq name (codes ".command.in") || is_among staged name)

-- a folder's files, by their names in it: exactly the script and a line end, the standard input, and the staged files
pub record IsReady (text input : List ℕ) (due : List FileRef) (files : Files) : Type 0 where
  pub script : files (codes ".command.sh") ≡ Some (text ++ 10 ∷ [])
  pub stdin : files (codes ".command.in") ≡ Some input
  pub staged : All (λ f. HasDigest (files f.name) f.digest.0) due
  pub others : (name : List ℕ) → is_prepared due name ≡ false → files name ≡ None

-- a folder is ready for a job, if its files may be staged together
abbrev pub IsReadyFor : JobParts → Files → Type 0
IsReadyFor p files = IsTrue (are_stageable p.staged) → IsReady p.script (stdin_of p.stdin) p.staged files

-- staging these files makes the folder ready for them, if it was ready for none
abbrev pub Readies : List ℕ → List FileRef → Files → Files → Type 0
Readies dir staged f g =
    IsTrue (are_stageable staged) → (script stdin : List ℕ)
    → IsReady script stdin [] (folder_of f dir) → IsReady script stdin staged (folder_of g dir)

-- what putting files into a folder came to: P, or a damage that tells what is found in its file's place
abbrev pub EndsWith : List ℕ → Files → Result (Option Damage) HostRefusal → Type 0 → Type 0
EndsWith work g (Ok None) P = P
EndsWith work g (Ok (Some d)) P = IsTrueOf work g d
EndsWith work g (Err e) P = Unit {0}
