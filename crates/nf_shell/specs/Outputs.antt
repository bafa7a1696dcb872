-- Which files of a job's folder are outputs, and how a report has them and the standard output.
use Rattle.std.specs.Prelude.{◌≡◌, ℕ, List, [], ◌∷◌, map, Bool, true, false, not, ◌==◌, ◌&&◌, All, IsTrue, length, unwrap_or, option_map, if◌then◌else◌, codes, bytes_eq, None, Some}
use Rattle.std.specs.declared.option.Option.{Option}
use Rattle.std.specs.List.{list_any, filter_map}
use Rattle.std.specs.Str.{chars}
use Rattle.sha2.specs.Sha256.{sha256}
use Rattle.nf_pattern.specs.Glob.{is_match}
use Rattle.nf_pattern.specs.Literal.{is_literal_path}
use Rattle.nf_value.specs.declared.file.FileRef.{FileRef}
use Rattle.nf_job.specs.declared.parts.JobParts.{JobParts}
use Rattle.nf_job.specs.declared.report.Captured.{Captured}
use Rattle.nf_job.specs.declared.report.Captured.TheVariants as captured
use Rattle.nf_host.specs.Files.{Files}
use Rattle.nf_host.specs.Folders.{path_in, folder_of, is_name, IsListing, IsRising}
use Rattle.nf_lane.specs.Child.{IsCaptured, kept_of}
use Rattle.nf_shell.specs.Places.{is_short, is_stored}
use Rattle.nf_shell.specs.declared.store.Stored.{Stored}

-- a name with a dot in front
abbrev pub begins_with_dot : List ℕ → Bool
begins_with_dot [] = false
begins_with_dot (c ∷ name) = c == 46

-- whether one of these files has this name
abbrev pub is_among : List FileRef → List ℕ → Bool
is_among files name = list_any (λ f. bytes_eq f.name name) files

-- whether the pattern matches a name that doesn't begin with a dot
abbrev pub is_matched : List ℕ → List FileRef → List ℕ → Bool
is_matched pattern staged name =
    if is_literal_path (chars pattern) then bytes_eq pattern name
    else is_match (chars pattern) (chars name) && not (is_among staged name)

-- whether the file of this name is an output of the pattern
abbrev pub is_output : List ℕ → List FileRef → List ℕ → Bool
is_output pattern staged name = not (begins_with_dot name) && is_matched pattern staged name

-- whether a file is there, and isn't too long
abbrev pub is_fit : Option (List ℕ) → Bool
is_fit None = false
is_fit (Some b) = is_short b

-- a file as a report has it: with the digest and the length of these bytes
abbrev pub IsFileOf : Option (List ℕ) → FileRef → Type 0
IsFileOf None f = ⊥
IsFileOf (Some b) f = (f.digest.0 ≡ sha256 b) × (f.len ≡ length b)

-- exactly the folder's own files that are outputs of the pattern and not too long, in the order of their names
pub record IsFound (left : Files) (pattern : List ℕ) (staged found : List FileRef) : Type 0 where
  pub rising : IsRising (map (λ f. f.name) found)
  pub exact : (name : List ℕ)
      → is_among found name ≡ (is_name name && is_output pattern staged name && is_fit (left name))
  pub bytes : All (λ f. IsFileOf (left f.name) f) found

-- each of these files stands whole in the file store
abbrev pub AreStored : List ℕ → Files → List FileRef → Type 0
AreStored work g files = All (λ f. IsTrue (is_stored g work f.digest.0)) files

-- the standard output, if it is wanted: that file's text, or Bad; a file that isn't there counts as empty
abbrev pub IsOutputOf : Bool → Option (List ℕ) → Captured → Type 0
IsOutputOf false file c = c ≡ captured.None
IsOutputOf true file c = IsCaptured (kept_of (unwrap_or file [])) c

-- ---- one file

-- a file as the store takes it: with its digest and its length, if it is there and not too long
abbrev pub stored_of : Option (List ℕ) → Option Stored
stored_of None = None
stored_of (Some b) = if is_short b then Some (record { digest = record { 0 = sha256 b }; len = length b }) else None

-- a stored file by its name in a folder
abbrev pub ref_of : List ℕ → Option Stored → Option FileRef
ref_of name stored = option_map (λ s. record { name = name; digest = s.digest; len = s.len }) stored

-- the file of this name as a report has it, if it is an output of the pattern
abbrev pub file_found : Files → List ℕ → List FileRef → List ℕ → Option FileRef
file_found left pattern staged name =
    if is_output pattern staged name then ref_of name (stored_of (left name)) else None

-- the files among these names that are outputs of the pattern
abbrev pub files_found : Files → List ℕ → List FileRef → List (List ℕ) → List FileRef
files_found left pattern staged names = filter_map (file_found left pattern staged) names

-- a list of them for each pattern
abbrev pub lists_found : Files → List FileRef → List (List ℕ) → List (List ℕ) → List (List FileRef)
lists_found left staged names patterns = map (λ pattern. files_found left pattern staged names) patterns

-- the same among all names of a folder
abbrev pub AreFoundIn : Files → List ℕ → JobParts → List (List FileRef) → Type 0
AreFoundIn f dir p found =
    (names : List (List ℕ)) × IsListing f dir names
    × (found ≡ lists_found (folder_of f dir) p.staged names p.patterns)

-- the path in a folder at which a file is copied before it is stored
abbrev pub scratch_in : List ℕ → List ℕ
scratch_in dir = path_in dir (codes ".command.new")
