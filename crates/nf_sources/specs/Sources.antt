-- The files of sources, as they are found among the files of a host.
use Rattle.std.specs.Prelude.{◌≡◌, ℕ, List, [], ◌∷◌, ◌++◌, Bool, true, false, not, ◌==◌, ◌&&◌, All, IfSome, codes, if◌then◌else◌, Result, Ok, Err}
use Rattle.std.specs.declared.option.Option.{Option}
use Rattle.std.specs.declared.option.Option.TheVariants.{None, Some}
use Rattle.std.specs.List.{filter_map}
use Rattle.std.specs.Str.{chars}
use Rattle.nf_value.specs.declared.file.FileRef.{FileRef}
use Rattle.nf_pattern.specs.Glob.{is_match}
use Rattle.nf_host.specs.Files.{Files}
use Rattle.nf_host.specs.Folders.{path_in, is_in, is_name, IsListing}
use Rattle.nf_host.specs.declared.host.HostRefusal.TheVariants as host
use Rattle.nf_shell.specs.Outputs.{ref_of, stored_of}
use Rattle.nf_shell.specs.Places.{is_short}
use Rattle.nf_shell.specs.declared.store.Stored.{Stored}
use Rattle.nf_sources.specs.declared.fault.SourceRefusal.{SourceRefusal}
use Rattle.nf_sources.specs.declared.fault.SourceRefusal.TheVariants.{FileTooLong, Host}

-- ---- the file store

-- the folder of the file store, and the path in it at which a source is copied before it is stored
abbrev pub store_in : List ℕ → List ℕ
store_in work = path_in work (codes ".files")

abbrev pub scratch_in : List ℕ → List ℕ
scratch_in work = path_in (store_in work) (codes ".new")

-- the path is none of the file store
abbrev pub IsOutside : List ℕ → List ℕ → Type 0
IsOutside work path = is_in (store_in work) path ≡ false

-- none of the folder's own files is one of the file store
abbrev pub IsClear : List ℕ → List ℕ → Type 0
IsClear work folder = (name : List ℕ) → is_name name ≡ true → IsOutside work (path_in folder name)

-- ---- one file

-- whether a file is there, and is longer than a file may be
abbrev pub is_long : Option (List ℕ) → Bool
is_long None = false
is_long (Some b) = not (is_short b)

-- what is taken of a file that isn't too long: its digest and its length, or nothing if there is no file
abbrev pub IsTaken : Option (List ℕ) → Option Stored → Type 0
IsTaken file o = (o ≡ stored_of file) × (is_long file ≡ false)

-- P, if the host failed
abbrev pub OnHostFailed : {T : Type 0} → Result T SourceRefusal → Type 0 → Type 0
OnHostFailed (Ok x) P = Unit {0}
OnHostFailed (Err (FileTooLong path)) P = Unit {0}
OnHostFailed (Err (Host host.Failed)) P = P
OnHostFailed (Err (Host host.Mem)) P = Unit {0}

-- P of the path of the file that is too long
abbrev pub OnTooLong : SourceRefusal → (List ℕ → Type 0) → Type 0
OnTooLong (FileTooLong path) P = P path
OnTooLong (Host e) P = Unit {0}

-- the file at this path is too long, if the host tells it
abbrev pub IsLongAt : Option Files → List ℕ → Type 0
IsLongAt told path = IfSome told (λ f. is_long (f path) ≡ true)

-- a refusal of a file that is too long: it names the file, or there was no memory to
abbrev pub NamesLong : List ℕ → SourceRefusal → Type 0
NamesLong path (FileTooLong p) = p ≡ path
NamesLong path (Host host.Failed) = ⊥
NamesLong path (Host host.Mem) = Unit {0}

-- a file as it is stored
abbrev pub stored_as : FileRef → Stored
stored_as r = record { digest = r.digest; len = r.len }

-- ---- a folder

-- what stands before the last slash of a path
abbrev pub with_first : ℕ → Option (List ℕ) → Option (List ℕ)
with_first c (Some front) = Some (c ∷ front)
with_first c None = if c == 47 then Some [] else None

abbrev pub before_slash : List ℕ → Option (List ℕ)
before_slash [] = None
before_slash (c ∷ cs) = with_first c (before_slash cs)

-- the folder that a path leads to: that of a path without a slash is the one that the program runs in
abbrev pub root_if_empty : List ℕ → List ℕ
root_if_empty [] = codes "/"
root_if_empty (c ∷ cs) = c ∷ cs

abbrev pub folder_by : Option (List ℕ) → List ℕ
folder_by None = []
folder_by (Some front) = root_if_empty front

abbrev pub folder_at : List ℕ → List ℕ
folder_at path = folder_by (before_slash path)

-- the file of this name, with its digest and its length, if it matches the pattern
abbrev pub file_at : Files → List ℕ → List ℕ → List ℕ → Option FileRef
file_at f folder pattern name =
    if is_match (chars pattern) (chars name) then ref_of name (stored_of (f (path_in folder name))) else None

-- whether the file of this name matches the pattern, and is too long
abbrev pub is_long_at : Files → List ℕ → List ℕ → List ℕ → Bool
is_long_at f folder pattern name = is_match (chars pattern) (chars name) && is_long (f (path_in folder name))

-- none of these names is that of a file that matches and is too long
abbrev pub NoneLong : Files → List ℕ → List ℕ → List (List ℕ) → Type 0
NoneLong f folder pattern names = All (λ name. is_long_at f folder pattern name ≡ false) names

-- the files of these names that match the pattern; none is too long
pub record AreFilesOf (f : Files) (folder pattern : List ℕ) (names : List (List ℕ)) (files : List FileRef) : Type 0 where
  pub are : files ≡ filter_map (file_at f folder pattern) names
  pub short : NoneLong f folder pattern names

-- of these names the first of a file that matches and is too long; this is its path
pub record IsFirstLong (f : Files) (folder pattern : List ℕ) (names : List (List ℕ)) (path : List ℕ) : Type 0 where
  pub before : List (List ℕ)
  pub name : List ℕ
  pub later : List (List ℕ)
  pub split : names ≡ before ++ name ∷ later
  pub short : NoneLong f folder pattern before
  pub long : is_long_at f folder pattern name ≡ true
  pub is : path ≡ path_in folder name

-- exactly the folder's own files that match the pattern, in the order of their names
abbrev pub AreMatching : Files → List ℕ → List ℕ → List FileRef → Type 0
AreMatching f folder pattern files =
    (names : List (List ℕ)) × IsListing f folder names × AreFilesOf f folder pattern names files

-- the first of the folder's own files that matches the pattern and is too long, in the order of their names
abbrev pub IsLongMatch : Files → List ℕ → List ℕ → List ℕ → Type 0
IsLongMatch f folder pattern path =
    (names : List (List ℕ)) × IsListing f folder names × IsFirstLong f folder pattern names path
