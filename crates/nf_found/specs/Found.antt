-- The files at the path of a source, as they are found among the files of a host. Of a host that tells no files nothing
-- is said: what it gives is digested as it is read, and not kept.
use Rattle.std.specs.Prelude.{◌≡◌, ◌<◌, ◌||◌, ℕ, List, [], ◌∷◌, length, Bool, true, IsTrue, IfSome, MatchBool}
use Rattle.std.specs.declared.option.Option.{Option}
use Rattle.std.specs.declared.option.Option.TheVariants.{None, Some}
use Rattle.std.specs.Str.{chars, encode_utf8_all}
use Rattle.nf_value.specs.declared.file.FileRef.{FileRef}
use Rattle.nf_pattern.specs.Literal.{is_literal_path}
use Rattle.nf_paths.specs.Paths.{name_at}
use Rattle.nf_host.specs.Files.{Files}
use Rattle.nf_sources.specs.Sources.{IsOutside, IsClear, IsTaken, AreMatching, IsLongMatch, folder_at, is_long, stored_as}
use Rattle.nf_meaning.specs.Given.{Found}
use Rattle.nf_meaning.specs.Walk.{Want}

-- whether a path has no pattern
abbrev pub is_literal : List ℕ → Bool
is_literal path = is_literal_path (chars path)

-- the last component of a path
abbrev pub last_of : List ℕ → List ℕ
last_of path = encode_utf8_all (name_at (chars path))

-- No file that the path may lead to is one of the file store. Of paths into it nothing is said, since a call changes
-- what is there
abbrev pub IsApart : List ℕ → List ℕ → Type 0
IsApart work path = MatchBool (is_literal path) (IsOutside work path) (IsClear work (folder_at path))

-- the one file at a path without a pattern, if it is there
abbrev pub IsFileAt : Files → List ℕ → List FileRef → Type 0
IsFileAt f path [] = f path ≡ None
IsFileAt f path (r ∷ []) = IsTaken (f path) (Some (stored_as r)) × (chars r.name ≡ name_at (chars path))
IsFileAt f path (r ∷ s ∷ more) = ⊥

-- exactly the files that match the path, in the order of their names, with their digests and lengths
abbrev pub AreFound : Files → List ℕ → List FileRef → Type 0
AreFound f path files =
    MatchBool (is_literal path) (IsFileAt f path files) (AreMatching f (folder_at path) (last_of path) files)

-- this is the path of the first file that matches and is longer than a file may be
abbrev pub IsFirstLongAt : Files → List ℕ → List ℕ → Type 0
IsFirstLongAt f path long =
    MatchBool (is_literal path) ((long ≡ path) × (is_long (f path) ≡ true)) (IsLongMatch f (folder_at path) (last_of path) long)

-- the same, if the host tells its files
abbrev pub IsLongOf : Option Files → List ℕ → List ℕ → Type 0
IsLongOf told path long = IfSome told (λ f. IsFirstLongAt f path long)

-- a source must have a file: its path is no pattern, or it asks for one
abbrev pub must_exist : Want → Bool
must_exist w = is_literal w.path || w.must

-- what was found for a source
pub record IsFound (work : List ℕ) (told : Option Files) (w : Want) (x : Found) : Type 0 where
  pub path : x.path ≡ w.path
  pub files : IsApart work w.path → IfSome told (λ f. AreFound f w.path x.files)
  pub some : IsTrue (must_exist w) → 0 < length x.files

-- no file matches the path of the source, and one must
pub record LacksFile (work : List ℕ) (told : Option Files) (w : Want) (path : List ℕ) : Type 0 where
  pub is : path ≡ w.path
  pub must : IsTrue (must_exist w)
  pub none : IsApart work w.path → IfSome told (λ f. AreFound f w.path [])

-- the first file that matches the path of the source and is too long has this path
abbrev pub HasLongFile : List ℕ → Option Files → Want → List ℕ → Type 0
HasLongFile work told w long = IsApart work w.path → IsLongOf told w.path long
