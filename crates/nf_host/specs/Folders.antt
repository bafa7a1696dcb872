-- Folders: paths in them, the names that they list, and what a change of one leaves.
use Rattle.std.specs.Prelude.{◌≡◌, ℕ, ◌==◌, List, [], ◌∷◌, ◌++◌, Bool, false, not, ◌&&◌, if◌then◌else◌, is_some, IsSome, None, Some, bytes_eq}
use Rattle.std.specs.declared.option.Option.{Option}
use Rattle.std.specs.List.{list_any}
use Rattle.std.specs.List.Sorted.{IsStrictlySortedBy}
use Rattle.std.specs.Ordering.{nat_cmp}
use Rattle.std.specs.Cmp.Lexicographic.{slice_cmp}
use Rattle.nf_host.specs.Files.{Files}

-- the path of a name in a folder; the empty path is the folder that the program runs in
abbrev pub path_in : List ℕ → List ℕ → List ℕ
path_in [] name = name
path_in (d ∷ dir) name = (d ∷ dir) ++ (47 ∷ name)

-- what follows a front and a slash in a path, if it begins with them
abbrev pub after_slash : List ℕ → List ℕ → Option (List ℕ)
after_slash [] [] = None
after_slash [] (c ∷ path) = if c == 47 then Some path else None
after_slash (d ∷ dir) [] = None
after_slash (d ∷ dir) (c ∷ path) = if c == d then after_slash dir path else None

-- the name of a path in a folder, if it lies in it at any depth
abbrev pub name_in : List ℕ → List ℕ → Option (List ℕ)
name_in [] path = Some path
name_in (d ∷ dir) path = after_slash (d ∷ dir) path

-- whether the path lies in the folder, at any depth
abbrev pub is_in : List ℕ → List ℕ → Bool
is_in dir path = is_some (name_in dir path)

-- the folder's files by their names in it
abbrev pub folder_of : Files → List ℕ → Files
folder_of f dir = λ name. f (path_in dir name)

-- the files without those in the folder
abbrev pub cleared : Files → List ℕ → Files
cleared f dir = λ q. if is_in dir q then None else f q

-- all files outside of the folder are as they were
abbrev pub KeepsOutside : List ℕ → Files → Files → Type 0
KeepsOutside dir f g = (q : List ℕ) → is_in dir q ≡ false → g q ≡ f q

-- a name of a file, not of one in a folder below: not empty, and without a slash
abbrev pub is_name : List ℕ → Bool
is_name [] = false
is_name (c ∷ name) = not (list_any (λ d. d == 47) (c ∷ name))

-- the same, if it is a name
abbrev pub if_name : Option (List ℕ) → Option (List ℕ)
if_name None = None
if_name (Some name) = if is_name name then Some name else None

-- the name of a path that is one of the folder's own files
abbrev pub own_name : List ℕ → List ℕ → Option (List ℕ)
own_name dir path = if_name (name_in dir path)

-- names in byte order, each once
abbrev pub IsRising : List (List ℕ) → Type 0
IsRising names = IsStrictlySortedBy (slice_cmp nat_cmp) names

-- exactly the names of the folder's own files, in byte order
pub record IsListing (f : Files) (dir : List ℕ) (names : List (List ℕ)) : Type 0 where
  pub rising : IsRising names
  pub exact : (name : List ℕ) → list_any (bytes_eq name) names ≡ (is_name name && is_some (f (path_in dir name)))

-- a file lies in the folder, at any depth
abbrev pub IsThere : Files → List ℕ → Type 0
IsThere f dir = (name : List ℕ) × IsSome (f (path_in dir name))

-- the listing of a folder, or nothing if no file lies in it
abbrev pub IsListed : Files → List ℕ → Option (List (List ℕ)) → Type 0
IsListed f dir None = (name : List ℕ) → f (path_in dir name) ≡ None
IsListed f dir (Some names) = IsThere f dir × IsListing f dir names
