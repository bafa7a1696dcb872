-- Files by their paths, the pieces that a read gives, and what a write changes.
use Rattle.std.specs.Prelude.{◌≡◌, ℕ, ◌≤◌, List, [], ◌++◌, false, length, take, drop, if◌then◌else◌, unwrap_or, None, Some, bytes_eq}
use Rattle.std.specs.declared.option.Option.{Option}
use Rattle.nf_host.specs.declared.host.TheConstants.{PIECE_LEN}
use Rattle.nf_host.specs.declared.host.Piece.{Piece}
use Rattle.nf_host.specs.declared.host.Piece.TheVariants.{Absent, Bytes}

-- the bytes at each path that has a file
abbrev pub Files : Type 0
Files = List ℕ → Option (List ℕ)

-- no path has a file
abbrev pub no_files : Files
no_files = λ path. None

-- the files with these bytes at this path
abbrev pub put : Files → List ℕ → List ℕ → Files
put f path bytes = λ q. if bytes_eq q path then Some bytes else f q

-- the files with more bytes at the end of a file, which is made if it isn't there
abbrev pub appended : Files → List ℕ → List ℕ → Files
appended f path piece = put f path (unwrap_or (f path) [] ++ piece)

-- the files after one of them has taken another path
abbrev pub moved : Files → List ℕ → List ℕ → Files
moved f from to = λ q. if bytes_eq q to then f from else if bytes_eq q from then None else f q

-- all files at other paths are as they were
abbrev pub KeepsOthers : List ℕ → Files → Files → Type 0
KeepsOthers path f g = (q : List ℕ) → bytes_eq q path ≡ false → g q ≡ f q

-- the file's next 65,536 bytes from `at` on, or fewer at its end; `Absent` if there is no file
abbrev pub IsPiece : Option (List ℕ) → ℕ → Piece → Type 0
IsPiece None at p = p ≡ Absent
IsPiece (Some b) at (Bytes v) = v ≡ take PIECE_LEN (drop at b)
IsPiece (Some b) at Absent = ⊥

-- at most 65,536 bytes
abbrev pub IsShort : Piece → Type 0
IsShort Absent = Unit {0}
IsShort (Bytes v) = length v ≤ PIECE_LEN
