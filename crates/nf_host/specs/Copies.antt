-- The digests of whole files, and copies of them.
use Rattle.std.specs.Prelude.{◌≡◌, ℕ, ◌<◌, ◌≤◌, ◌==◌, List, [], ◌++◌, length, if◌then◌else◌, unwrap_or, None, Some}
use Rattle.std.specs.declared.option.Option.{Option}
use Rattle.sha2.specs.Sha256.{sha256}
use Rattle.nf_host.specs.Files.{Files, put}
use Rattle.nf_host.specs.declared.copies.Digested.{Digested}
use Rattle.nf_host.specs.declared.copies.Digested.TheVariants.{Absent, TooLong, Whole}

-- the digest and the length of a whole file if it has at most `limit` bytes, `TooLong` if it has more, `Absent` if there is none
abbrev pub IsDigested : ℕ → Option (List ℕ) → Digested → Type 0
IsDigested limit None d = d ≡ Absent
IsDigested limit (Some b) Absent = ⊥
IsDigested limit (Some b) TooLong = limit < length b
IsDigested limit (Some b) (Whole digest len) = (length b ≤ limit) × (digest.0 ≡ sha256 b) × (len ≡ length b)

-- a file that was whole has its bytes at the other path
abbrev pub IsCopied : Option (List ℕ) → Option (List ℕ) → Digested → Type 0
IsCopied from to Absent = Unit {0}
IsCopied from to TooLong = Unit {0}
IsCopied from to (Whole digest len) = to ≡ from

-- the files after a piece of a file was written from byte `at` on; the first piece makes the file anew
abbrev pub grown : ℕ → Files → List ℕ → List ℕ → Files
grown at f path piece = put f path ((if at == 0 then [] else unwrap_or (f path) []) ++ piece)
