-- What a `FileKeeper` holds: the files of its folder, by the names of their keys.
use Rattle.std.specs.Prelude.{ℕ, ◌+◌, ◌-◌, ◌^◌, min, List, if◌then◌else◌, nat_le, length, codes, None, Some, option_map}
use Rattle.std.specs.declared.option.Option.{Option}
use Rattle.hex.specs.Hex.{encode_lower}
use Rattle.nf_host.specs.Files.{Files}
use Rattle.nf_host.specs.Folders.{path_in}
use Rattle.nf_keeper.specs.Held.{Held, IsPut, IsStopImage}
use Rattle.nf_keeper.specs.declared.file_keeper.FileKeeper.{FileKeeper}
use Rattle.nf_keeper.specs.declared.file_keeper.TheConstants.{RECORD_LIMIT}

-- the path of a key's file: its digits in lower case, in the folder
abbrev pub path_of : List ℕ → List ℕ → List ℕ
path_of folder key = path_in folder (encode_lower key)

-- the path at which a file is written before it has its place
abbrev pub scratch_in : List ℕ → List ℕ
scratch_in folder = path_in folder (codes "new")

-- a file's bytes, if it isn't longer than a record may be
abbrev pub record_in : Option (List ℕ) → Option (List ℕ)
record_in None = None
record_in (Some b) = if nat_le (length b) RECORD_LIMIT then Some b else None

-- what these files hold in the folder
abbrev pub held_in : List ℕ → Files → Held
held_in folder f = λ key. record_in (f (path_of folder key))

-- the bytes are at the key now
abbrev pub HasPut : List ℕ → List ℕ → List ℕ → Files → Files → Type 0
HasPut folder key bytes f g = IsPut (held_in folder f) key bytes (held_in folder g)

-- or the files are as a put that failed may leave them
abbrev pub MayHavePut : List ℕ → List ℕ → List ℕ → Files → Files → Type 0
MayHavePut folder key bytes f g = IsStopImage (held_in folder f) key bytes (held_in folder g)

module _ {H : Type 0} where
  -- the host whose files it keeps
  abbrev pub host_of : FileKeeper H → H
  host_of k = k.host

  -- the folder that has its files
  abbrev pub folder_of : FileKeeper H → List ℕ
  folder_of k = k.folder

  -- how often it has refused bytes that were too many
  abbrev pub refused_of : FileKeeper H → ℕ
  refused_of k = k.refused

  -- what it holds, if the host reveals its files, by `files`
  abbrev pub held_of : (H → Option Files) → FileKeeper H → Option Held
  held_of files k = option_map (held_in k.folder) (files k.host)

  -- how often it has failed, by itself or as the host, whose count is `faults`
  abbrev pub count_of : (H → ℕ) → FileKeeper H → ℕ
  count_of faults k = min (faults k.host + k.refused) (2 ^ 64 - 1)
