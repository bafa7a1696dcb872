-- What children in memory do.
use Rattle.std.specs.Prelude.{ℕ, ℤ, pos, List, [], ◌∷◌, codes, if◌then◌else◌, None, Some, bytes_eq}
use Rattle.std.specs.declared.option.Option.{Option}
use Rattle.sha2.specs.Sha256.{sha256}
use Rattle.nf_value.specs.declared.file.Digest.{Digest}
use Rattle.nf_host.specs.Files.{Files}
use Rattle.nf_host.specs.Folders.{path_in}
use Rattle.nf_host.specs.MemFiles.{written}
use Rattle.nf_host.specs.declared.children.Child.{Child}
use Rattle.nf_host.specs.declared.children.TheConstants.{UNKNOWN_STATUS}

-- what the scripts of some digests do
abbrev pub Deeds : Type 0
Deeds = List (Digest × Child)

-- what the script of this digest does: its first entry
abbrev pub child_of : Deeds → List ℕ → Option Child
child_of [] d = None
child_of (e ∷ es) d = if bytes_eq e.0.0 d then Some e.1 else child_of es d

-- what a script does, if it is there
abbrev pub child_by : Deeds → Option (List ℕ) → Option Child
child_by deeds None = None
child_by deeds (Some script) = child_of deeds (sha256 script)

-- what a child in this folder does: what its `.command.sh` does
abbrev pub child_at : Deeds → Files → List ℕ → Option Child
child_at deeds f dir = child_by deeds (f (path_in dir (codes ".command.sh")))

-- the exit status of a child, 127 if its script is unknown
abbrev pub status_by : Option Child → ℤ
status_by None = pos UNKNOWN_STATUS
status_by (Some child) = pos child.status

-- the files after a child ended in this folder; one whose script is unknown writes nothing
abbrev pub files_after : Option Child → Files → List ℕ → Files
files_after None f dir = f
files_after (Some child) f dir = written f dir child.files.items
