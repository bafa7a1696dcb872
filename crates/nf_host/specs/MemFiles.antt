-- What a map of files in memory holds.
use Rattle.std.specs.Prelude.{ℕ, List, [], ◌∷◌, String, Vec, option_map, string_bytes, if◌then◌else◌, bytes_eq, None, Some}
use Rattle.std.specs.declared.option.Option.{Option}
use Rattle.std.specs.Global.{Global}
use Rattle.std.specs.BTreeMap.{BTreeMap, get_by_text}
use Rattle.nf_host.specs.Files.{Files, put}
use Rattle.nf_host.specs.Folders.{path_in, name_in}

-- files in memory, by their paths
abbrev pub FileMap : Type 0
FileMap = BTreeMap (String Global) (Vec ℕ Global)

-- the bytes at each path
abbrev pub files_in : FileMap → Files
files_in m = λ path. option_map (λ v. v.items) (get_by_text m path)

-- the files after these, by their names in the folder, were written one after another
abbrev pub written : Files → List ℕ → List (List ℕ × List ℕ) → Files
written f dir [] = f
written f dir (e ∷ es) = written (put f (path_in dir e.0) e.1) dir es

-- the files without the one at this path
abbrev pub removed : Files → List ℕ → Files
removed f path = λ q. if bytes_eq q path then None else f q

-- the files without those at these paths
abbrev pub without : Files → List (String Global) → Files
without f [] = f
without f (path ∷ paths) = without (removed f (string_bytes path)) paths

-- the bytes of each name in a list; its first entry counts
abbrev pub named_in : List (List ℕ × List ℕ) → Files
named_in [] name = None
named_in (e ∷ es) name = if bytes_eq name e.0 then Some e.1 else named_in es name

-- a file of a map by its name in the folder, if it lies in it
abbrev pub item_in : List ℕ → String Global × Vec ℕ Global → Option (List ℕ × List ℕ)
item_in dir e = option_map (λ name. (name, e.1.items)) (name_in dir (string_bytes e.0))
