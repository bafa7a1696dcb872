-- Files in a table, by the paths of their sources.
use Rattle.std.specs.Prelude.{◌≡◌, ℕ, List, String}
use Rattle.std.specs.Borrow.{Bor}
use Rattle.std.specs.Global.{Global}
use Rattle.nf_value.specs.declared.file.FileRef.{FileRef}
use Rattle.nf_callees.specs.Found.{held}
use Rattle.nf_meaning.specs.Given.{Found, files_at}
use Rattle.nf_walked.specs.Around.{files_of}

-- under each path the files that were found at it
abbrev pub HasFiles : List Found → List (String Global × Bor (List FileRef)) → Type 0
HasFiles found es = (path : List ℕ) → files_of (held path es) ≡ files_at path found
