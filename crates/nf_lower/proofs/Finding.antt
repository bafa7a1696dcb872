-- Files that are put in a table.
use Rattle.std.proofs.Common.{◌≡◌, ◌∙◌, Bool, true, false, List, ◌∷◌, ap}
use Rattle.std.specs.Prelude.{Option, Some, String, bytes_eq, if◌then◌else◌}
use Rattle.std.specs.Borrow.{Bor}
use Rattle.std.specs.Global.{Global}
use Rattle.nf_value.specs.declared.file.FileRef.{FileRef}
use Rattle.nf_callees.specs.Found.{Puts, held}
use Rattle.nf_meaning.specs.Given.{Found, files_at}
use Rattle.nf_walked.specs.Around.{files_of}
use Rattle.nf_lower.specs.Files.{HasFiles}

here_or : (b : Bool) (fs : Bor (List FileRef)) (files rest : List FileRef) (o : Option (Bor (List FileRef))) → fs.now ≡ files → files_of o ≡ rest
    → files_of (if b then Some fs else o) ≡ (if b then files else rest)
here_or true fs files rest o here there = here
here_or false fs files rest o here there = there

pub put_before : (old new : List (String Global × Bor (List FileRef))) (x : Found) (fs : Bor (List FileRef)) (later : List Found) → Puts x.path fs old new → fs.now ≡ x.files → HasFiles later old
    → HasFiles (x ∷ later) new
put_before old new x fs later puts same has path =
    ap files_of (puts path) ∙ here_or (bytes_eq x.path path) fs x.files (files_at path later) (held path old) same (has path)
