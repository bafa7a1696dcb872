-- Parts of error lines.
use Rattle.std.specs.Prelude.{ℕ, List, ◌++◌, codes}
use Rattle.hex.specs.Hex.{encode_lower}
use Rattle.nf_value.specs.declared.file.Digest.{Digest}

-- NAME TEXT
abbrev pub named_text : List ℕ → List ℕ → List ℕ
named_text name text = name ++ codes " " ++ text

-- Damaged HEX
abbrev pub damage_text : Digest → List ℕ
damage_text due = codes "Damaged " ++ encode_lower due.0
