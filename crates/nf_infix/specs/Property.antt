-- What properties give.
use Rattle.std.specs.Prelude.{ℕ, List, [], codes, if◌then◌else◌, Ok, Err}
use Rattle.std.specs.Str.{bytes_eq}
use Rattle.nf_value.specs.Plain.{Plain, null, truth, int, text, file, list, table}
use Rattle.nf_value.specs.declared.fault.EvalKind.TheVariants.{NoProperty}
use Rattle.nf_texts.specs.Outcome.{Outcome}
use Rattle.nf_builtins.specs.Files.{file_name, file_base_name, file_extension, file_simple_name}
use Rattle.nf_infix.specs.Read.{value_at}

-- the rows on files that are read without parentheses
abbrev pub file_property : List ℕ → Plain → Outcome
file_property n v =
    if bytes_eq n (codes "name") then file_name v []
    else if bytes_eq n (codes "baseName") then file_base_name v []
    else if bytes_eq n (codes "extension") then file_extension v []
    else if bytes_eq n (codes "simpleName") then file_simple_name v []
    else Err NoProperty

-- `a.name`
abbrev pub property : Plain → List ℕ → Outcome
property (table ps) n = Ok (value_at n ps)
property (file m d l) n = file_property n (file m d l)
property null n = Err NoProperty
property (truth b) n = Err NoProperty
property (int i) n = Err NoProperty
property (text t) n = Err NoProperty
property (list vs) n = Err NoProperty
