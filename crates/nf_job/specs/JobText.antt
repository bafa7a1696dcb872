-- The text of a job, and the folder named by its key.
use Rattle.std.specs.Prelude.{ℕ, List, [], ◌∷◌, ◌++◌, map, take, drop, pos, ◌==◌, if◌then◌else◌, codes, None, Some}
use Rattle.std.specs.declared.option.Option.{Option}
use Rattle.hex.specs.Hex.{encode_lower}
use Rattle.nf_value.specs.declared.file.FileRef.{FileRef}
use Rattle.nf_value.specs.Plain.{Plain, null, truth, int, text, file, list, plains_of}
use Rattle.nf_value.specs.Code.{code}
use Rattle.nf_job.specs.declared.parts.JobParts.{JobParts}

abbrev pub file_plain : FileRef → Plain
file_plain f = file f.name f.digest.0 f.len

abbrev pub stdin_plain : Option (List ℕ) → Plain
stdin_plain None = null
stdin_plain (Some t) = text t

abbrev pub files_plain : List FileRef → Plain
files_plain fs = list (plains_of (map file_plain fs))

abbrev pub texts_plain : List (List ℕ) → Plain
texts_plain ts = list (plains_of (map text ts))

-- the last five of the nine items: what the task reads, what it must leave, and its number
unfoldable pub five_items : JobParts → List Plain
five_items p = stdin_plain p.stdin ∷ files_plain p.staged ∷ texts_plain p.patterns ∷ truth p.wants_stdout ∷ int (pos p.n) ∷ []

-- the items of both forms of a job's text: the form's name, the process, the script, the inputs, and those five
unfoldable pub nine_items : List ℕ → JobParts → List Plain
nine_items form p = text form ∷ text p.process ∷ text p.script ∷ text p.inputs ∷ five_items p

-- the text of a job
unfoldable pub job_text : JobParts → List ℕ
job_text p = code (list (plains_of (nine_items (codes "nfjob2") p ++ int (pos p.attempt) ∷ [])))

-- the text of a job in the older form
unfoldable pub old_text : JobParts → List ℕ
old_text p = code (list (plains_of (nine_items (codes "nfjob1") p)))

-- the older text, which only a first attempt has
abbrev pub old_text_of : JobParts → Option (List ℕ)
old_text_of p = if p.attempt == 1 then Some (old_text p) else None

-- the code of a list of inputs
abbrev pub inputs_text : List Plain → List ℕ
inputs_text vs = code (list (plains_of vs))

-- the first byte of a key in two hexadecimal digits, a slash, and the other bytes in 62
abbrev pub work_path : List ℕ → List ℕ
work_path key = encode_lower (take 1 key) ++ codes "/" ++ encode_lower (drop 1 key)
