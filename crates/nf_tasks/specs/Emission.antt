-- What a task gives whose report doesn't fail.
use Rattle.std.specs.Prelude.{List, [], ◌∷◌, Bool, true, false, ◌&&◌, map, Option, None, Some, Ok}
use Rattle.nf_value.specs.declared.file.FileRef.{FileRef}
use Rattle.nf_value.specs.Plain.{Plain, null, text, list, plains_of}
use Rattle.nf_job.specs.JobText.{file_plain}
use Rattle.nf_job.specs.declared.report.Captured.{Captured}
use Rattle.nf_job.specs.declared.report.Captured.TheVariants as c
use Rattle.nf_bag.specs.Sorted.{sorted_of}
use Rattle.nf_tasks.specs.declared.emission.Giving.{Giving}
use Rattle.nf_tasks.specs.Judged.{Judged, ◌>>=◌, evaluated}
use Rattle.nf_tasks.specs.Meaning.{PartMeaning, value, files, captured, ShapeMeaning, one, tuple, OutputMeaning, parts_in}
use Rattle.nf_tasks.specs.Failure.{first_files, other_files, is_there}

-- the text of a standard output that was wanted
abbrev pub captured_plain : Captured → Plain
captured_plain (c.Text t) = text t
captured_plain c.None = null
captured_plain c.Bad = null

-- a single file, or several as a list in the order of values
abbrev pub files_plain_of : List FileRef → Plain
files_plain_of (f ∷ []) = file_plain f
files_plain_of fs = list (plains_of (sorted_of (map file_plain fs)))

-- ---- the lists of files of a report go to the patterns in their order

-- the lists that are left after a part
abbrev pub part_left : PartMeaning → List (List FileRef) → List (List FileRef)
part_left (value f) found = found
part_left (files f) found = other_files found
part_left captured found = found

abbrev pub left_after : List PartMeaning → List (List FileRef) → List (List FileRef)
left_after [] found = found
left_after (x ∷ xs) found = left_after xs (part_left x found)

abbrev pub part_there : PartMeaning → List FileRef → Bool
part_there (value f) fs = true
part_there (files f) fs = is_there fs
part_there captured fs = true

-- whether each pattern of the parts has files
abbrev pub all_there : List PartMeaning → List (List FileRef) → Bool
all_there [] found = true
all_there (x ∷ xs) found = part_there x (first_files found) && all_there xs (part_left x found)

-- ---- values

-- what outputs are made of: the values that expressions see, and the standard output
pub record Given : Type 0 where
  pub seen : List Plain
  pub captured : Captured

-- as memory holds it
abbrev pub given : Giving → Given
given g = record { seen = g.seen.now; captured = g.captured.now }

abbrev pub part_value : Given → PartMeaning → List FileRef → Judged Plain
part_value g (value f) fs = evaluated (f g.seen)
part_value g (files f) fs = Ok (files_plain_of fs)
part_value g captured fs = Ok (captured_plain g.captured)

abbrev pub part_values : Given → List PartMeaning → List (List FileRef) → Judged (List Plain)
part_values g [] found = Ok []
part_values g (x ∷ xs) found =
    part_value g x (first_files found) >>= λ v.
    part_values g xs (part_left x found) >>= λ vs.
    Ok (v ∷ vs)

-- a tuple is the list of its parts' values
abbrev pub shape_value : Given → ShapeMeaning → List (List FileRef) → Judged Plain
shape_value g (one x) found = part_value g x (first_files found)
shape_value g (tuple xs) found = part_values g xs found >>= λ vs. Ok (list (plains_of vs))

-- an output emits nothing where a pattern has no files, and its expressions aren't evaluated then
abbrev pub value_if : Bool → Judged Plain → Judged (Option Plain)
value_if false v = Ok None
value_if true v = v >>= λ w. Ok (Some w)

abbrev pub output_value : Given → OutputMeaning → List (List FileRef) → Judged (Option Plain)
output_value g o found = value_if (all_there (parts_in o.shape) found) (shape_value g o.shape found)

-- for each output its value, or nothing
abbrev pub values_of : Given → List OutputMeaning → List (List FileRef) → Judged (List (Option Plain))
values_of g [] found = Ok []
values_of g (o ∷ os) found =
    output_value g o found >>= λ v.
    values_of g os (left_after (parts_in o.shape) found) >>= λ vs.
    Ok (v ∷ vs)
