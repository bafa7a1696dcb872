-- What the inputs of a process take from a list of items.
use Rattle.std.specs.Prelude.{◌≡◌, ℕ, List, [], ◌∷◌, ◌++◌, Bool, true, false, codes, Result, Ok, Err, Option, None, Some, option_map}
use Rattle.nf_value.specs.declared.place.Place.{Place}
use Rattle.nf_value.specs.declared.file.FileRef.{FileRef}
use Rattle.nf_value.specs.declared.mem.Mem.{Mem}
use Rattle.nf_value.specs.Plain.{Plain, null, truth, int, text, file, list, table, Plains, no_items, item}
use Rattle.nf_value.specs.Text.{value_text}
use Rattle.nf_tasks.specs.declared.inputs.Bound.{Bound}
use Rattle.nf_tasks.specs.declared.inputs.Input.{Input}
use Rattle.nf_tasks.specs.declared.inputs.InputShape.{InputShape}
use Rattle.nf_tasks.specs.declared.inputs.InputShape.TheVariants.{One, Tuple}
use Rattle.nf_tasks.specs.declared.input_parts.InputPart.{InputPart}
use Rattle.nf_tasks.specs.declared.input_parts.InputPart.TheVariants.{Val, Path, Stdin}
use Rattle.nf_tasks.specs.Judged.{Judged, ◌>>=◌, wrong_kind}

abbrev pub nothing_taken : Bound
nothing_taken = record { values = []; stdin = None; staged = [] }

-- of two standard inputs the later counts
abbrev pub later : Option (List ℕ) → Option (List ℕ) → Option (List ℕ)
later first None = first
later first (Some t) = Some t

-- what two parts or inputs take, one after the other
abbrev pub and_taken : Bound → Bound → Bound
and_taken a b = record { values = a.values ++ b.values; stdin = later a.stdin b.stdin; staged = a.staged ++ b.staged }

-- ---- what a part takes from its item, if the item has the shape

abbrev pub value_taken : Plain → Bound
value_taken v = record { values = v ∷ []; stdin = None; staged = [] }

abbrev pub stdin_taken : Plain → Bound
stdin_taken v = record { values = []; stdin = Some (value_text v); staged = [] }

-- the name stands for the item, and the files are staged
abbrev pub path_taken : Plain → List FileRef → Bound
path_taken v fs = record { values = v ∷ []; stdin = None; staged = fs }

abbrev pub file_ref : List ℕ → List ℕ → ℕ → FileRef
file_ref n d l = record { name = n; digest = record { 0 = d }; len = l }

-- the file that a value is
abbrev pub file_in : Plain → Option FileRef
file_in (file n d l) = Some (file_ref n d l)
file_in null = None
file_in (truth b) = None
file_in (int i) = None
file_in (text t) = None
file_in (list vs) = None
file_in (table ps) = None

abbrev pub file_and : Option FileRef → Option (List FileRef) → Option (List FileRef)
file_and None more = None
file_and (Some f) more = option_map (λ fs. f ∷ fs) more

-- a list's files, if it has nothing else
abbrev pub files_among : Plains → Option (List FileRef)
files_among no_items = Some []
files_among (item v vs) = file_and (file_in v) (files_among vs)

-- the files of a file, or of a list of files alone
abbrev pub files_in : Plain → Option (List FileRef)
files_in (file n d l) = Some (file_ref n d l ∷ [])
files_in (list vs) = files_among vs
files_in null = None
files_in (truth b) = None
files_in (int i) = None
files_in (text t) = None
files_in (table ps) = None

abbrev pub part_takes : InputPart → Plain → Option Bound
part_takes (Val n) v = Some (value_taken v)
part_takes (Path n) v = option_map (path_taken v) (files_in v)
part_takes Stdin v = Some (stdin_taken v)

-- ---- what an input takes

abbrev pub taken_with : Option Bound → Option Bound → Option Bound
taken_with None more = None
taken_with (Some t) more = option_map (and_taken t) more

-- the parts of a tuple take from a list of as many items
abbrev pub parts_take : List InputPart → Plains → Option Bound
parts_take [] no_items = Some nothing_taken
parts_take [] (item v vs) = None
parts_take (p ∷ ps) no_items = None
parts_take (p ∷ ps) (item v vs) = taken_with (part_takes p v) (parts_take ps vs)

abbrev pub tuple_takes : List InputPart → Plain → Option Bound
tuple_takes ps (list vs) = parts_take ps vs
tuple_takes ps null = None
tuple_takes ps (truth b) = None
tuple_takes ps (int i) = None
tuple_takes ps (text t) = None
tuple_takes ps (file n d l) = None
tuple_takes ps (table qs) = None

abbrev pub shape_takes : InputShape → Plain → Option Bound
shape_takes (One p) v = part_takes p v
shape_takes (Tuple ps) v = tuple_takes ps v

-- ---- what all inputs take: each from the item at its place. The first without an item of its shape is at fault; items
-- after the inputs aren't read

abbrev pub taken_and : Place → Option Bound → Judged Bound → Judged Bound
taken_and p None more = Err (wrong_kind p)
taken_and p (Some t) more = more >>= λ u. Ok (and_taken t u)

abbrev pub bound_by : List Input → List Plain → Judged Bound
bound_by [] vs = Ok nothing_taken
bound_by (i ∷ is) [] = Err (wrong_kind i.place)
bound_by (i ∷ is) (v ∷ vs) = taken_and i.place (shape_takes i.shape v) (bound_by is vs)

-- ---- names

abbrev pub part_names : InputPart → List (List ℕ)
part_names (Val n) = n ∷ []
part_names (Path n) = n ∷ []
part_names Stdin = []

abbrev pub parts_names : List InputPart → List (List ℕ)
parts_names [] = []
parts_names (p ∷ ps) = part_names p ++ parts_names ps

abbrev pub shape_names : InputShape → List (List ℕ)
shape_names (One p) = part_names p
shape_names (Tuple ps) = parts_names ps

-- the names that inputs give values to, in their order
abbrev pub names_of : List Input → List (List ℕ)
names_of [] = []
names_of (i ∷ is) = shape_names i.shape ++ names_of is

-- the names that an expression of a process may use beside those that it captures
abbrev pub seen_names : List Input → List (List ℕ)
seen_names is = names_of is ++ codes "task" ∷ []

-- ---- clauses

-- more was taken, unless the item has another shape or memory ran out
abbrev pub Takes : Bound → Option Bound → Bound → Result Bool Mem → Type 0
Takes before due after (Ok true) = option_map (and_taken before) due ≡ Some after
Takes before due after (Ok false) = due ≡ None
Takes before due after (Err e) = Unit {0}

-- the same of files alone
abbrev pub and_files : Bound → List FileRef → Bound
and_files b fs = record b { staged = b.staged ++ fs }

abbrev pub TakesFiles : Bound → Option (List FileRef) → Bound → Result Bool Mem → Type 0
TakesFiles before due after (Ok true) = option_map (and_files before) due ≡ Some after
TakesFiles before due after (Ok false) = due ≡ None
TakesFiles before due after (Err e) = Unit {0}

abbrev pub and_value : Bound → Plain → Bound
and_value b v = record b { values = b.values ++ v ∷ [] }

abbrev pub and_stdin : Bound → List ℕ → Bound
and_stdin b t = record b { stdin = Some t }
