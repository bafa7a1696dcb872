-- Sources: where channels and files come from.
use Rattle.std.specs.Prelude.{ℕ, ◌==◌, nat_le, Bool, true, false, List, [], ◌∷◌, ◌++◌, map, codes, bytes_eq, replicate, if◌then◌else◌, Option, Some, None}
use Rattle.std.specs.Str.{chars, encode_utf8_all}
use Rattle.nf_value.specs.Plain.{Plain, null, truth, int, text, file, list, table}
use Rattle.nf_value.specs.declared.place.Place.{Place}
use Rattle.nf_value.specs.declared.file.FileRef.{FileRef}
use Rattle.nf_names_used.specs.Args.{items_of}
use Rattle.nf_ast.specs.declared.operators.InfixOperator.{InfixOperator}
use Rattle.nf_ast.specs.declared.operators.InfixOperator.TheVariants as infix_operator
use Rattle.nf_ast.specs.Tree as tree
use Rattle.nf_ast.specs.Tree.{Tree}
use Rattle.nf_job.specs.JobText.{file_plain}
use Rattle.nf_pattern.specs.Literal.{is_literal_path}
use Rattle.nf_paths.specs.Paths.{is_source_path, name_at}
use Rattle.nf_paths.specs.Pairs.{is_pair_path, pairs_of}
use Rattle.nf_meaning.specs.declared.fault.LowerFault.TheVariants.{UnknownName, BadOption, WrongArity}
use Rattle.nf_meaning.specs.Places.{begins_at}
use Rattle.nf_meaning.specs.Things.{Thing, a_value, a_channel, Channel, queue}
use Rattle.nf_meaning.specs.Given.{files_at}
use Rattle.nf_meaning.specs.Walk.{Walk, ◌>>=◌, gives, refused, wants}
use Rattle.nf_meaning.specs.Sizes.{counted}
use Rattle.nf_meaning.specs.Expressions.{value_of}
use Rattle.nf_meaning.specs.Arguments.{Arg, unnamed, value_arg, flag_arg}

pub data Source : Type 0 where
  of : Source
  from_list : Source
  of_value : Source
  of_nothing : Source
  from_path : Source
  from_pairs : Source

-- the sources of `channel`, by their names
abbrev pub source_named : List ℕ → Option Source
source_named n =
    if bytes_eq n (codes "of") then Some of
    else if bytes_eq n (codes "fromList") then Some from_list
    else if bytes_eq n (codes "value") then Some of_value
    else if bytes_eq n (codes "empty") then Some of_nothing
    else if bytes_eq n (codes "fromPath") then Some from_path
    else if bytes_eq n (codes "fromFilePairs") then Some from_pairs
    else None

-- whether it takes so many arguments without a name
abbrev pub takes : Source → ℕ → Bool
takes of k = nat_le 1 k
takes of_nothing k = k == 0
takes from_list k = k == 1
takes of_value k = k == 1
takes from_path k = k == 1
takes from_pairs k = k == 1

-- ---- items

-- the items of a list, or else the argument is of another kind
abbrev pub list_wanted : Place → Plain → Walk (List Plain)
list_wanted p (list vs) = gives (items_of vs)
list_wanted p null = refused (BadOption p)
list_wanted p (truth b) = refused (BadOption p)
list_wanted p (int i) = refused (BadOption p)
list_wanted p (text t) = refused (BadOption p)
list_wanted p (file n d l) = refused (BadOption p)
list_wanted p (table ps) = refused (BadOption p)

abbrev pub is_range_mark : InfixOperator → Bool
is_range_mark infix_operator.Range = true
is_range_mark _ = false

-- `1..3`, which stands for several items
abbrev pub is_range : Tree → Bool
is_range (tree.binary p k a b) = is_range_mark k
is_range _ = false

abbrev pub one_item : Plain → Walk (List Plain)
one_item v = gives (v ∷ [])

abbrev pub items_by : Bool → Arg → Walk (List Plain)
items_by true x = value_of x.tree >>= list_wanted (begins_at x.tree)
items_by false x = value_arg x >>= one_item

abbrev pub item_arg : Option (Place × List ℕ) → Arg → Walk (List Plain)
item_arg None x = items_by (is_range x.tree) x
item_arg (Some n) x = refused (BadOption n.0)

abbrev pub item_args : List Arg → Walk (List Plain)
item_args [] = gives []
item_args (x ∷ xs) = item_arg x.label x >>= λ vs. item_args xs >>= λ more. gives (vs ++ more)

-- one value, and no option
abbrev pub only_value : Option (Place × List ℕ) → Arg → Walk (List (Place × Plain))
only_value None x = value_arg x >>= λ v. gives ((begins_at x.tree, v) ∷ [])
only_value (Some n) x = refused (BadOption n.0)

abbrev pub only_values : List Arg → Walk (List (Place × Plain))
only_values [] = gives []
only_values (x ∷ xs) = only_value x.label x >>= λ v. only_values xs >>= λ vs. gives (v ++ vs)

-- the items of the list that is the only argument
abbrev pub list_items : List (Place × Plain) → Walk (List Plain)
list_items (v ∷ []) = list_wanted v.0 v.1
list_items [] = gives []
list_items (v ∷ w ∷ more) = gives []

-- ---- files

-- a path, and whether there has to be a file
pub record PathArgs : Type 0 where
  pub path : List ℕ
  pub must : Bool

-- a text that is such a path
abbrev pub path_wanted : (List ℕ → Bool) → Place → Plain → Walk (List ℕ)
path_wanted fits p (text t) = if fits (chars t) then gives t else refused (BadOption p)
path_wanted fits p null = refused (BadOption p)
path_wanted fits p (truth b) = refused (BadOption p)
path_wanted fits p (int i) = refused (BadOption p)
path_wanted fits p (file n d l) = refused (BadOption p)
path_wanted fits p (list vs) = refused (BadOption p)
path_wanted fits p (table ps) = refused (BadOption p)

abbrev pub must_exist : Place × List ℕ → Arg → PathArgs → Walk PathArgs
must_exist n x so_far =
    if bytes_eq n.1 (codes "checkIfExists") then (flag_arg n.0 x >>= λ b. gives (record so_far { must = b }))
    else refused (BadOption n.0)

abbrev pub path_arg : (List ℕ → Bool) → Option (Place × List ℕ) → Arg → PathArgs → Walk PathArgs
path_arg fits None x so_far =
    value_arg x >>= path_wanted fits (begins_at x.tree) >>= λ t. gives (record so_far { path = t })
path_arg fits (Some n) x so_far = must_exist n x so_far

abbrev pub path_args : (List ℕ → Bool) → List Arg → PathArgs → Walk PathArgs
path_args fits [] so_far = gives so_far
path_args fits (x ∷ xs) so_far = path_arg fits x.label x so_far >>= path_args fits xs

abbrev pub no_path : PathArgs
no_path = record { path = []; must = false }

-- the files of a path are wanted, and these are found
abbrev pub the_files : List ℕ → Walk (List FileRef)
the_files path a s = gives (files_at path a.given.found) a s

abbrev pub files_of : Bool → PathArgs → Walk (List FileRef)
files_of pairs x = wants (record { path = x.path; must = x.must; pairs = pairs }) >>= λ _. the_files x.path

-- ---- what a source gives

abbrev pub source : Source → List Arg → Walk Channel
source of xs = item_args xs >>= λ vs. gives (queue vs)
source from_list xs = only_values xs >>= list_items >>= λ vs. gives (queue vs)
source of_value xs = only_values xs >>= λ vs. gives (record { is_value = true; bag = map (λ v. v.1) vs })
source of_nothing xs = only_values xs >>= λ vs. gives (queue [])
source from_path xs =
    path_args is_source_path xs no_path >>= λ x. files_of false x >>= λ fs. gives (queue (map file_plain fs))
source from_pairs xs =
    path_args is_pair_path xs no_path >>= λ x. files_of true x >>= λ fs. gives (queue (pairs_of (chars x.path) fs))

abbrev pub source_within : Place → Source → List Arg → Walk Thing
source_within p x xs =
    if takes x (unnamed xs) then (counted p 0 >>= λ _. source x xs >>= λ c. gives (a_channel c))
    else refused (WrongArity p)

abbrev pub source_by : Place → Option Source → List Arg → Walk Thing
source_by p (Some x) xs = source_within p x xs
source_by p None xs = refused (UnknownName p)

-- `channel.NAME(..)`
abbrev pub source_call : Place → List ℕ → List Arg → Walk Thing
source_call p n xs = source_by p (source_named n) xs

abbrev pub file_name : List ℕ → List ℕ
file_name path = encode_utf8_all (name_at (chars path))

-- The file at a literal path, which is the first that was found there. A path that wasn't looked for stands for an empty
-- file with a digest of zeros
abbrev pub first_file : List ℕ → List FileRef → Plain
first_file path [] = file (file_name path) (replicate 32 0) 0
first_file path (f ∷ fs) = file (file_name path) f.digest.0 f.len

-- `file(..)`, which is no source of a channel
abbrev pub file_call : Place → List Arg → Walk Thing
file_call p xs =
    if unnamed xs == 1 then
    (path_args is_literal_path xs no_path >>= λ x. files_of false x >>= λ fs. gives (a_value (first_file x.path fs)))
    else refused (WrongArity p)
