-- The options of operators.
use Rattle.std.specs.Prelude.{ℕ, pos, negsuc, ◌==◌, ◌^◌, nat_lt, Bool, true, false, List, codes, bytes_eq, if◌then◌else◌, Some, None}
use Rattle.nf_value.specs.Plain.{Plain, null, truth, int, text, file, list, table}
use Rattle.nf_value.specs.declared.place.Place.{Place}
use Rattle.nf_names_used.specs.Natives.{is_among}
use Rattle.nf_bag.specs.declared.options.OpOpts.{OpOpts}
use Rattle.nf_bag.specs.declared.options.Total.TheVariants.{Sum}
use Rattle.nf_optable.specs.declared.rows.Options.{Options}
use Rattle.nf_optable.specs.declared.rows.Options.TheVariants as options
use Rattle.nf_optable.specs.Rows.{option_names}
use Rattle.nf_meaning.specs.declared.fault.LowerFault.TheVariants.{BadOption}
use Rattle.nf_meaning.specs.Walk.{Walk, ◌>>=◌, gives, refused}
use Rattle.nf_meaning.specs.Arguments.{Arg, option_value, flag_in}

-- an operator without options; `collect` opens its lists
abbrev pub no_options : OpOpts
no_options = record { by = None; remainder = false; sort = false; flat = true; start = None; total = Sum; outs = 0 }

-- `combine` takes its first elements as keys, or none
abbrev pub allows_key : Options → ℕ → Bool
allows_key options.OfCombine k = k == 0
allows_key options.OfJoin k = nat_lt k (2 ^ 32)
allows_key options.OfGroupTuple k = nat_lt k (2 ^ 32)
allows_key options.OfBuffer k = false
allows_key options.OfCollect k = false
allows_key options.Nothing k = false

abbrev pub with_key : Options → Place → ℕ → OpOpts → Walk OpOpts
with_key row p k o = if allows_key row k then gives (record o { by = Some k }) else refused (BadOption p)

-- `by: k`, the place of the key
abbrev pub key_in : Options → Place → Plain → OpOpts → Walk OpOpts
key_in row p (int (pos k)) o = with_key row p k o
key_in row p (int (negsuc k)) o = refused (BadOption p)
key_in row p null o = refused (BadOption p)
key_in row p (truth b) o = refused (BadOption p)
key_in row p (text t) o = refused (BadOption p)
key_in row p (file n d l) o = refused (BadOption p)
key_in row p (list vs) o = refused (BadOption p)
key_in row p (table ps) o = refused (BadOption p)

-- the sorting of `collect`, and what `join` does with equal keys, has no effect
abbrev pub with_flag : List ℕ → Bool → OpOpts → OpOpts
with_flag n b o =
    if bytes_eq n (codes "remainder") then record o { remainder = b }
    else if bytes_eq n (codes "sort") then record o { sort = b }
    else if bytes_eq n (codes "flat") then record o { flat = b }
    else o

abbrev pub with_value : Options → Place → List ℕ → Plain → OpOpts → Walk OpOpts
with_value row p n v o =
    if bytes_eq n (codes "by") then key_in row p v o else (flag_in p v >>= λ b. gives (with_flag n b o))

-- one more option, which has a name of the row; of two with one name the later counts
abbrev pub with_option : Options → Place × List ℕ → Arg → OpOpts → Walk OpOpts
with_option row n x o =
    if is_among n.1 (option_names row) then (option_value n.0 x.tree >>= λ v. with_value row n.0 n.1 v o)
    else refused (BadOption n.0)
