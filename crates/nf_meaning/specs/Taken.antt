-- What an operator takes from its arguments.
use Rattle.std.specs.Prelude.{ℕ, ◌+◌, ◌==◌, nat_le, ◌&&◌, Bool, true, List, [], ◌∷◌, ◌++◌, length, if◌then◌else◌, Option, Some, None}
use Rattle.nf_value.specs.Plain.{Plain, null}
use Rattle.nf_value.specs.declared.place.Place.{Place}
use Rattle.nf_ast.specs.Tree as tree
use Rattle.nf_ast.specs.Tree.{Tree}
use Rattle.nf_tasks.specs.Evaluation.{Closing, apply_of}
use Rattle.nf_bag.specs.declared.options.OpOpts.{OpOpts}
use Rattle.nf_bag.specs.declared.options.Total.{Total}
use Rattle.nf_bag.specs.declared.rows.Row.{Row}
use Rattle.nf_bag.specs.declared.rows.Row.TheVariants as row
use Rattle.nf_optable.specs.declared.rows.OpRow.{OpRow}
use Rattle.nf_optable.specs.declared.rows.Args.{Args}
use Rattle.nf_optable.specs.declared.rows.Args.TheVariants as args
use Rattle.nf_optable.specs.declared.rows.ClosureUse.{ClosureUse}
use Rattle.nf_optable.specs.declared.rows.ClosureUse.TheVariants as closure
use Rattle.nf_meaning.specs.declared.fault.LowerFault.TheVariants.{BadOption}
use Rattle.nf_meaning.specs.Lowered.{known}
use Rattle.nf_meaning.specs.Places.{begins_at}
use Rattle.nf_meaning.specs.Things.{Channel}
use Rattle.nf_meaning.specs.Names.{before_run, in_run, pattern_fault}
use Rattle.nf_meaning.specs.Walk.{Walk, ◌>>=◌, gives, refused, lifted, unless_fault, wanted}
use Rattle.nf_meaning.specs.Totals.{total_of}
use Rattle.nf_meaning.specs.Options.{no_options, with_option}
use Rattle.nf_meaning.specs.Arguments.{Arg, unnamed, value_arg, channel_arg}
use Rattle.nf_meaning.specs.Closures.{no_closure, closure_arg, without_labels, labels_arg, labels_in, word_arg}

-- ---- how many arguments without a name an operator takes, its closure among them

pub record Bounds : Type 0 where
  pub least : ℕ
  -- no bound where it takes any number
  pub most : Option ℕ

abbrev pub args_bounds : Args → Bounds
args_bounds args.Nothing = record { least = 0; most = Some 0 }
args_bounds args.Channel = record { least = 1; most = Some 1 }
args_bounds args.Channels = record { least = 1; most = None }
args_bounds args.Value = record { least = 1; most = Some 1 }
args_bounds args.MaybeValue = record { least = 0; most = Some 1 }
args_bounds args.Values = record { least = 1; most = None }

abbrev pub closure_least : ClosureUse → ℕ
closure_least closure.Must = 1
closure_least closure.Labels = 1
closure_least closure.Name = 1
closure_least closure.Total = 1
closure_least closure.Never = 0
closure_least closure.May = 0
closure_least closure.InPlace = 0
closure_least closure.Refused = 0

abbrev pub closure_most : ClosureUse → ℕ
closure_most closure.Never = 0
closure_most closure.InPlace = 0
closure_most closure.Must = 1
closure_most closure.Labels = 1
closure_most closure.Name = 1
closure_most closure.Total = 1
closure_most closure.May = 1
closure_most closure.Refused = 1

abbrev pub is_at_most : Option ℕ → ℕ → ℕ → Bool
is_at_most None more k = true
is_at_most (Some n) more k = nat_le k (n + more)

abbrev pub takes : OpRow → ℕ → Bool
takes r k =
    nat_le ((args_bounds r.args).least + closure_least r.closure) k
    && is_at_most (args_bounds r.args).most (closure_most r.closure) k

-- the channels that a call with so many arguments reads, the one that it is called on among them
abbrev pub args_ports : Args → ℕ → ℕ
args_ports args.Channel k = k
args_ports args.Channels k = k
args_ports args.Nothing k = 0
args_ports args.Value k = 0
args_ports args.MaybeValue k = 0
args_ports args.Values k = 0

abbrev pub ports_of : OpRow → ℕ → ℕ
ports_of r k = 1 + args_ports r.args k

-- ---- what is taken from the arguments

pub record Taken : Type 0 where
  -- the channels after the one that the operator is called on
  pub channels : List Channel
  -- the value of `filter`
  pub literal : Option Plain
  pub pattern : Option (List ℕ)
  -- the initial value of `reduce`, or the value of `ifEmpty`
  pub start : Option Plain
  pub closing : Option Closing
  pub labels : List (List ℕ)
  -- the name of `set`
  pub word : List ℕ
  pub options : OpOpts

abbrev pub nothing_taken : Taken
nothing_taken =
    record {
      channels = [];
      literal = None;
      pattern = None;
      start = None;
      closing = None;
      labels = [];
      word = [];
      options = no_options;
    }

-- ---- each argument

abbrev pub and_channel : Taken → Channel → Walk Taken
and_channel t c = gives (record t { channels = t.channels ++ c ∷ [] })

abbrev pub and_start : Taken → Plain → Walk Taken
and_start t v = gives (record t { start = Some v })

abbrev pub and_closing : Taken → Closing → Walk Taken
and_closing t c = gives (record t { closing = Some c })

abbrev pub with_args : Args → Arg → Taken → Walk Taken
with_args args.Channel x t = channel_arg x >>= and_channel t
with_args args.Channels x t = channel_arg x >>= and_channel t
with_args args.Value x t = value_arg x >>= and_start t
with_args args.MaybeValue x t = value_arg x >>= and_start t
with_args args.Values x t = value_arg x >>= and_start t
with_args args.Nothing x t = refused (BadOption (begins_at x.tree))

-- `filter`: a closure, a pattern or a value
abbrev pub filtering : Tree → Arg → Taken → Walk Taken
filtering (tree.closure p ps b) x t = without_labels in_run p ps b >>= and_closing t
filtering (tree.pattern p s) x t =
    (λ a. unless_fault (pattern_fault a.given p s) a) >>= λ _. gives (record t { pattern = Some s })
filtering e x t = value_arg x >>= λ v. gives (record t { literal = Some v })

-- `ifEmpty`: a value, or a closure that is applied to null before the run
abbrev pub filling : Tree → Arg → Taken → Walk Taken
filling (tree.closure p ps b) x t =
    without_labels before_run p ps b >>= λ c. lifted (known (apply_of c (null ∷ []))) >>= and_start t
filling e x t = value_arg x >>= and_start t

abbrev pub in_place : Row → Arg → Taken → Walk Taken
in_place row.IfEmpty x t = filling x.tree x t
in_place r x t = filtering x.tree x t

-- the total that a closure stands for
abbrev pub total_wanted : Tree → Walk Total
total_wanted (tree.closure p ps b) = wanted (total_of (tree.closure p ps b)) (BadOption p)
total_wanted e = no_closure e

abbrev pub total_arg : Arg → Taken → Walk Taken
total_arg x t =
    total_wanted x.tree >>= λ k.
    gives (record t { options = record t.options { total = k } })

-- an argument without a name, which may be the last one
abbrev pub with_unnamed : ClosureUse → Row → Args → Bool → Arg → Taken → Walk Taken
with_unnamed closure.Never r wanted_args is_last x t = with_args wanted_args x t
with_unnamed closure.May r wanted_args is_last x t = closure_arg in_run x.tree >>= and_closing t
with_unnamed closure.Must r wanted_args is_last x t =
    if is_last then (closure_arg in_run x.tree >>= and_closing t) else with_args wanted_args x t
with_unnamed closure.Labels r wanted_args is_last x t =
    labels_arg x.tree >>= λ c.
    gives (record t {
      closing = Some c;
      labels = labels_in c.body;
      options = record t.options { outs = length (labels_in c.body) };
    })
with_unnamed closure.Name r wanted_args is_last x t = word_arg x.tree >>= λ n. gives (record t { word = n })
with_unnamed closure.Total r wanted_args is_last x t = if is_last then total_arg x t else with_args wanted_args x t
with_unnamed closure.InPlace r wanted_args is_last x t = in_place r x t
with_unnamed closure.Refused r wanted_args is_last x t = refused (BadOption (begins_at x.tree))

abbrev pub take_arg : OpRow → Row → Bool → Option (Place × List ℕ) → Arg → Taken → Walk Taken
take_arg k r is_last None x t = with_unnamed k.closure r k.args is_last x t
take_arg k r is_last (Some n) x t = with_option k.options n x t.options >>= λ o. gives (record t { options = o })

abbrev pub take_args : OpRow → Row → List Arg → Taken → Walk Taken
take_args k r [] t = gives t
take_args k r (x ∷ xs) t = take_arg k r (unnamed xs == 0) x.label x t >>= take_args k r xs
