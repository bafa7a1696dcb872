-- Arguments of calls in a workflow's body, in the order of the text.
use Rattle.std.specs.Prelude.{ℕ, ◌+◌, Bool, true, false, List, [], ◌∷◌, Option, Some, None}
use Rattle.nf_value.specs.Plain.{Plain, null, truth, int, text, file, list, table}
use Rattle.nf_value.specs.declared.place.Place.{Place}
use Rattle.nf_ast.specs.Tree as tree
use Rattle.nf_ast.specs.Tree.{Tree}
use Rattle.nf_meaning.specs.declared.fault.LowerFault.TheVariants.{BadOption}
use Rattle.nf_meaning.specs.Places.{begins_at}
use Rattle.nf_meaning.specs.Things.{Thing, Channel}
use Rattle.nf_meaning.specs.Walk.{Walk, ◌>>=◌, gives, refused}
use Rattle.nf_meaning.specs.Expressions.{value_of, value_wanted, channel_wanted}

-- an argument: its name, if it has one, its expression, and what that stands for
pub record Arg : Type 0 where
  pub label : Option (Place × List ℕ)
  pub tree : Tree
  pub thing : Walk Thing

-- how many have no name
abbrev pub is_unnamed : Option (Place × List ℕ) → ℕ
is_unnamed None = 1
is_unnamed (Some n) = 0

abbrev pub unnamed : List Arg → ℕ
unnamed [] = 0
unnamed (x ∷ xs) = is_unnamed x.label + unnamed xs

-- a closure where a value or a channel is wanted has the place of its brace
abbrev pub is_closure : Tree → Bool
is_closure (tree.closure p ps b) = true
is_closure _ = false

abbrev pub unless_closure : {A : Type 0} → Bool → Place → Walk A → Walk A
unless_closure true p w = refused (BadOption p)
unless_closure false p w = w

-- the value of an argument, which may be a file
abbrev pub value_arg : Arg → Walk Plain
value_arg x = unless_closure (is_closure x.tree) (begins_at x.tree) (x.thing >>= value_wanted (begins_at x.tree))

-- the channel of an argument
abbrev pub channel_arg : Arg → Walk Channel
channel_arg x = unless_closure (is_closure x.tree) (begins_at x.tree) (x.thing >>= channel_wanted (begins_at x.tree))

-- the channels of arguments none of which may have a name
abbrev pub unnamed_channel : Option (Place × List ℕ) → Arg → Walk Channel
unnamed_channel None x = channel_arg x
unnamed_channel (Some n) x = refused (BadOption n.0)

abbrev pub channel_args : List Arg → Walk (List Channel)
channel_args [] = gives []
channel_args (x ∷ xs) = unnamed_channel x.label x >>= λ c. channel_args xs >>= λ cs. gives (c ∷ cs)

-- ---- the values of options; a fault of the option's kind stands at its name

abbrev pub flag_in : Place → Plain → Walk Bool
flag_in p (truth b) = gives b
flag_in p null = refused (BadOption p)
flag_in p (int i) = refused (BadOption p)
flag_in p (text t) = refused (BadOption p)
flag_in p (file n d l) = refused (BadOption p)
flag_in p (list vs) = refused (BadOption p)
flag_in p (table ps) = refused (BadOption p)

-- the value of an option, whose name stands at this place
abbrev pub option_value : Place → Tree → Walk Plain
option_value p e = unless_closure (is_closure e) p (value_of e)

abbrev pub flag_arg : Place → Arg → Walk Bool
flag_arg p x = option_value p x.tree >>= flag_in p
