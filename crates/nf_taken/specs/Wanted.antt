-- What an operator wants of an argument without a name, as walks.
use Rattle.std.specs.Prelude.{◌≡◌, ℕ, Bool, true, false, List, [], ◌∷◌}
use Rattle.nf_value.specs.Plain.{Plain, null}
use Rattle.nf_value.specs.declared.place.Place.{Place}
use Rattle.nf_bag.specs.declared.rows.Row.{Row}
use Rattle.nf_eval.specs.Evaluation.{apply_of}
use Rattle.nf_optable.specs.declared.rows.Args.{Args}
use Rattle.nf_meaning.specs.declared.fault.LowerFault.TheVariants.{BadOption}
use Rattle.nf_meaning.specs.Arguments.{Arg, channel_arg, value_arg}
use Rattle.nf_meaning.specs.Closures.{closure_arg, labels_arg, word_arg}
use Rattle.nf_meaning.specs.Lowered.{known}
use Rattle.nf_meaning.specs.Names.{before_run, in_run, pattern_fault}
use Rattle.nf_meaning.specs.Places.{begins_at}
use Rattle.nf_meaning.specs.Taken.{Taken, args_ports, total_wanted, with_args}
use Rattle.nf_meaning.specs.Walk.{Walk, ◌>>=◌, gives, lifted, refused, unless_fault}
use Rattle.nf_taken.specs.declared.wanted.Alone.{Alone}
use Rattle.nf_taken.specs.declared.wanted.Alone.TheVariants as alone
use Rattle.nf_taken.specs.declared.wanted.Wanted.{Wanted}
use Rattle.nf_taken.specs.declared.wanted.Wanted.TheVariants as wanted
use Rattle.nf_taken.specs.Taken.{is_labelled, with_channel, with_closure, with_labels, with_literal, with_pattern}
use Rattle.nf_taken.specs.Taken.{with_start, with_total, with_word}

-- a pattern with which nothing is wrong
abbrev pub pattern_walk : Place → List ℕ → Walk (Unit {0})
pattern_walk p s a = unless_fault (pattern_fault a.given p s) a

-- what a closure gives for null before the run
abbrev pub filled_walk : Arg → Walk Plain
filled_walk x = closure_arg before_run x.tree >>= λ c. lifted (known (apply_of c (null ∷ [])))

-- what is taken of an argument, whatever it stands for
abbrev pub alone_walk : Alone → Arg → Taken → Walk Taken
alone_walk alone.Closure x t = closure_arg in_run x.tree >>= λ c. gives (with_closure c t)
alone_walk alone.Filling x t = filled_walk x >>= λ v. gives (with_start v t)
alone_walk alone.Labels x t = labels_arg x.tree >>= λ c. gives (with_labels c t)
alone_walk alone.Word x t = word_arg x.tree >>= λ w. gives (with_word w t)
alone_walk alone.Total x t = total_wanted x.tree >>= λ k. gives (with_total k t)
alone_walk (alone.Pattern p s) x t = pattern_walk p s.now >>= λ _. gives (with_pattern s.now t)
alone_walk alone.Nothing x t = refused (BadOption (begins_at x.tree))

-- what is taken of an argument
abbrev pub wanted_walk : Wanted → Arg → Taken → Walk Taken
wanted_walk wanted.Channel x t = channel_arg x >>= λ c. gives (with_channel c t)
wanted_walk wanted.Start x t = value_arg x >>= λ v. gives (with_start v t)
wanted_walk wanted.Literal x t = value_arg x >>= λ v. gives (with_literal v t)
wanted_walk (wanted.Alone y) x t = alone_walk y x t

-- ---- what it is taken for

-- how many channels more
abbrev pub ports_in : Wanted → ℕ
ports_in wanted.Channel = 1
ports_in _ = 0

-- labels are taken for an operator that has labels, and a closure to apply for one that hasn't
abbrev pub FitsAlone : Row → Alone → Type 0
FitsAlone r alone.Closure = is_labelled r ≡ false
FitsAlone r alone.Labels = is_labelled r ≡ true
FitsAlone r _ = Unit {0}

abbrev pub FitsWanted : Row → Wanted → Type 0
FitsWanted r (wanted.Alone y) = FitsAlone r y
FitsWanted r _ = Unit {0}

-- ---- the last argument

-- a channel or a value, as the row has it
pub record IsPlainOf (k : Args) (w : Wanted) : Type 0 where
  pub walk : (x : Arg) → with_args k x ≡ wanted_walk w x
  pub ports : ports_in w ≡ args_ports k 1
  pub fits : (r : Row) → FitsWanted r w

abbrev pub IsLastOrPlain : Bool → Alone → Args → Wanted → Type 0
IsLastOrPlain true last k w = w ≡ wanted.Alone last
IsLastOrPlain false last k w = IsPlainOf k w
