-- The arguments of a call in memory, and in the meaning of scripts.
use Rattle.std.specs.Prelude.{◌≡◌, ◌++◌, ◌∷◌, ◌+◌, ◌<◌, ℕ, false, List, [], length, map, Option, Some, None}
use Rattle.std.specs.Option.{option_to_list}
use Rattle.std.specs.Borrow.{Bor}
use Rattle.nf_ast.specs.declared.expr.ClosureExpr.{ClosureExpr}
use Rattle.nf_graph.specs.Meaning.{Bags}
use Rattle.nf_meaning.specs.Arguments as meaning
use Rattle.nf_meaning.specs.Arguments.{is_closure}
use Rattle.nf_meaning.specs.Calls.{receiver}
use Rattle.nf_meaning.specs.Places.{begins_at}
use Rattle.nf_meaning.specs.Stands.{ThingStands}
use Rattle.nf_meaning.specs.Things.{Thing}
use Rattle.nf_meaning.specs.Walk.{gives}
use Rattle.nf_scopes.specs.Things.{thing_of}
use Rattle.nf_arguments.specs.declared.args.Args.{Args}
use Rattle.nf_arguments.specs.declared.args.Before.{Before}
use Rattle.nf_arguments.specs.declared.one.One.{One}
use Rattle.nf_arguments.specs.declared.one.One.TheVariants as one
use Rattle.nf_arguments.specs.declared.written.Written.{Written}
use Rattle.nf_arguments.specs.declared.written.Written.TheVariants as written
use Rattle.nf_arguments.specs.Written.{arg_of, closure_arg}

-- ---- before a pipe

-- what stands there is known, and is no closure
pub record IsBefore (bags : Bags) (b : Before) (y : meaning.Arg) : Type 0 where
  pub label : y.label ≡ None
  pub place : begins_at y.tree ≡ b.place
  pub value : is_closure y.tree ≡ false
  pub thing : Thing
  pub gives_it : y.thing ≡ gives thing
  pub stands : ThingStands bags (thing_of b.thing) thing

abbrev pub AreBefore : Bags → Option Before → List meaning.Arg → Type 0
AreBefore bags None ys = ys ≡ []
AreBefore bags (Some b) ys = (y : meaning.Arg) × (ys ≡ y ∷ []) × IsBefore bags b y

-- ---- all

abbrev pub closure_args : Option (Bor ClosureExpr) → List meaning.Arg
closure_args None = []
closure_args (Some c) = closure_arg c.now ∷ []

-- those that are written: the options before the argument that an operator is called on, the others in brackets, and the
-- closure behind them
abbrev pub written_args : Args → List meaning.Arg
written_args x = map arg_of x.options.now ++ (map arg_of x.args.now ++ closure_args x.closure)

-- the arguments in memory are these of the meaning, where ports stand for channels in these bags
pub record AreArgs (bags : Bags) (x : Args) (ys : List meaning.Arg) : Type 0 where
  pub before : List meaning.Arg
  pub flows : AreBefore bags x.before before
  pub all : ys ≡ before ++ written_args x

-- ---- one of them

abbrev pub written_arg : Written → meaning.Arg
written_arg (written.Arg x) = arg_of x.now
written_arg (written.Closure c) = closure_arg c.now

abbrev pub IsOne : Bags → One → meaning.Arg → Type 0
IsOne bags (one.Before b) y = IsBefore bags b y
IsOne bags (one.Written x) y = y ≡ written_arg x

-- what stands before a pipe, if the argument is that
abbrev pub before_in : One → Option Before
before_in (one.Before b) = Some b
before_in (one.Written x) = None

-- what is written of it
abbrev pub written_in : One → List meaning.Arg
written_in (one.Before b) = []
written_in (one.Written x) = written_arg x ∷ []

-- how many there are
abbrev pub count_in : Args → ℕ
count_in x = length (option_to_list x.before) + length (written_args x)

-- ---- the first of all, and the first without a name

-- what is left after the first
pub record HasFirst (x : One) (old new : Args) : Type 0 where
  pub splits : (bags : Bags) (ys : List meaning.Arg) → AreArgs bags old ys
      → (y : meaning.Arg) × (more : List meaning.Arg) × (ys ≡ y ∷ more) × IsOne bags x y × AreArgs bags new more
  pub was : old.before ≡ before_in x
  pub left : new.before ≡ None
  pub written : written_args old ≡ written_in x ++ written_args new
  pub fewer : count_in new < count_in old

abbrev pub SplitsFirst : Args → Args → Option One → Type 0
SplitsFirst old new None = (bags : Bags) (ys : List meaning.Arg) → AreArgs bags old ys → ys ≡ []
SplitsFirst old new (Some x) = HasFirst x old new

-- what is left without the argument that an operator is called on
pub record HasReceiver (x : One) (old new : Args) : Type 0 where
  pub splits : (bags : Bags) (ys : List meaning.Arg) → AreArgs bags old ys
      → (y : meaning.Arg) × (more : List meaning.Arg) × (receiver ys ≡ Some (record { of = y; others = more })) × IsOne bags x y
      × AreArgs bags new more
  pub was : old.before ≡ before_in x
  pub left : new.before ≡ None
  pub front : List meaning.Arg
  pub back : List meaning.Arg
  pub written : written_args old ≡ front ++ (written_in x ++ back)
  pub others : written_args new ≡ front ++ back

abbrev pub SplitsReceiver : Args → Args → Option One → Type 0
SplitsReceiver old new None = (bags : Bags) (ys : List meaning.Arg) → AreArgs bags old ys → receiver ys ≡ None
SplitsReceiver old new (Some x) = HasReceiver x old new
