-- Arguments as they are written.
use Rattle.std.specs.Prelude.{◌≡◌, ◌++◌, ◌∷◌, ℕ, Bool, true, false, is_some, List, [], map, Option, Some, None}
use Rattle.std.specs.Borrow.{Bor}
use Rattle.nf_value.specs.declared.place.Place.{Place}
use Rattle.nf_ast.specs.declared.expr.Arg.{Arg}
use Rattle.nf_ast.specs.declared.expr.ClosureExpr.{ClosureExpr}
use Rattle.nf_ast.specs.Tree.{Tree}
use Rattle.nf_ast.specs.View.{trees, view, view_arg, view_closure}
use Rattle.nf_meaning.specs.Arguments as meaning
use Rattle.nf_meaning.specs.Arguments.{is_closure}
use Rattle.nf_meaning.specs.Places.{begins_at}
use Rattle.nf_meaning.specs.Workflow.{part_of}

-- those in brackets, as the meaning of scripts has them
abbrev pub args_in : List Arg → List meaning.Arg
args_in xs = (part_of (trees (map view_arg xs))).arguments

-- one of them: its name, its expression, and what that stands for
abbrev pub arg_of : Arg → meaning.Arg
arg_of x = record { label = x.name; tree = view x.value; thing = (part_of (view x.value)).thing }

-- a closure behind them
abbrev pub closure_arg : ClosureExpr → meaning.Arg
closure_arg c = (part_of (view_closure c)).argument

-- a name in memory
abbrev pub plain_label : Place × Bor (List ℕ) → Place × List ℕ
plain_label n = (n.0, n.1.now)

-- the closure that an expression is, if it is one
pub record IsTheClosure (e : Tree) (c : ClosureExpr) : Type 0 where
  pub is : e ≡ view_closure c
  pub closure : is_closure e ≡ true
  pub place : begins_at e ≡ c.place

abbrev pub IsClosureIn : Tree → Option (Bor ClosureExpr) → Type 0
IsClosureIn e None = is_closure e ≡ false
IsClosureIn e (Some c) = IsTheClosure e c.now

-- ---- the first without a name

abbrev pub has_name : Arg → Bool
has_name x = is_some x.name

abbrev pub AreNamed : List Arg → Type 0
AreNamed [] = Unit {0}
AreNamed (x ∷ xs) = (has_name x ≡ true) × AreNamed xs

-- those before it, itself, and those after it
pub record IsAroundFirst (all before : List Arg) (first : Arg) (after : List Arg) : Type 0 where
  pub whole : all ≡ before ++ first ∷ after
  pub named : AreNamed before
  pub unnamed : has_name first ≡ false

abbrev pub SplitsAtFirst : List Arg → Option (Bor (List Arg) × Bor Arg × Bor (List Arg)) → Type 0
SplitsAtFirst xs None = AreNamed xs
SplitsAtFirst xs (Some t) = IsAroundFirst xs t.0.now t.1.now t.2.now
