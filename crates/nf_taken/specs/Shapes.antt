-- Patterns and ranges.
use Rattle.std.specs.Prelude.{◌≡◌, ℕ, Bool, true, false, List, if◌then◌else◌, Option, Some, None}
use Rattle.std.specs.Borrow.{Bor}
use Rattle.nf_value.specs.declared.place.Place.{Place}
use Rattle.nf_ast.specs.declared.operators.InfixOperator.{InfixOperator}
use Rattle.nf_ast.specs.Tree as tree
use Rattle.nf_ast.specs.Tree.{Tree}
use Rattle.nf_ast.specs.View.{view}
use Rattle.nf_ast.specs.declared.expr.Expr.{Expr}
use Rattle.nf_meaning.specs.Sources.{is_range, is_range_mark}
use Rattle.nf_taken.specs.declared.shapes.Shape.{Shape}
use Rattle.nf_taken.specs.declared.shapes.Shape.TheVariants as shape

-- what a tree is of which more is asked than its value
pub data ShapeTree : Type 0 where
  a_pattern : Place → List ℕ → ShapeTree
  a_range : ShapeTree
  other : ShapeTree

abbrev pub sign_shape : InfixOperator → ShapeTree
sign_shape k = if is_range_mark k then a_range else other

abbrev pub shape_in : Tree → ShapeTree
shape_in (tree.pattern p s) = a_pattern p s
shape_in (tree.binary p k a b) = sign_shape k
shape_in _ = other

abbrev pub view_shape : Shape → ShapeTree
view_shape (shape.Pattern p s) = a_pattern p s.now
view_shape shape.Range = a_range
view_shape shape.Other = other

-- ---- arguments

abbrev pub is_pattern : Tree → Bool
is_pattern (tree.pattern p s) = true
is_pattern _ = false

abbrev pub IsPatternIn : Tree → Option (Place × Bor (List ℕ)) → Type 0
IsPatternIn e None = is_pattern e ≡ false
IsPatternIn e (Some n) = e ≡ tree.pattern n.0 n.1.now

pub record IsTheRange (e : Tree) (x : Expr) : Type 0 where
  pub is : e ≡ view x
  pub range : is_range e ≡ true

abbrev pub IsRangeIn : Tree → Option (Bor Expr) → Type 0
IsRangeIn e None = is_range e ≡ false
IsRangeIn e (Some x) = IsTheRange e x.now
