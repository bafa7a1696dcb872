-- The tree of a front.
use Rattle.std.specs.Prelude.{[], map}
use Rattle.nf_ast.specs.Tree.{Tree}
use Rattle.nf_ast.specs.View.{conditional, operands, postfix, view, view_branch, view_operand, view_postfix}
use Rattle.nf_fronts.specs.declared.front.Front.{Front}
use Rattle.nf_fronts.specs.declared.front.Front.TheVariants as front

abbrev pub tree_of : Front → Tree
tree_of (front.Whole e) = view e.now
tree_of (front.Operands e xs) = operands (view e.now) (map view_operand xs.now)
tree_of (front.Turns e xs) = conditional [] (view e.now) (map view_branch xs.now)
tree_of (front.Parts e xs) = postfix (view e.now) (map view_postfix xs.now)
