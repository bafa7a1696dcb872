-- A tree by what stands last in it.
use Rattle.std.specs.Prelude.{◌≡◌, Bool, true, false, not, map, Option, Some, None}
use Rattle.nf_ast.specs.declared.operators.InfixOperator.{InfixOperator}
use Rattle.nf_ast.specs.declared.operators.InfixOperator.TheVariants as infix_operator
use Rattle.nf_ast.specs.Tree as tree
use Rattle.nf_ast.specs.Tree.{Tree, empty}
use Rattle.nf_ast.specs.View.{trees, view, view_arg, view_closure, views}
use Rattle.nf_fronts.specs.declared.front.Front.{Front}
use Rattle.nf_fronts.specs.declared.last.Last.{Last}
use Rattle.nf_fronts.specs.declared.last.Last.TheVariants as last
use Rattle.nf_fronts.specs.Fronts.{tree_of}

-- nothing stands for an arm that isn't there
abbrev pub maybe_tree : Option Front → Tree
maybe_tree None = empty
maybe_tree (Some f) = tree_of f

abbrev pub is_pipe : InfixOperator → Bool
is_pipe infix_operator.Pipe = true
is_pipe _ = false

-- an expression that is neither a name, a list, a pipe or a conditional, nor a property, an index or a call
abbrev pub is_other : Tree → Bool
is_other (tree.number p z) = true
is_other (tree.text p k s) = true
is_other (tree.pattern p s) = true
is_other (tree.template p k xs) = true
is_other (tree.truth p b) = true
is_other (tree.null p) = true
is_other (tree.map p xs) = true
is_other (tree.closure p ps b) = true
is_other (tree.prefix p k e) = true
is_other (tree.binary p k a b) = not (is_pipe k)
is_other (tree.elvis p a b) = true
is_other (tree.safe_property e n) = true
is_other _ = false

abbrev pub IsLast : Tree → Last → Type 0
IsLast t (last.Name p n) = t ≡ tree.name p n.now
IsLast t (last.List p xs) = t ≡ tree.list p (views xs.now)
IsLast t (last.Property f p n) = t ≡ tree.property (tree_of f) (tree.name p n.now)
IsLast t (last.Index f p i) = t ≡ tree.index p (tree_of f) (view i.now)
IsLast t (last.Call f p xs) = t ≡ tree.call p (tree_of f) (trees (map view_arg xs.now))
IsLast t (last.With f c) = t ≡ tree.call_with (tree_of f) (view_closure c.now)
IsLast t (last.Pipe f p e) = t ≡ tree.binary p infix_operator.Pipe (tree_of f) (view e.now)
IsLast t (last.Conditional p c a b) = t ≡ tree.conditional p (view c.now) (tree_of a) (maybe_tree b)
IsLast t last.Other = is_other t ≡ true
