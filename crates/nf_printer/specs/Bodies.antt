-- The bodies of closures: on one line where they are short, else each part on a line of its own.
use Rattle.std.specs.Prelude.{Bool, true, false, List, [], ◌∷◌, if◌then◌else◌}
use Rattle.nf_ast.specs.Tree as tree
use Rattle.nf_ast.specs.Tree.{Tree}
use Rattle.nf_writer.specs.Ink.{Ink, blank}
use Rattle.nf_writer.specs.Lines.{Layout, before_first, after_last}

-- whether a tree is an expression, and not a statement, a label or a section
abbrev pub is_expr : Tree → Bool
is_expr (tree.name p s) = true
is_expr (tree.number p n) = true
is_expr (tree.text p q s) = true
is_expr (tree.pattern p s) = true
is_expr (tree.template p q xs) = true
is_expr (tree.truth p b) = true
is_expr (tree.null p) = true
is_expr (tree.list p xs) = true
is_expr (tree.map p xs) = true
is_expr (tree.closure p ps xs) = true
is_expr (tree.prefix p x e) = true
is_expr (tree.binary p x a b) = true
is_expr (tree.conditional p c a b) = true
is_expr (tree.elvis p a b) = true
is_expr (tree.property e n) = true
is_expr (tree.safe_property e n) = true
is_expr (tree.index p e x) = true
is_expr (tree.call p e xs) = true
is_expr (tree.call_with e c) = true
is_expr _ = false

-- whether a closure of these parts stands on one line: it has none, or one that is an expression
abbrev pub is_short : Tree → Bool
is_short tree.empty = true
is_short (tree.cons e tree.empty) = is_expr e
is_short _ = false

-- what stands before the first part of a body, which is short or not, and after the last part of a closure
abbrev pub first_before : Bool → Layout → List Ink
first_before short l = if short then blank ∷ [] else before_first l

abbrev pub closure_last : Bool → Layout → List Ink
closure_last short l = if short then blank ∷ [] else after_last l
