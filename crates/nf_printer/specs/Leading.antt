-- What comes first after an expression: an operator or a part.
use Rattle.std.specs.Prelude.{Bool, true, false, List, [], ◌∷◌}
use Rattle.nf_ast.specs.Tree as tree
use Rattle.nf_ast.specs.Tree.{Tree}
use Rattle.nf_printer.specs.Levels.{is_minus}

abbrev pub is_property : Tree → Bool
is_property (tree.property e n) = true
is_property _ = false

-- whether a part begins with a bracket or a brace, with which an argument may begin too
abbrev pub is_opening : Tree → Bool
is_opening (tree.index p e x) = true
is_opening (tree.call p e xs) = true
is_opening (tree.call_with e c) = true
is_opening _ = false

abbrev pub next_begins : List Tree → Bool → Bool
next_begins [] next = next
next_begins (x ∷ xs) next = is_opening x

abbrev pub begins_property : List Tree → Bool
begins_property [] = false
begins_property (x ∷ xs) = is_property x

abbrev pub after_first : List Tree → List Tree
after_first [] = []
after_first (x ∷ xs) = xs

-- whether the first operator after an operand is a minus, with which an argument may begin
abbrev pub next_minus : List Tree → Bool → Bool
next_minus [] next = next
next_minus (tree.binary p x a b ∷ xs) next = is_minus x
next_minus (_ ∷ xs) next = next_minus xs next
