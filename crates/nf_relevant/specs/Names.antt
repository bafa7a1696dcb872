-- The names that stand in an expression, in the order of the text, but for what `println` and `log` print.
use Rattle.std.specs.Prelude.{ℕ, List, [], ◌∷◌, ◌++◌}
use Rattle.nf_ast.specs.Tree as tree
use Rattle.nf_ast.specs.Tree.{Tree, cons}
use Rattle.nf_ast.specs.View.{BranchTree, ArmTree}

abbrev pub names_read : Tree → List (List ℕ)
names_read (cons a more) = names_read a ++ names_read more
names_read (tree.name p n) = n ∷ []
names_read (tree.template p k xs) = names_read xs
names_read (tree.hole p e) = names_read e
names_read (tree.list p xs) = names_read xs
names_read (tree.map p xs) = names_read xs
names_read (tree.pair k e) = names_read e
names_read (tree.closure p ps b) = names_read b
names_read (tree.label n e) = names_read e
names_read (tree.prefix p k e) = names_read e
names_read (tree.binary p k a b) = names_read a ++ names_read b
names_read (tree.conditional p c a b) = names_read c ++ (names_read a ++ names_read b)
names_read (tree.elvis p a b) = names_read a ++ names_read b
names_read (tree.property e n) = names_read e
names_read (tree.safe_property e n) = names_read e
names_read (tree.index p e i) = names_read e ++ names_read i
names_read (tree.call p f xs) = names_read f ++ names_read xs
names_read (tree.named n e) = names_read e
names_read (tree.call_with f c) = names_read f ++ names_read c
names_read (tree.define p n e) = names_read e
names_read (tree.define_all p ns e) = names_read e
names_read (tree.assign n e) = names_read e
names_read (tree.return_ p e) = names_read e
names_read (tree.choice p c b last) = names_read c ++ (names_read b ++ names_read last)
names_read (tree.statements b) = names_read b
names_read _ = []

-- ---- the lists in nodes

-- operands after the first, and parts after an expression
abbrev pub operands_read : List Tree → List (List ℕ)
operands_read [] = []
operands_read (tree.binary p k x b ∷ xs) = names_read b ++ operands_read xs
operands_read (_ ∷ xs) = operands_read xs

abbrev pub branches_read : List BranchTree → List (List ℕ)
branches_read [] = []
branches_read (x ∷ xs) = names_read x.expr ++ branches_read xs

abbrev pub part_read : Tree → List (List ℕ)
part_read (tree.index p x i) = names_read i
part_read (tree.call p x xs) = names_read xs
part_read (tree.call_with x c) = names_read c
part_read _ = []

abbrev pub parts_read : List Tree → List (List ℕ)
parts_read [] = []
parts_read (x ∷ xs) = part_read x ++ parts_read xs

abbrev pub arms_read : List ArmTree → List (List ℕ)
arms_read [] = []
arms_read (x ∷ xs) = (names_read x.condition ++ names_read x.body) ++ arms_read xs
