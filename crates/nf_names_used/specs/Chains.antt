-- What the lists in nodes use: operands, parts and arms.
use Rattle.std.specs.Prelude.{List, [], ◌∷◌, ◌++◌}
use Rattle.nf_ast.specs.Tree as tree
use Rattle.nf_ast.specs.Tree.{Tree}
use Rattle.nf_ast.specs.View.{BranchTree, ArmTree}
use Rattle.nf_names_used.specs.declared.uses.Use.{Use}
use Rattle.nf_names_used.specs.declared.leaves.Role.{Role}
use Rattle.nf_names_used.specs.declared.leaves.Role.TheVariants as role
use Rattle.nf_names_used.specs.Uses.{Names, begun, uses, pattern_uses, object_uses, callee_uses}

-- operands after the first, with the operators before them
abbrev pub operands_uses : List Tree → Names → List Use
operands_uses [] names = []
operands_uses (tree.binary p k x b ∷ xs) names = (pattern_uses k b ++ uses b names) ++ operands_uses xs names
operands_uses (_ ∷ xs) names = operands_uses xs names

abbrev pub branches_uses : List BranchTree → Names → List Use
branches_uses [] names = []
branches_uses (x ∷ xs) names = uses x.expr names ++ branches_uses xs names

-- the uses of the expression before a part: as a function or as `Math` it is no name. us are its uses as a value
abbrev pub before_part : Tree → Tree → List Use → List Use
before_part e (tree.property x n) us = object_uses e us
before_part e (tree.call p x xs) us = callee_uses e us
before_part e (tree.call_with x c) us = callee_uses e us
before_part e _ us = us

abbrev pub by_role : Role → Tree → List Use → List Use
by_role role.Object e us = object_uses e us
by_role role.Callee e us = callee_uses e us
by_role role.Value e us = us

abbrev pub before_parts : Tree → List Tree → List Use → List Use
before_parts e [] us = us
before_parts e (x ∷ xs) us = before_part e x us

-- a part after an expression
abbrev pub part_uses : Tree → Names → List Use
part_uses (tree.index p x i) names = uses i names
part_uses (tree.call p x xs) names = uses xs names
part_uses (tree.call_with x c) names = uses c names
part_uses _ names = []

abbrev pub parts_uses : List Tree → Names → List Use
parts_uses [] names = []
parts_uses (x ∷ xs) names = part_uses x names ++ parts_uses xs names

abbrev pub arms_uses : List ArmTree → Names → List Use
arms_uses [] names = []
arms_uses (x ∷ xs) names = (uses x.condition names ++ uses x.body (begun names)) ++ arms_uses xs names
