-- What a process and a function share with others: names that they assign to, and what `task` tells of the run.
use Rattle.std.specs.Prelude.{ℕ, Bool, ◌&&◌, ◌||◌, List, [], ◌∷◌, ◌++◌, codes, if◌then◌else◌}
use Rattle.std.specs.Str.{bytes_eq}
use Rattle.nf_ast.specs.Tree as tree
use Rattle.nf_ast.specs.Tree.{Tree, empty, cons}
use Rattle.nf_ast.specs.View.{BranchTree, ArmTree}
use Rattle.nf_placed.specs.Body.{name_in}
use Rattle.nf_names_used.specs.Uses.{uses, no_names}
use Rattle.nf_kinds.specs.declared.fault.OrderRule.TheVariants as rule
use Rattle.nf_kinds.specs.declared.fault.Broken.{Broken}
use Rattle.nf_kinds.specs.Fault.{breaks}
use Rattle.nf_slips.specs.Closures.{shared_by}
use Rattle.nf_slips.specs.Forms as form
use Rattle.nf_slips.specs.Forms.{FormTree, form_of}

-- what differs from one try of a task to another
abbrev pub is_of_the_run : List ℕ → Bool
is_of_the_run n = bytes_eq n (codes "index") || (bytes_eq n (codes "hash") || bytes_eq n (codes "workDir"))

abbrev pub read_of : FormTree → List ℕ → List Broken
read_of (form.name p m) n = if bytes_eq m (codes "task") && is_of_the_run n then breaks rule.SharedState p ∷ [] else []
read_of f n = []

abbrev pub task_read : Tree → List ℕ → List Broken
task_read e n = read_of (form_of e) n

-- what a part of a process breaks, wherever it stands but in the stub, which isn't run
abbrev pub slips : Tree → List Broken
slips (cons a more) = slips a ++ slips more
slips (tree.template p k xs) = slips xs
slips (tree.hole p e) = slips e
slips (tree.list p xs) = slips xs
slips (tree.map p xs) = slips xs
slips (tree.pair k e) = slips e
slips (tree.closure p ps b) = shared_by (uses (tree.closure p ps b) no_names) ++ slips b
slips (tree.label n e) = slips e
slips (tree.prefix p k e) = slips e
slips (tree.binary p k a b) = slips a ++ slips b
slips (tree.conditional p c a b) = slips c ++ (slips a ++ slips b)
slips (tree.elvis p a b) = slips a ++ slips b
slips (tree.property e n) = slips e ++ task_read e (name_in n)
slips (tree.safe_property e n) = slips e ++ task_read e (name_in n)
slips (tree.index p e i) = slips e ++ slips i
slips (tree.call p f xs) = slips f ++ slips xs
slips (tree.named n e) = slips e
slips (tree.call_with f b) = slips f ++ slips b
slips (tree.define p n e) = slips e
slips (tree.define_all p ns e) = slips e
slips (tree.assign n e) = slips e
slips (tree.return_ p e) = slips e
slips (tree.choice p c b last) = slips c ++ (slips b ++ slips last)
slips (tree.statements b) = slips b
slips (tree.println p e) = slips e
slips (tree.log p n e) = slips e
slips (tree.process p n ds is os t s) = slips ds ++ (slips os ++ slips t)
slips (tree.directive n xs) = slips xs
slips (tree.section p xs) = slips xs
slips (tree.tuple p xs) = slips xs
slips (tree.val p e) = slips e
slips (tree.path p e) = slips e
slips (tree.output v os) = slips v ++ slips os
slips t = []

-- ---- lists in one node

abbrev pub operand_slips : Tree → List Broken
operand_slips (tree.binary p k x b) = slips b
operand_slips t = []

abbrev pub operands_slips : List Tree → List Broken
operands_slips [] = []
operands_slips (x ∷ xs) = operand_slips x ++ operands_slips xs

abbrev pub branches_slips : List BranchTree → List Broken
branches_slips [] = []
branches_slips (x ∷ xs) = slips x.expr ++ branches_slips xs

-- a part after an expression of a form
abbrev pub part_slips_of : FormTree → Tree → List Broken
part_slips_of f (tree.property x n) = read_of f (name_in n)
part_slips_of f (tree.safe_property x n) = read_of f (name_in n)
part_slips_of f (tree.index p x i) = slips i
part_slips_of f (tree.call p x xs) = slips xs
part_slips_of f (tree.call_with x b) = slips b
part_slips_of f t = []

-- parts after an expression of a form; what has parts is no name
abbrev pub parts_slips : FormTree → List Tree → List Broken
parts_slips f [] = []
parts_slips f (x ∷ xs) = part_slips_of f x ++ parts_slips form.other xs

abbrev pub arms_slips : List ArmTree → List Broken
arms_slips [] = []
arms_slips (x ∷ xs) = slips x.condition ++ (slips x.body ++ arms_slips xs)
