-- The entry of a script, and the workflows that have a name.
use Rattle.std.specs.Prelude.{◌≡◌, ℕ, Option, Some, None}
use Rattle.std.specs.Borrow.{Bor}
use Rattle.nf_ast.specs.declared.tops.WorkflowBody.{WorkflowBody}
use Rattle.nf_ast.specs.Tops.{view_workflow_body}
use Rattle.nf_ast.specs.Tree as tree
use Rattle.nf_ast.specs.Tree.{Tree, cons}
use Rattle.nf_meaning.specs.Script.{entry_in}

-- the tree of a body in memory
abbrev pub body_tree : Bor WorkflowBody → Tree
body_tree b = view_workflow_body b.now

-- the body of a top that is an entry, or that of the first among those after it
abbrev pub or_later : Option (Bor WorkflowBody) → Tree → Option Tree
or_later (Some b) more = Some (body_tree b)
or_later None more = entry_in more

abbrev pub IsEntry : Tree → Option (Bor WorkflowBody) → Type 0
IsEntry t found = (more : Tree) → entry_in (cons t more) ≡ or_later found more

-- one for a workflow with a name
abbrev pub named_of : Tree → ℕ
named_of (tree.workflow p (tree.name q n) body) = 1
named_of _ = 0
