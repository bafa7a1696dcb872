-- What the code holds: forms and definitions.
use Rattle.std.specs.Prelude.{◌≡◌, ℕ, suc, ◌+◌, ◌≤◌, max, Bool, true, false, List, [], ◌∷◌, ◌++◌, Option, Some, None, if◌then◌else◌}
use Rattle.std.specs.Borrow.{Bor}
use Rattle.nf_value.specs.declared.place.Place.{Place}
use Rattle.nf_builtins.specs.Natives.{is_among}
use Rattle.nf_ast.specs.declared.expr.Expr.{size-Expr}
use Rattle.nf_ast.specs.declared.expr.Stmt.{Stmt, size-Stmt}
use Rattle.nf_ast.specs.declared.tops.Top.{Top}
use Rattle.nf_ast.specs.declared.tops.Top.TheVariants as top
use Rattle.nf_ast.specs.declared.tops.Emit.{Emit}
use Rattle.nf_ast.specs.declared.tops.Emit.TheVariants as emit
use Rattle.nf_ast.specs.declared.tops.Emits.{Emits}
use Rattle.nf_ast.specs.declared.tops.WorkflowBody.{WorkflowBody}
use Rattle.nf_ast.specs.declared.tops.WorkflowBody.TheVariants as body
use Rattle.nf_ast.specs.Tree as tree
use Rattle.nf_ast.specs.Tree.{Tree}
use Rattle.nf_ast.specs.View.{view_closure}
use Rattle.nf_ast.specs.Tops.{maybe, view_outputs, view_workflow_body}
use Rattle.nf_slips.specs.declared.definitions.Definition.{Definition}
use Rattle.nf_slips.specs.declared.definitions.Definition.TheVariants as d
use Rattle.nf_slips.specs.Definitions as definition
use Rattle.nf_slips.specs.Definitions.{names_of_outputs}
use Rattle.nf_placed.specs.Body.{name_in}
use Rattle.nf_slips.specs.declared.forms.Form.{Form}
use Rattle.nf_slips.specs.declared.forms.Form.TheVariants as f
use Rattle.nf_slips.specs.Forms.{FormTree, name, number, closure, extreme, total, other, form_of, adds_up, of_two, member_form, called_form}

abbrev pub view_form : Form → FormTree
view_form (f.Name p n) = name p n.now
view_form (f.Number z) = number z
view_form (f.Closure c) = closure (view_closure c.now)
view_form f.Extreme = extreme
view_form (f.Total m n) = total m.now n.now
view_form f.Other = other

abbrev pub is_nil : {A : Type 0} → List A → Bool
is_nil [] = true
is_nil (x ∷ xs) = false

-- operands after the first
abbrev pub operand_forms : FormTree → List Tree → FormTree
operand_forms f [] = f
operand_forms f (tree.binary p k x b ∷ xs) = operand_forms (of_two (adds_up k) f (form_of b)) xs
operand_forms f (_ ∷ xs) = operand_forms f xs

-- parts after an expression
abbrev pub part_form : FormTree → Tree → FormTree
part_form f (tree.property x n) = member_form f (name_in n)
part_form f (tree.call p x xs) = called_form f (form_of xs)
part_form f t = other

abbrev pub part_forms : FormTree → List Tree → FormTree
part_forms f [] = f
part_forms f (x ∷ xs) = part_forms (part_form f x) xs

-- ---- definitions

abbrev pub view_definition : Definition → definition.Definition
view_definition d.Nothing = definition.nothing
view_definition (d.Process x) = definition.process (names_of_outputs (maybe view_outputs x.now.outputs))
view_definition (d.Workflow b) = definition.workflow (view_workflow_body b.now)
view_definition d.Function = definition.function

abbrev pub view_entry : Option (Bor WorkflowBody) → Option Tree
view_entry None = None
view_entry (Some b) = Some (view_workflow_body b.now)

-- ---- how long judging may go on

-- the depth of the deepest statement, and of the deepest expression that is emitted
abbrev pub depth : List Stmt → ℕ
depth [] = 0
depth (s ∷ more) = max (size-Stmt s) (depth more)

abbrev pub emit_depth : Emit → ℕ
emit_depth (emit.Named p n e) = size-Expr e
emit_depth (emit.Alone e) = size-Expr e

abbrev pub emits_depth : List Emit → ℕ
emits_depth [] = 0
emits_depth (x ∷ more) = max (emit_depth x) (emits_depth more)

abbrev pub section_depth : Option Emits → ℕ
section_depth None = 0
section_depth (Some x) = emits_depth x.emits.items

abbrev pub body_depth : WorkflowBody → ℕ
body_depth (body.Statements xs) = depth xs.items
body_depth (body.Parts x) = max (depth x.main.body.items) (section_depth x.emit)

abbrev pub weight_by : Option (Place × List ℕ) → WorkflowBody → List (List ℕ) → ℕ
weight_by None b ns = 0
weight_by (Some n) b ns = if is_among n.1 ns then 0 else suc (body_depth b)

-- what is left of a script's workflows, where these are entered
abbrev pub top_weight : Top → List (List ℕ) → ℕ
top_weight (top.Workflow w) ns = weight_by w.name w.body ns
top_weight _ ns = 0

abbrev pub weight : List Top → List (List ℕ) → ℕ
weight [] ns = 0
weight (t ∷ ts) ns = top_weight t ns + weight ts ns

-- the definition of a workflow that isn't entered is a part of what is left of a top, and so of the script
abbrev pub IsTopLighter : Top → List ℕ → Definition → Type 0
IsTopLighter t n (d.Workflow b) =
    (ns : List (List ℕ)) → is_among n ns ≡ false
    → suc (body_depth b.now) + top_weight t (ns ++ n ∷ []) ≤ top_weight t ns
IsTopLighter t n _ = Unit {0}

abbrev pub IsLighter : List Top → List ℕ → Definition → Type 0
IsLighter tops n (d.Workflow b) =
    (ns : List (List ℕ)) → is_among n ns ≡ false
    → suc (body_depth b.now) + weight tops (ns ++ n ∷ []) ≤ weight tops ns
IsLighter tops n _ = Unit {0}
