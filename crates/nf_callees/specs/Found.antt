-- Definitions in tables.
use Rattle.std.specs.Prelude.{◌≡◌, ◌++◌, ℕ, List, map, option_map, if◌then◌else◌, IfSome, Option, Some, bytes_eq, string_bytes, String}
use Rattle.std.specs.Global.{Global}
use Rattle.std.specs.Map.{lookup}
use Rattle.std.specs.Borrow.{Bor}
use Rattle.nf_ast.specs.declared.tops.Top.{Top}
use Rattle.nf_ast.specs.declared.tops.Process.{Process}
use Rattle.nf_ast.specs.declared.tops.Workflow.{Workflow}
use Rattle.nf_ast.specs.Tree as tree
use Rattle.nf_ast.specs.Tree.{Tree}
use Rattle.nf_ast.specs.Tops.{view_process, view_top, view_workflow}
use Rattle.nf_ast.specs.View.{names, trees}
use Rattle.nf_meaning.specs.Evaluation.{Definition}
use Rattle.nf_meaning.specs.EvalFunctions as eval
use Rattle.nf_names_used.specs.Uses.{params_uses}
use Rattle.nf_meaning.specs.Functions.{body_uses}
use Rattle.nf_meaning.specs.Given.{Definitions, function_named, tree_named}
use Rattle.nf_meaning.specs.Script.{definitions_of}
use Rattle.nf_callees.specs.declared.functions.DefinedFunction.{DefinedFunction}
use Rattle.nf_callees.specs.declared.tables.Tables.{Tables}

-- ---- functions

abbrev pub definition_of : DefinedFunction → Definition
definition_of f = eval.definition_of f.function.now

-- its parameters
abbrev pub params_tree : DefinedFunction → Tree
params_tree f = names f.function.now.params.items

-- what it uses stands with it
abbrev pub HasUses : DefinedFunction → Type 0
HasUses f = f.uses.items ≡ params_uses (tree.params (params_tree f)) ++ body_uses (definition_of f)

-- ---- tables

-- what a name stands for in a table
abbrev pub held : {A : Type 0} → List ℕ → List (String Global × A) → Option A
held n es = lookup (λ k. bytes_eq n (string_bytes k)) es

-- a table in which one name stands for something else, or is new
abbrev pub Puts : {A : Type 0} → List ℕ → A → List (String Global × A) → List (String Global × A) → Type 0
Puts key x old new = (n : List ℕ) → held n new ≡ (if bytes_eq key n then Some x else held n old)

abbrev pub process_tree : Bor Process → Tree
process_tree p = view_process p.now

abbrev pub workflow_tree : Bor Workflow → Tree
workflow_tree w = view_workflow w.now

abbrev pub defined_in : List Top → Definitions
defined_in tops = definitions_of (trees (map view_top tops))

-- each name stands for the first function of that name, with what it uses, or for nothing
pub record HasFunctions (ds : Definitions) (es : List (String Global × DefinedFunction)) : Type 0 where
  pub functions : (n : List ℕ) → option_map definition_of (held n es) ≡ function_named n ds.functions
  pub parameters : (n : List ℕ) → option_map params_tree (held n es) ≡ tree_named n ds.parameters
  pub uses : (n : List ℕ) → IfSome (held n es) HasUses

-- the same of each kind
pub record HasIn (ds : Definitions) (x : Tables) : Type 0 where
  pub processes : (n : List ℕ) → option_map process_tree (held n x.processes.entries) ≡ tree_named n ds.processes
  pub workflows : (n : List ℕ) → option_map workflow_tree (held n x.workflows.entries) ≡ tree_named n ds.workflows
  pub functions : HasFunctions ds x.functions.entries

abbrev pub HasAll : List Top → Tables → Type 0
HasAll tops x = HasIn (defined_in tops) x
