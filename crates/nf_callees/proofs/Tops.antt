-- One definition before all that are in the tables.
use Rattle.std.proofs.Common.{◌≡◌, ◌∙◌, ◌∷◌, ℕ, if◌then◌else◌, List, option_map, Option, Some, bytes_eq, refl, sym, ap, subst}
use Rattle.std.specs.Borrow.{Bor}
use Rattle.nf_value.specs.declared.place.Place.{Place}
use Rattle.nf_ast.specs.declared.tops.Top.{Top}
use Rattle.nf_ast.specs.declared.tops.Top.TheVariants as top
use Rattle.nf_ast.specs.declared.tops.Process.{Process}
use Rattle.nf_ast.specs.declared.tops.Workflow.{Workflow}
use Rattle.nf_ast.specs.Tree as tree
use Rattle.nf_ast.specs.Tree.{Tree}
use Rattle.nf_ast.specs.Tops.{maybe, view_workflow_body}
use Rattle.nf_ast.specs.View.{name_tree}
use Rattle.nf_meaning.specs.Given.{Definitions, function_named, tree_named}
use Rattle.nf_meaning.specs.Script.{and_definition}
use Rattle.nf_callees.specs.declared.functions.DefinedFunction.{DefinedFunction}
use Rattle.nf_callees.specs.declared.tables.Tables.{Tables}
use Rattle.nf_callees.specs.Found.{definition_of, params_tree, HasUses, held, Puts, process_tree, workflow_tree, defined_in, HasFunctions, HasIn, HasAll}
use Rattle.nf_callees.proofs.Puts.{put_named, put_keeps}

-- a workflow with another name
abbrev workflow_by : Option (Place × List ℕ) → Workflow → Tree
workflow_by o w = tree.workflow w.place (maybe name_tree o) (view_workflow_body w.body)

module _ (later : List Top) (old new : Tables) (h : HasAll later old) where
  -- the functions stay, whatever other definition comes
  abbrev SameFunctions : Definitions → Type 0
  SameFunctions ds = HasFunctions ds new.functions.entries

  kept_functions : new.functions ≡ old.functions → SameFunctions (defined_in later)
  kept_functions fs = subst (λ m. HasFunctions (defined_in later) m.entries) (sym fs) h.functions

  again : (ds : Definitions) → ds.functions ≡ (defined_in later).functions → ds.parameters ≡ (defined_in later).parameters → SameFunctions (defined_in later) → SameFunctions ds
  again ds fs ps k = record {
    functions = λ n. k.functions n ∙ ap (function_named n) (sym fs);
    parameters = λ n. k.parameters n ∙ ap (tree_named n) (sym ps);
    uses = k.uses;
  }

  pub one_process : (p : Bor Process) → Puts p.now.name p old.processes.entries new.processes.entries → new.workflows ≡ old.workflows → new.functions ≡ old.functions → HasAll (top.Process p.now ∷ later) new
  one_process p puts ws fs = record {
    processes = put_named process_tree p.now.name p old.processes.entries new.processes.entries (λ n. tree_named n (defined_in later).processes) puts h.processes;
    workflows = λ n. ap (λ m. option_map workflow_tree (held n m.entries)) ws ∙ h.workflows n;
    functions = again (defined_in (top.Process p.now ∷ later)) refl refl (kept_functions fs);
  }

  pub one_workflow : (w : Bor Workflow) (p : Place) (name : List ℕ) → w.now.name ≡ Some (p, name) → Puts name w old.workflows.entries new.workflows.entries → new.processes ≡ old.processes → new.functions ≡ old.functions
      → HasAll (top.Workflow w.now ∷ later) new
  one_workflow w p name is puts ps fs = subst (λ o. HasIn (and_definition (workflow_by o w.now) (defined_in later)) new) (sym is) (record {
    processes = λ n. ap (λ m. option_map process_tree (held n m.entries)) ps ∙ h.processes n;
    workflows = λ n. put_named workflow_tree name w old.workflows.entries new.workflows.entries (λ m. tree_named m (defined_in later).workflows) puts h.workflows n
        ∙ ap (λ o. if bytes_eq name n then Some (workflow_by o w.now) else tree_named n (defined_in later).workflows) is;
    functions = again (and_definition (workflow_by (Some (p, name)) w.now) (defined_in later)) refl refl (kept_functions fs);
  })

  pub one_function : (f : DefinedFunction) → HasUses f → Puts f.function.now.name f old.functions.entries new.functions.entries → new.processes ≡ old.processes → new.workflows ≡ old.workflows
      → HasAll (top.Function f.function.now ∷ later) new
  one_function f uses puts ps ws = record {
    processes = λ n. ap (λ m. option_map process_tree (held n m.entries)) ps ∙ h.processes n;
    workflows = λ n. ap (λ m. option_map workflow_tree (held n m.entries)) ws ∙ h.workflows n;
    functions = record {
      functions = put_named definition_of f.function.now.name f old.functions.entries new.functions.entries (λ n. function_named n (defined_in later).functions) puts h.functions.functions;
      parameters = put_named params_tree f.function.now.name f old.functions.entries new.functions.entries (λ n. tree_named n (defined_in later).parameters) puts h.functions.parameters;
      uses = put_keeps HasUses f.function.now.name f old.functions.entries new.functions.entries puts uses h.functions.uses;
    };
  }
