-- The closures of labels.
use Rattle.std.specs.Prelude.{◌≡◌, ℕ, List, [], ◌∷◌, map, true, Option, option_map, None, Ok}
use Rattle.std.specs.Global.{Vec}
use Rattle.nf_value.specs.declared.place.Place.{Place}
use Rattle.nf_ast.specs.Tree as tree
use Rattle.nf_ast.specs.Tree.{Tree, empty, cons}
use Rattle.nf_ast.specs.View.{view, view_body, view_label, params_tree, trees}
use Rattle.nf_ast.specs.declared.expr.ClosureExpr.{ClosureExpr}
use Rattle.nf_ast.specs.declared.expr.Label.{Label as Stored}
use Rattle.nf_bodies.specs.Labels as bodies
use Rattle.nf_bodies.specs.Labels.{Label, with_label, label_tree}
use Rattle.nf_bodies.specs.Means.{GivesAs, GiveLabels}
use Rattle.nf_eval.specs.Evaluation.{Closing}
use Rattle.nf_eval.specs.declared.closures.Closure.{Closure}
use Rattle.nf_names_used.specs.Uses.{params_uses}
use Rattle.nf_meaning.specs.Closures.{closing_in, has_labels, label_fault, label_judge, labels_fault, labels_in}
use Rattle.nf_meaning.specs.Lowered.{Lowered, unless}
use Rattle.nf_meaning.specs.Names.{in_run, uses_fault}
use Rattle.nf_meaning.specs.Walk.{Around, Scope, env_in, known_in}
use Rattle.nf_tasks.specs.Memory.{Program}

-- the parameters of a closure in memory
abbrev pub params_in : Option (Vec (Place × List ℕ)) → Tree
params_in ps = params_tree (option_map (λ v. v.items) ps)

abbrev pub label_of : Stored → Label
label_of l = record { name = tree.name l.place l.name; value = view l.value }

-- a closure of a body
abbrev pub closing_of : Around → Scope → ClosureExpr → Closing
closing_of a s c = closing_in (env_in a s) c.place (params_in c.params) (view_body c.body)

-- its code with one label alone
abbrev pub with_only : ClosureExpr → Stored → Tree
with_only c l = tree.closure c.place (params_in c.params) (cons (label_tree (label_of l)) empty)

-- its parameters have different names
abbrev pub HasParams : Around → Scope → ClosureExpr → Type 0
HasParams a s c = uses_fault a.given a.definitions (known_in a s) in_run (params_uses (params_in c.params)) ≡ None

-- ---- what is wrong with labels, and what is given for them

abbrev pub judged_label : Around → Scope → ClosureExpr → List (List ℕ) → Stored → Lowered (Unit {0})
judged_label a s c before l =
    unless (label_fault before (tree.name l.place l.name))
    (unless (label_judge a s (params_in c.params) (view l.value)) (Ok tt))

abbrev pub judged_labels : Around → Scope → ClosureExpr → List Stored → Lowered (Unit {0})
judged_labels a s c ls =
    unless (labels_fault (label_judge a s (params_in c.params)) [] (trees (map view_label ls))) (Ok tt)

abbrev pub IsLabelled : Around → Scope → ClosureExpr → Stored → Closure → Unit {0} → Type 0
IsLabelled a s c l stored u = GivesAs a.given.program stored (with_label (closing_of a s c) (label_of l))

-- the names of these labels, and a closure for each
abbrev pub Labelled : Type 0
Labelled = Vec (List ℕ) × Vec Closure

abbrev pub AreLabelled : Around → Scope → ClosureExpr → List Stored → Labelled → Unit {0} → Type 0
AreLabelled a s c ls x u =
    (x.0.items ≡ map (λ l. l.name) ls) × GiveLabels a.given.program x.1.items (closing_of a s c) (map label_of ls)

-- a closure's body has these labels, at least one
pub record HasLabels (body : Tree) (ls : List Stored) : Type 0 where
  pub some : has_labels body ≡ true
  pub same : body ≡ trees (map view_label ls)

-- the labels of the closure by their names, and for each a closure in memory that gives what the closure gives with
-- that label alone
pub record AreLabels (n : Program) (x : Labelled) (c : Closing) : Type 0 where
  pub first : Label
  pub more : List Label
  pub has : bodies.HasLabels c first more
  pub named : x.0.items ≡ labels_in c.body
  pub give : GiveLabels n x.1.items c (first ∷ more)
