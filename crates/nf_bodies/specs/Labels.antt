-- Labels of `branch` and `multiMap`, each as a closure of its own.
use Rattle.std.specs.Prelude.{◌≡◌, ℕ, pos, ◌+◌, List, [], ◌∷◌, ◌++◌, map, if◌then◌else◌, Ok}
use Rattle.nf_value.specs.Plain.{Plain, null, int}
use Rattle.nf_value.specs.Truth.{truth_of}
use Rattle.nf_builtins.specs.Lists.{list_of}
use Rattle.nf_ast.specs.Tree as tree
use Rattle.nf_ast.specs.Tree.{Tree, empty, cons}
use Rattle.nf_ast.specs.View.{trees}
use Rattle.nf_eval.specs.Placed.{Placed, ◌>>=◌}
use Rattle.nf_eval.specs.Evaluation.{Closing}
use Rattle.nf_tasks.specs.Meaning.{Formula}

-- the number of the first that is true, counted from k, or null
abbrev pub first_true : List Formula → ℕ → Formula
first_true [] k vs = Ok null
first_true (f ∷ fs) k vs = f vs >>= λ v. if truth_of v then Ok (int (pos k)) else first_true fs (k + 1) vs

-- the values of all
abbrev pub all_values : List Formula → List Plain → Placed (List Plain)
all_values [] vs = Ok []
all_values (f ∷ fs) vs = f vs >>= λ w. all_values fs vs >>= λ ws. Ok (w ∷ ws)

-- the values of the first labels before those of the rest
abbrev pub and_values : List Plain → Placed (List Plain) → Placed (List Plain)
and_values vs rest = rest >>= λ ws. Ok (vs ++ ws)

-- the list of the values of all
abbrev pub value_list : List Formula → Formula
value_list fs vs = all_values fs vs >>= λ ws. Ok (list_of ws)

-- ---- the labels of a closure

-- a label: its name, and its expression
pub record Label : Type 0 where
  pub name : Tree
  pub value : Tree

abbrev pub label_tree : Label → Tree
label_tree l = tree.label l.name l.value

-- the closure has these labels, at least one
pub record HasLabels (c : Closing) (first : Label) (more : List Label) : Type 0 where
  pub body : c.body ≡ cons (label_tree first) (trees (map label_tree more))

-- the closure with this label alone
abbrev pub with_label : Closing → Label → Closing
with_label c l = record c { body = cons (label_tree l) empty }
