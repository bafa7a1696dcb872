-- The patterns of a script, by their texts: those of its functions, workflows, parameters and printed values, and those of the directives,
-- outputs and tasks of its processes. A stub is never evaluated.
use Rattle.std.specs.Prelude.{ℕ, List, [], ◌∷◌, ◌++◌, map}
use Rattle.nf_ast.specs.Tree as tree
use Rattle.nf_ast.specs.Tree.{Tree, cons}
use Rattle.nf_ast.specs.View.{trees}
use Rattle.nf_meaning.specs.Script.{statements_in}
use Rattle.nf_names_used.specs.declared.uses.Use.{Use}
use Rattle.nf_names_used.specs.declared.uses.UseKind.{UseKind}
use Rattle.nf_names_used.specs.declared.uses.UseKind.TheVariants as kind
use Rattle.nf_names_used.specs.Uses.{no_names, uses}

abbrev pub kind_patterns : UseKind → List ℕ → List (List ℕ)
kind_patterns kind.Pattern s = s ∷ []
kind_patterns kind.Name s = []
kind_patterns kind.Assigned s = []
kind_patterns kind.Again s = []
kind_patterns kind.Function s = []

-- those that uses look for
abbrev pub used_patterns : List Use → List (List ℕ)
used_patterns [] = []
used_patterns (u ∷ us) = kind_patterns u.kind u.text ++ used_patterns us

-- those of an expression, or of statements
abbrev pub patterns_in : Tree → List (List ℕ)
patterns_in t = used_patterns (uses t no_names)

-- those of parts in a row
abbrev pub patterns_of_each : (Tree → List (List ℕ)) → Tree → List (List ℕ)
patterns_of_each f (cons x more) = f x ++ patterns_of_each f more
patterns_of_each f _ = []

-- the same in memory
abbrev pub in_row : {A : Type 0} → (A → Tree) → (Tree → List (List ℕ)) → List A → List (List ℕ)
in_row view f xs = patterns_of_each f (trees (map view xs))

-- ---- processes

abbrev pub directive_patterns : Tree → List (List ℕ)
directive_patterns (tree.directive n xs) = patterns_of_each patterns_in xs
directive_patterns _ = []

abbrev pub part_patterns : Tree → List (List ℕ)
part_patterns (tree.val p e) = patterns_in e
part_patterns (tree.path p e) = patterns_in e
part_patterns _ = []

abbrev pub value_patterns : Tree → List (List ℕ)
value_patterns (tree.tuple p xs) = patterns_of_each part_patterns xs
value_patterns x = part_patterns x

abbrev pub output_patterns : Tree → List (List ℕ)
output_patterns (tree.output v options) = value_patterns v ++ patterns_of_each patterns_in options
output_patterns _ = []

abbrev pub outputs_patterns : Tree → List (List ℕ)
outputs_patterns (tree.section p xs) = patterns_of_each output_patterns xs
outputs_patterns _ = []

-- ---- workflows

abbrev pub emits_patterns : Tree → List (List ℕ)
emits_patterns (tree.section p xs) = patterns_of_each patterns_in xs
emits_patterns _ = []

abbrev pub workflow_patterns : Tree → List (List ℕ)
workflow_patterns (tree.parts take main emit) = patterns_in (statements_in main) ++ emits_patterns emit
workflow_patterns b = patterns_in b

-- ---- a script

abbrev pub top_patterns : Tree → List (List ℕ)
top_patterns (tree.process p n ds ins os task stub) =
    patterns_of_each directive_patterns ds ++ (outputs_patterns os ++ patterns_in (statements_in task))
top_patterns (tree.workflow p n b) = workflow_patterns b
top_patterns (tree.function p n ps b) = patterns_in b
top_patterns (tree.parameter p n e) = patterns_in e
top_patterns (tree.println p e) = patterns_in e
top_patterns (tree.log p n e) = patterns_in e
top_patterns _ = []

abbrev pub pattern_texts : Tree → List (List ℕ)
pattern_texts t = patterns_of_each top_patterns t
