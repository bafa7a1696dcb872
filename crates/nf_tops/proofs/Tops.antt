-- The tops of a script, one after the other.
use Rattle.std.proofs.Common.{◌≡◌, ◌<◌, ◌≤◌, ◌+◌, ℕ, List, ◌∷◌, map, length, get_or, drop, Some, None, refl, sym, ap, ◌∙◌, arith, add-one, drop-cons}
use Rattle.std.specs.Borrow.{Bor}
use Rattle.std.proofs.lemmas.List.{drop_all}
use Rattle.nf_value.specs.declared.place.Place.{Place}
use Rattle.nf_ast.specs.declared.tops.Top.{Top}
use Rattle.nf_ast.specs.declared.tops.WorkflowBody.{WorkflowBody}
use Rattle.nf_ast.specs.Tops.{view_top, view_workflow_body}
use Rattle.nf_ast.specs.Tree as tree
use Rattle.nf_ast.specs.Tree.{Tree, cons, empty}
use Rattle.nf_ast.specs.View.{name_tree, trees}
use Rattle.nf_meaning.specs.Given.{Definitions}
use Rattle.nf_meaning.specs.Script.{and_definition, definitions_of, entry_in}
use Rattle.nf_tops.specs.Entries.{IsEntry, body_tree, named_of}

pub left : {X : Type 0} (xs : List X) (i : ℕ) (x : X) → i < length xs → x ≡ get_or xs i x → drop i xs ≡ x ∷ drop (i + 1) xs
left xs i x h is = rw (add-one, drop-cons xs i x, ← is) refl

-- the trees of those that are left
abbrev pub rest_of : List Top → ℕ → Tree
rest_of xs i = trees (map view_top (drop i xs))

pub rest_is : (xs : List Top) (i : ℕ) (x : Top) → i < length xs → x ≡ get_or xs i x → rest_of xs i ≡ cons (view_top x) (rest_of xs (i + 1))
rest_is xs i x h is = ap (λ ys. trees (map view_top ys)) (left xs i x h is)

pub none_left : (xs : List Top) (i : ℕ) → length xs ≤ i → rest_of xs i ≡ empty
none_left xs i h = ap (λ ys. trees (map view_top ys)) (drop_all i xs h)

-- ---- the entry

-- none so far
abbrev pub NoneSoFar : List Top → ℕ → Type 0
NoneSoFar xs i = entry_in (trees (map view_top xs)) ≡ entry_in (rest_of xs i)

pub found_here : (xs : List Top) (i : ℕ) (x : Top) (b : Bor WorkflowBody) → i < length xs → x ≡ get_or xs i x → NoneSoFar xs i → IsEntry (view_top x) (Some b)
    → Some (body_tree b) ≡ entry_in (trees (map view_top xs))
found_here xs i x b h is none entry = sym (none ∙ ap entry_in (rest_is xs i x h is) ∙ entry (rest_of xs (i + 1)))

pub none_here : (xs : List Top) (i : ℕ) (x : Top) → i < length xs → x ≡ get_or xs i x → NoneSoFar xs i → IsEntry (view_top x) None → NoneSoFar xs (i + 1)
none_here xs i x h is none entry = none ∙ ap entry_in (rest_is xs i x h is) ∙ entry (rest_of xs (i + 1))

pub none_at_all : (xs : List Top) (i : ℕ) → length xs ≤ i → NoneSoFar xs i → None ≡ entry_in (trees (map view_top xs))
none_at_all xs i h none = sym (none ∙ ap entry_in (none_left xs i h))

-- a workflow with a name is none
pub named_is_none : (p : Place) (t body : Tree) (n : Place × List ℕ) → t ≡ tree.workflow p (name_tree n) body → IsEntry t None
named_is_none p t body n is more = ap (λ u. entry_in (cons u more)) is

pub unnamed_is : (p : Place) (t : Tree) (b : Bor WorkflowBody) → t ≡ tree.workflow p empty (view_workflow_body b.now) → IsEntry t (Some b)
unnamed_is p t b is more = ap (λ u. entry_in (cons u more)) is

-- ---- workflows with a name

abbrev pub workflows_in : Tree → ℕ
workflows_in t = length (definitions_of t).workflows

more_named : (x : Tree) (d : Definitions) → length (and_definition x d).workflows ≡ named_of x + length d.workflows
more_named (tree.workflow p (tree.name q n) body) d = omega arith
more_named (tree.process p n ds ins os task stub) d = omega arith
more_named (tree.function p n ps b) d = omega arith
more_named _ d = omega arith

-- how many so far, and how many among the rest
abbrev pub CountsAll : List Top → ℕ → ℕ → Type 0
CountsAll xs i count = count + workflows_in (rest_of xs i) ≡ workflows_in (trees (map view_top xs))

pub counts_more : (xs : List Top) (i : ℕ) (x : Top) (count k : ℕ) → i < length xs → x ≡ get_or xs i x → k ≡ named_of (view_top x) → CountsAll xs i count → CountsAll xs (i + 1) (count + k)
counts_more xs i x count k h is one so_far =
    let e : workflows_in (rest_of xs i) ≡ named_of (view_top x) + workflows_in (rest_of xs (i + 1)) =
    ap workflows_in (rest_is xs i x h is) ∙ more_named (view_top x) (definitions_of (rest_of xs (i + 1))) in
    omega (arith, e, one, so_far)

pub counts_all : (xs : List Top) (i count : ℕ) → length xs ≤ i → CountsAll xs i count → count ≡ workflows_in (trees (map view_top xs))
counts_all xs i count h so_far =
    let e : workflows_in (rest_of xs i) ≡ 0 = ap workflows_in (none_left xs i h) in
    omega (arith, e, so_far)
