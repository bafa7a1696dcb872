-- Tests on the shape of trees.
use Rattle.std.specs.Prelude.{Bool, true, false, List, [], ◌∷◌}
use Rattle.nf_value.specs.Plain.{Plain}
use Rattle.nf_value.specs.declared.fault.EvalKind.TheVariants.{WrongKind}
use Rattle.nf_ast.specs.Tree as tree
use Rattle.nf_ast.specs.Tree.{Tree}
use Rattle.nf_placed.specs.Placed.{Placed, fault}
use Rattle.nf_placed.specs.Scope.{Env}
use Rattle.nf_eval.specs.Evaluation.{nowhere, meaning_of, closure}

abbrev pub is_nil : {A : Type 0} → List A → Bool
is_nil [] = true
is_nil (x ∷ xs) = false

abbrev pub is_closure : Tree → Bool
is_closure (tree.closure p ps b) = true
is_closure _ = false

-- an expression that is no closure
abbrev pub is_plain : Tree → Bool
is_plain (tree.number p i) = true
is_plain (tree.text p k s) = true
is_plain (tree.pattern p s) = true
is_plain (tree.template p k xs) = true
is_plain (tree.truth p b) = true
is_plain (tree.null p) = true
is_plain (tree.name p n) = true
is_plain (tree.list p xs) = true
is_plain (tree.map p xs) = true
is_plain (tree.prefix p k e) = true
is_plain (tree.binary p k a b) = true
is_plain (tree.conditional p c a b) = true
is_plain (tree.elvis p a b) = true
is_plain (tree.property e n) = true
is_plain (tree.safe_property e n) = true
is_plain (tree.index p e i) = true
is_plain (tree.call p f xs) = true
is_plain (tree.call_with f c) = true
is_plain _ = false

-- an expression of which what follows uses only the value: anything but a name, a property and a call in brackets
abbrev pub is_flat : Tree → Bool
is_flat (tree.number p i) = true
is_flat (tree.text p k s) = true
is_flat (tree.pattern p s) = true
is_flat (tree.template p k xs) = true
is_flat (tree.truth p b) = true
is_flat (tree.null p) = true
is_flat (tree.list p xs) = true
is_flat (tree.map p xs) = true
is_flat (tree.closure p ps b) = true
is_flat (tree.prefix p k e) = true
is_flat (tree.binary p k a b) = true
is_flat (tree.conditional p c a b) = true
is_flat (tree.elvis p a b) = true
is_flat (tree.index p e i) = true
is_flat (tree.call_with f c) = true
is_flat _ = false

-- a closure as a function of its arguments
abbrev pub block_of : Tree → Env → List Plain → Placed Plain
block_of (tree.closure p ps b) env = closure p ps (meaning_of b).body env
block_of _ env = λ vs. fault WrongKind nowhere
