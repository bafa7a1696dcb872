-- How deep trees nest, where the walk goes into them: so that it ends.
use Rattle.std.specs.Prelude.{ℕ, suc, ◌*◌, max, List, [], ◌∷◌}
use Rattle.nf_ast.specs.Tree as tree
use Rattle.nf_ast.specs.Tree.{Tree, cons}
use Rattle.nf_callees.specs.Found.{defined_in}
use Rattle.nf_walked.specs.declared.walker.Walker.{Walker}

-- an expression is as deep as the parts that are gone into; parts in a row are as deep as the deepest of them
abbrev pub depth : Tree → ℕ
depth (cons x more) = max (depth x) (depth more)
depth (tree.list p xs) = suc (depth xs)
depth (tree.binary p k a b) = suc (max (depth a) (depth b))
depth (tree.conditional p c a b) = suc (max (depth a) (depth b))
depth (tree.property e n) = suc (depth e)
depth (tree.index p e i) = suc (depth e)
depth (tree.call p f xs) = suc (max (depth f) (depth xs))
depth (tree.call_with f c) = suc (depth f)
depth (tree.named n e) = depth e
depth (tree.define p n e) = suc (depth e)
depth (tree.define_all p ns e) = suc (depth e)
depth (tree.assign n e) = suc (depth e)
depth (tree.choice p c b last) = max (depth b) (depth last)
depth (tree.statements b) = suc (depth b)
depth (tree.section p xs) = depth xs
depth (tree.parts take main emit) = max (depth main) (depth emit)
depth (tree.workflow p n body) = depth body
depth _ = 0

-- the deepest of these workflows
abbrev pub deepest : List (List ℕ × Tree) → ℕ
deepest [] = 0
deepest (b ∷ bs) = max (depth b.1) (deepest bs)

-- how deep the calls of workflows may still lead
unfoldable pub budget : {N : Type 0} → Walker N → ℕ
budget x = x.left * suc (deepest (defined_in x.definitions.now).workflows)
