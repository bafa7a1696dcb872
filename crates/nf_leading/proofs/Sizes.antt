-- How far one may still go down a tree.
use Rattle.std.proofs.Common.{◌≡◌, ◌+◌, ◌<◌, ℕ, zero, suc, List, [], ◌∷◌, length, get_or, ap, arith}
use Rattle.nf_ast.specs.declared.expr.Expr.{Expr}
use Rattle.nf_ast.specs.Tree as tree
use Rattle.nf_ast.specs.Tree.{Tree, cons}
use Rattle.nf_ast.specs.View.{view, views}

-- the parts that say whether an expression leads to channels
abbrev pub size : Tree → ℕ
size (cons a more) = 1 + (size a + size more)
size (tree.list p xs) = 1 + size xs
size (tree.property e n) = 1 + size e
size (tree.index p e i) = 1 + size e
size (tree.call p f xs) = 1 + size f
size (tree.call_with f c) = 1 + size f
size (tree.conditional p c a b) = 1 + (size a + size b)
size _ = 0

pub part_smaller : (es : List Expr) (i : ℕ) (e : Expr) → i < length es → e ≡ get_or es i e → size (view e) < size (views es)
part_smaller [] i e lt is = absurd (omega arith)
part_smaller (x ∷ es) zero e lt is = let same : size (view e) ≡ size (view x) = ap (λ y. size (view y)) is in omega (arith, same)
part_smaller (x ∷ es) (suc i) e lt is = let there = part_smaller es i e (omega arith) is in omega (arith, there)
