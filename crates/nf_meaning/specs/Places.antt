-- Where the parts of a script begin.
use Rattle.std.specs.Prelude.{Bool, ◌&&◌, ◌||◌, nat_lt, ◌==◌}
use Rattle.nf_value.specs.declared.place.Place.{Place}
use Rattle.nf_ast.specs.Tree as tree
use Rattle.nf_ast.specs.Tree.{Tree}
use Rattle.nf_tasks.specs.Evaluation.{nowhere}

-- the place of an expression's first token, brackets around it aside
abbrev pub begins_at : Tree → Place
begins_at (tree.name p n) = p
begins_at (tree.number p i) = p
begins_at (tree.text p k s) = p
begins_at (tree.pattern p s) = p
begins_at (tree.template p k xs) = p
begins_at (tree.truth p b) = p
begins_at (tree.null p) = p
begins_at (tree.list p xs) = p
begins_at (tree.map p xs) = p
begins_at (tree.closure p ps b) = p
begins_at (tree.prefix p k e) = p
begins_at (tree.binary p k a b) = begins_at a
begins_at (tree.conditional p c a b) = begins_at c
begins_at (tree.elvis p a b) = begins_at a
begins_at (tree.property e n) = begins_at e
begins_at (tree.safe_property e n) = begins_at e
begins_at (tree.index p e i) = begins_at e
begins_at (tree.call p f xs) = begins_at f
begins_at (tree.call_with f c) = begins_at f
begins_at (tree.val p e) = p
begins_at (tree.path p e) = p
begins_at (tree.stdin p) = p
begins_at (tree.stdout p) = p
begins_at (tree.tuple p xs) = p
begins_at (tree.section p xs) = p
begins_at _ = nowhere

-- the first token of a script
abbrev pub first_place : Place
first_place = record { line = 1; col = 1 }

-- the first place stands before the second
abbrev pub is_before : Place → Place → Bool
is_before p q = nat_lt p.line q.line || ((p.line == q.line) && nat_lt p.col q.col)
