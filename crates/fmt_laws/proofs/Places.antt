-- The canonical text of a script doesn't depend on its places: expressions and statements.
use Rattle.std.proofs.Common.{◌≡◌, ℕ, Bool, true, false, List, [], ◌∷◌, ◌++◌, refl, ap, ◌∙◌}
use Rattle.std.specs.Prelude.{not, ◌&&◌, codes, nat_lt}
use Rattle.nf_token.specs.declared.token.Keyword.TheVariants as k
use Rattle.nf_token.specs.declared.token.Mark.TheVariants as m
use Rattle.nf_token.specs.declared.token.TemplateKind.{TemplateKind}
use Rattle.nf_ast.specs.Tree as tree
use Rattle.nf_ast.specs.Tree.{Tree}
use Rattle.nf_writer.specs.Ink as ink
use Rattle.nf_writer.specs.Ink.{Ink, mark, spaced}
use Rattle.nf_printer.specs.Levels.{level, left_level, right_level, prefix_level, postfix_level, needs, is_name, is_minus, prints, begins_round, round, within}
use Rattle.nf_writer.specs.Lines.{Layout, inline, deeper, between, after_last}
use Rattle.nf_printer.specs.Bodies.{is_expr, is_short, first_before, closure_last}
use Rattle.nf_printer.specs.Exprs.{comma, colon, equals, infix_inks, colon_alone, blank_after, else_before, inks, listed, parts, piece, pieces}
use Rattle.fmt_trees.specs.Bare.{bare}

-- ---- lists of inks

pub both : (f : List Ink → List Ink → List Ink) {a b c d : List Ink} → a ≡ b → c ≡ d → f a c ≡ f b d
both f {a} {b} {c} {d} e g = ap (λ z. f z c) e ∙ ap (λ z. f b z) g

pub three : (f : List Ink → List Ink → List Ink → List Ink) {a b c d u v : List Ink} → a ≡ b → c ≡ d → u ≡ v → f a c u ≡ f b d v
three f {a} {b} {c} {d} {u} {v} e g h = ap (λ z. f z c u) e ∙ both (f b) g h

four : (f : List Ink → List Ink → List Ink → List Ink → List Ink) {a b c d u v x y : List Ink} → a ≡ b → c ≡ d → u ≡ v → x ≡ y → f a c u x ≡ f b d v y
four f {a} {b} {c} {d} {u} {v} {x} {y} e g h i = ap (λ z. f z c u x) e ∙ three (f b) g h i

pub join : {a b c d : List Ink} → a ≡ b → c ≡ d → a ++ c ≡ b ++ d
join e f = both (λ y z. y ++ z) e f

pub lead : {x : Ink} {a b : List Ink} → a ≡ b → x ∷ a ≡ x ∷ b
lead {x} e = ap (λ z. x ∷ z) e

-- ---- what is asked of a tree

level_bare : (e : Tree) → level (bare e) ≡ level e
level_bare tree.empty = refl
level_bare _ = refl

pub is_expr_bare : (e : Tree) → is_expr (bare e) ≡ is_expr e
is_expr_bare tree.empty = refl
is_expr_bare _ = refl

word_bare : (word : List ℕ) (e : Tree) → is_name word (bare e) ≡ is_name word e
word_bare word tree.empty = refl
word_bare word _ = refl

prints_bare : (e : Tree) (next : Bool) → prints (bare e) next ≡ prints e next
prints_bare (tree.binary p x a b) next = let e1 = level_bare a in let e3 = prints_bare a (is_minus x) in cc
prints_bare (tree.conditional p c a b) next = let e1 = level_bare c in let e3 = prints_bare c false in cc
prints_bare (tree.elvis p a b) next = let e1 = level_bare a in let e3 = prints_bare a false in cc
prints_bare (tree.property e n) next = let e1 = level_bare e in let e2 = word_bare (codes "log") e in let e3 = prints_bare e false in cc
prints_bare (tree.safe_property e n) next = let e1 = level_bare e in let e3 = prints_bare e false in cc
prints_bare (tree.index p e x) next = let e1 = level_bare e in let e3 = prints_bare e true in cc
prints_bare (tree.call p e xs) next = let e1 = level_bare e in let e3 = prints_bare e true in cc
prints_bare (tree.call_with e c) next = let e1 = level_bare e in let e3 = prints_bare e true in cc
prints_bare _ next = refl

pub round_bare : (e : Tree) → begins_round (bare e) ≡ begins_round e
round_bare (tree.binary p x a b) = let e1 = level_bare a in let e3 = round_bare a in cc
round_bare (tree.conditional p c a b) = let e1 = level_bare c in let e3 = round_bare c in cc
round_bare (tree.elvis p a b) = let e1 = level_bare a in let e3 = round_bare a in cc
round_bare (tree.property e n) = let e1 = level_bare e in let e3 = round_bare e in cc
round_bare (tree.safe_property e n) = let e1 = level_bare e in let e3 = round_bare e in cc
round_bare (tree.index p e x) = let e1 = level_bare e in let e3 = round_bare e in cc
round_bare (tree.call p e xs) = let e1 = level_bare e in let e3 = round_bare e in cc
round_bare (tree.call_with e c) = let e1 = level_bare e in let e3 = round_bare e in cc
round_bare _ = refl

short_bare : (e : Tree) → is_short (bare e) ≡ is_short e
short_bare (tree.cons x tree.empty) = is_expr_bare x
short_bare _ = refl

colon_bare : (e : Tree) → colon_alone (bare e) ≡ colon_alone e
colon_bare tree.empty = refl
colon_bare _ = refl

blank_bare : (e : Tree) → blank_after (bare e) ≡ blank_after e
blank_bare tree.empty = refl
blank_bare _ = refl

else_bare : (e : Tree) → else_before (bare e) ≡ else_before e
else_bare tree.empty = refl
else_bare _ = refl

-- ---- the whole

-- in brackets where they are needed
held : (n : ℕ) (e : Tree) {a b : List Ink} → a ≡ b → within (needs n (bare e)) a ≡ within (needs n e) b
held n e {a} h = ap (λ t. within (nat_lt t n) a) (level_bare e) ∙ ap (λ z. within (needs n e) z) h

first_bare : (n : ℕ) (e : Tree) (l : Layout) (guarded : Bool) → inks (bare e) l (guarded && not (needs n e)) ≡ inks e l (guarded && not (needs n e)) → within (needs n (bare e)) (inks (bare e) l (guarded && not (needs n (bare e)))) ≡ within (needs n e) (inks e l (guarded && not (needs n e)))
first_bare n e l guarded h = held n e (ap (λ t. inks (bare e) l (guarded && not (nat_lt t n))) (level_bare e) ∙ h)

mutual
  pub inks_bare : (e : Tree) (l : Layout) (guarded : Bool) → inks (bare e) l guarded ≡ inks e l guarded
  inks_bare (tree.template p q xs) l guarded = ap (λ z. ink.open_template q ∷ z ++ ink.close_template q ∷ []) (pieces_bare xs q l)
  inks_bare (tree.list p xs) l guarded = ap (λ z. mark m.OpenSquare ∷ z ++ mark m.CloseSquare ∷ []) (listed_bare xs l [])
  inks_bare (tree.map p xs) l guarded = both (λ y z. mark m.OpenSquare ∷ y ++ z ++ mark m.CloseSquare ∷ []) (colon_bare xs) (listed_bare xs l [])
  inks_bare (tree.pair n e) l guarded = both (λ y z. y ++ colon ++ z) (inks_bare n l false) (inks_bare e l false)
  inks_bare (tree.closure p ps xs) l guarded = three (λ x y z. mark m.OpenBrace ∷ x ++ y ++ z ++ mark m.CloseBrace ∷ []) (inks_bare ps l false) (ap (λ t. parts (bare xs) (deeper l) (first_before t (deeper l))) (short_bare xs) ∙ parts_bare xs (deeper l) (first_before (is_short xs) (deeper l))) (ap (λ t. closure_last t l) (short_bare xs))
  inks_bare (tree.params ns) l guarded = both (λ y z. ink.blank ∷ y ++ z ++ mark m.Arrow ∷ []) (listed_bare ns l []) (blank_bare ns)
  inks_bare (tree.label n e) l guarded = both (λ y z. y ++ colon ++ z) (inks_bare n l false) (inks_bare e l false)
  inks_bare (tree.prefix p x e) l guarded = lead (held prefix_level e (inks_bare e l false))
  inks_bare (tree.binary p x a b) l guarded = both (λ y z. y ++ infix_inks x ++ z) (first_bare (left_level x) a l guarded (inks_bare a l (guarded && not (needs (left_level x) a)))) (held (right_level x) b (inks_bare b l false))
  inks_bare (tree.conditional p c a b) l guarded = three (λ x y z. x ++ spaced (mark m.Question) ++ y ++ spaced (mark m.Colon) ++ z) (first_bare 1 c l guarded (inks_bare c l (guarded && not (needs 1 c)))) (inks_bare a l false) (inks_bare b l false)
  inks_bare (tree.elvis p a b) l guarded = both (λ y z. y ++ spaced (mark m.Elvis) ++ z) (first_bare 1 a l guarded (inks_bare a l (guarded && not (needs 1 a)))) (inks_bare b l false)
  inks_bare (tree.property e n) l guarded = both (λ y z. y ++ mark m.Dot ∷ z) (first_bare postfix_level e l guarded (inks_bare e l (guarded && not (needs postfix_level e)))) (inks_bare n l false)
  inks_bare (tree.safe_property e n) l guarded = both (λ y z. y ++ mark m.QuestionDot ∷ z) (first_bare postfix_level e l guarded (inks_bare e l (guarded && not (needs postfix_level e)))) (inks_bare n l false)
  inks_bare (tree.index p e x) l guarded = both (λ y z. y ++ (mark m.OpenSquare ∷ z ++ mark m.CloseSquare ∷ [])) (first_bare postfix_level e l guarded (inks_bare e l (guarded && not (needs postfix_level e)))) (inks_bare x l false)
  inks_bare (tree.call p e xs) l guarded = both (λ y z. y ++ round z) (first_bare postfix_level e l guarded (inks_bare e l (guarded && not (needs postfix_level e)))) (listed_bare xs l [])
  inks_bare (tree.named n e) l guarded = both (λ y z. y ++ colon ++ z) (inks_bare n l false) (inks_bare e l false)
  inks_bare (tree.call_with e c) l guarded = both (λ y z. y ++ ink.blank ∷ z) (first_bare postfix_level e l guarded (inks_bare e l (guarded && not (needs postfix_level e)))) (inks_bare c l false)
  inks_bare (tree.define p n e) l guarded = both (λ y z. ink.keyword k.Def ∷ ink.blank ∷ y ++ equals ++ z) (inks_bare n l false) (inks_bare e l false)
  inks_bare (tree.define_all p ns e) l guarded = both (λ y z. ink.keyword k.Def ∷ ink.blank ∷ round y ++ equals ++ z) (listed_bare ns l []) (inks_bare e l false)
  inks_bare (tree.assign n e) l guarded = both (λ y z. y ++ equals ++ z) (inks_bare n l false) (inks_bare e l false)
  inks_bare (tree.return_ p e) l guarded = lead (lead (inks_bare e l false))
  inks_bare (tree.choice p c b e) l guarded = four (λ w x y z. ink.keyword k.If ∷ ink.blank ∷ round w ++ ink.blank ∷ x ++ y ++ z) (inks_bare c l false) (inks_bare b l false) (else_bare e) (inks_bare e l false)
  inks_bare (tree.statements xs) l guarded = ap (λ z. mark m.OpenBrace ∷ z ++ after_last l ++ mark m.CloseBrace ∷ []) (parts_bare xs (deeper l) (first_before false (deeper l)))
  inks_bare (tree.println p e) l guarded = lead (lead (inks_bare e l false))
  inks_bare (tree.log p n e) l guarded = both (λ y z. ink.name (codes "log") ∷ mark m.Dot ∷ y ++ ink.blank ∷ z) (inks_bare n l false) (inks_bare e l false)
  inks_bare _ l guarded = refl

  pub listed_bare : (xs : Tree) (l : Layout) (before : List Ink) → listed (bare xs) l before ≡ listed xs l before
  listed_bare (tree.cons x xs) l before = both (λ y z. before ++ y ++ z) (inks_bare x l false) (listed_bare xs l comma)
  listed_bare _ l before = refl

  pub parts_bare : (xs : Tree) (l : Layout) (before : List Ink) → parts (bare xs) l before ≡ parts xs l before
  parts_bare (tree.cons x xs) l before = both (λ y z. before ++ y ++ z) (ap (λ z. inks (bare x) l z) (prints_bare x false) ∙ inks_bare x l (prints x false)) (parts_bare xs l (between l))
  parts_bare _ l before = refl

  piece_bare : (x : Tree) (q : TemplateKind) (l : Layout) → piece (bare x) q l ≡ piece x q l
  piece_bare (tree.hole p e) q l = ap (λ z. ink.open_hole ∷ z ++ ink.close_hole ∷ []) (inks_bare e inline false)
  piece_bare _ q l = refl

  pieces_bare : (xs : Tree) (q : TemplateKind) (l : Layout) → pieces (bare xs) q l ≡ pieces xs q l
  pieces_bare (tree.cons x xs) q l = join (piece_bare x q l) (pieces_bare xs q l)
  pieces_bare _ q l = refl
