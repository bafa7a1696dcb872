-- The canonical text of expressions, closures and statements.
use Rattle.std.specs.Prelude.{Bool, true, false, not, ◌&&◌, List, [], ◌∷◌, ◌++◌, codes}
use Rattle.nf_token.specs.declared.token.Keyword.TheVariants as k
use Rattle.nf_token.specs.declared.token.Mark.TheVariants as m
use Rattle.nf_token.specs.declared.token.TemplateKind.{TemplateKind}
use Rattle.nf_ast.specs.declared.operators.InfixOperator.{InfixOperator}
use Rattle.nf_ast.specs.declared.operators.InfixOperator.TheVariants as i
use Rattle.nf_ast.specs.declared.operators.PrefixOperator.{PrefixOperator}
use Rattle.nf_ast.specs.declared.operators.PrefixOperator.TheVariants as f
use Rattle.nf_ast.specs.Tree as tree
use Rattle.nf_ast.specs.Tree.{Tree}
use Rattle.nf_writer.specs.Ink as ink
use Rattle.nf_writer.specs.Ink.{Ink, mark, keyword, blank, spaced}
use Rattle.nf_printer.specs.Levels.{left_level, right_level, prefix_level, postfix_level, needs, prints, round, within}
use Rattle.nf_writer.specs.Lines.{Layout, inline, is_inline, deeper, between, after_last}
use Rattle.nf_printer.specs.Bodies.{is_short, first_before, closure_last}

-- ---- operators with the blanks round them

abbrev pub infix_ink : InfixOperator → Ink
infix_ink i.Or = mark m.Or
infix_ink i.And = mark m.And
infix_ink i.Pipe = mark m.Pipe
infix_ink i.Same = mark m.Same
infix_ink i.Differs = mark m.Differs
infix_ink i.Matches = mark m.Matches
infix_ink i.Less = mark m.Less
infix_ink i.AtMost = mark m.AtMost
infix_ink i.Greater = mark m.Greater
infix_ink i.AtLeast = mark m.AtLeast
infix_ink i.In = keyword k.In
infix_ink i.Range = mark m.DotDot
infix_ink i.Plus = mark m.Plus
infix_ink i.Minus = mark m.Minus
infix_ink i.Times = mark m.Times
infix_ink i.Remainder = mark m.Percent

-- only `..` has no blanks round it
abbrev pub infix_inks : InfixOperator → List Ink
infix_inks i.Range = mark m.DotDot ∷ []
infix_inks x = spaced (infix_ink x)

abbrev pub prefix_ink : PrefixOperator → Ink
prefix_ink f.Not = mark m.Not
prefix_ink f.Minus = mark m.Minus

abbrev pub comma : List Ink
comma = mark m.Comma ∷ blank ∷ []

abbrev pub colon : List Ink
colon = mark m.Colon ∷ blank ∷ []

abbrev pub equals : List Ink
equals = spaced (mark m.Equals)

-- ---- small parts

abbrev pub truth_ink : Bool → Ink
truth_ink true = keyword k.True
truth_ink false = keyword k.False

-- `[:]` is a map without a pair
abbrev pub colon_alone : Tree → List Ink
colon_alone tree.empty = mark m.Colon ∷ []
colon_alone _ = []

-- a blank between parameters and the arrow, where there are any
abbrev pub blank_after : Tree → List Ink
blank_after tree.empty = []
blank_after _ = blank ∷ []

-- `else`, where something stands after an arm of an `if`
abbrev pub else_before : Tree → List Ink
else_before tree.empty = []
else_before _ = spaced (keyword k.Else)

-- ---- trees; the test asks for brackets round the name that stands first, which a statement may need so that it isn't read as `println` or `log`

abbrev mutual
  pub inks : Tree → Layout → Bool → List Ink
  inks (tree.name p s) l guarded = within guarded (ink.name s ∷ [])
  inks (tree.number p n) l guarded = ink.number n ∷ []
  inks (tree.text p q s) l guarded = ink.plain q (is_inline l) s ∷ []
  inks (tree.pattern p s) l guarded = ink.pattern s ∷ []
  inks (tree.template p q xs) l guarded = ink.open_template q ∷ pieces xs q l ++ ink.close_template q ∷ []
  inks (tree.truth p b) l guarded = truth_ink b ∷ []
  inks (tree.null p) l guarded = keyword k.Null ∷ []
  inks (tree.list p xs) l guarded = mark m.OpenSquare ∷ listed xs l [] ++ mark m.CloseSquare ∷ []
  inks (tree.map p xs) l guarded = mark m.OpenSquare ∷ colon_alone xs ++ listed xs l [] ++ mark m.CloseSquare ∷ []
  inks (tree.pair n e) l guarded = inks n l false ++ colon ++ inks e l false
  inks (tree.closure p ps xs) l guarded = mark m.OpenBrace ∷ inks ps l false ++ parts xs (deeper l) (first_before (is_short xs) (deeper l)) ++ closure_last (is_short xs) l ++ mark m.CloseBrace ∷ []
  inks (tree.params ns) l guarded = blank ∷ listed ns l [] ++ blank_after ns ++ mark m.Arrow ∷ []
  inks (tree.label n e) l guarded = inks n l false ++ colon ++ inks e l false
  inks (tree.prefix p x e) l guarded = prefix_ink x ∷ within (needs prefix_level e) (inks e l false)
  inks (tree.binary p x a b) l guarded = within (needs (left_level x) a) (inks a l (guarded && not (needs (left_level x) a))) ++ infix_inks x ++ within (needs (right_level x) b) (inks b l false)
  inks (tree.conditional p c a b) l guarded = within (needs 1 c) (inks c l (guarded && not (needs 1 c))) ++ spaced (mark m.Question) ++ inks a l false ++ spaced (mark m.Colon) ++ inks b l false
  inks (tree.elvis p a b) l guarded = within (needs 1 a) (inks a l (guarded && not (needs 1 a))) ++ spaced (mark m.Elvis) ++ inks b l false
  inks (tree.property e n) l guarded = within (needs postfix_level e) (inks e l (guarded && not (needs postfix_level e))) ++ mark m.Dot ∷ inks n l false
  inks (tree.safe_property e n) l guarded = within (needs postfix_level e) (inks e l (guarded && not (needs postfix_level e))) ++ mark m.QuestionDot ∷ inks n l false
  inks (tree.index p e x) l guarded = within (needs postfix_level e) (inks e l (guarded && not (needs postfix_level e))) ++ (mark m.OpenSquare ∷ inks x l false ++ mark m.CloseSquare ∷ [])
  inks (tree.call p e xs) l guarded = within (needs postfix_level e) (inks e l (guarded && not (needs postfix_level e))) ++ round (listed xs l [])
  inks (tree.named n e) l guarded = inks n l false ++ colon ++ inks e l false
  inks (tree.call_with e c) l guarded = within (needs postfix_level e) (inks e l (guarded && not (needs postfix_level e))) ++ blank ∷ inks c l false
  inks (tree.define p n e) l guarded = keyword k.Def ∷ blank ∷ inks n l false ++ equals ++ inks e l false
  inks (tree.define_all p ns e) l guarded = keyword k.Def ∷ blank ∷ round (listed ns l []) ++ equals ++ inks e l false
  inks (tree.assign n e) l guarded = inks n l false ++ equals ++ inks e l false
  inks (tree.return_ p e) l guarded = keyword k.Return ∷ blank ∷ inks e l false
  inks (tree.choice p c b e) l guarded = keyword k.If ∷ blank ∷ round (inks c l false) ++ blank ∷ inks b l false ++ else_before e ++ inks e l false
  inks (tree.statements xs) l guarded = mark m.OpenBrace ∷ parts xs (deeper l) (first_before false (deeper l)) ++ after_last l ++ mark m.CloseBrace ∷ []
  inks (tree.println p e) l guarded = ink.name (codes "println") ∷ blank ∷ inks e l false
  inks (tree.log p n e) l guarded = ink.name (codes "log") ∷ mark m.Dot ∷ inks n l false ++ blank ∷ inks e l false
  inks _ l guarded = []

  -- the items of a list with commas between them; `before` stands before the first
  pub listed : Tree → Layout → List Ink → List Ink
  listed (tree.cons x xs) l before = before ++ inks x l false ++ listed xs l comma
  listed _ l before = []

  -- statements or labels; `before` stands before the first
  pub parts : Tree → Layout → List Ink → List Ink
  parts (tree.cons x xs) l before = before ++ inks x l (prints x false) ++ parts xs l (between l)
  parts _ l before = []

  -- a text or a hole of a template; what is in a hole stays on one line
  pub piece : Tree → TemplateKind → Layout → List Ink
  piece (tree.piece p s) q l = ink.template_text q (is_inline l) s ∷ []
  piece (tree.hole p e) q l = ink.open_hole ∷ inks e inline false ++ ink.close_hole ∷ []
  piece _ q l = []

  pub pieces : Tree → TemplateKind → Layout → List Ink
  pieces (tree.cons x xs) q l = piece x q l ++ pieces xs q l
  pieces _ q l = []
