-- The tokens of an expression or statement, without places: a function on trees, with the tokens that follow.
use Rattle.std.proofs.Common.{ℕ, Bool, true, false, List, [], ◌∷◌}
use Rattle.std.specs.Prelude.{not, ◌&&◌, codes}
use Rattle.nf_token.specs.declared.token.Keyword.TheVariants as k
use Rattle.nf_token.specs.declared.token.Mark.{Mark}
use Rattle.nf_token.specs.declared.token.Mark.TheVariants as m
use Rattle.nf_token.specs.declared.token.Token.{Token}
use Rattle.nf_token.specs.declared.token.Token.TheVariants as t
use Rattle.nf_token.specs.declared.token.Lexeme.{Lexeme}
use Rattle.nf_ast.specs.declared.operators.InfixOperator.{InfixOperator}
use Rattle.nf_ast.specs.declared.operators.InfixOperator.TheVariants as i
use Rattle.nf_ast.specs.declared.operators.PrefixOperator.{PrefixOperator}
use Rattle.nf_ast.specs.declared.operators.PrefixOperator.TheVariants as f
use Rattle.nf_ast.specs.Tree as tree
use Rattle.nf_ast.specs.Tree.{Tree}
use Rattle.nf_printer.specs.Levels.{left_level, right_level, prefix_level, postfix_level, needs, prints}
use Rattle.nf_writer.specs.Lines.{Layout, lines, inline, deeper}
use Rattle.nf_printer.specs.Bodies.{is_short}
use Rattle.fmt_trees.specs.Bare.{nowhere}

-- a token without its place
abbrev pub lx : Token → Lexeme
lx x = record { token = x; place = nowhere }

abbrev pub mark : Mark → List Lexeme → List Lexeme
mark x tl = lx (t.Mark x) ∷ tl

abbrev pub word : List ℕ → List Lexeme → List Lexeme
word s tl = lx (t.Name s) ∷ tl

abbrev pub separator : List Lexeme → List Lexeme
separator tl = lx t.Separator ∷ tl

abbrev pub infix_token : InfixOperator → Token
infix_token i.Or = t.Mark m.Or
infix_token i.And = t.Mark m.And
infix_token i.Pipe = t.Mark m.Pipe
infix_token i.Same = t.Mark m.Same
infix_token i.Differs = t.Mark m.Differs
infix_token i.Matches = t.Mark m.Matches
infix_token i.Less = t.Mark m.Less
infix_token i.AtMost = t.Mark m.AtMost
infix_token i.Greater = t.Mark m.Greater
infix_token i.AtLeast = t.Mark m.AtLeast
infix_token i.In = t.Keyword k.In
infix_token i.Range = t.Mark m.DotDot
infix_token i.Plus = t.Mark m.Plus
infix_token i.Minus = t.Mark m.Minus
infix_token i.Times = t.Mark m.Times
infix_token i.Remainder = t.Mark m.Percent

abbrev pub prefix_token : PrefixOperator → Token
prefix_token f.Not = t.Mark m.Not
prefix_token f.Minus = t.Mark m.Minus

abbrev pub truth_token : Bool → Token
truth_token true = t.Keyword k.True
truth_token false = t.Keyword k.False

abbrev pub held : Bool → (List Lexeme → List Lexeme) → List Lexeme → List Lexeme
held true f tl = mark m.OpenRound (f (mark m.CloseRound tl))
held false f tl = f tl

abbrev pub colon_alone : Tree → List Lexeme → List Lexeme
colon_alone tree.empty tl = mark m.Colon tl
colon_alone _ tl = tl

abbrev pub else_before : Tree → List Lexeme → List Lexeme
else_before tree.empty tl = tl
else_before _ tl = lx (t.Keyword k.Else) ∷ tl

-- whether a line ends after the last part of a body
abbrev pub breaks : Layout → Bool → Tree → Bool
breaks (lines m) false (tree.cons x xs) = true
breaks _ _ _ = false

abbrev pub maybe_separator : Bool → List Lexeme → List Lexeme
maybe_separator true tl = separator tl
maybe_separator false tl = tl

-- a text of a template
abbrev pub template_text : List ℕ → List Lexeme → List Lexeme
template_text [] tl = tl
template_text (b ∷ s) tl = lx (t.TemplateText (b ∷ s)) ∷ tl

abbrev mutual
  pub spell : Tree → Layout → Bool → List Lexeme → List Lexeme
  spell (tree.name p s) l g tl = held g (word s) tl
  spell (tree.number p n) l g tl = lx (t.Number n) ∷ tl
  spell (tree.text p q s) l g tl = lx (t.Plain q s) ∷ tl
  spell (tree.pattern p s) l g tl = lx (t.Pattern s) ∷ tl
  spell (tree.template p q xs) l g tl = lx (t.OpenTemplate q) ∷ pieces xs l (lx (t.CloseTemplate q) ∷ tl)
  spell (tree.truth p b) l g tl = lx (truth_token b) ∷ tl
  spell (tree.null p) l g tl = lx (t.Keyword k.Null) ∷ tl
  spell (tree.list p xs) l g tl = mark m.OpenSquare (listed xs l (mark m.CloseSquare tl))
  spell (tree.map p xs) l g tl = mark m.OpenSquare (colon_alone xs (listed xs l (mark m.CloseSquare tl)))
  spell (tree.pair n e) l g tl = spell n l false (mark m.Colon (spell e l false tl))
  spell (tree.closure p ps xs) l g tl = mark m.OpenBrace (spell ps l false (parts xs (deeper l) (maybe_separator (breaks l (is_short xs) xs) (mark m.CloseBrace tl))))
  spell (tree.params ns) l g tl = listed ns l (mark m.Arrow tl)
  spell (tree.label n e) l g tl = spell n l false (mark m.Colon (spell e l false tl))
  spell (tree.prefix p x e) l g tl = lx (prefix_token x) ∷ held (needs prefix_level e) (spell e l false) tl
  spell (tree.binary p x a b) l g tl = held (needs (left_level x) a) (spell a l (g && not (needs (left_level x) a))) (lx (infix_token x) ∷ held (needs (right_level x) b) (spell b l false) tl)
  spell (tree.conditional p c a b) l g tl = held (needs 1 c) (spell c l (g && not (needs 1 c))) (mark m.Question (spell a l false (mark m.Colon (spell b l false tl))))
  spell (tree.elvis p a b) l g tl = held (needs 1 a) (spell a l (g && not (needs 1 a))) (mark m.Elvis (spell b l false tl))
  spell (tree.property e n) l g tl = held (needs postfix_level e) (spell e l (g && not (needs postfix_level e))) (mark m.Dot (spell n l false tl))
  spell (tree.safe_property e n) l g tl = held (needs postfix_level e) (spell e l (g && not (needs postfix_level e))) (mark m.QuestionDot (spell n l false tl))
  spell (tree.index p e x) l g tl = held (needs postfix_level e) (spell e l (g && not (needs postfix_level e))) (mark m.OpenSquare (spell x l false (mark m.CloseSquare tl)))
  spell (tree.call p e xs) l g tl = held (needs postfix_level e) (spell e l (g && not (needs postfix_level e))) (mark m.OpenRound (listed xs l (mark m.CloseRound tl)))
  spell (tree.named n e) l g tl = spell n l false (mark m.Colon (spell e l false tl))
  spell (tree.call_with e c) l g tl = held (needs postfix_level e) (spell e l (g && not (needs postfix_level e))) (spell c l false tl)
  spell (tree.define p n e) l g tl = lx (t.Keyword k.Def) ∷ spell n l false (mark m.Equals (spell e l false tl))
  spell (tree.define_all p ns e) l g tl = lx (t.Keyword k.Def) ∷ mark m.OpenRound (listed ns l (mark m.CloseRound (mark m.Equals (spell e l false tl))))
  spell (tree.assign n e) l g tl = spell n l false (mark m.Equals (spell e l false tl))
  spell (tree.return_ p e) l g tl = lx (t.Keyword k.Return) ∷ spell e l false tl
  spell (tree.choice p c b e) l g tl = lx (t.Keyword k.If) ∷ mark m.OpenRound (spell c l false (mark m.CloseRound (spell b l false (else_before e (spell e l false tl)))))
  spell (tree.statements xs) l g tl = mark m.OpenBrace (parts xs (deeper l) (maybe_separator (breaks l false xs) (mark m.CloseBrace tl)))
  spell (tree.println p e) l g tl = word (codes "println") (spell e l false tl)
  spell (tree.log p n e) l g tl = word (codes "log") (mark m.Dot (spell n l false (spell e l false tl)))
  spell _ l g tl = tl

  -- with commas between them; `more` is what stands after the first
  pub listed : Tree → Layout → List Lexeme → List Lexeme
  listed (tree.cons x xs) l tl = spell x l false (more xs l tl)
  listed _ l tl = tl

  pub more : Tree → Layout → List Lexeme → List Lexeme
  more (tree.cons x xs) l tl = mark m.Comma (spell x l false (more xs l tl))
  more _ l tl = tl

  -- statements or labels with separators between them; `next_parts` is what stands after the first
  pub parts : Tree → Layout → List Lexeme → List Lexeme
  parts (tree.cons x xs) l tl = spell x l (prints x false) (next_parts xs l tl)
  parts _ l tl = tl

  pub next_parts : Tree → Layout → List Lexeme → List Lexeme
  next_parts (tree.cons x xs) l tl = separator (spell x l (prints x false) (next_parts xs l tl))
  next_parts _ l tl = tl

  pub piece : Tree → Layout → List Lexeme → List Lexeme
  piece (tree.piece p s) l tl = template_text s tl
  piece (tree.hole p e) l tl = lx t.OpenHole ∷ spell e inline false (lx t.CloseHole ∷ tl)
  piece _ l tl = tl

  pub pieces : Tree → Layout → List Lexeme → List Lexeme
  pieces (tree.cons x xs) l tl = piece x l (pieces xs l tl)
  pieces _ l tl = tl
