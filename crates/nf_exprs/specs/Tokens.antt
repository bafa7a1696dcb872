-- Kinds of tokens, with the tree that a token of each stands for; and tests on the next tokens.
use Rattle.std.specs.Prelude.{ℕ, ℤ, pos, Bool, true, false, not, ◌||◌, ◌&&◌, List, [], ◌∷◌, Option, Some, None, codes, bytes_eq, if◌then◌else◌}
use Rattle.std.specs.Ordering.{int_eq}
use Rattle.nf_value.specs.declared.place.Place.{Place}
use denote.Enum.Bare.{sameb}
use Rattle.nf_token.specs.contracts.token.Mark.{the_type}
use Rattle.nf_token.specs.contracts.token.Keyword as keyword
use Rattle.nf_token.specs.declared.token.Mark.{Mark}
use Rattle.nf_token.specs.declared.token.Mark.TheVariants as m
use Rattle.nf_token.specs.declared.token.Keyword.{Keyword}
use Rattle.nf_token.specs.declared.token.Keyword.TheVariants as k
use Rattle.nf_token.specs.declared.token.Token.{Token}
use Rattle.nf_token.specs.declared.token.Token.TheVariants as t
use Rattle.nf_token.specs.declared.token.Lexeme.{Lexeme}
use Rattle.nf_grammar.specs.Parts.{no_next}
use Rattle.nf_ast.specs.declared.operators.InfixOperator.{InfixOperator}
use Rattle.nf_ast.specs.declared.operators.InfixOperator.TheVariants as i
use Rattle.nf_ast.specs.declared.operators.PrefixOperator.TheVariants as f
use Rattle.nf_exprs.specs.declared.band.Band.{Band}
use Rattle.nf_exprs.specs.declared.band.Band.TheVariants as band
use Rattle.nf_ast.specs.Tree.{Tree, empty, point, name, number, text, pattern, piece, truth, null, template, prefix, binary}

-- a kind of token: the tree of a token that is of it
abbrev pub Kind : Type 0
Kind = Lexeme → Option Tree

abbrev pub at_place : (Token → Place → Option Tree) → Kind
at_place f x = f x.token x.place

-- ---- marks and words

abbrev pub same_mark : Mark → Mark → Bool
same_mark = sameb the_type

abbrev pub same_keyword : Keyword → Keyword → Bool
same_keyword = sameb keyword.the_type

abbrev pub mark_at : Mark → Token → Place → Option Tree
mark_at mark (t.Mark x) p = if same_mark x mark then Some (point p) else None
mark_at mark _ p = None

-- this mark
abbrev pub mark_of : Mark → Kind
mark_of mark = at_place (mark_at mark)

abbrev pub keyword_at : Keyword → Token → Place → Option Tree
keyword_at word (t.Keyword x) p = if same_keyword x word then Some (point p) else None
keyword_at word _ p = None

abbrev pub keyword_of : Keyword → Kind
keyword_of word = at_place (keyword_at word)

abbrev pub name_at : Token → Place → Option Tree
name_at (t.Name n) p = Some (name p n)
name_at _ p = None

-- any name
abbrev pub name_of : Kind
name_of = at_place name_at

abbrev pub word_at : List ℕ → Token → Place → Option Tree
word_at word (t.Name n) p = if bytes_eq n word then Some (name p word) else None
word_at word _ p = None

-- this name
abbrev pub word_of : List ℕ → Kind
word_of word = at_place (word_at word)

abbrev pub separator_at : Token → Place → Option Tree
separator_at t.Separator p = Some (point p)
separator_at _ p = None

abbrev pub separator : Kind
separator = at_place separator_at

-- ---- literals

abbrev pub literal_at : Token → Place → Option Tree
literal_at (t.Number n) p = Some (number p n)
literal_at (t.Plain q s) p = Some (text p q s)
literal_at (t.Pattern s) p = Some (pattern p s)
literal_at (t.Keyword k.True) p = Some (truth p true)
literal_at (t.Keyword k.False) p = Some (truth p false)
literal_at (t.Keyword k.Null) p = Some (null p)
literal_at (t.Name n) p = Some (name p n)
literal_at _ p = None

-- a number, a plain string, a pattern, a truth value, null, or a name
abbrev pub literal : Kind
literal = at_place literal_at

abbrev pub plain_at : Token → Place → Option Tree
plain_at (t.Plain q s) p = Some (text p q s)
plain_at _ p = None

abbrev pub plain : Kind
plain = at_place plain_at

abbrev pub is_two : ℤ → Bool
is_two n = int_eq n (pos 2)

abbrev pub two_at : Token → Place → Option Tree
two_at (t.Number n) p = if is_two n then Some (point p) else None
two_at _ p = None

abbrev pub two : Kind
two = at_place two_at

-- ---- templates

-- the opening of a template, which waits for its parts
abbrev pub open_template_at : Token → Place → Option Tree
open_template_at (t.OpenTemplate q) p = Some (template p q empty)
open_template_at _ p = None

abbrev pub open_template : Kind
open_template = at_place open_template_at

abbrev pub close_template_at : Token → Place → Option Tree
close_template_at (t.CloseTemplate q) p = Some (point p)
close_template_at _ p = None

abbrev pub close_template : Kind
close_template = at_place close_template_at

abbrev pub template_text_at : Token → Place → Option Tree
template_text_at (t.TemplateText s) p = Some (piece p s)
template_text_at _ p = None

abbrev pub template_text : Kind
template_text = at_place template_text_at

abbrev pub open_hole_at : Token → Place → Option Tree
open_hole_at t.OpenHole p = Some (point p)
open_hole_at _ p = None

abbrev pub open_hole : Kind
open_hole = at_place open_hole_at

abbrev pub close_hole_at : Token → Place → Option Tree
close_hole_at t.CloseHole p = Some (point p)
close_hole_at _ p = None

abbrev pub close_hole : Kind
close_hole = at_place close_hole_at

-- ---- operators

-- an operator that waits for its operands
abbrev pub operator : Place → InfixOperator → Tree
operator p x = binary p x empty empty

-- the operator of a band that a token is
abbrev pub infix_operator : Band → Token → Option InfixOperator
infix_operator band.Or (t.Mark m.Or) = Some i.Or
infix_operator band.And (t.Mark m.And) = Some i.And
infix_operator band.Pipe (t.Mark m.Pipe) = Some i.Pipe
infix_operator band.Same (t.Mark m.Same) = Some i.Same
infix_operator band.Same (t.Mark m.Differs) = Some i.Differs
infix_operator band.Same (t.Mark m.Matches) = Some i.Matches
infix_operator band.Compare (t.Mark m.Less) = Some i.Less
infix_operator band.Compare (t.Mark m.AtMost) = Some i.AtMost
infix_operator band.Compare (t.Mark m.Greater) = Some i.Greater
infix_operator band.Compare (t.Mark m.AtLeast) = Some i.AtLeast
infix_operator band.Compare (t.Keyword k.In) = Some i.In
infix_operator band.Range (t.Mark m.DotDot) = Some i.Range
infix_operator band.Sum (t.Mark m.Plus) = Some i.Plus
infix_operator band.Sum (t.Mark m.Minus) = Some i.Minus
infix_operator band.Term (t.Mark m.Times) = Some i.Times
infix_operator band.Term (t.Mark m.Percent) = Some i.Remainder
infix_operator _ _ = None

abbrev pub waits : Place → Option InfixOperator → Option Tree
waits p None = None
waits p (Some x) = Some (operator p x)

-- an operator of the band
abbrev pub infix_of : Band → Kind
infix_of b x = waits x.place (infix_operator b x.token)

abbrev pub prefix_operator_at : Token → Place → Option Tree
prefix_operator_at (t.Mark m.Not) p = Some (prefix p f.Not empty)
prefix_operator_at (t.Mark m.Minus) p = Some (prefix p f.Minus empty)
prefix_operator_at _ p = None

abbrev pub prefix_operator : Kind
prefix_operator = at_place prefix_operator_at

-- ---- tests on the next tokens

abbrev pub starts_at : Token → Bool
starts_at (t.Name n) = true
starts_at (t.Number n) = true
starts_at (t.Plain q s) = true
starts_at (t.Pattern s) = true
starts_at (t.OpenTemplate q) = true
starts_at (t.Keyword k.True) = true
starts_at (t.Keyword k.False) = true
starts_at (t.Keyword k.Null) = true
starts_at (t.Mark m.Not) = true
starts_at (t.Mark m.Minus) = true
starts_at (t.Mark m.OpenRound) = true
starts_at (t.Mark m.OpenSquare) = true
starts_at (t.Mark m.OpenBrace) = true
starts_at _ = false

abbrev pub on_first : (Token → Bool) → List Lexeme → Bool
on_first test [] = false
on_first test (x ∷ xs) = test x.token

-- an expression begins here
abbrev pub starts : List Lexeme → Bool
starts = on_first starts_at

-- no expression begins here
abbrev pub no_start : List Lexeme → Bool
no_start ts = not (starts ts)

abbrev pub stmt_starts_at : Token → Bool
stmt_starts_at (t.Keyword k.Def) = true
stmt_starts_at (t.Keyword k.If) = true
stmt_starts_at (t.Keyword k.Return) = true
stmt_starts_at x = starts_at x

abbrev pub is_next : Kind → List Lexeme → Bool
is_next p ts = not (no_next p ts)

-- the tokens after the first
abbrev pub after : List Lexeme → List Lexeme
after [] = []
after (x ∷ xs) = xs

abbrev pub colon : Kind
colon = mark_of m.Colon

-- a name with a colon after it
abbrev pub labels : List Lexeme → Bool
labels ts = is_next name_of ts && is_next colon (after ts)

-- no statement begins here, or a label does
abbrev pub body_ends : List Lexeme → Bool
body_ends ts = not (on_first stmt_starts_at ts) || labels ts

-- no directive begins here
abbrev pub directives_end : List Lexeme → Bool
directives_end ts = no_next name_of ts || labels ts

-- no part of a postfix chain begins here
abbrev pub post_at : Token → Bool
post_at (t.Mark m.Dot) = true
post_at (t.Mark m.QuestionDot) = true
post_at (t.Mark m.OpenSquare) = true
post_at (t.Mark m.OpenRound) = true
post_at (t.Mark m.OpenBrace) = true
post_at _ = false

abbrev pub no_post : List Lexeme → Bool
no_post ts = not (on_first post_at ts)

-- items end where no comma comes, or one before the bracket
abbrev pub items_end : List Lexeme → Bool
items_end ts = no_next (mark_of m.Comma) ts || is_next (mark_of m.CloseSquare) (after ts)

-- outputs of a tuple end where no comma comes, or one before an option
abbrev pub outputs_end : List Lexeme → Bool
outputs_end ts = no_next (mark_of m.Comma) ts || labels (after ts)

-- no option of an output begins here
abbrev pub no_option : List Lexeme → Bool
no_option ts = no_next (mark_of m.Comma) ts && no_next name_of ts

-- names with commas between them, and then an arrow; `true` where a name is due, `false` after one
abbrev pub params_from : Bool → List Lexeme → Bool
params_from due [] = false
params_from true (x ∷ ts) = is_next name_of (x ∷ ts) && params_from false ts
params_from false (x ∷ ts) = is_next (mark_of m.Arrow) (x ∷ ts) || (is_next (mark_of m.Comma) (x ∷ ts) && params_from true ts)

abbrev pub no_params : List Lexeme → Bool
no_params ts = not (is_next (mark_of m.Arrow) ts || params_from true ts)

-- a `}`, or the end
abbrev pub at_end : List Lexeme → Bool
at_end [] = true
at_end (x ∷ ts) = not (no_next (mark_of m.CloseBrace) (x ∷ ts))

-- `println` or `log.name`, and then an expression
abbrev pub prints : List Lexeme → Bool
prints ts = is_next (word_of (codes "println")) ts && starts (after ts)

abbrev pub logs : List Lexeme → Bool
logs ts = is_next (word_of (codes "log")) ts && (is_next (mark_of m.Dot) (after ts) && (is_next name_of (after (after ts)) && starts (after (after (after ts)))))

-- ---- what the parser looks at before it decides

-- an arrow, or a name with an arrow or a comma after it
abbrev pub begins_params : List Lexeme → Bool
begins_params ts = is_next (mark_of m.Arrow) ts || (is_next name_of ts && (is_next (mark_of m.Arrow) (after ts) || is_next (mark_of m.Comma) (after ts)))

-- a name with an equals sign after it
abbrev pub assigns : List Lexeme → Bool
assigns ts = is_next name_of ts && is_next (mark_of m.Equals) (after ts)

-- what may stand between the quotes of a template without a hole, and its end
abbrev pub closes_template : List Lexeme → Bool
closes_template ts = is_next close_template ts && is_next colon (after ts)

abbrev pub closes_plain : List Lexeme → Bool
closes_plain ts = if is_next template_text ts then closes_template (after ts) else closes_template ts

-- the key of a pair, and a colon
abbrev pub pair_next : List Lexeme → Bool
pair_next ts = ((is_next name_of ts || is_next plain ts) && is_next colon (after ts)) || (is_next open_template ts && closes_plain (after ts))
