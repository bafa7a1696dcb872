-- The tokens of the inks of expressions.
use Rattle.std.proofs.Common.{◌≡◌, ℕ, Bool, true, false, List, [], ◌∷◌, ◌++◌, refl}
use Rattle.std.specs.Prelude.{not, ◌&&◌}
use Rattle.nf_value.specs.declared.place.Place.{Place}
use Rattle.nf_token.specs.declared.token.Keyword.TheVariants as k
use Rattle.nf_token.specs.declared.token.Mark.{Mark}
use Rattle.nf_token.specs.declared.token.Mark.TheVariants as m
use Rattle.nf_token.specs.declared.token.Token.TheVariants as t
use Rattle.nf_token.specs.declared.token.Lexeme.{Lexeme}
use Rattle.nf_token.specs.declared.token.TemplateKind.{TemplateKind}
use Rattle.nf_ast.specs.declared.operators.InfixOperator.{InfixOperator}
use Rattle.nf_ast.specs.declared.operators.InfixOperator.TheVariants as i
use Rattle.nf_ast.specs.declared.operators.PrefixOperator.{PrefixOperator}
use Rattle.nf_ast.specs.declared.operators.PrefixOperator.TheVariants as f
use Rattle.nf_ast.specs.Tree as tree
use Rattle.nf_ast.specs.Tree.{Tree, cons}
use Rattle.nf_writer.specs.Ink as ink
use Rattle.nf_writer.specs.Ink.{Ink, spaced}
use Rattle.nf_printer.specs.Levels.{needs, within, round, left_level, right_level, prints}
use Rattle.nf_writer.specs.Lines.{Layout, inline}
use Rattle.nf_printer.specs.Exprs as printed
use Rattle.nf_printer.specs.Exprs.{inks, infix_inks, comma, colon, equals}
use Rattle.fmt_tokens.specs.Bits.{Bit, token}
use Rattle.fmt_tokens.specs.InkTokens.{next_goes_on}
use Rattle.fmt_trees.proofs.TreeTokens as tree_tokens
use Rattle.fmt_trees.proofs.TreeTokens.{spell, held, mark, lx, separator, infix_token}
use Rattle.fmt_trees.proofs.Rows.{Each, none, some}
use Rattle.fmt_trees.proofs.Settling.{Any, After, Await, told, after_any, any_two, any_three, any_five, any_mark, any_token, held_told}

-- the tokens of a tree that has at least one
abbrev pub Says : Tree → Type 0
Says x = (l : Layout) (g : Bool) (rest : List Bit) (w : List Lexeme) → After rest w → Any (told (inks x l g) rest) (spell x l g w)

abbrev pub ParamsSay : Tree → Type 0
ParamsSay x = (l : Layout) (rest : List Bit) (w : List Lexeme) → Await rest w → Await (told (inks x l false) rest) (spell x l false w)

abbrev pub LastSays : Tree → Type 0
LastSays x = (l : Layout) (rest : List Bit) (w : List Lexeme) → After rest w → After (told (printed.else_before x) (told (inks x l false) rest)) (tree_tokens.else_before x (spell x l false w))

abbrev pub PiecesSay : Tree → Type 0
PiecesSay xs = (q : TemplateKind) (l : Layout) (rest : List Bit) (w : List Lexeme) → Any rest w → Any (told (printed.pieces xs q l) rest) (tree_tokens.pieces xs l w)

-- a part of a body; the line end before it is a separator
pub record PartSays (x : Tree) : Type 0 where
  pub says : Says x
  pub new_line : (l : Layout) (rest : List Bit) (w : List Lexeme) → After rest w → next_goes_on (told (inks x l (prints x false)) rest) ≡ false

-- ---- operators and marks

infix_told : (x : InfixOperator) {rest : List Bit} {w : List Lexeme} → Any rest w → After (told (infix_inks x) rest) (lx (infix_token x) ∷ w)
infix_told i.Or h = after_any (any_mark m.Or h)
infix_told i.And h = after_any (any_mark m.And h)
infix_told i.Pipe h = after_any (any_mark m.Pipe h)
infix_told i.Same h = after_any (any_mark m.Same h)
infix_told i.Differs h = after_any (any_mark m.Differs h)
infix_told i.Matches h = after_any (any_mark m.Matches h)
infix_told i.Less h = after_any (any_mark m.Less h)
infix_told i.AtMost h = after_any (any_mark m.AtMost h)
infix_told i.Greater h = after_any (any_mark m.Greater h)
infix_told i.AtLeast h = after_any (any_mark m.AtLeast h)
infix_told i.In h = after_any (any_token (t.Keyword k.In) refl refl (after_any h))
infix_told i.Range h = after_any (any_mark m.DotDot h)
infix_told i.Plus h = after_any (any_mark m.Plus h)
infix_told i.Minus h = after_any (any_mark m.Minus h)
infix_told i.Times h = after_any (any_mark m.Times h)
infix_told i.Remainder h = after_any (any_mark m.Percent h)

pub after_mark : (x : Mark) {rest : List Bit} {w : List Lexeme} → Any rest w → After (token (t.Mark x) ∷ rest) (mark x w)
after_mark x h = after_any (any_mark x h)

pub close_square : {rest : List Bit} {w : List Lexeme} → After rest w → Any (token (t.Mark m.CloseSquare) ∷ rest) (mark m.CloseSquare w)
close_square h = any_token (t.Mark m.CloseSquare) refl refl h

pub close_round : {rest : List Bit} {w : List Lexeme} → After rest w → Any (token (t.Mark m.CloseRound) ∷ rest) (mark m.CloseRound w)
close_round h = any_token (t.Mark m.CloseRound) refl refl h

pub close_brace : {rest : List Bit} {w : List Lexeme} → After rest w → Any (token (t.Mark m.CloseBrace) ∷ rest) (mark m.CloseBrace w)
close_brace h = any_token (t.Mark m.CloseBrace) refl refl h

pub name_says : (p : Place) (s : List ℕ) → Says (tree.name p s)
name_says p s l true rest w h = any_mark m.OpenRound (any_token (t.Name s) refl refl (after_any (close_round h)))
name_says p s l false rest w h = any_token (t.Name s) refl refl h

pub truth_says : (p : Place) (b : Bool) → Says (tree.truth p b)
truth_says p true l g rest w h = any_token (t.Keyword k.True) refl refl h
truth_says p false l g rest w h = any_token (t.Keyword k.False) refl refl h

pub prefix_says : (p : Place) (x : PrefixOperator) (e : Tree) → Says e → Says (tree.prefix p x e)
prefix_says p f.Not e s l g rest w h = any_mark m.Not (held_told (needs 9 e) (inks e l false) (spell e l false) rest w (s l false) h)
prefix_says p f.Minus e s l g rest w h = any_mark m.Minus (held_told (needs 9 e) (inks e l false) (spell e l false) rest w (s l false) h)

pub binary_says : (p : Place) (x : InfixOperator) (a b : Tree) → Says a → Says b → Says (tree.binary p x a b)
binary_says p x a b s u l g rest w h =
    let na : Bool = needs (left_level x) a in
    let nb : Bool = needs (right_level x) b in
    any_three (within na (inks a l (g && not na))) (infix_inks x) (within nb (inks b l false)) rest
    (held_told na (inks a l (g && not na)) (spell a l (g && not na)) _ _ (s l (g && not na))
    (infix_told x (held_told nb (inks b l false) (spell b l false) rest w (u l false) h)))

pub conditional_says : (p : Place) (c a b : Tree) → Says c → Says a → Says b → Says (tree.conditional p c a b)
conditional_says p c a b s u v l g rest w h =
    let n : Bool = needs 1 c in
    any_five (within n (inks c l (g && not n))) (spaced (ink.mark m.Question)) (inks a l false) (spaced (ink.mark m.Colon)) (inks b l false) rest
    (held_told n (inks c l (g && not n)) (spell c l (g && not n)) _ _ (s l (g && not n))
    (after_mark m.Question (u l false _ _ (after_mark m.Colon (v l false rest w h)))))

pub elvis_says : (p : Place) (a b : Tree) → Says a → Says b → Says (tree.elvis p a b)
elvis_says p a b s u l g rest w h =
    let n : Bool = needs 1 a in
    any_three (within n (inks a l (g && not n))) (spaced (ink.mark m.Elvis)) (inks b l false) rest
    (held_told n (inks a l (g && not n)) (spell a l (g && not n)) _ _ (s l (g && not n))
    (after_mark m.Elvis (u l false rest w h)))

-- what stands after an expression
pub post_says : (e : Tree) (l : Layout) (g : Bool) (xs : List Ink) (rest : List Bit) (w : List Lexeme) → Says e → After (told xs rest) w → Any (told (within (needs 10 e) (inks e l (g && not (needs 10 e))) ++ xs) rest) (held (needs 10 e) (spell e l (g && not (needs 10 e))) w)
post_says e l g xs rest w s h = any_two (within (needs 10 e) (inks e l (g && not (needs 10 e)))) xs rest (held_told (needs 10 e) (inks e l (g && not (needs 10 e))) (spell e l (g && not (needs 10 e))) _ w (s l (g && not (needs 10 e))) h)

pub property_says : (e n : Tree) → Says e → Says n → Says (tree.property e n)
property_says e n s u l g rest w h = post_says e l g (ink.mark m.Dot ∷ inks n l false) rest _ s (after_mark m.Dot (u l false rest w h))

pub safe_property_says : (e n : Tree) → Says e → Says n → Says (tree.safe_property e n)
safe_property_says e n s u l g rest w h = post_says e l g (ink.mark m.QuestionDot ∷ inks n l false) rest _ s (after_mark m.QuestionDot (u l false rest w h))

pub index_says : (p : Place) (e n : Tree) → Says e → Says n → Says (tree.index p e n)
index_says p e n s u l g rest w h = post_says e l g (ink.mark m.OpenSquare ∷ inks n l false ++ ink.mark m.CloseSquare ∷ []) rest _ s (after_mark m.OpenSquare (any_two (inks n l false) (ink.mark m.CloseSquare ∷ []) rest (u l false _ _ (after_any (close_square h)))))

-- ---- lists

pub more_says : {xs : Tree} → Each Says xs → (l : Layout) (rest : List Bit) (w : List Lexeme) → After rest w → After (told (printed.listed xs l comma) rest) (tree_tokens.more xs l w)
more_says none l rest w h = h
more_says (some {x = x} {xs = xs} p q) l rest w h = after_mark m.Comma (any_two (inks x l false) (printed.listed xs l comma) rest (p l false _ _ (more_says q l rest w h)))

pub listed_says : {xs : Tree} → Each Says xs → (l : Layout) (rest : List Bit) (w : List Lexeme) → Any rest w → Any (told (printed.listed xs l []) rest) (tree_tokens.listed xs l w)
listed_says none l rest w h = h
listed_says (some {x = x} {xs = xs} p q) l rest w h = any_two (inks x l false) (printed.listed xs l comma) rest (p l false _ _ (more_says q l rest w (after_any h)))

pub list_says : (p : Place) (xs : Tree) → Each Says xs → Says (tree.list p xs)
list_says p xs s l g rest w h = any_mark m.OpenSquare (any_two (printed.listed xs l []) (ink.mark m.CloseSquare ∷ []) rest (listed_says s l _ _ (close_square h)))

pub map_says : (p : Place) {xs : Tree} → Each Says xs → Says (tree.map p xs)
map_says p none l g rest w h = any_mark m.OpenSquare (any_mark m.Colon (close_square h))
map_says p (some {x = x} {xs = xs} s u) l g rest w h = any_mark m.OpenSquare (any_two (printed.listed (cons x xs) l []) (ink.mark m.CloseSquare ∷ []) rest (listed_says (some {x = x} {xs = xs} s u) l _ _ (close_square h)))

pub call_says : (p : Place) (e xs : Tree) → Says e → Each Says xs → Says (tree.call p e xs)
call_says p e xs s u l g rest w h = post_says e l g (round (printed.listed xs l [])) rest _ s (after_mark m.OpenRound (any_two (printed.listed xs l []) (ink.mark m.CloseRound ∷ []) rest (listed_says u l _ _ (close_round h))))

-- a name, a colon or `=`, and an expression
colon_says : (n e : Tree) → Says n → Says e → (l : Layout) (rest : List Bit) (w : List Lexeme) → After rest w → Any (told (inks n l false ++ colon ++ inks e l false) rest) (spell n l false (mark m.Colon (spell e l false w)))
colon_says n e s u l rest w h = any_three (inks n l false) colon (inks e l false) rest (s l false _ _ (after_mark m.Colon (u l false rest w h)))

pub pair_says : (n e : Tree) → Says n → Says e → Says (tree.pair n e)
pair_says n e s u l g rest w h = colon_says n e s u l rest w h

pub label_says : (n e : Tree) → Says n → Says e → Says (tree.label n e)
label_says n e s u l g rest w h = colon_says n e s u l rest w h

pub named_says : (n e : Tree) → Says n → Says e → Says (tree.named n e)
named_says n e s u l g rest w h = colon_says n e s u l rest w h

pub assign_says : (n e : Tree) → Says n → Says e → Says (tree.assign n e)
assign_says n e s u l g rest w h = any_three (inks n l false) equals (inks e l false) rest (s l false _ _ (after_mark m.Equals (u l false rest w h)))

-- ---- templates

pub text_says : (r : Place) (b : ℕ) (s : List ℕ) (xs : Tree) → PiecesSay xs → PiecesSay (cons (tree.piece r (b ∷ s)) xs)
text_says r b s xs p q l rest w h = any_token (t.TemplateText (b ∷ s)) refl refl (after_any (p q l rest w h))

pub hole_says : (r : Place) (e xs : Tree) → Says e → PiecesSay xs → PiecesSay (cons (tree.hole r e) xs)
hole_says r e xs s p q l rest w h =
    any_two (ink.open_hole ∷ inks e inline false ++ ink.close_hole ∷ []) (printed.pieces xs q l) rest
    (any_token t.OpenHole refl refl
    (after_any (any_two (inks e inline false) (ink.close_hole ∷ []) (told (printed.pieces xs q l) rest) (s inline false _ _ (after_any (any_token t.CloseHole refl refl (after_any (p q l rest w h))))))))

pub template_says : (p : Place) (q : TemplateKind) (xs : Tree) → PiecesSay xs → Says (tree.template p q xs)
template_says p q xs s l g rest w h =
    any_token (t.OpenTemplate q) refl refl
    (after_any (any_two (printed.pieces xs q l) (ink.close_template q ∷ []) rest (s q l _ _ (any_token (t.CloseTemplate q) refl refl h))))
