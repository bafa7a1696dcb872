-- The tokens of the inks of literals, closures and statements.
use Rattle.std.proofs.Common.{◌≡◌, ℕ, Bool, true, false, List, [], ◌∷◌, ◌++◌, refl, subst, ◌∙◌}
use Rattle.std.specs.Prelude.{codes}
use Rattle.nf_value.specs.declared.place.Place.{Place}
use Rattle.nf_token.specs.declared.token.Keyword.TheVariants as k
use Rattle.nf_token.specs.declared.token.Mark.TheVariants as m
use Rattle.nf_token.specs.declared.token.Token.{Token}
use Rattle.nf_token.specs.declared.token.Token.TheVariants as t
use Rattle.nf_token.specs.declared.token.Lexeme.{Lexeme}
use Rattle.nf_lexer.specs.Separators.{goes_on}
use Rattle.nf_ast.specs.Tree as tree
use Rattle.nf_ast.specs.Tree.{Tree, empty, cons}
use Rattle.nf_writer.specs.Ink as ink
use Rattle.nf_writer.specs.Ink.{Ink}
use Rattle.nf_printer.specs.Levels.{round, prints}
use Rattle.nf_writer.specs.Lines.{Layout, lines, inline, deeper, between, after_last}
use Rattle.nf_printer.specs.Bodies.{is_short, first_before, closure_last}
use Rattle.nf_printer.specs.Exprs as printed
use Rattle.nf_printer.specs.Exprs.{inks, equals}
use Rattle.fmt_tokens.specs.Bits.{Bit, token}
use Rattle.fmt_tokens.specs.InkTokens.{next_goes_on}
use Rattle.fmt_trees.specs.Shape as sort
use Rattle.fmt_trees.specs.Shape.{Shaped}
use Rattle.fmt_trees.proofs.TreeTokens as tree_tokens
use Rattle.fmt_trees.proofs.TreeTokens.{spell, mark, lx, breaks, maybe_separator}
use Rattle.fmt_trees.proofs.Rows.{Each, none, some}
use Rattle.fmt_trees.proofs.Fronts.{Front, front, by_other, by_word, by_more, a_number, a_plain, a_pattern, a_template, a_true, a_false, a_null, a_not, a_minus, a_round, a_square, a_brace}
use Rattle.fmt_trees.proofs.Settling.{Any, After, Await, told, two, after_any, await_any, any_two, any_three, any_four, any_mark, more_mark, any_token, after_line, await_line, after_separator, first_goes_on}
use Rattle.fmt_trees.proofs.SettledExprs.{Says, ParamsSay, LastSays, PiecesSay, PartSays, after_mark, close_round, close_brace, post_says, listed_says}

-- ---- one token

pub number_says : (p : Place) (n : _) → Says (tree.number p n)
number_says p n l g rest w h = any_token (t.Number n) refl refl h

pub plain_says : (p : Place) (q : _) (s : List ℕ) → Says (tree.text p q s)
plain_says p q s l g rest w h = any_token (t.Plain q s) refl refl h

pub pattern_says : (p : Place) (s : List ℕ) → Says (tree.pattern p s)
pattern_says p s l g rest w h = any_token (t.Pattern s) refl refl h

pub null_says : (p : Place) → Says (tree.null p)
null_says p l g rest w h = any_token (t.Keyword k.Null) refl refl h

pub no_pieces_say : PiecesSay empty
no_pieces_say q l rest w h = h

pub call_with_says : (e c : Tree) → Says e → Says c → Says (tree.call_with e c)
call_with_says e c s u l g rest w h = post_says e l g (ink.blank ∷ inks c l false) rest _ s (after_any (u l false rest w h))

-- ---- parts of a body

pub next_two : (xs ys : List Ink) (rest : List Bit) → next_goes_on (told xs (told ys rest)) ≡ false → next_goes_on (told (xs ++ ys) rest) ≡ false
next_two = two (λ b. next_goes_on b ≡ false)

pub next_parts_say : {xs : Tree} → Each PartSays xs → (l : Layout) (rest : List Bit) (w : List Lexeme) → After rest w → After (told (printed.parts xs l (between l)) rest) (tree_tokens.next_parts xs l w)
next_parts_say none l rest w h = h
next_parts_say (some {x = x} {xs = xs} p q) (lines margin) rest w h =
    let l : Layout = lines margin in
    let more : After (told (printed.parts xs l (between l)) rest) (tree_tokens.next_parts xs l w) = next_parts_say q l rest w h in
    after_line (next_two (inks x l (prints x false)) (printed.parts xs l (between l)) rest (p.new_line l _ _ more))
    (any_two (inks x l (prints x false)) (printed.parts xs l (between l)) rest (p.says l (prints x false) _ _ more))
next_parts_say (some {x = x} {xs = xs} p q) inline rest w h =
    let l : Layout = inline in
    after_separator (any_two (inks x l (prints x false)) (printed.parts xs l (between l)) rest (p.says l (prints x false) _ _ (next_parts_say q l rest w h)))

pub last_says : (b : Bool) (l : Layout) (x xs : Tree) (rest : List Bit) (w : List Lexeme) → After rest w → After (told (closure_last b l) (token (t.Mark m.CloseBrace) ∷ rest)) (maybe_separator (breaks l b (cons x xs)) (mark m.CloseBrace w))
last_says true (lines margin) x xs rest w h = after_any (close_brace h)
last_says false (lines margin) x xs rest w h = after_line refl (close_brace h)
last_says true inline x xs rest w h = after_any (close_brace h)
last_says false inline x xs rest w h = after_any (close_brace h)

pub nothing_says : (b : Bool) (l : Layout) (rest : List Bit) (w : List Lexeme) → After rest w → Await (told (closure_last b l) (token (t.Mark m.CloseBrace) ∷ rest)) (maybe_separator (breaks l b empty) (mark m.CloseBrace w))
nothing_says true (lines margin) rest w h = await_any (close_brace h)
nothing_says false (lines margin) rest w h = await_line (await_any (close_brace h))
nothing_says true inline rest w h = await_any (close_brace h)
nothing_says false inline rest w h = await_any (close_brace h)

-- the line end before the first part of a body is no separator
pub first_says : (b : Bool) (l : Layout) (xs ys : List Ink) (rest : List Bit) (w : List Lexeme) → Any (told xs (told ys rest)) w → Await (told (first_before b l ++ xs ++ ys) rest) w
first_says true l xs ys rest w h = await_any (any_two xs ys rest h)
first_says false (lines margin) xs ys rest w h = await_line (await_any (any_two xs ys rest h))
first_says false inline xs ys rest w h = await_any (any_two xs ys rest h)

abbrev pub BodySays : Tree → Type 0
BodySays xs = (b : Bool) (l : Layout) (rest : List Bit) (w : List Lexeme) → After rest w → Await (told (printed.parts xs (deeper l) (first_before b (deeper l))) (told (closure_last b l) (token (t.Mark m.CloseBrace) ∷ rest))) (tree_tokens.parts xs (deeper l) (maybe_separator (breaks l b xs) (mark m.CloseBrace w)))

pub body_says : {xs : Tree} → Each PartSays xs → BodySays xs
body_says none b l rest w h = nothing_says b l rest w h
body_says (some {x = x} {xs = xs} p q) b l rest w h =
    first_says b (deeper l) (inks x (deeper l) (prints x false)) (printed.parts xs (deeper l) (between (deeper l))) (told (closure_last b l) (token (t.Mark m.CloseBrace) ∷ rest)) _
    (p.says (deeper l) (prints x false) _ _ (next_parts_say q (deeper l) _ _ (last_says b l x xs rest w h)))

pub block_says : (xs : Tree) → BodySays xs → Says (tree.statements xs)
block_says xs s l g rest w h =
    any_three (ink.mark m.OpenBrace ∷ printed.parts xs (deeper l) (first_before false (deeper l))) (after_last l) (ink.mark m.CloseBrace ∷ []) rest
    (more_mark m.OpenBrace refl (s false l rest w h))

pub no_params_say : ParamsSay empty
no_params_say l rest w h = h

pub params_say : {ns : Tree} → Each Says ns → ParamsSay (tree.params ns)
params_say none l rest w h = await_any (more_mark m.Arrow refl h)
params_say (some {x = x} {xs = xs} p q) l rest w h =
    let ns : Tree = cons x xs in
    three_names (some {x = x} {xs = xs} p q) l rest w h
  where
    three_names : {x xs : Tree} → Each Says (cons x xs) → (l : Layout) (rest : List Bit) (w : List Lexeme) → Await rest w → Await (told (inks (tree.params (cons x xs)) l false) rest) (spell (tree.params (cons x xs)) l false w)
    three_names {x} {xs} p l rest w h = await_any (any_three (ink.blank ∷ printed.listed (cons x xs) l []) (ink.blank ∷ []) (ink.mark m.Arrow ∷ []) rest (listed_says p l _ _ (more_mark m.Arrow refl h)))

pub closure_says : (p : Place) (ps xs : Tree) → ParamsSay ps → BodySays xs → Says (tree.closure p ps xs)
closure_says p ps xs s u l g rest w h =
    any_four (ink.mark m.OpenBrace ∷ inks ps l false) (printed.parts xs (deeper l) (first_before (is_short xs) (deeper l))) (closure_last (is_short xs) l) (ink.mark m.CloseBrace ∷ []) rest
    (more_mark m.OpenBrace refl (s l _ _ (u (is_short xs) l rest w h)))

-- ---- statements

pub starts_line : {bits : List Bit} {us : List Lexeme} (x : Token) → goes_on x ≡ false → Any bits (lx x ∷ us) → next_goes_on bits ≡ false
starts_line {bits} {us} x e h = first_goes_on bits x us (h.is true false) ∙ e

pub front_line : {tl ts : List Lexeme} {bits : List Bit} → Front tl ts → Any bits ts → next_goes_on bits ≡ false
front_line (by_other a_number) h = starts_line (t.Number _) refl h
front_line (by_other a_plain) h = starts_line (t.Plain _ _) refl h
front_line (by_other a_pattern) h = starts_line (t.Pattern _) refl h
front_line (by_other a_template) h = starts_line (t.OpenTemplate _) refl h
front_line (by_other a_true) h = starts_line (t.Keyword k.True) refl h
front_line (by_other a_false) h = starts_line (t.Keyword k.False) refl h
front_line (by_other a_null) h = starts_line (t.Keyword k.Null) refl h
front_line (by_other a_not) h = starts_line (t.Mark m.Not) refl h
front_line (by_other a_minus) h = starts_line (t.Mark m.Minus) refl h
front_line (by_other a_round) h = starts_line (t.Mark m.OpenRound) refl h
front_line (by_other a_square) h = starts_line (t.Mark m.OpenSquare) refl h
front_line (by_other a_brace) h = starts_line (t.Mark m.OpenBrace) refl h
front_line by_word h = starts_line (t.Name _) refl h
front_line (by_more x) h = starts_line (t.Name _) refl h

pub alone_says : (e : Tree) → Shaped sort.expr e → Says e → PartSays e
alone_says e s u = record {
  says = u;
  new_line = λ l rest w h. front_line (front s l (prints e false) w) (u l (prints e false) rest w h);
}

pub define_says : (p : Place) (n e : Tree) → Says n → Says e → Says (tree.define p n e)
define_says p n e s u l g rest w h =
    any_three (ink.keyword k.Def ∷ ink.blank ∷ inks n l false) equals (inks e l false) rest
    (any_token (t.Keyword k.Def) refl refl (after_any (s l false _ _ (after_mark m.Equals (u l false rest w h)))))

pub define_all_says : (p : Place) (ns e : Tree) → Each Says ns → Says e → Says (tree.define_all p ns e)
define_all_says p ns e s u l g rest w h =
    any_three (ink.keyword k.Def ∷ ink.blank ∷ round (printed.listed ns l [])) equals (inks e l false) rest
    (any_token (t.Keyword k.Def) refl refl (after_any (any_mark m.OpenRound
    (any_two (printed.listed ns l []) (ink.mark m.CloseRound ∷ []) _ (listed_says s l _ _ (close_round (after_mark m.Equals (u l false rest w h))))))))

pub return_says : (p : Place) (e : Tree) → Says e → Says (tree.return_ p e)
return_says p e s l g rest w h = any_token (t.Keyword k.Return) refl refl (after_any (s l false rest w h))

pub println_says : (p : Place) (e : Tree) → Says e → Says (tree.println p e)
println_says p e s l g rest w h = any_token (t.Name (codes "println")) refl refl (after_any (s l false rest w h))

pub log_says : (p : Place) (n e : Tree) → Says n → Says e → Says (tree.log p n e)
log_says p n e s u l g rest w h =
    any_two (ink.name (codes "log") ∷ ink.mark m.Dot ∷ inks n l false) (ink.blank ∷ inks e l false) rest
    (any_token (t.Name (codes "log")) refl refl (after_mark m.Dot (s l false _ _ (after_any (u l false rest w h)))))

pub choice_says : (p : Place) (c b e : Tree) → Says c → Says b → LastSays e → Says (tree.choice p c b e)
choice_says p c b e s u v l g rest w h =
    any_four (ink.keyword k.If ∷ ink.blank ∷ round (inks c l false)) (ink.blank ∷ inks b l false) (printed.else_before e) (inks e l false) rest
    (any_token (t.Keyword k.If) refl refl (after_any (any_mark m.OpenRound
    (any_two (inks c l false) (ink.mark m.CloseRound ∷ []) _ (s l false _ _ (after_any (close_round (after_any (u l false _ _ (v l rest w h))))))))))

pub no_last_says : LastSays empty
no_last_says l rest w h = h

pub last_block_says : {x : Tree} → Shaped sort.block x → Says x → LastSays x
last_block_says (sort.block_of s) u l rest w h = after_any (any_token (t.Keyword k.Else) refl refl (after_any (u l false rest w h)))

pub last_choice_says : {x : Tree} → Shaped sort.choice x → Says x → LastSays x
last_choice_says (sort.choice_of s i j) u l rest w h = after_any (any_token (t.Keyword k.Else) refl refl (after_any (u l false rest w h)))

-- a part that begins with this token, whatever stands round it
pub part_says : (x : Tree) (y : Token) → goes_on y ≡ false → Says x → ((l : Layout) (g : Bool) (w : List Lexeme) → (us : List Lexeme) × (spell x l g w ≡ lx y ∷ us)) → PartSays x
part_says x y e s f = record {
  says = s;
  new_line = λ l rest w h.
      let u = f l (prints x false) w in
      starts_line {us = u.0} y e (subst (λ ts. Any (told (inks x l (prints x false)) rest) ts) u.1 (s l (prints x false) rest w h));
}

pub choose_says : {x : Tree} → Shaped sort.choice x → Says x → PartSays x
choose_says (sort.choice_of {p = p} {c = c} {b = b} {e = e} h i j) s = part_says (tree.choice p c b e) (t.Keyword k.If) refl s (λ l g w. (_, refl))
