-- No test of the grammar on tokens depends on their places.
use Rattle.std.proofs.Common.{◌≡◌, ℕ, Bool, true, false, List, [], ◌∷◌, Option, Some, None, refl, sym, ap, ◌∙◌}
use Rattle.std.specs.Prelude.{not, ◌&&◌, ◌||◌, option_map, bytes_eq, codes, if◌then◌else◌}
use Rattle.nf_value.specs.declared.place.Place.{Place}
use Rattle.nf_token.specs.declared.token.Keyword.{Keyword}
use Rattle.nf_token.specs.declared.token.Keyword.TheVariants as k
use Rattle.nf_token.specs.declared.token.Mark.{Mark}
use Rattle.nf_token.specs.declared.token.Mark.TheVariants as m
use Rattle.nf_token.specs.declared.token.Token.{Token}
use Rattle.nf_token.specs.declared.token.Token.TheVariants as t
use Rattle.nf_token.specs.declared.token.Lexeme.{Lexeme}
use Rattle.nf_grammar.specs.Parts.{no_next, none_of}
use Rattle.nf_ast.specs.declared.operators.InfixOperator.{InfixOperator}
use Rattle.nf_ast.specs.Tree.{Tree}
use Rattle.nf_exprs.specs.declared.band.Band.{Band}
use Rattle.nf_exprs.specs.Tokens.{Kind, mark_at, mark_of, keyword_at, keyword_of, name_at, name_of, word_at, word_of, separator_at, literal_at, plain_at, two_at, open_template_at, close_template_at, template_text_at, template_text, open_hole_at, open_hole, close_hole_at, same_mark, same_keyword, is_two, infix_operator, waits, infix_of, prefix_operator_at, on_first, starts, no_start, is_next, after, labels, body_ends, directives_end, no_post, items_end, outputs_end, no_option, params_from, no_params, at_end, prints, logs, at_place, separator}
use Rattle.nf_exprs.specs.Rules.{no_comma, no_word, no_top, no_question, no_part, top_words, question, elvis}
use Rattle.fmt_trees.specs.Bare.{bare, nowhere}
use Rattle.fmt_trees.proofs.Erasing.{erased, KindErases, Blind}

-- ---- kinds

abbrev AtErases : (Token → Place → Option Tree) → Type 0
AtErases f = (x : Token) (p : Place) → f x nowhere ≡ option_map bare (f x p)

at_erases : (f : Token → Place → Option Tree) → AtErases f → KindErases (at_place f)
at_erases f h x = h x.token x.place

if_erases : (b : Bool) (v w : Tree) → w ≡ bare v → (if b then Some w else None) ≡ option_map bare (if b then Some v else None)
if_erases true v w e = ap Some e
if_erases false v w e = refl

mark_erases_at : (y : Mark) → AtErases (mark_at y)
mark_erases_at y (t.Mark x) p = if_erases (same_mark x y) _ _ refl
mark_erases_at y _ p = refl

pub mark_erases : (y : Mark) → KindErases (mark_of y)
mark_erases y = at_erases (mark_at y) (mark_erases_at y)

keyword_erases_at : (y : Keyword) → AtErases (keyword_at y)
keyword_erases_at y (t.Keyword x) p = if_erases (same_keyword x y) _ _ refl
keyword_erases_at y _ p = refl

pub keyword_erases : (y : Keyword) → KindErases (keyword_of y)
keyword_erases y = at_erases (keyword_at y) (keyword_erases_at y)

name_erases_at : AtErases name_at
name_erases_at (t.Name n) p = refl
name_erases_at _ p = refl

pub name_erases : KindErases name_of
name_erases = at_erases name_at name_erases_at

word_erases_at : (w : List ℕ) → AtErases (word_at w)
word_erases_at w (t.Name n) p = if_erases (bytes_eq n w) _ _ refl
word_erases_at w _ p = refl

pub word_erases : (w : List ℕ) → KindErases (word_of w)
word_erases w = at_erases (word_at w) (word_erases_at w)

separator_erases_at : AtErases separator_at
separator_erases_at t.Separator p = refl
separator_erases_at _ p = refl

pub separator_erases : KindErases separator
separator_erases = at_erases separator_at separator_erases_at

literal_erases_at : AtErases literal_at
literal_erases_at (t.Number n) p = refl
literal_erases_at (t.Plain q s) p = refl
literal_erases_at (t.Pattern s) p = refl
literal_erases_at (t.Keyword k.True) p = refl
literal_erases_at (t.Keyword k.False) p = refl
literal_erases_at (t.Keyword k.Null) p = refl
literal_erases_at (t.Name n) p = refl
literal_erases_at _ p = refl

pub literal_erases : KindErases (at_place literal_at)
literal_erases = at_erases literal_at literal_erases_at

plain_erases_at : AtErases plain_at
plain_erases_at (t.Plain q s) p = refl
plain_erases_at _ p = refl

pub plain_erases : KindErases (at_place plain_at)
plain_erases = at_erases plain_at plain_erases_at

two_erases_at : AtErases two_at
two_erases_at (t.Number n) p = if_erases (is_two n) _ _ refl
two_erases_at _ p = refl

pub two_erases : KindErases (at_place two_at)
two_erases = at_erases two_at two_erases_at

open_template_erases_at : AtErases open_template_at
open_template_erases_at (t.OpenTemplate q) p = refl
open_template_erases_at _ p = refl

pub open_template_erases : KindErases (at_place open_template_at)
open_template_erases = at_erases open_template_at open_template_erases_at

close_template_erases_at : AtErases close_template_at
close_template_erases_at (t.CloseTemplate q) p = refl
close_template_erases_at _ p = refl

pub close_template_erases : KindErases (at_place close_template_at)
close_template_erases = at_erases close_template_at close_template_erases_at

template_text_erases_at : AtErases template_text_at
template_text_erases_at (t.TemplateText s) p = refl
template_text_erases_at _ p = refl

pub template_text_erases : KindErases template_text
template_text_erases = at_erases template_text_at template_text_erases_at

open_hole_erases_at : AtErases open_hole_at
open_hole_erases_at t.OpenHole p = refl
open_hole_erases_at _ p = refl

pub open_hole_erases : KindErases open_hole
open_hole_erases = at_erases open_hole_at open_hole_erases_at

close_hole_erases_at : AtErases close_hole_at
close_hole_erases_at t.CloseHole p = refl
close_hole_erases_at _ p = refl

pub close_hole_erases : KindErases (at_place close_hole_at)
close_hole_erases = at_erases close_hole_at close_hole_erases_at

waits_erases : (o : Option InfixOperator) (p : Place) → waits nowhere o ≡ option_map bare (waits p o)
waits_erases None p = refl
waits_erases (Some x) p = refl

pub infix_erases : (b : Band) → KindErases (infix_of b)
infix_erases b x = waits_erases (infix_operator b x.token) x.place

prefix_erases_at : AtErases prefix_operator_at
prefix_erases_at (t.Mark m.Not) p = refl
prefix_erases_at (t.Mark m.Minus) p = refl
prefix_erases_at _ p = refl

pub prefix_erases : KindErases (at_place prefix_operator_at)
prefix_erases = at_erases prefix_operator_at prefix_erases_at

-- ---- tests

none_erased : (o : Option Tree) → none_of o ≡ none_of (option_map bare o)
none_erased None = refl
none_erased (Some x) = refl

pub blind_no_next : (p : Kind) → KindErases p → Blind (no_next p)
blind_no_next p h [] = refl
blind_no_next p h (x ∷ xs) = none_erased (p x) ∙ ap none_of (sym (h x))

pub blind_first : (f : Token → Bool) → Blind (on_first f)
blind_first f [] = refl
blind_first f (x ∷ xs) = refl

pub blind_not : (c : List Lexeme → Bool) → Blind c → Blind (λ ts. not (c ts))
blind_not c h ts = ap not (h ts)

pub blind_and : (c d : List Lexeme → Bool) → Blind c → Blind d → Blind (λ ts. c ts && d ts)
blind_and c d h i ts = ap (λ b. b && d ts) (h ts) ∙ ap (λ b. c (erased ts) && b) (i ts)

pub blind_or : (c d : List Lexeme → Bool) → Blind c → Blind d → Blind (λ ts. c ts || d ts)
blind_or c d h i ts = ap (λ b. b || d ts) (h ts) ∙ ap (λ b. c (erased ts) || b) (i ts)

pub blind_after : (c : List Lexeme → Bool) → Blind c → Blind (λ ts. c (after ts))
blind_after c h [] = h []
blind_after c h (x ∷ xs) = h xs

pub blind_is_next : (p : Kind) → KindErases p → Blind (is_next p)
blind_is_next p h = blind_not (no_next p) (blind_no_next p h)

pub blind_comma : Blind no_comma
blind_comma = blind_no_next (mark_of m.Comma) (mark_erases m.Comma)

pub blind_start : Blind no_start
blind_start = blind_not starts (blind_first _)

colon_next : Blind (is_next (mark_of m.Colon))
colon_next = blind_is_next (mark_of m.Colon) (mark_erases m.Colon)

name_next : Blind (is_next name_of)
name_next = blind_is_next name_of name_erases

pub blind_labels : Blind labels
blind_labels = blind_and (is_next name_of) (λ ts. is_next (mark_of m.Colon) (after ts)) name_next (blind_after (is_next (mark_of m.Colon)) colon_next)

pub blind_body : Blind body_ends
blind_body = blind_or (λ ts. not (on_first _ ts)) labels (blind_not (on_first _) (blind_first _)) blind_labels

pub blind_directives : Blind directives_end
blind_directives = blind_or (no_next name_of) labels (blind_no_next name_of name_erases) blind_labels

pub blind_post : Blind no_post
blind_post = blind_not (on_first _) (blind_first _)

pub blind_items : Blind items_end
blind_items = blind_or (no_next (mark_of m.Comma)) (λ ts. is_next (mark_of m.CloseSquare) (after ts)) blind_comma (blind_after (is_next (mark_of m.CloseSquare)) (blind_is_next (mark_of m.CloseSquare) (mark_erases m.CloseSquare)))

pub blind_outputs : Blind outputs_end
blind_outputs = blind_or (no_next (mark_of m.Comma)) (λ ts. labels (after ts)) blind_comma (blind_after labels blind_labels)

pub blind_option : Blind no_option
blind_option = blind_and (no_next (mark_of m.Comma)) (no_next name_of) blind_comma (blind_no_next name_of name_erases)

arrow_next : Blind (is_next (mark_of m.Arrow))
arrow_next = blind_is_next (mark_of m.Arrow) (mark_erases m.Arrow)

comma_next : Blind (is_next (mark_of m.Comma))
comma_next = blind_is_next (mark_of m.Comma) (mark_erases m.Comma)

and_both : (a b c d : Bool) → a ≡ c → b ≡ d → (a && b) ≡ (c && d)
and_both a b c d e f = ap (λ x. x && b) e ∙ ap (λ x. c && x) f

or_both : (a b c d : Bool) → a ≡ c → b ≡ d → (a || b) ≡ (c || d)
or_both a b c d e f = ap (λ x. x || b) e ∙ ap (λ x. c || x) f

pub blind_params_from : (due : Bool) → Blind (params_from due)
blind_params_from due [] = refl
blind_params_from true (x ∷ ts) = and_both _ _ _ _ (name_next (x ∷ ts)) (blind_params_from false ts)
blind_params_from false (x ∷ ts) = or_both _ _ _ _ (arrow_next (x ∷ ts)) (and_both _ _ _ _ (comma_next (x ∷ ts)) (blind_params_from true ts))

pub blind_params : Blind no_params
blind_params = blind_not (λ ts. is_next (mark_of m.Arrow) ts || params_from true ts) (blind_or (is_next (mark_of m.Arrow)) (params_from true) arrow_next (blind_params_from true))

pub blind_end : Blind at_end
blind_end [] = refl
blind_end (x ∷ ts) = blind_not (no_next (mark_of m.CloseBrace)) (blind_no_next (mark_of m.CloseBrace) (mark_erases m.CloseBrace)) (x ∷ ts)

pub blind_prints : Blind prints
blind_prints = blind_and (is_next (word_of (codes "println"))) (λ ts. starts (after ts)) (blind_is_next (word_of (codes "println")) (word_erases (codes "println"))) (blind_after starts (blind_first _))

pub blind_logs : Blind logs
blind_logs =
    blind_and (is_next (word_of (codes "log"))) (λ ts. is_next (mark_of m.Dot) (after ts) && (is_next name_of (after (after ts)) && starts (after (after (after ts))))) (blind_is_next (word_of (codes "log")) (word_erases (codes "log")))
    (blind_after (λ ts. is_next (mark_of m.Dot) ts && (is_next name_of (after ts) && starts (after (after ts))))
    (blind_and (is_next (mark_of m.Dot)) (λ ts. is_next name_of (after ts) && starts (after (after ts))) (blind_is_next (mark_of m.Dot) (mark_erases m.Dot))
    (blind_after (λ ts. is_next name_of ts && starts (after ts)) (blind_and (is_next name_of) (λ ts. starts (after ts)) name_next (blind_after starts (blind_first _))))))

pub blind_words : (ws : List (List ℕ)) → Blind (no_word ws)
blind_words [] ts = refl
blind_words (w ∷ ws) ts = and_both _ _ _ _ (blind_no_next (word_of w) (word_erases w) ts) (blind_words ws ts)

pub blind_top : Blind no_top
blind_top = blind_and (no_next (keyword_of k.Def)) (no_word top_words) (blind_no_next (keyword_of k.Def) (keyword_erases k.Def)) (blind_words top_words)

pub blind_question : Blind no_question
blind_question = blind_and (no_next question) (no_next elvis) (blind_no_next question (mark_erases m.Question)) (blind_no_next elvis (mark_erases m.Elvis))

pub blind_part : Blind no_part
blind_part = blind_and (no_next template_text) (no_next open_hole) (blind_no_next template_text template_text_erases) (blind_no_next open_hole open_hole_erases)
