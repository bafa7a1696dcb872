-- How lists, maps and templates are read.
use Rattle.std.proofs.Common.{◌≡◌, ℕ, suc, true, false, List, ◌∷◌, refl, sym, subst}
use Rattle.nf_value.specs.declared.place.Place.{Place}
use Rattle.nf_token.specs.declared.token.Mark.TheVariants as m
use Rattle.nf_token.specs.declared.token.Token.TheVariants as t
use Rattle.nf_token.specs.declared.token.Lexeme.{Lexeme}
use Rattle.nf_token.specs.declared.token.PlainKind.{PlainKind}
use Rattle.nf_token.specs.declared.token.TemplateKind.{TemplateKind}
use Rattle.nf_grammar.specs.Gram.{rule, many}
use Rattle.nf_grammar.specs.Reads.{Reads, reads_token, reads_gives, reads_bind, reads_left, reads_right, reads_where, reads_end, reads_more, reads_rule}
use Rattle.nf_ast.specs.Tree as tree
use Rattle.nf_ast.specs.Tree.{Tree, empty, cons, snoc}
use Rattle.nf_exprs.specs.Level.{Expr, Pair, Gram}
use Rattle.nf_exprs.specs.Tokens.{items_end}
use Rattle.nf_exprs.specs.Rules.{rules, squared, template_of, no_part, part_next, ended_by_comma}
use Rattle.nf_writer.specs.Lines.{Layout, inline}
use Rattle.fmt_trees.specs.Bare.{bare, nowhere}
use Rattle.fmt_trees.proofs.TreeTokens as tree_tokens
use Rattle.fmt_trees.proofs.TreeTokens.{spell, mark, lx, colon_alone}
use Rattle.fmt_trees.proofs.Levels.{ends}
use Rattle.fmt_trees.proofs.Own.{IsRead, whole}
use Rattle.fmt_trees.proofs.Rows.{Each, none, some, no_row, joined_snoc, joined_nothing, snoc_row, Closes, by_comma, by_round, by_square, by_brace, by_separator, by_arrow, by_nothing, Plain, listed_read}
use Rattle.fmt_trees.proofs.Holds.{KeyRead, PiecesRead}
use Rattle.fmt_trees.proofs.Prims.{prim_open}
use Rattle.fmt_trees.proofs.Posts.{each_plain}

-- what follows doesn't go on with an expression
pub nothing_more : (tl : List Lexeme) → Closes tl → ends 0 tl ≡ true
nothing_more _ by_comma = refl
nothing_more _ by_round = refl
nothing_more _ by_square = refl
nothing_more _ by_brace = refl
nothing_more _ by_separator = refl
nothing_more _ by_arrow = refl
nothing_more _ by_nothing = refl

pub expr_plain : (d : ℕ) (l : Layout) (e : Tree) → IsRead e → Plain (rule (Expr d 0)) l e
expr_plain d l e h tl c = whole e h d l false tl (nothing_more tl c) 0

-- parts of a list without a comma at its end
comma_ended : (g : Gram) (l : Layout) (x xs : Tree) (tl : List Lexeme) → Plain g l x → Each (Plain g l) xs → Reads rules (ended_by_comma g) (tree_tokens.listed (cons x xs) l (mark m.CloseSquare tl)) (cons (bare x) (bare xs)) (mark m.CloseSquare tl)
comma_ended g l x xs tl p q = reads_bind (listed_read g l items_end x (mark m.CloseSquare tl) p q by_square refl) (reads_bind (reads_right (reads_where refl reads_gives)) reads_gives)

list_squared : {xs : Tree} → Each IsRead xs → (d : ℕ) (l : Layout) (tl : List Lexeme) → Reads rules (squared d nowhere) (tree_tokens.listed xs l (mark m.CloseSquare tl)) (tree.list nowhere (bare xs)) tl
list_squared none d l tl = reads_bind (reads_left (reads_bind (reads_right (reads_where refl reads_gives)) reads_gives)) (reads_bind (reads_token refl) reads_gives)
list_squared (some {x = x} {xs = xs} p q) d l tl = reads_bind (reads_left (reads_bind (reads_left (comma_ended (rule (Expr d 0)) l x xs tl (expr_plain d l x p) (each_plain (λ y h. expr_plain d l y h) q))) reads_gives)) (reads_bind (reads_token refl) reads_gives)

pub list_read : (p : Place) (xs : Tree) → Each IsRead xs → IsRead (tree.list p xs)
unfolding rules
list_read p xs h = prim_open (tree.list p xs) (λ d l g rest n. reads_rule (reads_right (reads_right (reads_right (reads_left (reads_bind (reads_token refl) (list_squared h (suc d) l rest)))))))

abbrev pub PairRead : Tree → Type 0
PairRead x = (d : ℕ) (l : Layout) → Plain (rule (Pair d)) l x

map_squared : {xs : Tree} → Each PairRead xs → (d : ℕ) (l : Layout) (tl : List Lexeme) → Reads rules (squared d nowhere) (colon_alone xs (tree_tokens.listed xs l (mark m.CloseSquare tl))) (tree.map nowhere (bare xs)) tl
map_squared none d l tl = reads_bind (reads_right (reads_right (reads_bind (reads_token refl) reads_gives))) (reads_bind (reads_token refl) reads_gives)
map_squared (some {x = x} {xs = xs} p q) d l tl = reads_bind (reads_right (reads_left (reads_bind (comma_ended (rule (Pair d)) l x xs tl (p d l) (each_plain (λ y h. h d l) q)) reads_gives))) (reads_bind (reads_token refl) reads_gives)

pub map_read : (p : Place) (xs : Tree) → Each PairRead xs → IsRead (tree.map p xs)
unfolding rules
map_read p xs h = prim_open (tree.map p xs) (λ d l g rest n. reads_rule (reads_right (reads_right (reads_right (reads_left (reads_bind (reads_token refl) (map_squared h (suc d) l rest)))))))

pub pair_read : (n e : Tree) → KeyRead n → IsRead e → PairRead (tree.pair n e)
unfolding rules
pair_read n e h i d l tl c = reads_rule (reads_bind (h l (mark m.Colon (spell e l false tl))) (reads_bind (reads_token refl) (reads_bind (expr_plain d l e i tl c) reads_gives)))

-- ---- keys

pub name_key : (p : Place) (s : List ℕ) → KeyRead (tree.name p s)
name_key p s l tl = reads_left (reads_token refl)

pub text_key : (p : Place) (q : PlainKind) (s : List ℕ) → KeyRead (tree.text p q s)
text_key p q s l tl = reads_right (reads_left (reads_token refl))

pub bare_key : (p : Place) (q : TemplateKind) → KeyRead (tree.template p q empty)
bare_key p q l tl = reads_right (reads_right (reads_bind (reads_token refl) (reads_bind (reads_right (reads_where refl reads_gives)) (reads_bind (reads_token refl) reads_gives))))

pub piece_key : (p r : Place) (q : TemplateKind) (b : ℕ) (s : List ℕ) → KeyRead (tree.template p q (cons (tree.piece r (b ∷ s)) empty))
piece_key p r q b s l tl = reads_right (reads_right (reads_bind (reads_token refl) (reads_bind (reads_left (reads_bind (reads_token refl) reads_gives)) (reads_bind (reads_token refl) reads_gives))))

-- ---- templates

pub no_pieces : PiecesRead empty
no_pieces d n l acc tl r e = subst (λ v. Reads rules (many no_part (part_next d) n acc) tl v tl) (sym (joined_nothing r)) (reads_end e)

pub text_piece : (r : Place) (b : ℕ) (s : List ℕ) (xs : Tree) → PiecesRead xs → PiecesRead (cons (tree.piece r (b ∷ s)) xs)
text_piece p b s xs h d n l acc tl r e =
    subst (λ v. Reads rules (many no_part (part_next d) n acc) (lx (t.TemplateText (b ∷ s)) ∷ tree_tokens.pieces xs l tl) v tl) (joined_snoc (tree.piece nowhere (b ∷ s)) (bare xs) r)
    (reads_more (reads_bind (reads_left (reads_token refl)) reads_gives) (h d (suc n) l (snoc acc (tree.piece nowhere (b ∷ s))) tl (snoc_row _ r) e))

pub hole_piece : (r : Place) (x xs : Tree) → IsRead x → PiecesRead xs → PiecesRead (cons (tree.hole r x) xs)
hole_piece p x xs i h d n l acc tl r e =
    let us : List Lexeme = tree_tokens.pieces xs l tl in
    subst (λ v. Reads rules (many no_part (part_next d) n acc) (lx t.OpenHole ∷ spell x inline false (lx t.CloseHole ∷ us)) v tl) (joined_snoc (tree.hole nowhere (bare x)) (bare xs) r)
    (reads_more (reads_bind (reads_right (reads_bind (reads_token refl) (reads_bind (whole x i (suc d) inline false (lx t.CloseHole ∷ us) refl 0) (reads_bind (reads_token refl) reads_gives)))) reads_gives)
    (h d (suc n) l (snoc acc (tree.hole nowhere (bare x))) tl (snoc_row _ r) e))

pub template_whole : (p : Place) (q : TemplateKind) (xs : Tree) → PiecesRead xs → (d : ℕ) (l : Layout) (tl : List Lexeme) → Reads rules (template_of d) (spell (tree.template p q xs) l false tl) (bare (tree.template p q xs)) tl
template_whole p q xs h d l tl = reads_bind (reads_token refl) (reads_bind (h d 0 l empty (lx (t.CloseTemplate q) ∷ tl) no_row refl) (reads_bind (reads_token refl) reads_gives))

pub template_read : (p : Place) (q : TemplateKind) (xs : Tree) → PiecesRead xs → IsRead (tree.template p q xs)
unfolding rules
template_read p q xs h = prim_open (tree.template p q xs) (λ d l g rest n. reads_rule (reads_right (reads_left (template_whole p q xs h d l rest))))
