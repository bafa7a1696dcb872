-- The inks of every tree that fits are read as their bits.
use Rattle.std.proofs.Common.{ℕ, Bool, false, List, [], ◌∷◌, ◌++◌, refl}
use Rattle.std.specs.Prelude.{not, ◌&&◌}
use Rattle.nf_value.specs.declared.place.Place.{Place}
use Rattle.nf_token.specs.declared.token.Keyword.TheVariants as k
use Rattle.nf_token.specs.declared.token.Mark.TheVariants as m
use Rattle.nf_token.specs.declared.token.TemplateKind.{TemplateKind}
use Rattle.nf_lexer.specs.declared.open.Open.{Open}
use Rattle.nf_ast.specs.Tree as tree
use Rattle.nf_ast.specs.Tree.{Tree}
use Rattle.nf_writer.specs.Ink as ink
use Rattle.nf_writer.specs.Ink.{Ink, mark, blank, spaced}
use Rattle.nf_printer.specs.Levels.{left_level, right_level, prefix_level, postfix_level, needs, prints, round, within}
use Rattle.nf_writer.specs.Lines.{Layout, inline, is_inline, deeper, between}
use Rattle.nf_printer.specs.Bodies.{is_short, first_before}
use Rattle.nf_printer.specs.Exprs.{comma, colon, equals, inks, listed, parts, pieces}
use Rattle.fmt_tokens.specs.Fits.{Fits, FitPieces, FitAfterText}
use Rattle.fmt_tokens.proofs.InkLists.{Reads, on, none}
use Rattle.fmt_tokens.proofs.Stands.{Stand, Lined, Any, Apart}
use Rattle.fmt_tokens.proofs.Begins.{Starts, by_front, starts_none, fronts_on, fronts_more, starts_within, name_starts, number_starts, plain_starts, template_starts}
use Rattle.fmt_tokens.proofs.Inks.{keyword_reads, name_reads, number_reads}
use Rattle.fmt_tokens.proofs.Margins.{IsMargin, deeper_margin, lined, between_reads, first_reads, last_reads}
use Rattle.fmt_tokens.proofs.Enclosed.{round_reads, square_reads, apart, within_reads, brace_reads}
use Rattle.fmt_tokens.proofs.Quoted.{plain_reads, pattern_reads}
use Rattle.fmt_tokens.proofs.Pieces.{Going, going_told, going_end, hole_going, text_told, text_opens, hole_opens, end_opens, Inner, template_reads}
use Rattle.fmt_tokens.proofs.Phrases.{after, infix_fronts, operator_reads, prefixed_reads, prefix_starts, conditional_reads, elvis_reads, comma_reads, colon_reads, equals_reads, word_reads, blank_before, truth_reads, truth_starts, map_reads, params_reads, choice_reads, dot_reads, question_dot_reads, println_reads, log_reads, listed_begins, parts_begin, first_begins, last_begins, shallower}

-- ---- what a tree begins with

pub tree_starts : (t : Tree) (l : Layout) (g : Bool) → Fits t → Starts (inks t l g)
tree_starts (tree.name p s) l g f = starts_within g (name_starts s f)
tree_starts (tree.number p n) l g f = number_starts n f
tree_starts (tree.text p q s) l g f = plain_starts q (is_inline l) s
tree_starts (tree.template p q xs) l g f = template_starts q (pieces xs q l ++ ink.close_template q ∷ [])
tree_starts (tree.truth p b) l g f = truth_starts b
tree_starts (tree.pair n e) l g f = by_front (fronts_more (inks e l false) (fronts_on {ys = colon} (tree_starts n l false f.0) (record { fronts = λ rest. refl })))
tree_starts (tree.label n e) l g f = by_front (fronts_more (inks e l false) (fronts_on {ys = colon} (tree_starts n l false f.0) (record { fronts = λ rest. refl })))
tree_starts (tree.named n e) l g f = by_front (fronts_more (inks e l false) (fronts_on {ys = colon} (tree_starts n l false f.0) (record { fronts = λ rest. refl })))
tree_starts (tree.assign n e) l g f = by_front (fronts_more (inks e l false) (fronts_on {ys = equals} (tree_starts n l false f.0) (record { fronts = λ rest. refl })))
tree_starts (tree.prefix p x e) l g f = prefix_starts x (within (needs prefix_level e) (inks e l false))
tree_starts (tree.binary p x a b) l g f = by_front (fronts_more (within (needs (right_level x) b) (inks b l false)) (fronts_on (starts_within (needs (left_level x) a) (tree_starts a l (g && not (needs (left_level x) a)) f.0)) (infix_fronts x)))
tree_starts (tree.conditional p c a b) l g f = by_front (fronts_more (inks b l false) (fronts_more (spaced (mark m.Colon)) (fronts_more (inks a l false) (fronts_on {ys = spaced (mark m.Question)} (starts_within (needs 1 c) (tree_starts c l (g && not (needs 1 c)) f.0)) (record { fronts = λ rest. refl })))))
tree_starts (tree.elvis p a b) l g f = by_front (fronts_more (inks b l false) (fronts_on {ys = spaced (mark m.Elvis)} (starts_within (needs 1 a) (tree_starts a l (g && not (needs 1 a)) f.0)) (record { fronts = λ rest. refl })))
tree_starts (tree.property e n) l g f = by_front (fronts_on {ys = mark m.Dot ∷ inks n l false} (starts_within (needs postfix_level e) (tree_starts e l (g && not (needs postfix_level e)) f.0)) (record { fronts = λ rest. refl }))
tree_starts (tree.safe_property e n) l g f = by_front (fronts_on {ys = mark m.QuestionDot ∷ inks n l false} (starts_within (needs postfix_level e) (tree_starts e l (g && not (needs postfix_level e)) f.0)) (record { fronts = λ rest. refl }))
tree_starts (tree.index p e x) l g f = by_front (fronts_on {ys = mark m.OpenSquare ∷ inks x l false ++ mark m.CloseSquare ∷ []} (starts_within (needs postfix_level e) (tree_starts e l (g && not (needs postfix_level e)) f.0)) (record { fronts = λ rest. refl }))
tree_starts (tree.call p e xs) l g f = by_front (fronts_on {ys = round (listed xs l [])} (starts_within (needs postfix_level e) (tree_starts e l (g && not (needs postfix_level e)) f.0)) (record { fronts = λ rest. refl }))
tree_starts (tree.call_with e c) l g f = by_front (fronts_on {ys = blank ∷ inks c l false} (starts_within (needs postfix_level e) (tree_starts e l (g && not (needs postfix_level e)) f.0)) (record { fronts = λ rest. refl }))
tree_starts (tree.pattern p s) l g f = record { starts = λ rest a. refl }
tree_starts (tree.null p) l g f = record { starts = λ rest a. refl }
tree_starts (tree.list p xs) l g f = record { starts = λ rest a. refl }
tree_starts (tree.map p xs) l g f = record { starts = λ rest a. refl }
tree_starts (tree.closure p ps xs) l g f = record { starts = λ rest a. refl }
tree_starts (tree.params ns) l g f = record { starts = λ rest a. refl }
tree_starts (tree.define p n e) l g f = record { starts = λ rest a. refl }
tree_starts (tree.define_all p ns e) l g f = record { starts = λ rest a. refl }
tree_starts (tree.return_ p e) l g f = record { starts = λ rest a. refl }
tree_starts (tree.choice p c b e) l g f = record { starts = λ rest a. refl }
tree_starts (tree.statements xs) l g f = record { starts = λ rest a. refl }
tree_starts (tree.println p e) l g f = record { starts = λ rest a. refl }
tree_starts (tree.log p n e) l g f = record { starts = λ rest a. refl }
tree_starts _ l g f = starts_none

-- ---- the whole

mutual
  pub tree_reads : (t : Tree) (l : Layout) (g : Bool) → IsMargin l → Fits t → Reads (Stand l) Apart (inks t l g)
  tree_reads (tree.name p s) l g m f = within_reads g (name_reads s f)
  tree_reads (tree.number p n) l g m f = number_reads n f
  tree_reads (tree.text p q s) l g m f = plain_reads q s f
  tree_reads (tree.pattern p s) l g m f = pattern_reads s f
  tree_reads (tree.template p q xs) l g m f = template_reads q (pieces_read xs q l m f)
  tree_reads (tree.truth p b) l g m f = truth_reads b
  tree_reads (tree.null p) l g m f = keyword_reads k.Null
  tree_reads (tree.list p xs) l g m f = apart (square_reads (listed_read xs l [] m f none))
  tree_reads (tree.map p xs) l g m f = map_reads xs (listed_read xs l [] m f none)
  tree_reads (tree.pair n e) l g m f = colon_reads (tree_reads n l false m f.0) (tree_reads e l false m f.1)
  tree_reads (tree.closure p ps xs) l g m f = apart (brace_reads (on (last_begins (is_short xs) l) (on (first_begins xs (is_short xs) (deeper l)) (lined (tree_reads ps l false m f.0)) (shallower (parts_read xs (deeper l) (first_before (is_short xs) (deeper l)) (deeper_margin l m) f.1 (first_reads (is_short xs) (deeper l) (deeper_margin l m))))) (apart (last_reads (is_short xs) l m))))
  tree_reads (tree.params ns) l g m f = params_reads ns (listed_read ns l [] m f none)
  tree_reads (tree.label n e) l g m f = colon_reads (tree_reads n l false m f.0) (tree_reads e l false m f.1)
  tree_reads (tree.prefix p x e) l g m f = prefixed_reads x (starts_within (needs prefix_level e) (tree_starts e l false f)) (within_reads (needs prefix_level e) (tree_reads e l false m f))
  tree_reads (tree.binary p x a b) l g m f = operator_reads x (within_reads (needs (left_level x) a) (tree_reads a l (g && not (needs (left_level x) a)) m f.0)) (within_reads (needs (right_level x) b) (tree_reads b l false m f.1))
  tree_reads (tree.conditional p c a b) l g m f = conditional_reads (within_reads (needs 1 c) (tree_reads c l (g && not (needs 1 c)) m f.0)) (tree_reads a l false m f.1) (tree_reads b l false m f.2)
  tree_reads (tree.elvis p a b) l g m f = elvis_reads (within_reads (needs 1 a) (tree_reads a l (g && not (needs 1 a)) m f.0)) (tree_reads b l false m f.1)
  tree_reads (tree.property e n) l g m f = on (λ rest r. refl) (within_reads (needs postfix_level e) (tree_reads e l (g && not (needs postfix_level e)) m f.0)) (dot_reads n f.1)
  tree_reads (tree.safe_property e n) l g m f = on (λ rest r. refl) (within_reads (needs postfix_level e) (tree_reads e l (g && not (needs postfix_level e)) m f.0)) (question_dot_reads n f.1)
  tree_reads (tree.index p e x) l g m f = on (λ rest r. refl) (within_reads (needs postfix_level e) (tree_reads e l (g && not (needs postfix_level e)) m f.0)) (apart (square_reads (tree_reads x l false m f.1)))
  tree_reads (tree.call p e xs) l g m f = on (λ rest r. refl) (within_reads (needs postfix_level e) (tree_reads e l (g && not (needs postfix_level e)) m f.0)) (apart (round_reads (listed_read xs l [] m f.1 none)))
  tree_reads (tree.named n e) l g m f = colon_reads (tree_reads n l false m f.0) (tree_reads e l false m f.1)
  tree_reads (tree.call_with e c) l g m f = on (λ rest r. refl) (within_reads (needs postfix_level e) (tree_reads e l (g && not (needs postfix_level e)) m f.0)) (blank_before (tree_reads c l false m f.1))
  tree_reads (tree.define p n e) l g m f = word_reads k.Def (equals_reads (tree_reads n l false m f.0) (tree_reads e l false m f.1))
  tree_reads (tree.define_all p ns e) l g m f = word_reads k.Def (equals_reads (apart (round_reads (listed_read ns l [] m f.0 none))) (tree_reads e l false m f.1))
  tree_reads (tree.assign n e) l g m f = equals_reads (tree_reads n l false m f.0) (tree_reads e l false m f.1)
  tree_reads (tree.return_ p e) l g m f = word_reads k.Return (tree_reads e l false m f)
  tree_reads (tree.choice p c b e) l g m f = choice_reads e (round_reads (tree_reads c l false m f.0)) (tree_reads b l false m f.1) (tree_reads e l false m f.2)
  tree_reads (tree.statements xs) l g m f = apart (brace_reads (on (last_begins false l) (shallower (parts_read xs (deeper l) (first_before false (deeper l)) (deeper_margin l m) f (first_reads false (deeper l) (deeper_margin l m)))) (apart (last_reads false l m))))
  tree_reads (tree.println p e) l g m f = println_reads (tree_reads e l false m f)
  tree_reads (tree.log p n e) l g m f = log_reads n f.0 (tree_reads e l false m f.1)
  tree_reads _ l g m f = none

  pub listed_read : (t : Tree) (l : Layout) (before : List Ink) → IsMargin l → Fits t → Reads (Stand l) Any before → Reads (Stand l) Apart (listed t l before)
  listed_read (tree.cons x xs) l before m f b = on (listed_begins xs l) (after b (tree_reads x l false m f.0)) (listed_read xs l comma m f.1 comma_reads)
  listed_read _ l before m f b = none

  pub parts_read : (t : Tree) (l : Layout) (before : List Ink) → IsMargin l → Fits t → Reads (Lined l) Any before → Reads (Lined l) Apart (parts t l before)
  parts_read (tree.cons x xs) l before m f b = on (parts_begin xs l) (after b (lined (tree_reads x l (prints x false) m f.0))) (parts_read xs l (between l) m f.1 (between_reads l m))
  parts_read _ l before m f b = none

  pieces_read : (t : Tree) (q : TemplateKind) (l : Layout) → IsMargin l → FitPieces t → Inner l q (pieces t q l ++ ink.close_template q ∷ [])
  pieces_read (tree.cons (tree.piece p s) xs) q l m f = record {
    told = λ source p o rest st. text_told l s st f.0 (left_read xs q l m f.1 source p o rest st);
    opens = λ rest a. text_opens q (is_inline l) s (pieces xs q l ++ ink.close_template q ∷ []) rest f.0;
  }
  pieces_read (tree.cons (tree.hole p e) xs) q l m f = record {
    told = λ source p o rest st. going_told (hole_going (pieces xs q l) (ink.close_template q ∷ []) (tree_reads e inline false tt f.0) ((pieces_read xs q l m f.1).told source p o rest st));
    opens = λ rest a. hole_opens q (inks e inline false ++ ink.close_hole ∷ [] ++ pieces xs q l ++ ink.close_template q ∷ []) rest;
  }
  pieces_read (tree.cons _ xs) q l m f = absurd f
  pieces_read _ q l m f = record { told = λ source p o rest st. going_told (going_end source q p o rest); opens = λ rest a. end_opens q rest a }

  left_read : (t : Tree) (q : TemplateKind) (l : Layout) → IsMargin l → FitAfterText t → (source : List ℕ) (p : Place) (o : List Open) (rest : List ℕ) → Stand l o → Going source q p o (pieces t q l ++ ink.close_template q ∷ []) rest
  left_read (tree.cons (tree.hole n e) xs) q l m f source p o rest st = hole_going (pieces xs q l) (ink.close_template q ∷ []) (tree_reads e inline false tt f.0) ((pieces_read xs q l m f.1).told source p o rest st)
  left_read (tree.cons _ xs) q l m f source p o rest st = absurd f
  left_read _ q l m f source p o rest st = going_end source q p o rest
