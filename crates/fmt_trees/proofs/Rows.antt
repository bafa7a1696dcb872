-- How parts in a row are read, one after the other.
use Rattle.std.proofs.Common.{◌≡◌, ℕ, suc, Bool, true, false, List, [], refl, sym, subst, ap, ◌∙◌}
use Rattle.nf_token.specs.declared.token.Mark.TheVariants as m
use Rattle.nf_token.specs.declared.token.Lexeme.{Lexeme}
use Rattle.nf_grammar.specs.Gram.{many}
use Rattle.nf_grammar.specs.Reads.{Reads, reads_token, reads_gives, reads_bind, reads_left, reads_end, reads_more}
use Rattle.nf_ast.specs.Tree.{Tree, empty, cons, snoc}
use Rattle.nf_exprs.specs.Level.{Gram}
use Rattle.nf_exprs.specs.Rules.{rules, comma_then, listed, separated, sep}
use Rattle.nf_printer.specs.Levels.{prints}
use Rattle.nf_writer.specs.Lines.{Layout}
use Rattle.fmt_trees.specs.Bare.{bare}
use Rattle.fmt_trees.proofs.TreeTokens.{spell, mark, separator, next_parts}
use Rattle.fmt_trees.proofs.TreeTokens as tree_tokens

-- each part of a row
pub data Each (P : Tree → Type 0) : Tree → Type 0 where
  none : Each P empty
  some : {x xs : Tree} → P x → Each P xs → Each P (cons x xs)

-- a row of trees
pub data IsRow : Tree → Type 0 where
  no_row : IsRow empty
  a_row : {x xs : Tree} → IsRow xs → IsRow (cons x xs)

-- the one row, and then the other
abbrev pub joined : Tree → Tree → Tree
joined (cons x xs) ys = cons x (joined xs ys)
joined _ ys = ys

pub snoc_row : {acc : Tree} (x : Tree) → IsRow acc → IsRow (snoc acc x)
snoc_row x no_row = a_row no_row
snoc_row x (a_row r) = a_row (snoc_row x r)

pub joined_snoc : {acc : Tree} (x xs : Tree) → IsRow acc → joined (snoc acc x) xs ≡ joined acc (cons x xs)
joined_snoc x xs no_row = refl
joined_snoc x xs (a_row {x = y} r) = ap (cons y) (joined_snoc x xs r)

pub joined_nothing : {acc : Tree} → IsRow acc → joined acc empty ≡ acc
joined_nothing no_row = refl
joined_nothing (a_row {x = y} r) = ap (cons y) (joined_nothing r)

-- tokens of which no expression goes on with the first
pub data Closes : List Lexeme → Type 0 where
  by_comma : {us : List Lexeme} → Closes (mark m.Comma us)
  by_round : {us : List Lexeme} → Closes (mark m.CloseRound us)
  by_square : {us : List Lexeme} → Closes (mark m.CloseSquare us)
  by_brace : {us : List Lexeme} → Closes (mark m.CloseBrace us)
  by_separator : {us : List Lexeme} → Closes (separator us)
  by_arrow : {us : List Lexeme} → Closes (mark m.Arrow us)
  by_nothing : Closes []

-- a part that is read by g before what closes it
abbrev pub Plain : Gram → Layout → Tree → Type 0
Plain g l x = (tl : List Lexeme) → Closes tl → Reads rules g (spell x l false tl) (bare x) tl

pub more_closes : (xs : Tree) (l : Layout) (tl : List Lexeme) → Closes tl → Closes (tree_tokens.more xs l tl)
more_closes (cons x xs) l tl c = by_comma
more_closes _ l tl c = c

module _ (g : Gram) (l : Layout) (end : List Lexeme → Bool) where
  -- after the first, up to where the test holds
  pub more_read : {xs acc : Tree} (n : ℕ) (tl : List Lexeme) → Each (Plain g l) xs → IsRow acc → Closes tl → end tl ≡ true → Reads rules (many end (comma_then g) n acc) (tree_tokens.more xs l tl) (joined acc (bare xs)) tl
  more_read {acc = acc} n tl none r c e = subst (λ v. Reads rules (many end (comma_then g) n acc) tl v tl) (sym (joined_nothing r)) (reads_end e)
  more_read {acc = acc} n tl (some {x = x} {xs = xs} p q) r c e =
      subst (λ v. Reads rules (many end (comma_then g) n acc) (mark m.Comma (spell x l false (tree_tokens.more xs l tl))) v tl) (joined_snoc (bare x) (bare xs) r)
      (reads_more (reads_bind (reads_token refl) (reads_bind (p (tree_tokens.more xs l tl) (more_closes xs l tl c)) reads_gives)) (more_read (suc n) tl q (snoc_row (bare x) r) c e))

  pub listed_read : (x : Tree) {xs : Tree} (tl : List Lexeme) → Plain g l x → Each (Plain g l) xs → Closes tl → end tl ≡ true → Reads rules (listed end g) (tree_tokens.listed (cons x xs) l tl) (cons (bare x) (bare xs)) tl
  listed_read x {xs} tl p q c e = reads_bind (p (tree_tokens.more xs l tl) (more_closes xs l tl c)) (more_read 0 tl q (a_row no_row) c e)

-- ---- parts with separators between them

-- a part that is read by g at the start of a body
abbrev pub Part : Gram → Layout → Tree → Type 0
Part g l x = (tl : List Lexeme) → Closes tl → Reads rules g (spell x l (prints x false) tl) (bare x) tl

module _ (g : Gram) (l : Layout) (end : List Lexeme → Bool) (tl us : List Lexeme) (last : Reads rules sep tl empty us) (closes : Closes tl) (over : end us ≡ true) where
  -- one part and those after it
  pub series_read : (x : Tree) {xs acc : Tree} (n : ℕ) → Part g l x → Each (Part g l) xs → IsRow acc → Reads rules (many end (separated g) n acc) (tree_tokens.parts (cons x xs) l tl) (joined acc (cons (bare x) (bare xs))) us
  series_read x {acc = acc} n p none r =
      subst (λ v. Reads rules (many end (separated g) n acc) (spell x l (prints x false) tl) v us) (sym (joined_nothing (snoc_row (bare x) r)) ∙ joined_snoc (bare x) empty r)
      (reads_more (reads_bind (reads_bind (p tl closes) (reads_bind last reads_gives)) reads_gives) (reads_end over))
  series_read x {acc = acc} n p (some {x = y} {xs = ys} q s) r =
      subst (λ v. Reads rules (many end (separated g) n acc) (tree_tokens.parts (cons x (cons y ys)) l tl) v us) (joined_snoc (bare x) (cons (bare y) (bare ys)) r)
      (reads_more (reads_bind (reads_bind (p (tree_tokens.next_parts (cons y ys) l tl) by_separator) (reads_bind (reads_left (reads_bind (reads_token refl) reads_gives)) reads_gives)) reads_gives)
      (series_read y (suc n) q s (snoc_row (bare x) r)))
