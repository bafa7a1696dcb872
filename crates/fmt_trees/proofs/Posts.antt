-- How the parts after an expression are read.
use Rattle.std.proofs.Common.{ℕ, suc, Bool, false, List, refl, sym, subst, arith}
use Rattle.std.specs.Prelude.{not, ◌&&◌}
use Rattle.nf_value.specs.declared.place.Place.{Place}
use Rattle.nf_token.specs.declared.token.Mark.TheVariants as m
use Rattle.nf_token.specs.declared.token.Lexeme.{Lexeme}
use Rattle.nf_grammar.specs.Gram.{rule}
use Rattle.nf_grammar.specs.Reads.{Reads, reads_token, reads_gives, reads_bind, reads_left, reads_right, reads_where, reads_more, reads_rule}
use Rattle.nf_ast.specs.Tree as tree
use Rattle.nf_ast.specs.Tree.{Tree}
use Rattle.nf_exprs.specs.Level.{Args, Arg}
use Rattle.nf_exprs.specs.Tokens.{no_start}
use Rattle.nf_exprs.specs.Rules.{rules, maybe, post_part, no_comma}
use Rattle.nf_printer.specs.Levels.{needs}
use Rattle.nf_writer.specs.Lines.{Layout}
use Rattle.fmt_trees.specs.Bare.{bare}
use Rattle.fmt_trees.proofs.TreeTokens as tree_tokens
use Rattle.fmt_trees.proofs.TreeTokens.{spell, held, mark}
use Rattle.fmt_trees.proofs.Levels.{Reading, Chained}
use Rattle.fmt_trees.proofs.Own.{IsRead, whole, chain_at}
use Rattle.fmt_trees.proofs.Rows.{Each, none, some, by_round, Plain, listed_read}
use Rattle.fmt_trees.proofs.Holds.{NameRead, ClosureRead, Braced}

-- a part is read after an expression
part_after : (e b : Tree) → IsRead e → (d : ℕ) (l : Layout) (g : Bool) (us rest r : List Lexeme) (v : Tree) → ((n : ℕ) → Reads rules (post_part d n (bare e)) us b rest) → Chained 10 d b rest v r → Reading 10 d (held (needs 10 e) (spell e l g) us) v r
part_after e b h d l g us rest r v p x = chain_at 10 e (omega arith) refl h d l g us r v refl (λ n. reads_more (p n) (x (suc n)))

pub property_read : (e n : Tree) → IsRead e → NameRead n → IsRead (tree.property e n)
property_read e n h i d l g rest r v q x = part_after e (bare (tree.property e n)) h d l (g && not (needs 10 e)) (mark m.Dot (spell n l false rest)) rest r v (λ k. reads_left (reads_bind (reads_token refl) (reads_bind (i l rest) reads_gives))) x

pub safe_property_read : (e n : Tree) → IsRead e → NameRead n → IsRead (tree.safe_property e n)
safe_property_read e n h i d l g rest r v q x = part_after e (bare (tree.safe_property e n)) h d l (g && not (needs 10 e)) (mark m.QuestionDot (spell n l false rest)) rest r v (λ k. reads_right (reads_left (reads_bind (reads_token refl) (reads_bind (i l rest) reads_gives)))) x

pub index_read : (p : Place) (e i : Tree) → IsRead e → IsRead i → IsRead (tree.index p e i)
index_read p e i h j d l g rest r v q x = part_after e (bare (tree.index p e i)) h d l (g && not (needs 10 e)) (mark m.OpenSquare (spell i l false (mark m.CloseSquare rest))) rest r v (λ k. reads_right (reads_right (reads_left (reads_bind (reads_token refl) (reads_bind (whole i j (suc d) l false _ refl 0) (reads_bind (reads_token refl) reads_gives)))))) x

pub each_plain : {P Q : Tree → Type 0} {xs : Tree} → ((x : Tree) → P x → Q x) → Each P xs → Each Q xs
each_plain f none = none
each_plain f (some {x = x} p q) = some (f x p) (each_plain f q)

abbrev pub ArgRead : Tree → Type 0
ArgRead x = (d : ℕ) (l : Layout) → Plain (rule (Arg d)) l x

args_read : {xs : Tree} → Each ArgRead xs → (d : ℕ) (l : Layout) (rest : List Lexeme) → Reads rules (maybe (rule (Args d)) no_start) (tree_tokens.listed xs l (mark m.CloseRound rest)) (bare xs) (mark m.CloseRound rest)
unfolding rules
args_read none d l rest = reads_right (reads_where refl reads_gives)
args_read (some {x = x} {xs = xs} p q) d l rest = reads_left (reads_rule (listed_read (rule (Arg d)) l no_comma x (mark m.CloseRound rest) (p d l) (each_plain (λ y f. f d l) q) by_round refl))

pub call_read : (p : Place) (e xs : Tree) → IsRead e → Each ArgRead xs → IsRead (tree.call p e xs)
call_read p e xs h i d l g rest r v q x = part_after e (bare (tree.call p e xs)) h d l (g && not (needs 10 e)) (mark m.OpenRound (tree_tokens.listed xs l (mark m.CloseRound rest))) rest r v (λ k. reads_right (reads_right (reads_right (reads_left (reads_bind (reads_token refl) (reads_bind (args_read i (suc d) l rest) (reads_bind (reads_token refl) reads_gives))))))) x

with_read : (d n : ℕ) (l : Layout) (e c : Tree) (rest : List Lexeme) → Braced (suc d) l false c rest → Reads rules (post_part d n (bare e)) (spell c l false rest) (bare (tree.call_with e c)) rest
with_read d n l e c rest b = subst (λ ts. Reads rules (post_part d n (bare e)) ts (bare (tree.call_with e c)) rest) (sym b.opens) (reads_right (reads_right (reads_right (reads_right (reads_bind (reads_token refl) (reads_bind b.reads reads_gives))))))

pub call_with_read : (e c : Tree) → IsRead e → ClosureRead c → IsRead (tree.call_with e c)
call_with_read e c h i d l g rest r v q x = part_after e (bare (tree.call_with e c)) h d l (g && not (needs 10 e)) (spell c l false rest) rest r v (λ k. with_read d k l e c rest (i (suc d) l false rest)) x
