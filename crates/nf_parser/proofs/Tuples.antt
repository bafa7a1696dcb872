-- A tuple of outputs ends before a comma that an option follows.
use Rattle.std.proofs.Common.{◌≡◌, ℕ, suc, ◌≤◌, ◌<◌, Bool, true, false, List, length, refl, sym, subst, ap, arith}
use Rattle.std.specs.Prelude.{codes, not, ◌&&◌, ◌||◌}
use Rattle.nf_value.specs.declared.place.Place.{Place}
use Rattle.nf_token.specs.declared.token.Mark.TheVariants as m
use Rattle.nf_token.specs.declared.token.Lexeme.{Lexeme}
use Rattle.nf_grammar.specs.Gram.{bind, either, only_where, many, rule}
use Rattle.nf_grammar.specs.Parts.{no_next}
use Rattle.nf_grammar.specs.Reads.{Reads, reads_token, reads_gives, reads_bind, reads_left, reads_right, reads_where, reads_end, reads_more, Stands, stands_before, stands_first, stands_second, stands_left, stands_right, stands_where, stands_end, stands_part, stands_more, Deep, deep_first, deep_second, deep_left, deep_right, deep_where, deep_part, deep_more}
use Rattle.nf_grammar.specs.Outcome.{Out, got, unexpected}
use Rattle.nf_grammar.proofs.Outcomes.{Adds, same_outcome, either_right, stands_reaches, where_yes, grouped, arms_first}
use Rattle.nf_grammar.proofs.Short.{ret, off, fails, first_arm, second_arm, seq, stops, maybe_not, stop, part_stop, IsStop}
use Rattle.nf_ast.specs.Tree.{Tree, empty, tuple, snoc, place_of, stdout}
use Rattle.nf_exprs.specs.Level.{Expr, Output, Gram}
use Rattle.nf_exprs.specs.Tokens.{Kind, word_of, name_of, mark_of, labels, after, outputs_end, no_option}
use Rattle.nf_exprs.specs.Rules.{rules, skips, no_comma, comma_then, output_value, tuple_of, with_options, with_sep, options, option_next}
use Rattle.nf_exprs.specs.Parses.{Outcome, Takes}
use Rattle.nf_exprs.proofs.Steps.{took, took_one}
use Rattle.nf_exprs.proofs.Rows.{expr_misses}
use Rattle.nf_parser.specs.Ends.{tuple_end, TakesComma}
use Rattle.nf_parser.proofs.Words.{Came, comes_next, other_word, stands_past, both_miss}
use Rattle.nf_parser.proofs.Parts.{rule_first, made, no_output_value, after_le}
use Rattle.nf_parser.proofs.Names.{Label, label_of, before_colon, sep_misses, Plain}

-- ---- any number of parts, and what comes after them

module _ (c : List Lexeme → Bool) (f : ℕ → Tree → Gram) (n : ℕ) (a : Tree) (q : Tree → Gram) (ts : List Lexeme) where
  -- one more part with all that follows, or what follows
  turns : Gram
  turns = either (bind (f n a) (λ b. bind (many c f (suc n) b) q)) (only_where c (q a))

  fold_reads : {v : Tree} {r : List Lexeme} → Reads rules turns ts v r → Reads rules (bind (many c f n a) q) ts v r
  unfolding turns
  fold_reads (reads_left (reads_bind p (reads_bind s u))) = reads_bind (reads_more p s) u
  fold_reads (reads_right (reads_where e s)) = reads_bind (reads_end e) s

  back_reads : {v : Tree} {r : List Lexeme} → Reads rules (bind (many c f n a) q) ts v r → Reads rules turns ts v r
  unfolding turns
  back_reads (reads_bind (reads_more p s) u) = reads_left (reads_bind p (reads_bind s u))
  back_reads (reads_bind (reads_end e) s) = reads_right (reads_where e s)

  fold_stands : {r : List Lexeme} → Stands rules turns ts r → Stands rules (bind (many c f n a) q) ts r
  unfolding turns
  fold_stands (stands_left (stands_first p)) = stands_first (stands_part p)
  fold_stands (stands_left (stands_second p (stands_first s))) = stands_first (stands_more p s)
  fold_stands (stands_left (stands_second p (stands_second s u))) = stands_second (reads_more p s) u
  fold_stands (stands_right (stands_where e s)) = stands_second (reads_end e) s

  fold_deep : {r : List Lexeme} → Deep rules turns ts r → Deep rules (bind (many c f n a) q) ts r
  unfolding turns
  fold_deep (deep_left (deep_first p)) = deep_first (deep_part p)
  fold_deep (deep_left (deep_second p (deep_first s))) = deep_first (deep_more p s)
  fold_deep (deep_left (deep_second p (deep_second s u))) = deep_second (reads_more p s) u
  fold_deep (deep_right (deep_where e s)) = deep_second (reads_end e) s

  back_deep : {r : List Lexeme} → Deep rules (bind (many c f n a) q) ts r → Deep rules turns ts r
  unfolding turns
  back_deep (deep_first (deep_part p)) = deep_left (deep_first p)
  back_deep (deep_first (deep_more p s)) = deep_left (deep_second p (deep_first s))
  back_deep (deep_second (reads_end e) s) = deep_right (deep_where e s)
  back_deep (deep_second (reads_more p s) u) = deep_left (deep_second p (deep_second s u))

  module _ (starts : Stands rules (q a) ts ts) where
    back_stands : {r : List Lexeme} → Stands rules (bind (many c f n a) q) ts r → Stands rules turns ts r
    unfolding turns
    back_stands (stands_first (stands_end e)) = stands_right (stands_where e starts)
    back_stands (stands_first (stands_part p)) = stands_left (stands_first p)
    back_stands (stands_first (stands_more p s)) = stands_left (stands_second p (stands_first s))
    back_stands (stands_second (reads_end e) s) = stands_right (stands_where e s)
    back_stands (stands_second (reads_more p s) u) = stands_left (stands_second p (stands_second s u))

    by_turns : (o : Out Lexeme Tree) → Outcome turns ts o → Outcome (bind (many c f n a) q) ts o
    by_turns o = same_outcome turns (bind (many c f n a) q) ts o (record { reads = fold_reads; reads_back = back_reads; stands = fold_stands; stands_back = back_stands; deep = fold_deep; deep_back = back_deep })

    -- they end, where a reading that goes on stands no further than what follows
    ends_with : (o : Out Lexeme Tree) (left : ℕ) (r : List Lexeme) → c ts ≡ true → Outcome (bind (f n a) (λ b. bind (many c f (suc n) b) q)) ts (unexpected left) → length r ≤ left → Stands rules (q a) ts r → Outcome (q a) ts o → Outcome (bind (many c f n a) q) ts o
    unfolding turns
    ends_with o left r e p le s u = by_turns o (either_right (bind (f n a) (λ b. bind (many c f (suc n) b) q)) (only_where c (q a)) ts o (length r) (where_yes c (q a) ts o e u) behind (stands_reaches (q a) ts r o s u))
      where
        behind : Adds rules (bind (f n a) (λ b. bind (many c f (suc n) b) q)) ts (length r)
        behind = record { none = p.ends.none; farthest = λ x y. omega (arith, p.ends.farthest x y, le); shallow = p.ends.shallow }

  -- they go on, and all that follows is read after them
  more_reads : {v : Tree} {r : List Lexeme} → Reads rules (bind (f n a) (λ b. bind (many c f (suc n) b) q)) ts v r → Reads rules (bind (many c f n a) q) ts v r
  more_reads (reads_bind p (reads_bind s u)) = reads_bind (reads_more p s) u

  more_stands : {r : List Lexeme} → Stands rules (bind (f n a) (λ b. bind (many c f (suc n) b) q)) ts r → Stands rules (bind (many c f n a) q) ts r
  more_stands (stands_first p) = stands_first (stands_part p)
  more_stands (stands_second p (stands_first s)) = stands_first (stands_more p s)
  more_stands (stands_second p (stands_second s u)) = stands_second (reads_more p s) u

  more_deep : {r : List Lexeme} → Deep rules (bind (f n a) (λ b. bind (many c f (suc n) b) q)) ts r → Deep rules (bind (many c f n a) q) ts r
  more_deep (deep_first p) = deep_first (deep_part p)
  more_deep (deep_second p (deep_first s)) = deep_first (deep_more p s)
  more_deep (deep_second p (deep_second s u)) = deep_second (reads_more p s) u

  module _ (e : c ts ≡ false) where
    more_back : {v : Tree} {r : List Lexeme} → Reads rules (bind (many c f n a) q) ts v r → Reads rules (bind (f n a) (λ b. bind (many c f (suc n) b) q)) ts v r
    more_back (reads_bind (reads_more p s) u) = reads_bind p (reads_bind s u)
    more_back (reads_bind (reads_end h) s) = absurd cc

    more_stands_back : {r : List Lexeme} → Stands rules (bind (many c f n a) q) ts r → Stands rules (bind (f n a) (λ b. bind (many c f (suc n) b) q)) ts r
    more_stands_back (stands_first (stands_end h)) = absurd cc
    more_stands_back (stands_first (stands_part p)) = stands_first p
    more_stands_back (stands_first (stands_more p s)) = stands_second p (stands_first s)
    more_stands_back (stands_second (reads_end h) s) = absurd cc
    more_stands_back (stands_second (reads_more p s) u) = stands_second p (stands_second s u)

    more_deep_back : {r : List Lexeme} → Deep rules (bind (many c f n a) q) ts r → Deep rules (bind (f n a) (λ b. bind (many c f (suc n) b) q)) ts r
    more_deep_back (deep_first (deep_part p)) = deep_first p
    more_deep_back (deep_first (deep_more p s)) = deep_second p (deep_first s)
    more_deep_back (deep_second (reads_end h) s) = absurd cc
    more_deep_back (deep_second (reads_more p s) u) = deep_second p (deep_second s u)

    more_outcome : (o : Out Lexeme Tree) → Outcome (bind (f n a) (λ b. bind (many c f (suc n) b) q)) ts o → Outcome (bind (many c f n a) q) ts o
    more_outcome o = same_outcome (bind (f n a) (λ b. bind (many c f (suc n) b) q)) (bind (many c f n a) q) ts o (record { reads = more_reads; reads_back = more_back; stands = more_stands; stands_back = more_stands_back; deep = more_deep; deep_back = more_deep_back })

many_then : (c : List Lexeme → Bool) (f : ℕ → Tree → Gram) (n : ℕ) (a : Tree) (q : Tree → Gram) (ts : List Lexeme) (b : Tree) (mid : List Lexeme) (o : Out Lexeme Tree) → c ts ≡ false → Outcome (f n a) ts (got b mid (length mid)) → Outcome (bind (many c f (suc n) b) q) mid o → Outcome (bind (many c f n a) q) ts o
many_then c f n a q ts b mid o e p r = more_outcome c f n a q ts e o (seq p r)

-- ---- what follows the parts of a tuple

-- the options and a separator
then_sep : Tree → Gram
then_sep v = with_sep (with_options v)

options_start : (v : Tree) (ts : List Lexeme) → Stands rules (then_sep v) ts ts
unfolding then_sep
options_start v ts = stands_first (stands_first (stands_part (stands_first (stands_left (stands_first stands_before)))))

-- an option after a comma
comma_read : {ts us : List Lexeme} {v : Tree} → Takes (mark_of m.Comma) ts v us → Reads rules (skips (mark_of m.Comma) no_comma) ts empty us
comma_read {ts} {us} {v} e = subst (λ y. Reads rules (skips (mark_of m.Comma) no_comma) y empty us) (sym e.2) (reads_left (reads_bind (reads_token e.1) reads_gives))

option_stands : (v : Tree) {ts us : List Lexeme} {w : Tree} → Takes (mark_of m.Comma) ts w us → Label us → Stands rules (then_sep v) ts (after us)
unfolding then_sep
option_stands v {ts} {us} {w} e l = stands_first (stands_first (stands_part (stands_second (comma_read e) (stands_first (stands_first (stands_past (record { v = l.v; rest = after us; takes = l.name })))))))

-- nothing of it goes on with a colon
pub no_option_at : {ts : List Lexeme} → Plain ts → Outcome options ts (got empty ts (length ts))
no_option_at f = stops (and_true _ _ f.comma f.name) (seq (maybe_not f.comma (off f.comma)) (fails (off f.name)))
  where
    and_true : (a b : Bool) → a ≡ true → b ≡ true → a && b ≡ true
    and_true true b e h = h
    and_true false b e h = e

then_sep_misses : (v : Tree) {ts : List Lexeme} → Plain ts → Outcome (then_sep v) ts (unexpected (length ts))
unfolding then_sep
then_sep_misses v f = seq (seq (no_option_at f) ret) (fails (sep_misses f))

-- ---- a part that goes on with the name of an option

module _ (us : List Lexeme) (l : Label us) where
  no_expr : Outcome (rule (Expr 1 0)) (after us) (unexpected (length (after us)))
  no_expr = expr_misses 1 0 (after us) (ap not (before_colon l.colon).start)

  rest_is : {p : Kind} (c : Came p us) → Takes p us c.v (after us)
  rest_is {p} c = subst (λ r. Takes p us c.v r) (sym (ap after c.takes.2)) c.takes

  pub at_val : Came (word_of (codes "val")) us → Outcome output_value us (unexpected (length (after us)))
  at_val c = first_arm (seq (took_one (rest_is c)) (fails no_expr)) (second_arm (off (other_word (codes "val") (codes "path") refl c.takes)) (off (other_word (codes "val") (codes "stdout") refl c.takes)))

  pub at_path : Came (word_of (codes "path")) us → Outcome output_value us (unexpected (length (after us)))
  at_path c = second_arm (off (other_word (codes "path") (codes "val") refl c.takes)) (first_arm (seq (took_one (rest_is c)) (fails no_expr)) (off (other_word (codes "path") (codes "stdout") refl c.takes)))

  pub at_stdout : (c : Came (word_of (codes "stdout")) us) → Outcome output_value us (got (stdout (place_of c.v)) (after us) (length (after us)))
  at_stdout c = second_arm (off (other_word (codes "stdout") (codes "val") refl c.takes)) (second_arm (off (other_word (codes "stdout") (codes "path") refl c.takes)) (seq (took_one (rest_is c)) ret))

  module _ (p : Place) (n : ℕ) (acc v : Tree) (ts : List Lexeme) (e : Takes (mark_of m.Comma) ts v us) where
    then_more : Tree → Gram
    then_more b = bind (many outputs_end (comma_then output_value) (suc n) b) (λ xs. then_sep (tuple p xs))

    record Behind : Type 0 where
      left : ℕ
      le : length (after us) ≤ left
      fails_there : Outcome (bind (comma_then output_value n acc) then_more) ts (unexpected left)

    after_stdout : (c : Came (word_of (codes "stdout")) us) → Behind
    unfolding then_more
    after_stdout c =
        let f = before_colon l.colon in
        record {
          left = length (after us);
          le = omega arith;
          fails_there = seq (took refl e (seq (at_stdout c) ret)) (seq (stops (or_true _ _ f.comma) (off f.comma)) (then_sep_misses (tuple p (snoc acc (stdout (place_of c.v)))) f));
        }
      where
        or_true : (a b : Bool) → a ≡ true → a || b ≡ true
        or_true true b h = refl
        or_true false b h = absurd cc

    behind : Behind
    behind = at_first (no_next (word_of (codes "val")) us) refl
      where
        at_third : no_next (word_of (codes "val")) us ≡ true → no_next (word_of (codes "path")) us ≡ true → (b : Bool) → no_next (word_of (codes "stdout")) us ≡ b → Behind
        at_third g h true i = record { left = length us; le = after_le us; fails_there = fails (took refl e (fails (no_output_value us g h i))) }
        at_third g h false i = after_stdout (comes_next (word_of (codes "stdout")) us (ap not i))

        at_second : no_next (word_of (codes "val")) us ≡ true → (b : Bool) → no_next (word_of (codes "path")) us ≡ b → Behind
        at_second g false h = record { left = length (after us); le = omega arith; fails_there = fails (took refl e (fails (at_path (comes_next (word_of (codes "path")) us (ap not h))))) }
        at_second g true h = at_third g h (no_next (word_of (codes "stdout")) us) refl

        at_first : (b : Bool) → no_next (word_of (codes "val")) us ≡ b → Behind
        at_first false g = record { left = length (after us); le = omega arith; fails_there = fails (took refl e (fails (at_val (comes_next (word_of (codes "val")) us (ap not g))))) }
        at_first true g = at_second g (no_next (word_of (codes "path")) us) refl

    pub before_option : (o : Out Lexeme Tree) → outputs_end ts ≡ true → Outcome (with_sep (with_options (tuple p acc))) ts o → Outcome (bind (many outputs_end (comma_then output_value) n acc) (λ xs. with_sep (with_options (tuple p xs)))) ts o
    unfolding then_sep then_more
    before_option o h q = ends_with outputs_end (comma_then output_value) n acc (λ xs. then_sep (tuple p xs)) ts (options_start (tuple p acc) ts) o behind.left (after us) h behind.fails_there behind.le (option_stands (tuple p acc) e l) q

-- the parts end: no comma comes, or one before an option
pub tuple_ends : (p : Place) (n : ℕ) (acc : Tree) (ts : List Lexeme) (o : Out Lexeme Tree) → outputs_end ts ≡ true → Outcome (with_sep (with_options (tuple p acc))) ts o → Outcome (bind (many outputs_end (comma_then output_value) n acc) (λ xs. with_sep (with_options (tuple p xs)))) ts o
tuple_ends p n acc ts o h q = at_comma (no_next (mark_of m.Comma) ts) refl
  where
    label_next : no_next (mark_of m.Comma) ts ≡ false → labels (after ts) ≡ true
    label_next e = or_second _ _ e h
      where
        or_second : (a b : Bool) → a ≡ false → a || b ≡ true → b ≡ true
        or_second true b e h = absurd cc
        or_second false b e h = h

    at_comma : (b : Bool) → no_next (mark_of m.Comma) ts ≡ b → Outcome (bind (many outputs_end (comma_then output_value) n acc) (λ xs. with_sep (with_options (tuple p xs)))) ts o
    at_comma true e = seq (stops h (off e)) q
    at_comma false e =
        let c = comes_next (mark_of m.Comma) ts (ap not e) in
        before_option (after ts) (label_of (after ts) (label_next e)) p n acc c.v ts (subst (λ r. Takes (mark_of m.Comma) ts c.v r) (sym (ap after c.takes.2)) c.takes) o h q

-- ---- an output

module _ (ts : List Lexeme) (o : Out Lexeme Tree) where
  pub one_part : (v : Tree) (rest : List Lexeme) → no_next (word_of (codes "tuple")) ts ≡ true → Outcome output_value ts (got v rest (length rest)) → Outcome (with_sep (with_options v)) rest o → Outcome (with_sep (rule Output)) ts o
  unfolding rules
  one_part v rest e p q = rule_first (grouped (arms_first output_value (tuple_of output_value outputs_end) (λ w. with_sep (with_options w)) ts o (first_arm (seq p q) (fails (off e)))))

  pub part_stops : IsStop o → no_next (word_of (codes "tuple")) ts ≡ true → Outcome output_value ts o → Outcome (with_sep (rule Output)) ts o
  unfolding rules
  part_stops s e p = rule_first (grouped (arms_first output_value (tuple_of output_value outputs_end) (λ w. with_sep (with_options w)) ts o (first_arm (stop o s p) (fails (off e)))))

  pub as_tuple : (v : Tree) (rest : List Lexeme) → Takes (word_of (codes "tuple")) ts v rest → Outcome (tuple_end (place_of v)) rest o → Outcome (with_sep (rule Output)) ts o
  unfolding rules
  as_tuple v rest e p = rule_first (grouped (arms_first output_value (tuple_of output_value outputs_end) (λ w. with_sep (with_options w)) ts o (second_arm (fails no_part) (grouped (took refl e (made p))))))
    where
      no_part : Outcome output_value ts (unexpected (length ts))
      no_part = no_output_value ts (other_word (codes "tuple") (codes "val") refl e) (other_word (codes "tuple") (codes "path") refl e) (other_word (codes "tuple") (codes "stdout") refl e)

-- ---- the parts and the options

-- a comma, and no option after it
abbrev Goes : List Lexeme → List Lexeme → Type 0
Goes ts us = (outputs_end ts ≡ false) × TakesComma ts us

pub comma_shorter : {ts us : List Lexeme} → Goes ts us → length us < length ts
comma_shorter e = omega (arith, ap length e.1.1.2)

pub tuple_stops : (p : Place) (n : ℕ) (acc : Tree) (ts us : List Lexeme) (u : Unit {0}) → Goes ts us → (o : Out Lexeme Tree) → IsStop o → Outcome output_value us o → Outcome (bind (many outputs_end (comma_then output_value) n acc) (λ xs. with_sep (with_options (tuple p xs)))) ts o
tuple_stops p n acc ts us u e o s q = stop o s (part_stop o s e.0 (took refl e.1.1 (stop o s q)))

pub tuple_goes : (p : Place) (n : ℕ) (acc : Tree) (ts us : List Lexeme) → Goes ts us → (b : Tree) (rest : List Lexeme) (o : Out Lexeme Tree) → Outcome output_value us (got b rest (length rest)) → Outcome (bind (many outputs_end (comma_then output_value) (suc n) (snoc acc b)) (λ xs. with_sep (with_options (tuple p xs)))) rest o → Outcome (bind (many outputs_end (comma_then output_value) n acc) (λ xs. with_sep (with_options (tuple p xs)))) ts o
tuple_goes p n acc ts us e b rest o q r = many_then outputs_end (comma_then output_value) n acc (λ xs. with_sep (with_options (tuple p xs))) ts (snoc acc b) rest o e.0 (took refl e.1.1 (seq q ret)) r

pub no_option_end : (n : ℕ) (acc : Tree) (ts : List Lexeme) → no_option ts ≡ true → Outcome (many no_option option_next n acc) ts (got acc ts (length ts))
no_option_end n acc ts e =
    let b = both_miss (no_next (mark_of m.Comma) ts) (no_next name_of ts) e in
    stops e (seq (maybe_not b.0 (off b.0)) (fails (off b.1)))
