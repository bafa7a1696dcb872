-- Whether a list or a map stands after a bracket.
use Rattle.std.proofs.Common.{◌≡◌, ℕ, Bool, true, false, List, [], ◌∷◌, length, Some, None, refl, sym, subst, ap, ◌∙◌, if◌then◌else◌, rules}
use Rattle.std.specs.Prelude.{not, ◌&&◌, ◌||◌}
use denote.Enum.Bare.{same_true}
use Rattle.nf_value.specs.declared.place.Place.{Place}
use Rattle.nf_token.specs.contracts.token.Mark.{the_type}
use Rattle.nf_token.specs.declared.token.Mark.{Mark}
use Rattle.nf_token.specs.declared.token.Mark.TheVariants as m
use Rattle.nf_token.specs.declared.token.PlainKind.{PlainKind}
use Rattle.nf_token.specs.declared.token.TemplateKind.{TemplateKind}
use Rattle.nf_token.specs.declared.token.Token.{Token}
use Rattle.nf_token.specs.declared.token.Token.TheVariants as t
use Rattle.nf_token.specs.declared.token.Lexeme.{Lexeme}
use Rattle.nf_grammar.specs.Gram.{rule, either, ◌>>=◌}
use Rattle.nf_grammar.specs.Parts.{no_next, none_of}
use Rattle.nf_grammar.specs.Reads.{stands_first, stands_second, stands_left, stands_right, stands_rule, stands_after, stands_part, reads_token, reads_bind, reads_left, reads_gives, reads_more, reads_end}
use Rattle.nf_grammar.specs.Outcome.{Out, got, unexpected}
use Rattle.nf_grammar.proofs.Outcomes.{arms_first, either_left, either_right, adds_unexpected, stands_reaches, reaches_all, reads_stands, Reaches}
use Rattle.nf_grammar.proofs.Short.{ret, takes, misses, seq, fails, off, first_arm, second_arm, ruled, stops, goes, maybe_not, maybe_is}
use Rattle.nf_ast.specs.Tree as tree
use Rattle.nf_ast.specs.Tree.{Tree, empty, cons, point, snoc}
use Rattle.nf_exprs.specs.Level.{Pair, Prim}
use Rattle.nf_exprs.specs.Tokens.{Kind, same_mark, mark_at, mark_of, name_of, plain, open_template, close_template_at, close_template, template_text_at, template_text, colon, no_start, is_next, after, pair_next, closes_template, prefix_operator}
use Rattle.nf_exprs.specs.Rules.{squared, items, pairs, no_pairs, key, template_of, plain_template, pieces, ended_by_comma}
use Rattle.nf_exprs.specs.Rules as row
use Rattle.nf_exprs.specs.Parses.{Outcome}
use Rattle.nf_exprs.proofs.Are.{lexeme}
use Rattle.nf_exprs.proofs.Chains.{MarkAt}
use Rattle.nf_exprs.proofs.Literals.{closing, piece_misses, no_comma_ends}
use Rattle.nf_exprs.proofs.Whole.{Silent, silent_at_colon, expr_of_prim, expr_stands, Stands}

-- ---- the token that comes, by a test

there_at : (a : Mark) (x : Token) (p : Place) → none_of (mark_at a x p) ≡ false → x ≡ t.Mark a
there_at a (t.Mark w) p e = by_same (same_mark w a) refl e
  where
    by_same : (b : Bool) → same_mark w a ≡ b → none_of (if b then Some (point p) else None) ≡ false → t.Mark w ≡ t.Mark a
    by_same true s f = ap (λ z. t.Mark z) (same_true the_type (search rules) w a s)
    by_same false s f = absurd cc
there_at a (t.Name n) p e = absurd cc
there_at a (t.Keyword w) p e = absurd cc
there_at a (t.Number n) p e = absurd cc
there_at a (t.Plain q s) p e = absurd cc
there_at a (t.Pattern s) p e = absurd cc
there_at a (t.OpenTemplate q) p e = absurd cc
there_at a (t.TemplateText s) p e = absurd cc
there_at a t.OpenHole p e = absurd cc
there_at a t.CloseHole p e = absurd cc
there_at a (t.CloseTemplate q) p e = absurd cc
there_at a t.Separator p e = absurd cc

comes_false : (b : Bool) → not b ≡ true → b ≡ false
comes_false true e = absurd cc
comes_false false e = refl

not_there : (b : Bool) → not b ≡ false → b ≡ true
not_there true e = refl
not_there false e = absurd cc

pub mark_there : (a : Mark) (ts : List Lexeme) → is_next (mark_of a) ts ≡ true → MarkAt a ts
mark_there a [] e = absurd cc
mark_there a (x ∷ ts) e = record { place = x.place; rest = ts; is = ap (λ z. lexeme z x.place ∷ ts) (there_at a x.token x.place (comes_false (none_of (mark_of a x)) e)) }

record TextAt (ts : List Lexeme) : Type 0 where
  text : List ℕ
  place : Place
  rest : List Lexeme
  is : ts ≡ lexeme (t.TemplateText text) place ∷ rest

text_at : (x : Token) (p : Place) (ts : List Lexeme) → none_of (template_text_at x p) ≡ false → TextAt (lexeme x p ∷ ts)
text_at (t.TemplateText s) p ts e = record { text = s; place = p; rest = ts; is = refl }
text_at (t.Name n) p ts e = absurd cc
text_at (t.Keyword w) p ts e = absurd cc
text_at (t.Number n) p ts e = absurd cc
text_at (t.Plain q s) p ts e = absurd cc
text_at (t.Pattern s) p ts e = absurd cc
text_at (t.OpenTemplate q) p ts e = absurd cc
text_at t.OpenHole p ts e = absurd cc
text_at t.CloseHole p ts e = absurd cc
text_at (t.CloseTemplate q) p ts e = absurd cc
text_at (t.Mark w) p ts e = absurd cc
text_at t.Separator p ts e = absurd cc

text_there : (ts : List Lexeme) → is_next template_text ts ≡ true → TextAt ts
text_there [] e = absurd cc
text_there (x ∷ ts) e = text_at x.token x.place ts (comes_false (none_of (template_text x)) e)

record CloseAt (ts : List Lexeme) : Type 0 where
  kind : TemplateKind
  place : Place
  rest : List Lexeme
  is : ts ≡ lexeme (t.CloseTemplate kind) place ∷ rest

close_at : (x : Token) (p : Place) (ts : List Lexeme) → none_of (close_template_at x p) ≡ false → CloseAt (lexeme x p ∷ ts)
close_at (t.CloseTemplate q) p ts e = record { kind = q; place = p; rest = ts; is = refl }
close_at (t.Name n) p ts e = absurd cc
close_at (t.Keyword w) p ts e = absurd cc
close_at (t.Number n) p ts e = absurd cc
close_at (t.Plain q s) p ts e = absurd cc
close_at (t.Pattern s) p ts e = absurd cc
close_at (t.OpenTemplate q) p ts e = absurd cc
close_at (t.TemplateText s) p ts e = absurd cc
close_at t.OpenHole p ts e = absurd cc
close_at t.CloseHole p ts e = absurd cc
close_at (t.Mark w) p ts e = absurd cc
close_at t.Separator p ts e = absurd cc

close_there : (ts : List Lexeme) → is_next close_template ts ≡ true → CloseAt ts
close_there [] e = absurd cc
close_there (x ∷ ts) e = close_at x.token x.place ts (comes_false (none_of (close_template x)) e)

both_left : (a b : Bool) → a && b ≡ true → a ≡ true
both_left true b e = refl
both_left false b e = absurd cc

both_right : (a b : Bool) → a && b ≡ true → b ≡ true
both_right true b e = e
both_right false b e = absurd cc

or_nothing : (b : Bool) → b || false ≡ b
or_nothing true = refl
or_nothing false = refl

-- ---- a key, which is also an expression

record KeyAt (d : ℕ) (ts : List Lexeme) : Type 0 where
  rest : List Lexeme
  at_colon : MarkAt m.Colon rest
  expr : Tree
  prim : Outcome (rule (Prim d)) ts (got expr rest (length rest))
  name : Tree
  key : Outcome row.key ts (got name rest (length rest))
  prefix : no_next prefix_operator ts ≡ true
  colon : no_next colon ts ≡ true
  start : no_start ts ≡ false

name_key : (d : ℕ) (n : List ℕ) (p : Place) (us : List Lexeme) → MarkAt m.Colon us → KeyAt d (lexeme (t.Name n) p ∷ us)
unfolding row.rules
name_key d n p us k = record { rest = us; at_colon = k; expr = tree.name p n; prim = ruled (first_arm (takes refl refl) (second_arm (off refl) (second_arm (off refl) (second_arm (off refl) (off refl))))); name = tree.name p n; key = first_arm (takes refl refl) (second_arm (misses refl) (off refl)); prefix = refl; colon = refl; start = refl }

text_key : (d : ℕ) (q : PlainKind) (s : List ℕ) (p : Place) (us : List Lexeme) → MarkAt m.Colon us → KeyAt d (lexeme (t.Plain q s) p ∷ us)
unfolding row.rules
text_key d q s p us k = record { rest = us; at_colon = k; expr = tree.text p q s; prim = ruled (first_arm (takes refl refl) (second_arm (off refl) (second_arm (off refl) (second_arm (off refl) (off refl))))); name = tree.text p q s; key = second_arm (misses refl) (first_arm (takes refl refl) (off refl)); prefix = refl; colon = refl; start = refl }

-- at the opening of a template
prim_at_template : (d : ℕ) (q : TemplateKind) (p : Place) (us : List Lexeme) (o : Out Lexeme Tree) → Outcome (template_of d) (lexeme (t.OpenTemplate q) p ∷ us) o → Outcome (rule (Prim d)) (lexeme (t.OpenTemplate q) p ∷ us) o
unfolding row.rules
prim_at_template d q p us o e = ruled (second_arm (misses refl) (first_arm e (second_arm (off refl) (second_arm (off refl) (off refl)))))

key_at_template : (q : TemplateKind) (p : Place) (us : List Lexeme) (o : Out Lexeme Tree) → Outcome plain_template (lexeme (t.OpenTemplate q) p ∷ us) o → Outcome row.key (lexeme (t.OpenTemplate q) p ∷ us) o
key_at_template q p us o e = second_arm (misses refl) (second_arm (misses refl) e)

empty_key : (d : ℕ) (q q' : TemplateKind) (p p' : Place) (us : List Lexeme) → MarkAt m.Colon us → KeyAt d (lexeme (t.OpenTemplate q) p ∷ lexeme (t.CloseTemplate q') p' ∷ us)
empty_key d q q' p p' us k = record {
  rest = us;
  at_colon = k;
  expr = tree.template p q empty;
  prim = prim_at_template d q p (lexeme (t.CloseTemplate q') p' ∷ us) (got (tree.template p q empty) us (length us)) (seq (takes refl refl) (seq (stops refl (fails (piece_misses d (lexeme (t.CloseTemplate q') p' ∷ us) refl refl))) (seq (takes refl refl) ret)));
  name = tree.template p q empty;
  key = key_at_template q p (lexeme (t.CloseTemplate q') p' ∷ us) (got (tree.template p q empty) us (length us)) (seq (takes refl refl) (seq (maybe_not refl (off refl)) (seq (takes refl refl) ret)));
  prefix = refl;
  colon = refl;
  start = refl;
}

full_key : (d : ℕ) (q q' : TemplateKind) (s : List ℕ) (p r p' : Place) (us : List Lexeme) → MarkAt m.Colon us → KeyAt d (lexeme (t.OpenTemplate q) p ∷ lexeme (t.TemplateText s) r ∷ lexeme (t.CloseTemplate q') p' ∷ us)
full_key d q q' s p r p' us k =
    let tail : List Lexeme = lexeme (t.TemplateText s) r ∷ lexeme (t.CloseTemplate q') p' ∷ us in
    record {
      rest = us;
      at_colon = k;
      expr = tree.template p q (cons (tree.piece r s) empty);
      prim = prim_at_template d q p tail (got (tree.template p q (cons (tree.piece r s) empty)) us (length us)) (seq (takes refl refl) (seq (goes refl (seq (first_arm (takes refl refl) (off refl)) ret) (stops refl (fails (piece_misses d (lexeme (t.CloseTemplate q') p' ∷ us) refl refl)))) (seq (takes refl refl) ret)));
      name = tree.template p q (cons (tree.piece r s) empty);
      key = key_at_template q p tail (got (tree.template p q (cons (tree.piece r s) empty)) us (length us)) (seq (takes refl refl) (seq (maybe_is refl (seq (takes refl refl) ret)) (seq (takes refl refl) ret)));
      prefix = refl;
      colon = refl;
      start = refl;
    }

moved : {d : ℕ} {ts us : List Lexeme} → ts ≡ us → KeyAt d us → KeyAt d ts
moved {d} {ts} {us} e k = subst (KeyAt d) (sym e) k

closed_key : (d : ℕ) (q : TemplateKind) (p : Place) (us : List Lexeme) (b : Bool) → is_next template_text us ≡ b → (if b then closes_template (after us) else closes_template us) ≡ true → KeyAt d (lexeme (t.OpenTemplate q) p ∷ us)
closed_key d q p us true e f =
    let x = text_there us e in
    let g : closes_template x.rest ≡ true = subst (λ l. closes_template (after l) ≡ true) x.is f in
    let y = close_there x.rest (both_left (is_next close_template x.rest) (is_next colon (after x.rest)) g) in
    let h : is_next colon y.rest ≡ true = subst (λ l. is_next colon (after l) ≡ true) y.is (both_right (is_next close_template x.rest) (is_next colon (after x.rest)) g) in
    moved (ap (λ l. lexeme (t.OpenTemplate q) p ∷ l) (x.is ∙ ap (λ l. lexeme (t.TemplateText x.text) x.place ∷ l) y.is)) (full_key d q y.kind x.text p x.place y.place y.rest (mark_there m.Colon y.rest h))
closed_key d q p us false e f =
    let y = close_there us (both_left (is_next close_template us) (is_next colon (after us)) f) in
    let h : is_next colon y.rest ≡ true = subst (λ l. is_next colon (after l) ≡ true) y.is (both_right (is_next close_template us) (is_next colon (after us)) f) in
    moved (ap (λ l. lexeme (t.OpenTemplate q) p ∷ l) y.is) (empty_key d q y.kind p y.place y.rest (mark_there m.Colon y.rest h))

key_at : (d : ℕ) (x : Token) (p : Place) (us : List Lexeme) → pair_next (lexeme x p ∷ us) ≡ true → KeyAt d (lexeme x p ∷ us)
key_at d (t.Name n) p us e = name_key d n p us (mark_there m.Colon us (sym (or_nothing (is_next colon us)) ∙ e))
key_at d (t.Plain q s) p us e = text_key d q s p us (mark_there m.Colon us (sym (or_nothing (is_next colon us)) ∙ e))
key_at d (t.OpenTemplate q) p us e = closed_key d q p us (is_next template_text us) refl e
key_at d (t.Keyword w) p us e = absurd cc
key_at d (t.Number n) p us e = absurd cc
key_at d (t.Pattern s) p us e = absurd cc
key_at d (t.TemplateText s) p us e = absurd cc
key_at d t.OpenHole p us e = absurd cc
key_at d t.CloseHole p us e = absurd cc
key_at d (t.CloseTemplate q) p us e = absurd cc
key_at d (t.Mark w) p us e = absurd cc
key_at d t.Separator p us e = absurd cc

key_there : (d : ℕ) (ts : List Lexeme) → pair_next ts ≡ true → KeyAt d ts
key_there d [] e = absurd cc
key_there d (x ∷ ts) e = key_at d x.token x.place ts e

-- at a key and a colon
pub square_pairs : (d : ℕ) (p : Place) (ts : List Lexeme) (o : Out Lexeme Tree) → pair_next ts ≡ true → Outcome (pairs d p >>= closing) ts o → Outcome (squared d p) ts o
unfolding row.rules
square_pairs d p ts o e q =
    let k = key_there d ts e in
    let no : (x : Kind) → no_next x (lexeme (t.Mark m.Colon) k.at_colon.place ∷ k.at_colon.rest) ≡ true → no_next x k.rest ≡ true = λ x f. subst (λ l. no_next x l ≡ true) (sym k.at_colon.is) f in
    let silent : Silent k.rest = subst Silent (sym k.at_colon.is) (silent_at_colon k.at_colon.place k.at_colon.rest) in
    let comma = no (mark_of m.Comma) refl in
    let item : Outcome (items d p) ts (got (tree.list p (cons k.expr empty)) k.rest (length k.rest)) = seq (maybe_is k.start (seq (seq (expr_of_prim d ts k.rest k.expr k.prefix silent k.prim 0) (stops (no_comma_ends k.rest comma) (off comma))) (seq (maybe_not comma (off comma)) ret))) ret in
    let first : Outcome (items d p >>= closing) ts (unexpected (length k.rest)) = seq item (off (no (mark_of m.CloseSquare) refl)) in
    let rest : Outcome (either (pairs d p) (no_pairs p) >>= closing) ts o = arms_first (pairs d p) (no_pairs p) closing ts o (first_arm q (fails (off k.colon))) in
    let stands : Stands (either (pairs d p) (no_pairs p) >>= closing) ts k.rest = stands_first (stands_left (stands_first (stands_first (stands_first (stands_rule (stands_first (reads_stands k.key.ends.reads))))))) in
    arms_first (items d p) (either (pairs d p) (no_pairs p)) closing ts o (either_right (items d p >>= closing) (either (pairs d p) (no_pairs p) >>= closing) ts o (length k.rest) rest (adds_unexpected (items d p >>= closing) ts (length k.rest) first) (stands_reaches (either (pairs d p) (no_pairs p) >>= closing) ts k.rest o stands rest))

-- ---- where no key with a colon comes

-- where the pairs of a map go wrong, and an item of a list stands as far
record NoPairs (d : ℕ) (p : Place) (ts : List Lexeme) : Type 0 where
  far : ℕ
  fails : Outcome (pairs d p >>= closing) ts (unexpected far)
  reaches : (o : Out Lexeme Tree) → Outcome (items d p >>= closing) ts o → Reaches o far

pairs_stop : (d : ℕ) (p : Place) (ts : List Lexeme) (left : ℕ) → Outcome (row.rules (Pair d)) ts (unexpected left) → Outcome (pairs d p >>= closing) ts (unexpected left)
pairs_stop d p ts left q = fails (fails (fails (fails (ruled q))))

-- a reading of the first item
item_stands : (d : ℕ) (p : Place) (ts r : List Lexeme) → Stands (rule (Prim d)) ts r → Stands (items d p >>= closing) ts r
item_stands d p ts r s = stands_first (stands_first (stands_left (stands_first (stands_first (expr_stands 0 s)))))

as_far : (d : ℕ) (p : Place) (ts r : List Lexeme) → Outcome (row.rules (Pair d)) ts (unexpected (length r)) → Stands (rule (Prim d)) ts r → NoPairs d p ts
as_far d p ts r q s = record { far = length r; fails = pairs_stop d p ts (length r) q; reaches = λ o g. stands_reaches (items d p >>= closing) ts r o (item_stands d p ts r s) g }

-- nothing of a key comes
no_key : (d : ℕ) (p : Place) (ts : List Lexeme) → no_next name_of ts ≡ true → no_next plain ts ≡ true → no_next open_template ts ≡ true → NoPairs d p ts
unfolding row.rules
no_key d p ts e f g = record { far = length ts; fails = pairs_stop d p ts (length ts) (fails (second_arm (misses e) (second_arm (misses f) (off g)))); reaches = λ o q. reaches_all (items d p >>= closing) ts o q }

not_next : (p : Kind) (ts : List Lexeme) → is_next p ts ≡ false → no_next p ts ≡ true
not_next p ts e = not_there (no_next p ts) e

-- after the text, if there is one
unclosed : (d : ℕ) (p : Place) (q : TemplateKind) (r : Place) (us : List Lexeme) (b c : Bool) → is_next template_text us ≡ false → is_next close_template us ≡ b → is_next colon (after us) ≡ c → b && c ≡ false → NoPairs d p (lexeme (t.OpenTemplate q) r ∷ us)
unfolding row.rules
unclosed d p q r us false c e f g h = as_far d p (lexeme (t.OpenTemplate q) r ∷ us) us (fails (key_at_template q r us (unexpected (length us)) (seq (takes refl refl) (seq (maybe_not (not_next template_text us e) (off (not_next template_text us e))) (off (not_next close_template us f)))))) (stands_rule (stands_right (stands_left (stands_first (stands_after refl)))))
unclosed d p q r us true true e f g h = absurd cc
unclosed d p q r us true false e f g h =
    let y = close_there us f in
    let i : is_next colon y.rest ≡ false = subst (λ l. is_next colon (after l) ≡ false) y.is g in
    subst (λ l. NoPairs d p (lexeme (t.OpenTemplate q) r ∷ l)) (sym y.is) (ended y.kind y.place y.rest (not_next colon y.rest i))
  where
    ended : (k : TemplateKind) (z : Place) (vs : List Lexeme) → no_next colon vs ≡ true → NoPairs d p (lexeme (t.OpenTemplate q) r ∷ lexeme (t.CloseTemplate k) z ∷ vs)
    ended k z vs i = as_far d p (lexeme (t.OpenTemplate q) r ∷ lexeme (t.CloseTemplate k) z ∷ vs) vs (seq (key_at_template q r (lexeme (t.CloseTemplate k) z ∷ vs) (got (tree.template r q empty) vs (length vs)) (seq (takes refl refl) (seq (maybe_not refl (off refl)) (seq (takes refl refl) ret)))) (off i)) (stands_rule (stands_right (stands_left (stands_second (reads_token refl) (stands_second (reads_end refl) (stands_first (stands_after refl)))))))

unclosed_text : (d : ℕ) (p : Place) (q : TemplateKind) (r : Place) (s : List ℕ) (z : Place) (us : List Lexeme) (b c : Bool) → is_next close_template us ≡ b → is_next colon (after us) ≡ c → b && c ≡ false → NoPairs d p (lexeme (t.OpenTemplate q) r ∷ lexeme (t.TemplateText s) z ∷ us)
unfolding row.rules
unclosed_text d p q r s z us false c f g h = as_far d p (lexeme (t.OpenTemplate q) r ∷ lexeme (t.TemplateText s) z ∷ us) us (fails (key_at_template q r (lexeme (t.TemplateText s) z ∷ us) (unexpected (length us)) (seq (takes refl refl) (seq (maybe_is refl (seq (takes refl refl) ret)) (off (not_next close_template us f)))))) (stands_rule (stands_right (stands_left (stands_second (reads_token refl) (stands_first (stands_part (stands_first (stands_left (stands_after refl)))))))))
unclosed_text d p q r s z us true true f g h = absurd cc
unclosed_text d p q r s z us true false f g h =
    let y = close_there us f in
    let i : is_next colon y.rest ≡ false = subst (λ l. is_next colon (after l) ≡ false) y.is g in
    subst (λ l. NoPairs d p (lexeme (t.OpenTemplate q) r ∷ lexeme (t.TemplateText s) z ∷ l)) (sym y.is) (ended y.kind y.place y.rest (not_next colon y.rest i))
  where
    ended : (k : TemplateKind) (w : Place) (vs : List Lexeme) → no_next colon vs ≡ true → NoPairs d p (lexeme (t.OpenTemplate q) r ∷ lexeme (t.TemplateText s) z ∷ lexeme (t.CloseTemplate k) w ∷ vs)
    ended k w vs i = as_far d p (lexeme (t.OpenTemplate q) r ∷ lexeme (t.TemplateText s) z ∷ lexeme (t.CloseTemplate k) w ∷ vs) vs (seq (key_at_template q r (lexeme (t.TemplateText s) z ∷ lexeme (t.CloseTemplate k) w ∷ vs) (got (tree.template r q (cons (tree.piece z s) empty)) vs (length vs)) (seq (takes refl refl) (seq (maybe_is refl (seq (takes refl refl) ret)) (seq (takes refl refl) ret)))) (off i)) (stands_rule (stands_right (stands_left (stands_second (reads_token refl) (stands_second (reads_more (reads_bind (reads_left (reads_token refl)) reads_gives) (reads_end refl)) (stands_first (stands_after refl)))))))

no_closed_key : (d : ℕ) (p : Place) (q : TemplateKind) (r : Place) (us : List Lexeme) (b : Bool) → is_next template_text us ≡ b → (if b then closes_template (after us) else closes_template us) ≡ false → NoPairs d p (lexeme (t.OpenTemplate q) r ∷ us)
no_closed_key d p q r us false e f = unclosed d p q r us (is_next close_template us) (is_next colon (after us)) e refl refl f
no_closed_key d p q r us true e f =
    let x = text_there us e in
    let g : closes_template x.rest ≡ false = subst (λ l. closes_template (after l) ≡ false) x.is f in
    subst (λ l. NoPairs d p (lexeme (t.OpenTemplate q) r ∷ l)) (sym x.is) (unclosed_text d p q r x.text x.place x.rest (is_next close_template x.rest) (is_next colon (after x.rest)) refl refl g)

no_pairs_at : (d : ℕ) (p : Place) (x : Token) (r : Place) (us : List Lexeme) → pair_next (lexeme x r ∷ us) ≡ false → NoPairs d p (lexeme x r ∷ us)
unfolding row.rules
no_pairs_at d p (t.Name n) r us e = as_far d p (lexeme (t.Name n) r ∷ us) us (seq (first_arm (takes refl refl) (second_arm (misses refl) (off refl))) (off (not_next colon us (sym (or_nothing (is_next colon us)) ∙ e)))) (stands_rule (stands_left (stands_after refl)))
no_pairs_at d p (t.Plain q s) r us e = as_far d p (lexeme (t.Plain q s) r ∷ us) us (seq (second_arm (misses refl) (first_arm (takes refl refl) (off refl))) (off (not_next colon us (sym (or_nothing (is_next colon us)) ∙ e)))) (stands_rule (stands_left (stands_after refl)))
no_pairs_at d p (t.OpenTemplate q) r us e = no_closed_key d p q r us (is_next template_text us) refl e
no_pairs_at d p (t.Keyword w) r us e = no_key d p (lexeme (t.Keyword w) r ∷ us) refl refl refl
no_pairs_at d p (t.Number n) r us e = no_key d p (lexeme (t.Number n) r ∷ us) refl refl refl
no_pairs_at d p (t.Pattern s) r us e = no_key d p (lexeme (t.Pattern s) r ∷ us) refl refl refl
no_pairs_at d p (t.TemplateText s) r us e = no_key d p (lexeme (t.TemplateText s) r ∷ us) refl refl refl
no_pairs_at d p t.OpenHole r us e = no_key d p (lexeme t.OpenHole r ∷ us) refl refl refl
no_pairs_at d p t.CloseHole r us e = no_key d p (lexeme t.CloseHole r ∷ us) refl refl refl
no_pairs_at d p (t.CloseTemplate q) r us e = no_key d p (lexeme (t.CloseTemplate q) r ∷ us) refl refl refl
no_pairs_at d p (t.Mark w) r us e = no_key d p (lexeme (t.Mark w) r ∷ us) refl refl refl
no_pairs_at d p t.Separator r us e = no_key d p (lexeme t.Separator r ∷ us) refl refl refl

no_pairs_there : (d : ℕ) (p : Place) (ts : List Lexeme) → pair_next ts ≡ false → NoPairs d p ts
no_pairs_there d p [] e = no_key d p [] refl refl refl
no_pairs_there d p (x ∷ ts) e = no_pairs_at d p x.token x.place ts e

pub square_items : (d : ℕ) (p : Place) (ts : List Lexeme) (o : Out Lexeme Tree) → no_next colon ts ≡ true → pair_next ts ≡ false → Outcome (items d p >>= closing) ts o → Outcome (squared d p) ts o
square_items d p ts o e f q =
    let k = no_pairs_there d p ts f in
    let rest : Outcome (either (pairs d p) (no_pairs p) >>= closing) ts (unexpected k.far) = arms_first (pairs d p) (no_pairs p) closing ts (unexpected k.far) (first_arm k.fails (fails (off e))) in
    arms_first (items d p) (either (pairs d p) (no_pairs p)) closing ts o (either_left (items d p >>= closing) (either (pairs d p) (no_pairs p) >>= closing) ts o k.far q (adds_unexpected (either (pairs d p) (no_pairs p) >>= closing) ts k.far rest) (k.reaches o q))
