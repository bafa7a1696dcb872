-- Statements.
use Rattle.std.proofs.Common.{◌≡◌, ℕ, suc, ◌≤◌, Bool, true, false, List, [], ◌∷◌, length, Some, None, Result, Ok, Err, refl, sym, subst, arith, ap, ◌∙◌, if◌then◌else◌}
use Rattle.std.specs.Prelude.{not, ◌&&◌, ◌||◌, codes, bytes_eq}
use Rattle.std.proofs.lemmas.Slice.Eq.{bytes_eq-Decides}
use Rattle.nf_value.specs.declared.place.Place.{Place}
use Rattle.nf_token.specs.declared.token.Mark.TheVariants as m
use Rattle.nf_token.specs.declared.token.Keyword.TheVariants as k
use Rattle.nf_token.specs.declared.token.Token.{Token}
use Rattle.nf_token.specs.declared.token.Token.TheVariants as t
use Rattle.nf_token.specs.declared.token.Lexeme.{Lexeme}
use Rattle.nf_grammar.specs.Gram.{rule, gives, many, either, only_where, ◌>>=◌}
use Rattle.nf_grammar.specs.Parts.{no_next, none_of}
use Rattle.nf_grammar.specs.Reads.{stands_first, stands_left, stands_right, stands_after, stands_where}
use Rattle.nf_grammar.specs.Outcome.{Out, got, unexpected, too_deep}
use Rattle.nf_grammar.proofs.Outcomes.{arms_first, many_ends, either_left, either_right, adds_unexpected, adds_where, adds_either, not_where, where_yes, stands_reaches, reaches_all, ruled_first}
use Rattle.nf_grammar.proofs.Short.{at, takes, seq, fails, off, first_arm, second_arm, ruled, stop, stops, maybe_is}
use Rattle.nf_ast.specs.Tree as tree
use Rattle.nf_ast.specs.Tree.{Tree, empty, point}
use Rattle.nf_exprs.specs.declared.fault.Fault.{Fault}
use Rattle.nf_exprs.specs.declared.fault.Fault.TheVariants.{Unexpected, TooDeep, Mem}
use Rattle.nf_exprs.specs.Level.{Expr, Prim, Body, Stmt, Choice, Gram}
use Rattle.nf_exprs.specs.Tokens.{Kind, mark_of, keyword_at, keyword_of, name_at, name_of, word_at, word_of, separator, starts_at, starts, stmt_starts_at, no_start, on_first, is_next, after, labels, assigns, prints, logs, at_end, body_ends}
use Rattle.nf_exprs.specs.Rules as row
use Rattle.nf_exprs.specs.Rules.{rules, sep, with_sep, defines, assigned, returned, print, log, plain_statement, separated}
use Rattle.nf_exprs.specs.Parses.{Outcome, Parses, ParsesThen, Takes, past_label}
use Rattle.nf_exprs.proofs.Are.{lexeme, a_keyword}
use Rattle.nf_exprs.proofs.Rows.{expr_misses}
use Rattle.nf_exprs.proofs.Labels.{both_left, not_true, past_label_yes, past_label_no}
use Rattle.nf_exprs.proofs.Squares.{mark_there}
use Rattle.nf_exprs.proofs.Whole.{Silent, silent_at_colon, silent_at_equals, expr_of_prim, name_stands, Stands}
use Rattle.nf_exprs.proofs.Steps.{Going, each}

and_false : (b : Bool) → b && false ≡ false
and_false true = refl
and_false false = refl

or_both : (a b : Bool) → a ≡ false → b ≡ false → not (a || b) ≡ true
or_both true b e f = absurd cc
or_both false b e f = ap not f

not_next : (p : Kind) (ts : List Lexeme) → is_next p ts ≡ false → no_next p ts ≡ true
not_next p ts e = not_there (no_next p ts) e
  where
    not_there : (b : Bool) → not b ≡ false → b ≡ true
    not_there true e = refl
    not_there false e = absurd cc

-- ---- expressions, and what is printed

pub plain_alone : (d : ℕ) (ts : List Lexeme) (o : Out Lexeme Tree) → prints ts ≡ false → logs ts ≡ false → Outcome (rule (Expr d 0)) ts o → Outcome (plain_statement d) ts o
plain_alone d ts o e f p = not_where e (not_where f (where_yes (λ l. not (prints l || logs l)) (rule (Expr d 0)) ts o (or_both (prints ts) (logs ts) e f) p))

plain_misses : (d : ℕ) (ts : List Lexeme) → prints ts ≡ false → logs ts ≡ false → no_start ts ≡ true → Outcome (plain_statement d) ts (unexpected (length ts))
plain_misses d ts e f g = plain_alone d ts (unexpected (length ts)) e f (expr_misses d 0 ts g)

pub plain_printed : (d : ℕ) (ts : List Lexeme) (o : Out Lexeme Tree) → prints ts ≡ true → logs ts ≡ false → Outcome (print d) ts o → Outcome (plain_statement d) ts o
plain_printed d ts o e f p = either_left (only_where prints (print d)) (either (only_where logs (log d)) (row.alone d)) ts o (length ts) (where_yes prints (print d) ts o e p) (adds_either (adds_where logs (log d) ts (length ts) f) (adds_where (λ l. not (prints l || logs l)) (rule (Expr d 0)) ts (length ts) (ap (λ b. not (b || logs ts)) e))) (reaches_all (only_where prints (print d)) ts o (where_yes prints (print d) ts o e p))

pub plain_logged : (d : ℕ) (ts : List Lexeme) (o : Out Lexeme Tree) → prints ts ≡ false → logs ts ≡ true → Outcome (log d) ts o → Outcome (plain_statement d) ts o
plain_logged d ts o e f p = not_where e (either_left (only_where logs (log d)) (row.alone d) ts o (length ts) (where_yes logs (log d) ts o f p) (adds_where (λ l. not (prints l || logs l)) (rule (Expr d 0)) ts (length ts) (ap (λ b. not (b || logs ts)) e ∙ ap not f)) (reaches_all (only_where logs (log d)) ts o (where_yes logs (log d) ts o f p)))

-- ---- by the first token

choice_misses : (d n : ℕ) (ts : List Lexeme) → no_next (keyword_of k.If) ts ≡ true → Outcome (rule (Choice d n)) ts (unexpected (length ts))
unfolding rules
choice_misses d n ts e = ruled (fails (off e))

-- at `def`, `return` and `if`
pub stmt_def : (d : ℕ) (ts us : List Lexeme) (q : Place) (o : Out Lexeme Tree) → Takes (keyword_of k.Def) ts (point q) us → Outcome (defines d) ts o → Outcome (rule (Stmt d)) ts o
unfolding rules
stmt_def d ts us q o e p =
    let is = a_keyword k.Def e in
    let no : (x : Kind) → no_next x (lexeme (t.Keyword k.Def) q ∷ us) ≡ true → no_next x ts ≡ true = λ x f. subst (λ l. no_next x l ≡ true) (sym is) f in
    let test : (c : List Lexeme → Bool) → c (lexeme (t.Keyword k.Def) q ∷ us) ≡ false → c ts ≡ false = λ c f. subst (λ l. c l ≡ false) (sym is) f in
    let start : no_start (lexeme (t.Keyword k.Def) q ∷ us) ≡ true → no_start ts ≡ true = λ f. subst (λ l. no_start l ≡ true) (sym is) f in
    ruled (first_arm p (second_arm (off (no name_of refl)) (second_arm (off (no (keyword_of k.Return) refl)) (second_arm (choice_misses d 1 ts (no (keyword_of k.If) refl)) (plain_misses d ts (test (λ l. prints l) refl) (test (λ l. logs l) refl) (start refl))))))

pub stmt_return : (d : ℕ) (ts us : List Lexeme) (q : Place) (o : Out Lexeme Tree) → Takes (keyword_of k.Return) ts (point q) us → Outcome (returned d) ts o → Outcome (rule (Stmt d)) ts o
unfolding rules
stmt_return d ts us q o e p =
    let is = a_keyword k.Return e in
    let no : (x : Kind) → no_next x (lexeme (t.Keyword k.Return) q ∷ us) ≡ true → no_next x ts ≡ true = λ x f. subst (λ l. no_next x l ≡ true) (sym is) f in
    let test : (c : List Lexeme → Bool) → c (lexeme (t.Keyword k.Return) q ∷ us) ≡ false → c ts ≡ false = λ c f. subst (λ l. c l ≡ false) (sym is) f in
    let start : no_start (lexeme (t.Keyword k.Return) q ∷ us) ≡ true → no_start ts ≡ true = λ f. subst (λ l. no_start l ≡ true) (sym is) f in
    ruled (second_arm (second_arm (off (no (keyword_of k.Def) refl)) (off (no (keyword_of k.Def) refl))) (second_arm (off (no name_of refl)) (first_arm p (second_arm (choice_misses d 1 ts (no (keyword_of k.If) refl)) (plain_misses d ts (test (λ l. prints l) refl) (test (λ l. logs l) refl) (start refl))))))

pub stmt_if : (d : ℕ) (ts us : List Lexeme) (q : Place) (o : Out Lexeme Tree) → Takes (keyword_of k.If) ts (point q) us → Outcome (rule (Choice d 1)) ts o → Outcome (rule (Stmt d)) ts o
unfolding rules
stmt_if d ts us q o e p =
    let is = a_keyword k.If e in
    let no : (x : Kind) → no_next x (lexeme (t.Keyword k.If) q ∷ us) ≡ true → no_next x ts ≡ true = λ x f. subst (λ l. no_next x l ≡ true) (sym is) f in
    let test : (c : List Lexeme → Bool) → c (lexeme (t.Keyword k.If) q ∷ us) ≡ false → c ts ≡ false = λ c f. subst (λ l. c l ≡ false) (sym is) f in
    let start : no_start (lexeme (t.Keyword k.If) q ∷ us) ≡ true → no_start ts ≡ true = λ f. subst (λ l. no_start l ≡ true) (sym is) f in
    ruled (second_arm (second_arm (off (no (keyword_of k.Def) refl)) (off (no (keyword_of k.Def) refl))) (second_arm (off (no name_of refl)) (second_arm (off (no (keyword_of k.Return) refl)) (first_arm p (plain_misses d ts (test (λ l. prints l) refl) (test (λ l. logs l) refl) (start refl))))))

-- at a name that no equals sign follows
module _ (d : ℕ) (n : List ℕ) (p : Place) (us : List Lexeme) (o : Out Lexeme Tree) where
  at_name : no_next (mark_of m.Equals) us ≡ true → Stands (plain_statement d) (lexeme (t.Name n) p ∷ us) us → Outcome (plain_statement d) (lexeme (t.Name n) p ∷ us) o → Outcome (rule (Stmt d)) (lexeme (t.Name n) p ∷ us) o
  unfolding rules
  at_name e s q =
      let later : Outcome (either (returned d) (either (rule (Choice d 1)) (plain_statement d))) (lexeme (t.Name n) p ∷ us) o = second_arm (off refl) (second_arm (choice_misses d 1 (lexeme (t.Name n) p ∷ us) refl) q) in
      ruled (second_arm (second_arm (off refl) (off refl)) (either_right (assigned d) (either (returned d) (either (rule (Choice d 1)) (plain_statement d))) (lexeme (t.Name n) p ∷ us) o (length us) later (adds_unexpected (assigned d) (lexeme (t.Name n) p ∷ us) (length us) (seq (takes refl refl) (off e))) (stands_reaches (plain_statement d) (lexeme (t.Name n) p ∷ us) us o s q)))

  alone_at_name : no_next (mark_of m.Equals) us ≡ true → prints (lexeme (t.Name n) p ∷ us) ≡ false → logs (lexeme (t.Name n) p ∷ us) ≡ false → Outcome (rule (Expr d 0)) (lexeme (t.Name n) p ∷ us) o → Outcome (rule (Stmt d)) (lexeme (t.Name n) p ∷ us) o
  alone_at_name e f g q = at_name e (stands_right (stands_right (stands_where (or_both (prints (lexeme (t.Name n) p ∷ us)) (logs (lexeme (t.Name n) p ∷ us)) f g) (name_stands d 0 n p us)))) (plain_alone d (lexeme (t.Name n) p ∷ us) o f g q)

no_equals : (n : List ℕ) (p : Place) (us : List Lexeme) → assigns (lexeme (t.Name n) p ∷ us) ≡ false → no_next (mark_of m.Equals) us ≡ true
no_equals n p us e = not_next (mark_of m.Equals) us e

alone_at : (d : ℕ) (x : Token) (p : Place) (us : List Lexeme) (o : Out Lexeme Tree) → no_next (keyword_of k.Def) (lexeme x p ∷ us) ≡ true → no_next (keyword_of k.Return) (lexeme x p ∷ us) ≡ true → no_next (keyword_of k.If) (lexeme x p ∷ us) ≡ true → assigns (lexeme x p ∷ us) ≡ false → prints (lexeme x p ∷ us) ≡ false → logs (lexeme x p ∷ us) ≡ false → Outcome (rule (Expr d 0)) (lexeme x p ∷ us) o → Outcome (rule (Stmt d)) (lexeme x p ∷ us) o
unfolding rules
alone_at d (t.Name n) p us o e f g h i j q = alone_at_name d n p us o (no_equals n p us h) i j q
alone_at d (t.Keyword w) p us o e f g h i j q = ruled (second_arm (second_arm (off e) (off e)) (second_arm (off refl) (second_arm (off f) (second_arm (choice_misses d 1 (lexeme (t.Keyword w) p ∷ us) g) (plain_alone d (lexeme (t.Keyword w) p ∷ us) o i j q)))))
alone_at d (t.Number n) p us o e f g h i j q = ruled (second_arm (second_arm (off e) (off e)) (second_arm (off refl) (second_arm (off f) (second_arm (choice_misses d 1 (lexeme (t.Number n) p ∷ us) g) (plain_alone d (lexeme (t.Number n) p ∷ us) o i j q)))))
alone_at d (t.Plain r s) p us o e f g h i j q = ruled (second_arm (second_arm (off e) (off e)) (second_arm (off refl) (second_arm (off f) (second_arm (choice_misses d 1 (lexeme (t.Plain r s) p ∷ us) g) (plain_alone d (lexeme (t.Plain r s) p ∷ us) o i j q)))))
alone_at d (t.Pattern s) p us o e f g h i j q = ruled (second_arm (second_arm (off e) (off e)) (second_arm (off refl) (second_arm (off f) (second_arm (choice_misses d 1 (lexeme (t.Pattern s) p ∷ us) g) (plain_alone d (lexeme (t.Pattern s) p ∷ us) o i j q)))))
alone_at d (t.OpenTemplate r) p us o e f g h i j q = ruled (second_arm (second_arm (off e) (off e)) (second_arm (off refl) (second_arm (off f) (second_arm (choice_misses d 1 (lexeme (t.OpenTemplate r) p ∷ us) g) (plain_alone d (lexeme (t.OpenTemplate r) p ∷ us) o i j q)))))
alone_at d (t.TemplateText s) p us o e f g h i j q = ruled (second_arm (second_arm (off e) (off e)) (second_arm (off refl) (second_arm (off f) (second_arm (choice_misses d 1 (lexeme (t.TemplateText s) p ∷ us) g) (plain_alone d (lexeme (t.TemplateText s) p ∷ us) o i j q)))))
alone_at d t.OpenHole p us o e f g h i j q = ruled (second_arm (second_arm (off e) (off e)) (second_arm (off refl) (second_arm (off f) (second_arm (choice_misses d 1 (lexeme t.OpenHole p ∷ us) g) (plain_alone d (lexeme t.OpenHole p ∷ us) o i j q)))))
alone_at d t.CloseHole p us o e f g h i j q = ruled (second_arm (second_arm (off e) (off e)) (second_arm (off refl) (second_arm (off f) (second_arm (choice_misses d 1 (lexeme t.CloseHole p ∷ us) g) (plain_alone d (lexeme t.CloseHole p ∷ us) o i j q)))))
alone_at d (t.CloseTemplate r) p us o e f g h i j q = ruled (second_arm (second_arm (off e) (off e)) (second_arm (off refl) (second_arm (off f) (second_arm (choice_misses d 1 (lexeme (t.CloseTemplate r) p ∷ us) g) (plain_alone d (lexeme (t.CloseTemplate r) p ∷ us) o i j q)))))
alone_at d (t.Mark w) p us o e f g h i j q = ruled (second_arm (second_arm (off e) (off e)) (second_arm (off refl) (second_arm (off f) (second_arm (choice_misses d 1 (lexeme (t.Mark w) p ∷ us) g) (plain_alone d (lexeme (t.Mark w) p ∷ us) o i j q)))))
alone_at d t.Separator p us o e f g h i j q = ruled (second_arm (second_arm (off e) (off e)) (second_arm (off refl) (second_arm (off f) (second_arm (choice_misses d 1 (lexeme t.Separator p ∷ us) g) (plain_alone d (lexeme t.Separator p ∷ us) o i j q)))))

pub stmt_alone : (d : ℕ) (ts : List Lexeme) (o : Out Lexeme Tree) → no_next (keyword_of k.Def) ts ≡ true → no_next (keyword_of k.Return) ts ≡ true → no_next (keyword_of k.If) ts ≡ true → assigns ts ≡ false → prints ts ≡ false → logs ts ≡ false → Outcome (rule (Expr d 0)) ts o → Outcome (rule (Stmt d)) ts o
unfolding rules
stmt_alone d [] o e f g h i j q = ruled (second_arm (second_arm (off e) (off e)) (second_arm (off refl) (second_arm (off f) (second_arm (choice_misses d 1 [] g) (plain_alone d [] o i j q)))))
stmt_alone d (x ∷ us) o e f g h i j q = alone_at d x.token x.place us o e f g h i j q

-- ---- at `println` and `log.name`

-- the word that comes
spelled : (w n : List ℕ) (p : Place) → none_of (word_at w (t.Name n) p) ≡ false → n ≡ w
spelled w n p e = by_same (bytes_eq n w) refl e
  where
    by_same : (b : Bool) → bytes_eq n w ≡ b → none_of (if b then Some (tree.name p w) else None) ≡ false → n ≡ w
    by_same true f g = (bytes_eq-Decides n w).0 f
    by_same false f g = absurd cc

record WordAt (w : List ℕ) (ts : List Lexeme) : Type 0 where
  place : Place
  rest : List Lexeme
  is : ts ≡ lexeme (t.Name w) place ∷ rest

word_there : (w : List ℕ) (x : Token) (p : Place) (us : List Lexeme) → none_of (word_at w x p) ≡ false → WordAt w (lexeme x p ∷ us)
word_there w (t.Name n) p us e = record { place = p; rest = us; is = ap (λ z. lexeme (t.Name z) p ∷ us) (spelled w n p e) }
word_there w (t.Keyword k) p us e = absurd cc
word_there w (t.Number n) p us e = absurd cc
word_there w (t.Plain q s) p us e = absurd cc
word_there w (t.Pattern s) p us e = absurd cc
word_there w (t.OpenTemplate q) p us e = absurd cc
word_there w (t.TemplateText s) p us e = absurd cc
word_there w t.OpenHole p us e = absurd cc
word_there w t.CloseHole p us e = absurd cc
word_there w (t.CloseTemplate q) p us e = absurd cc
word_there w (t.Mark x) p us e = absurd cc
word_there w t.Separator p us e = absurd cc

word_comes : (w : List ℕ) (ts : List Lexeme) → is_next (word_of w) ts ≡ true → WordAt w ts
word_comes w [] e = absurd cc
word_comes w (x ∷ us) e = word_there w x.token x.place us (not_true (none_of (word_of w x)) e)

abbrev pub println : List ℕ
println = codes "println"

abbrev pub log_word : List ℕ
log_word = codes "log"

pub stmt_printed : (d : ℕ) (ts : List Lexeme) (o : Out Lexeme Tree) → assigns ts ≡ false → prints ts ≡ true → Outcome (print d) ts o → Outcome (rule (Stmt d)) ts o
stmt_printed d ts o e f q =
    let w = word_comes println ts (both_left (is_next (word_of println) ts) (starts (after ts)) f) in
    let g : assigns (lexeme (t.Name println) w.place ∷ w.rest) ≡ false = subst (λ l. assigns l ≡ false) w.is e in
    let h : prints (lexeme (t.Name println) w.place ∷ w.rest) ≡ true = subst (λ l. prints l ≡ true) w.is f in
    let r : Outcome (print d) (lexeme (t.Name println) w.place ∷ w.rest) o = subst (λ l. Outcome (print d) l o) w.is q in
    at w.is (at_name d println w.place w.rest o (no_equals println w.place w.rest g) (stands_left (stands_where h (stands_first (stands_after refl)))) (plain_printed d (lexeme (t.Name println) w.place ∷ w.rest) o h refl r))

pub stmt_logged : (d : ℕ) (ts : List Lexeme) (o : Out Lexeme Tree) → assigns ts ≡ false → logs ts ≡ true → Outcome (log d) ts o → Outcome (rule (Stmt d)) ts o
stmt_logged d ts o e f q =
    let w = word_comes log_word ts (both_left (is_next (word_of log_word) ts) (is_next (mark_of m.Dot) (after ts) && (is_next name_of (after (after ts)) && starts (after (after (after ts))))) f) in
    let g : assigns (lexeme (t.Name log_word) w.place ∷ w.rest) ≡ false = subst (λ l. assigns l ≡ false) w.is e in
    let h : logs (lexeme (t.Name log_word) w.place ∷ w.rest) ≡ true = subst (λ l. logs l ≡ true) w.is f in
    let r : Outcome (log d) (lexeme (t.Name log_word) w.place ∷ w.rest) o = subst (λ l. Outcome (log d) l o) w.is q in
    at w.is (at_name d log_word w.place w.rest o (no_equals log_word w.place w.rest g) (stands_right (stands_left (stands_where h (stands_first (stands_after refl))))) (plain_logged d (lexeme (t.Name log_word) w.place ∷ w.rest) o refl h r))

-- ---- what comes after a statement

pub no_sep : (ts : List Lexeme) → at_end ts ≡ false → no_next separator ts ≡ true → Outcome sep ts (unexpected (length ts))
no_sep ts e f = maybe_is e (off f)

-- a name alone, before what no expression goes on with
module _ (d : ℕ) (n : List ℕ) (p : Place) (us : List Lexeme) (silent : Silent us) where
  name_expr : (i : ℕ) → Outcome (rule (Expr d i)) (lexeme (t.Name n) p ∷ us) (got (tree.name p n) us (length us))
  unfolding rules
  name_expr i = expr_of_prim d (lexeme (t.Name n) p ∷ us) us (tree.name p n) refl silent (ruled (first_arm (takes refl refl) (second_arm (off refl) (second_arm (off refl) (second_arm (off refl) (off refl)))))) i

  quiet_prints : starts us ≡ false → prints (lexeme (t.Name n) p ∷ us) ≡ false
  quiet_prints e = ap (λ b. is_next (word_of println) (lexeme (t.Name n) p ∷ us) && b) e ∙ and_false (is_next (word_of println) (lexeme (t.Name n) p ∷ us))

  quiet_logs : is_next (mark_of m.Dot) us ≡ false → logs (lexeme (t.Name n) p ∷ us) ≡ false
  quiet_logs e = ap (λ b. is_next (word_of log_word) (lexeme (t.Name n) p ∷ us) && (b && (is_next name_of (after us) && starts (after (after us))))) e ∙ and_false (is_next (word_of log_word) (lexeme (t.Name n) p ∷ us))

  pub lone_name : no_next (mark_of m.Equals) us ≡ true → starts us ≡ false → is_next (mark_of m.Dot) us ≡ false → at_end us ≡ false → no_next separator us ≡ true → Outcome (with_sep (rule (Stmt d))) (lexeme (t.Name n) p ∷ us) (unexpected (length us))
  lone_name e f g h i = seq (alone_at_name d n p us (got (tree.name p n) us (length us)) e (quiet_prints f) (quiet_logs g) (name_expr 0)) (fails (no_sep us h i))

  -- the same, where an equals sign comes
  plain_lone : starts us ≡ false → is_next (mark_of m.Dot) us ≡ false → Outcome (plain_statement d) (lexeme (t.Name n) p ∷ us) (got (tree.name p n) us (length us))
  plain_lone f g = plain_alone d (lexeme (t.Name n) p ∷ us) (got (tree.name p n) us (length us)) (quiet_prints f) (quiet_logs g) (name_expr 0)

-- ---- assignments

abbrev pub Then : Tree → Gram
Then a = sep >>= λ s. gives a

later_off : (d : ℕ) (n : List ℕ) (p q : Place) (us : List Lexeme) → Outcome (either (returned d) (either (rule (Choice d 1)) (plain_statement d)) >>= Then) (lexeme (t.Name n) p ∷ lexeme (t.Mark m.Equals) q ∷ us) (unexpected (suc (length us)))
later_off d n p q us =
    let rest = lexeme (t.Mark m.Equals) q ∷ us in
    seq (second_arm (off refl) (second_arm (choice_misses d 1 (lexeme (t.Name n) p ∷ rest) refl) (plain_lone d n p rest (silent_at_equals q us) refl refl))) (fails (no_sep rest refl refl))

record AssignAt (ts : List Lexeme) : Type 0 where
  name : List ℕ
  place : Place
  equals : Place
  rest : List Lexeme
  is : ts ≡ lexeme (t.Name name) place ∷ lexeme (t.Mark m.Equals) equals ∷ rest

assign_at : (x : Token) (p : Place) (us : List Lexeme) → assigns (lexeme x p ∷ us) ≡ true → AssignAt (lexeme x p ∷ us)
assign_at (t.Name n) p us e = let k = mark_there m.Equals us e in record { name = n; place = p; equals = k.place; rest = k.rest; is = ap (λ l. lexeme (t.Name n) p ∷ l) k.is }
assign_at (t.Keyword k) p us e = absurd cc
assign_at (t.Number n) p us e = absurd cc
assign_at (t.Plain q s) p us e = absurd cc
assign_at (t.Pattern s) p us e = absurd cc
assign_at (t.OpenTemplate q) p us e = absurd cc
assign_at (t.TemplateText s) p us e = absurd cc
assign_at t.OpenHole p us e = absurd cc
assign_at t.CloseHole p us e = absurd cc
assign_at (t.CloseTemplate q) p us e = absurd cc
assign_at (t.Mark x) p us e = absurd cc
assign_at t.Separator p us e = absurd cc

assign_there : (ts : List Lexeme) → assigns ts ≡ true → AssignAt ts
assign_there [] e = absurd cc
assign_there (x ∷ us) e = assign_at x.token x.place us e

pub stmt_assigned : (d : ℕ) (ts : List Lexeme) (o : Out Lexeme Tree) → assigns ts ≡ true → Outcome (assigned d >>= Then) ts o → Outcome (rule (Stmt d) >>= Then) ts o
unfolding rules
stmt_assigned d ts o e q =
    let k = assign_there ts e in
    let us : List Lexeme = lexeme (t.Name k.name) k.place ∷ lexeme (t.Mark m.Equals) k.equals ∷ k.rest in
    let r : Outcome (assigned d >>= Then) us o = subst (λ l. Outcome (assigned d >>= Then) l o) k.is q in
    let tail : Gram = either (returned d) (either (rule (Choice d 1)) (plain_statement d)) in
    at k.is (ruled_first (arms_first (defines d) (either (assigned d) tail) Then us o (second_arm (fails (second_arm (off refl) (off refl)))
    (arms_first (assigned d) tail Then us o (either_left (assigned d >>= Then) (tail >>= Then) us o (suc (length k.rest)) r (adds_unexpected (tail >>= Then) us (suc (length k.rest)) (later_off d k.name k.place k.equals k.rest)) (stands_reaches (assigned d >>= Then) us (lexeme (t.Mark m.Equals) k.equals ∷ k.rest) o (stands_first (stands_first (stands_after refl))) r))))))

-- ---- what a function answers

pub then_sep : {X : Type 0} (tree : X → Tree) (rest : X → List Lexeme) (d : ℕ) (g : Gram) (ts : List Lexeme) (r : Result X Fault) → ((o : Out Lexeme Tree) → Outcome g ts o → Outcome (rule (Stmt d)) ts o) → Parses tree rest g ts r → ParsesThen tree rest sep (rule (Stmt d)) ts r
then_sep tree rest d g ts (Ok x) f p = λ o q. seq (f (got (tree x) (rest x) (length (rest x))) p) q
then_sep tree rest d g ts (Err Mem) f p = tt
then_sep tree rest d g ts (Err (Unexpected n)) f p = fails (f (unexpected n) p)
then_sep tree rest d g ts (Err (TooDeep n)) f p = stop (too_deep n) tt (f (too_deep n) p)

pub then_assigned : {X : Type 0} (tree : X → Tree) (rest : X → List Lexeme) (d : ℕ) (ts : List Lexeme) (r : Result X Fault) → assigns ts ≡ true → Parses tree rest (assigned d) ts r → ParsesThen tree rest sep (rule (Stmt d)) ts r
then_assigned tree rest d ts (Ok x) e p = λ o q. stmt_assigned d ts o e (seq p q)
then_assigned tree rest d ts (Err Mem) e p = tt
then_assigned tree rest d ts (Err (Unexpected n)) e p = stmt_assigned d ts (unexpected n) e (fails p)
then_assigned tree rest d ts (Err (TooDeep n)) e p = stmt_assigned d ts (too_deep n) e (stop (too_deep n) tt p)

-- ---- where no statement begins

record IsNoStmt (x : Token) (p : Place) : Type 0 where
  define : keyword_at k.Def x p ≡ None
  choose : keyword_at k.If x p ≡ None
  back : keyword_at k.Return x p ≡ None
  name : name_at x p ≡ None
  start : starts_at x ≡ false

no_stmt_facts : (x : Token) (p : Place) → stmt_starts_at x ≡ false → IsNoStmt x p
no_stmt_facts (t.Name n) p e = absurd cc
no_stmt_facts (t.Number n) p e = absurd cc
no_stmt_facts (t.Plain q s) p e = absurd cc
no_stmt_facts (t.Pattern s) p e = absurd cc
no_stmt_facts (t.OpenTemplate q) p e = absurd cc
no_stmt_facts (t.TemplateText s) p e = record { define = refl; choose = refl; back = refl; name = refl; start = refl }
no_stmt_facts t.OpenHole p e = record { define = refl; choose = refl; back = refl; name = refl; start = refl }
no_stmt_facts t.CloseHole p e = record { define = refl; choose = refl; back = refl; name = refl; start = refl }
no_stmt_facts (t.CloseTemplate q) p e = record { define = refl; choose = refl; back = refl; name = refl; start = refl }
no_stmt_facts t.Separator p e = record { define = refl; choose = refl; back = refl; name = refl; start = refl }
no_stmt_facts (t.Keyword k.Def) p e = absurd cc
no_stmt_facts (t.Keyword k.Else) p e = record { define = refl; choose = refl; back = refl; name = refl; start = refl }
no_stmt_facts (t.Keyword k.False) p e = absurd cc
no_stmt_facts (t.Keyword k.If) p e = absurd cc
no_stmt_facts (t.Keyword k.In) p e = record { define = refl; choose = refl; back = refl; name = refl; start = refl }
no_stmt_facts (t.Keyword k.Null) p e = absurd cc
no_stmt_facts (t.Keyword k.Return) p e = absurd cc
no_stmt_facts (t.Keyword k.True) p e = absurd cc
no_stmt_facts (t.Mark m.OpenRound) p e = absurd cc
no_stmt_facts (t.Mark m.CloseRound) p e = record { define = refl; choose = refl; back = refl; name = refl; start = refl }
no_stmt_facts (t.Mark m.OpenSquare) p e = absurd cc
no_stmt_facts (t.Mark m.CloseSquare) p e = record { define = refl; choose = refl; back = refl; name = refl; start = refl }
no_stmt_facts (t.Mark m.OpenBrace) p e = absurd cc
no_stmt_facts (t.Mark m.CloseBrace) p e = record { define = refl; choose = refl; back = refl; name = refl; start = refl }
no_stmt_facts (t.Mark m.Comma) p e = record { define = refl; choose = refl; back = refl; name = refl; start = refl }
no_stmt_facts (t.Mark m.Colon) p e = record { define = refl; choose = refl; back = refl; name = refl; start = refl }
no_stmt_facts (t.Mark m.Dot) p e = record { define = refl; choose = refl; back = refl; name = refl; start = refl }
no_stmt_facts (t.Mark m.QuestionDot) p e = record { define = refl; choose = refl; back = refl; name = refl; start = refl }
no_stmt_facts (t.Mark m.DotDot) p e = record { define = refl; choose = refl; back = refl; name = refl; start = refl }
no_stmt_facts (t.Mark m.Arrow) p e = record { define = refl; choose = refl; back = refl; name = refl; start = refl }
no_stmt_facts (t.Mark m.Equals) p e = record { define = refl; choose = refl; back = refl; name = refl; start = refl }
no_stmt_facts (t.Mark m.Plus) p e = record { define = refl; choose = refl; back = refl; name = refl; start = refl }
no_stmt_facts (t.Mark m.Minus) p e = absurd cc
no_stmt_facts (t.Mark m.Times) p e = record { define = refl; choose = refl; back = refl; name = refl; start = refl }
no_stmt_facts (t.Mark m.Percent) p e = record { define = refl; choose = refl; back = refl; name = refl; start = refl }
no_stmt_facts (t.Mark m.Less) p e = record { define = refl; choose = refl; back = refl; name = refl; start = refl }
no_stmt_facts (t.Mark m.AtMost) p e = record { define = refl; choose = refl; back = refl; name = refl; start = refl }
no_stmt_facts (t.Mark m.Greater) p e = record { define = refl; choose = refl; back = refl; name = refl; start = refl }
no_stmt_facts (t.Mark m.AtLeast) p e = record { define = refl; choose = refl; back = refl; name = refl; start = refl }
no_stmt_facts (t.Mark m.Same) p e = record { define = refl; choose = refl; back = refl; name = refl; start = refl }
no_stmt_facts (t.Mark m.Differs) p e = record { define = refl; choose = refl; back = refl; name = refl; start = refl }
no_stmt_facts (t.Mark m.Matches) p e = record { define = refl; choose = refl; back = refl; name = refl; start = refl }
no_stmt_facts (t.Mark m.And) p e = record { define = refl; choose = refl; back = refl; name = refl; start = refl }
no_stmt_facts (t.Mark m.Or) p e = record { define = refl; choose = refl; back = refl; name = refl; start = refl }
no_stmt_facts (t.Mark m.Pipe) p e = record { define = refl; choose = refl; back = refl; name = refl; start = refl }
no_stmt_facts (t.Mark m.Not) p e = absurd cc
no_stmt_facts (t.Mark m.Question) p e = record { define = refl; choose = refl; back = refl; name = refl; start = refl }
no_stmt_facts (t.Mark m.Elvis) p e = record { define = refl; choose = refl; back = refl; name = refl; start = refl }

no_word : (w : List ℕ) (x : Token) (p : Place) → name_at x p ≡ None → word_at w x p ≡ None
no_word w (t.Name n) p e = absurd (let f : Some (tree.name p n) ≡ None = e in cc)
no_word w (t.Keyword q) p e = refl
no_word w (t.Number n) p e = refl
no_word w (t.Plain q s) p e = refl
no_word w (t.Pattern s) p e = refl
no_word w (t.OpenTemplate q) p e = refl
no_word w (t.TemplateText s) p e = refl
no_word w t.OpenHole p e = refl
no_word w t.CloseHole p e = refl
no_word w (t.CloseTemplate q) p e = refl
no_word w (t.Mark q) p e = refl
no_word w t.Separator p e = refl

stmt_misses : (d : ℕ) (ts : List Lexeme) → on_first stmt_starts_at ts ≡ false → Outcome (rule (Stmt d)) ts (unexpected (length ts))
unfolding rules
stmt_misses d [] e = ruled (second_arm (second_arm (off refl) (off refl)) (second_arm (off refl) (second_arm (off refl) (second_arm (choice_misses d 1 [] refl) (plain_misses d [] refl refl refl)))))
stmt_misses d (x ∷ us) e =
    let f = no_stmt_facts x.token x.place e in
    let ts : List Lexeme = x ∷ us in
    let one = ap (λ v. not (none_of v) && starts us) (no_word println x.token x.place f.name) in
    let two = ap (λ v. not (none_of v) && (is_next (mark_of m.Dot) us && (is_next name_of (after us) && starts (after (after us))))) (no_word log_word x.token x.place f.name) in
    ruled (second_arm (second_arm (off (ap none_of f.define)) (off (ap none_of f.define))) (second_arm (off (ap none_of f.name)) (second_arm (off (ap none_of f.back)) (second_arm (choice_misses d 1 ts (ap none_of f.choose)) (plain_misses d ts one two (ap not f.start))))))

-- ---- statements in a row

pub record LabelThere (ts : List Lexeme) : Type 0 where
  pub name : List ℕ
  pub place : Place
  pub colon : Place
  pub rest : List Lexeme
  pub is : ts ≡ lexeme (t.Name name) place ∷ lexeme (t.Mark m.Colon) colon ∷ rest

label_at : (x : Token) (p : Place) (us : List Lexeme) → labels (lexeme x p ∷ us) ≡ true → LabelThere (lexeme x p ∷ us)
label_at (t.Name n) p us e = let c = mark_there m.Colon us e in record { name = n; place = p; colon = c.place; rest = c.rest; is = ap (λ l. lexeme (t.Name n) p ∷ l) c.is }
label_at (t.Keyword q) p us e = absurd cc
label_at (t.Number n) p us e = absurd cc
label_at (t.Plain q s) p us e = absurd cc
label_at (t.Pattern s) p us e = absurd cc
label_at (t.OpenTemplate q) p us e = absurd cc
label_at (t.TemplateText s) p us e = absurd cc
label_at t.OpenHole p us e = absurd cc
label_at t.CloseHole p us e = absurd cc
label_at (t.CloseTemplate q) p us e = absurd cc
label_at (t.Mark q) p us e = absurd cc
label_at t.Separator p us e = absurd cc

pub label_there : (ts : List Lexeme) → labels ts ≡ true → LabelThere ts
label_there [] e = absurd cc
label_there (x ∷ us) e = label_at x.token x.place us e

-- a statement that begins at a label ends at its colon
pub stmt_at_label : (d : ℕ) (ts : List Lexeme) → labels ts ≡ true → Outcome (with_sep (rule (Stmt d))) ts (unexpected (length (after ts)))
stmt_at_label d ts e =
    let c = label_there ts e in
    let us : List Lexeme = lexeme (t.Mark m.Colon) c.colon ∷ c.rest in
    subst (λ l. Outcome (with_sep (rule (Stmt d))) l (unexpected (length (after l)))) (sym c.is) (lone_name d c.name c.place us (silent_at_colon c.colon c.rest) refl refl refl refl refl)

abbrev pub BodyGoing : ℕ → ℕ → Tree → List Lexeme → List Lexeme → Type 0
BodyGoing d n acc ts us = Going (many body_ends (each (with_sep (rule (Stmt d)))) n acc) ts (rule (Body d)) us

pub body_begins : (d : ℕ) (ts : List Lexeme) → BodyGoing d 0 empty ts ts
unfolding rules
body_begins d ts o q = ruled q

after_le : (ts : List Lexeme) → length (after ts) ≤ length ts
after_le [] = omega arith
after_le (x ∷ ts) = omega arith

-- where no statement begins, or a label comes
ends_by : (d n : ℕ) (acc : Tree) (ts us : List Lexeme) (b : Bool) → labels ts ≡ b → body_ends ts ≡ true → BodyGoing d n acc ts us → Outcome (rule (Body d)) us (got acc ts (past_label ts))
ends_by d n acc ts us true e f before =
    subst (λ i. Outcome (rule (Body d)) us (got acc ts i)) (sym (past_label_yes ts e))
    (before (got acc ts (length (after ts))) (many_ends body_ends (each (with_sep (rule (Stmt d)))) n acc ts (length (after ts)) f (fails (stmt_at_label d ts e)) (after_le ts)))
ends_by d n acc ts us false e f before =
    let none : on_first stmt_starts_at ts ≡ false = not_true (on_first stmt_starts_at ts) (sym (or_none (not (on_first stmt_starts_at ts)) (labels ts) e) ∙ f) in
    subst (λ i. Outcome (rule (Body d)) us (got acc ts i)) (sym (past_label_no ts e))
    (before (got acc ts (length ts)) (stops f (fails (fails (stmt_misses d ts none)))))
  where
    or_none : (a b : Bool) → b ≡ false → a || b ≡ a
    or_none true b e = refl
    or_none false b e = e

pub body_ends_here : (d n : ℕ) (acc : Tree) (ts us : List Lexeme) → body_ends ts ≡ true → BodyGoing d n acc ts us → Outcome (rule (Body d)) us (got acc ts (past_label ts))
body_ends_here d n acc ts us e before = ends_by d n acc ts us (labels ts) refl e before
