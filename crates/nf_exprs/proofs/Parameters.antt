-- Closures: their parameters, and their statements or labels.
use Rattle.std.proofs.Common.{◌≡◌, ℕ, suc, ◌≤◌, Bool, true, false, List, [], ◌∷◌, length, Some, refl, sym, subst, arith, ap, ◌∙◌}
use Rattle.std.specs.Prelude.{not, ◌&&◌, ◌||◌}
use Rattle.nf_value.specs.declared.place.Place.{Place}
use Rattle.nf_token.specs.declared.token.Mark.TheVariants as m
use Rattle.nf_token.specs.declared.token.Token.{Token}
use Rattle.nf_token.specs.declared.token.Token.TheVariants as t
use Rattle.nf_token.specs.declared.token.Lexeme.{Lexeme}
use Rattle.nf_grammar.specs.Gram.{rule, bind, gives, many, either, only_where, ◌>>=◌}
use Rattle.nf_grammar.specs.Parts.{no_next, none_of}
use Rattle.nf_grammar.specs.Reads.{Reads, reads_token, reads_gives, reads_bind, reads_left, reads_right, reads_where, reads_end, reads_more, stands_first, stands_left, stands_right, stands_rule, stands_after, stands_part}
use Rattle.nf_grammar.specs.Outcome.{Out, got, unexpected}
use Rattle.nf_grammar.proofs.Outcomes.{arms_first, either_left, either_right, either_right_got, adds_unexpected, where_yes, stands_reaches}
use Rattle.nf_grammar.proofs.Short.{at, ret, takes, seq, seq_far, fails, off, first_arm, ruled, stop, stops, part_stop, maybe_not, maybe_is, IsStop}
use Rattle.nf_ast.specs.Tree.{Tree, empty}
use Rattle.nf_exprs.specs.Level.{Body, Closure, Gram}
use Rattle.nf_exprs.specs.Tokens.{Kind, mark_of, name_of, colon, is_next, after, labels, no_params, params_from, begins_params, body_ends, stmt_starts_at, on_first}
use Rattle.nf_exprs.specs.Rules.{rules, kind, mark, closes, closed, comma_then, no_comma, parameters, closure_body, some_labels}
use Rattle.nf_exprs.specs.Parses.{Outcome, TakesTwo, past_label}
use Rattle.nf_exprs.proofs.Are.{lexeme}
use Rattle.nf_exprs.proofs.Labels.{no_close, stands_at_colon}
use Rattle.nf_exprs.proofs.Squares.{mark_there}
use Rattle.nf_exprs.proofs.Statements.{lone_name, label_there, body_begins, body_ends_here}
use Rattle.nf_exprs.proofs.Whole.{silent_at_comma, Stands}

not_there : (b : Bool) → not b ≡ false → b ≡ true
not_there true e = refl
not_there false e = absurd cc

not_next : (p : Kind) (ts : List Lexeme) → is_next p ts ≡ false → no_next p ts ≡ true
not_next p ts e = not_there (no_next p ts) e

or_left : (a b : Bool) → a || b ≡ false → a ≡ false
or_left true b e = absurd cc
or_left false b e = refl

or_right : (a b : Bool) → a || b ≡ false → b ≡ false
or_right true b e = absurd cc
or_right false b e = e

or_true : (a : Bool) → a || true ≡ true
or_true true = refl
or_true false = refl

-- ---- where a statement that begins with a name stands

pub body_stands : (d : ℕ) (n : List ℕ) (p : Place) (us : List Lexeme) → Stands (rule (Body d)) (lexeme (t.Name n) p ∷ us) us
unfolding rules
body_stands d n p us = stands_rule (stands_part (stands_first (stands_first (stands_rule (stands_right (stands_left (stands_first (stands_after refl))))))))

closure_stands : (d : ℕ) (p : Place) (ps : Tree) (n : List ℕ) (q : Place) (us : List Lexeme) → Stands (closure_body d p ps) (lexeme (t.Name n) q ∷ us) us
closure_stands d p ps n q us = stands_first (stands_first (stands_left (body_stands d n q us)))

-- ---- no parameters

params_at : (x : Lexeme) (us : List Lexeme) → is_next (mark_of m.Arrow) us ≡ false → is_next (mark_of m.Comma) us ≡ false → params_from false us ≡ false
params_at x [] e f = refl
params_at x (y ∷ us) e f = ap (λ b. b || (is_next (mark_of m.Comma) (y ∷ us) && params_from true us)) e ∙ ap (λ b. b && params_from true us) f

-- at a name
plain_name : (d : ℕ) (p : Place) (n : List ℕ) (q : Place) (us : List Lexeme) (o : Out Lexeme Tree) → is_next (mark_of m.Arrow) us || is_next (mark_of m.Comma) us ≡ false → Outcome (closure_body d p empty) (lexeme (t.Name n) q ∷ us) o → Outcome (rule (Closure d p)) (lexeme (t.Name n) q ∷ us) o
unfolding rules
plain_name d p n q us o e r =
    let no_arrow = or_left (is_next (mark_of m.Arrow) us) (is_next (mark_of m.Comma) us) e in
    let no_more = or_right (is_next (mark_of m.Arrow) us) (is_next (mark_of m.Comma) us) e in
    let comma = not_next (mark_of m.Comma) us no_more in
    let ts : List Lexeme = lexeme (t.Name n) q ∷ us in
    let none : no_params ts ≡ true = ap not (params_at (lexeme (t.Name n) q) us no_arrow no_more) in
    let scanned : Outcome parameters ts (unexpected (length us)) = seq (maybe_is refl (seq (takes refl refl) (stops comma (off comma)))) (off (not_next (mark_of m.Arrow) us no_arrow)) in
    let le : length us ≤ suc (length us) = omega arith in
    ruled (seq_far (either_right_got parameters (only_where no_params (gives empty)) ts empty ts (suc (length us)) (length us) scanned (where_yes no_params (gives empty) ts (got empty ts (suc (length us))) none ret) le) r (stands_reaches (closure_body d p empty) ts us o (closure_stands d p empty n q us) r))

-- elsewhere
plain_else : (d : ℕ) (p : Place) (x : Lexeme) (us : List Lexeme) (o : Out Lexeme Tree) → no_next name_of (x ∷ us) ≡ true → is_next (mark_of m.Arrow) (x ∷ us) ≡ false → Outcome (closure_body d p empty) (x ∷ us) o → Outcome (rule (Closure d p)) (x ∷ us) o
unfolding rules
plain_else d p x us o e f r =
    let arrow = not_next (mark_of m.Arrow) (x ∷ us) f in
    let none : no_params (x ∷ us) ≡ true = ap (λ b. not (b || (is_next name_of (x ∷ us) && params_from false us))) f ∙ ap (λ b. not (not b && params_from false us)) e in
    ruled (seq (maybe_not none (seq (maybe_not e (off e)) (off arrow))) r)

plain_at : (d : ℕ) (p : Place) (x : Token) (q : Place) (us : List Lexeme) (o : Out Lexeme Tree) → begins_params (lexeme x q ∷ us) ≡ false → Outcome (closure_body d p empty) (lexeme x q ∷ us) o → Outcome (rule (Closure d p)) (lexeme x q ∷ us) o
plain_at d p (t.Name n) q us o e r = plain_name d p n q us o e r
plain_at d p (t.Keyword w) q us o e r = plain_else d p (lexeme (t.Keyword w) q) us o refl (or_left (is_next (mark_of m.Arrow) (lexeme (t.Keyword w) q ∷ us)) (is_next name_of (lexeme (t.Keyword w) q ∷ us) && (is_next (mark_of m.Arrow) us || is_next (mark_of m.Comma) us)) e) r
plain_at d p (t.Number w) q us o e r = plain_else d p (lexeme (t.Number w) q) us o refl (or_left (is_next (mark_of m.Arrow) (lexeme (t.Number w) q ∷ us)) (is_next name_of (lexeme (t.Number w) q ∷ us) && (is_next (mark_of m.Arrow) us || is_next (mark_of m.Comma) us)) e) r
plain_at d p (t.Plain w s) q us o e r = plain_else d p (lexeme (t.Plain w s) q) us o refl (or_left (is_next (mark_of m.Arrow) (lexeme (t.Plain w s) q ∷ us)) (is_next name_of (lexeme (t.Plain w s) q ∷ us) && (is_next (mark_of m.Arrow) us || is_next (mark_of m.Comma) us)) e) r
plain_at d p (t.Pattern s) q us o e r = plain_else d p (lexeme (t.Pattern s) q) us o refl (or_left (is_next (mark_of m.Arrow) (lexeme (t.Pattern s) q ∷ us)) (is_next name_of (lexeme (t.Pattern s) q ∷ us) && (is_next (mark_of m.Arrow) us || is_next (mark_of m.Comma) us)) e) r
plain_at d p (t.OpenTemplate w) q us o e r = plain_else d p (lexeme (t.OpenTemplate w) q) us o refl (or_left (is_next (mark_of m.Arrow) (lexeme (t.OpenTemplate w) q ∷ us)) (is_next name_of (lexeme (t.OpenTemplate w) q ∷ us) && (is_next (mark_of m.Arrow) us || is_next (mark_of m.Comma) us)) e) r
plain_at d p (t.TemplateText s) q us o e r = plain_else d p (lexeme (t.TemplateText s) q) us o refl (or_left (is_next (mark_of m.Arrow) (lexeme (t.TemplateText s) q ∷ us)) (is_next name_of (lexeme (t.TemplateText s) q ∷ us) && (is_next (mark_of m.Arrow) us || is_next (mark_of m.Comma) us)) e) r
plain_at d p t.OpenHole q us o e r = plain_else d p (lexeme t.OpenHole q) us o refl (or_left (is_next (mark_of m.Arrow) (lexeme t.OpenHole q ∷ us)) (is_next name_of (lexeme t.OpenHole q ∷ us) && (is_next (mark_of m.Arrow) us || is_next (mark_of m.Comma) us)) e) r
plain_at d p t.CloseHole q us o e r = plain_else d p (lexeme t.CloseHole q) us o refl (or_left (is_next (mark_of m.Arrow) (lexeme t.CloseHole q ∷ us)) (is_next name_of (lexeme t.CloseHole q ∷ us) && (is_next (mark_of m.Arrow) us || is_next (mark_of m.Comma) us)) e) r
plain_at d p (t.CloseTemplate w) q us o e r = plain_else d p (lexeme (t.CloseTemplate w) q) us o refl (or_left (is_next (mark_of m.Arrow) (lexeme (t.CloseTemplate w) q ∷ us)) (is_next name_of (lexeme (t.CloseTemplate w) q ∷ us) && (is_next (mark_of m.Arrow) us || is_next (mark_of m.Comma) us)) e) r
plain_at d p (t.Mark w) q us o e r = plain_else d p (lexeme (t.Mark w) q) us o refl (or_left (is_next (mark_of m.Arrow) (lexeme (t.Mark w) q ∷ us)) (is_next name_of (lexeme (t.Mark w) q ∷ us) && (is_next (mark_of m.Arrow) us || is_next (mark_of m.Comma) us)) e) r
plain_at d p t.Separator q us o e r = plain_else d p (lexeme t.Separator q) us o refl (or_left (is_next (mark_of m.Arrow) (lexeme t.Separator q ∷ us)) (is_next name_of (lexeme t.Separator q ∷ us) && (is_next (mark_of m.Arrow) us || is_next (mark_of m.Comma) us)) e) r

pub closure_plain : (d : ℕ) (p : Place) (ts : List Lexeme) (o : Out Lexeme Tree) → begins_params ts ≡ false → Outcome (closure_body d p empty) ts o → Outcome (rule (Closure d p)) ts o
unfolding rules
closure_plain d p [] o e r = ruled (seq (maybe_not refl (seq (maybe_not refl (off refl)) (off refl))) r)
closure_plain d p (x ∷ us) o e r = plain_at d p x.token x.place us o e r

-- ---- parameters that are read

there : (p : Kind) (x : Lexeme) (v : Tree) (ts : List Lexeme) → p x ≡ Some v → is_next p (x ∷ ts) ≡ true
there p x v ts e = ap (λ z. not (none_of z)) e

many_read : {g : Tree → Gram} {n : ℕ} {a w v : Tree} {ts mid rest : List Lexeme} → Reads rules (many no_comma (comma_then (kind name_of)) n a) ts w mid → Reads rules (bind (mark m.Arrow) g) mid v rest → params_from false ts ≡ true
many_read (reads_end c) (reads_bind (reads_token {t = x} {ts = ts} {v = u} e) s) = ap (λ b. b || (is_next (mark_of m.Comma) (x ∷ ts) && params_from true ts)) (there (mark_of m.Arrow) x u ts e)
many_read (reads_more (reads_bind (reads_token {t = x} {v = u} e) (reads_bind (reads_token {t = y} {ts = ts} {v = w} f) reads_gives)) more) s =
    let h = many_read more s in
    ap (λ b. is_next (mark_of m.Arrow) (x ∷ y ∷ ts) || (b && params_from true (y ∷ ts))) (there (mark_of m.Comma) x u (y ∷ ts) e)
    ∙ ap (λ b. is_next (mark_of m.Arrow) (x ∷ y ∷ ts) || (b && params_from false ts)) (there name_of y w ts f)
    ∙ ap (λ b. is_next (mark_of m.Arrow) (x ∷ y ∷ ts) || b) h
    ∙ or_true (is_next (mark_of m.Arrow) (x ∷ y ∷ ts))

params_read : {ts rest : List Lexeme} {v : Tree} → Reads rules parameters ts v rest → no_params ts ≡ false
params_read (reads_bind (reads_left (reads_bind (reads_token {t = x} {ts = ts} {v = u} e) more)) s) = ap not (ap (λ b. is_next (mark_of m.Arrow) (x ∷ ts) || (b && params_from false ts)) (there name_of x u ts e) ∙ ap (λ b. is_next (mark_of m.Arrow) (x ∷ ts) || b) (many_read more s) ∙ or_true (is_next (mark_of m.Arrow) (x ∷ ts)))
params_read (reads_bind (reads_right (reads_where c reads_gives)) (reads_bind (reads_token {t = x} {ts = ts} {v = u} e) s)) = ap (λ b. not (b || params_from true (x ∷ ts))) (there (mark_of m.Arrow) x u ts e)

pub closure_got : (d : ℕ) (p : Place) (ts mid : List Lexeme) (ps : Tree) (o : Out Lexeme Tree) → Outcome parameters ts (got ps mid (length mid)) → Outcome (closure_body d p ps) mid o → Outcome (rule (Closure d p)) ts o
unfolding rules
closure_got d p ts mid ps o q r = ruled (seq (maybe_is (params_read q.ends.reads) q) r)

-- ---- parameters that go wrong

-- statements that begin with a name and a comma
body_at_comma : (d : ℕ) (p : Place) (n : List ℕ) (q r : Place) (us : List Lexeme) → Outcome (closure_body d p empty) (lexeme (t.Name n) q ∷ lexeme (t.Mark m.Comma) r ∷ us) (unexpected (suc (length us)))
unfolding rules
body_at_comma d p n q r us =
    let rest : List Lexeme = lexeme (t.Mark m.Comma) r ∷ us in
    let ts : List Lexeme = lexeme (t.Name n) q ∷ rest in
    let body : Outcome (rule (Body d)) ts (unexpected (suc (length us))) = ruled (part_stop (unexpected (suc (length us))) tt refl (fails (lone_name d n q rest (silent_at_comma r us) refl refl refl refl refl))) in
    let labelled : Outcome (some_labels d) ts (unexpected (suc (length us))) = fails (fails (seq (takes refl refl) (off refl))) in
    let le : suc (length us) ≤ suc (length us) = omega arith in
    fails (fails (either_left (rule (Body d)) (some_labels d) ts (unexpected (suc (length us))) (suc (length us)) body (adds_unexpected (some_labels d) ts (suc (length us)) labelled) le))

stop_at_comma : (d : ℕ) (p : Place) (n : List ℕ) (q r : Place) (us : List Lexeme) (o : Out Lexeme Tree) (b : Bool) → no_params (lexeme (t.Name n) q ∷ lexeme (t.Mark m.Comma) r ∷ us) ≡ b → IsStop o → Outcome parameters (lexeme (t.Name n) q ∷ lexeme (t.Mark m.Comma) r ∷ us) o → Outcome (rule (Closure d p)) (lexeme (t.Name n) q ∷ lexeme (t.Mark m.Comma) r ∷ us) o
unfolding rules
stop_at_comma d p n q r us o false e s g = ruled (stop o s (maybe_is e g))
stop_at_comma d p n q r us o true e s g =
    let rest : List Lexeme = lexeme (t.Mark m.Comma) r ∷ us in
    let ts : List Lexeme = lexeme (t.Name n) q ∷ rest in
    let other : Outcome (only_where no_params (gives empty) >>= closure_body d p) ts (unexpected (suc (length us))) = seq (where_yes no_params (gives empty) ts (got empty ts (length ts)) e ret) (body_at_comma d p n q r us) in
    let first : Outcome (parameters >>= closure_body d p) ts o = stop o s g in
    ruled (arms_first parameters (only_where no_params (gives empty)) (closure_body d p) ts o (either_left (parameters >>= closure_body d p) (only_where no_params (gives empty) >>= closure_body d p) ts o (suc (length us)) first (adds_unexpected (only_where no_params (gives empty) >>= closure_body d p) ts (suc (length us)) other) (stands_reaches (parameters >>= closure_body d p) ts rest o (stands_first (stands_first (stands_left (stands_first (stands_after refl))))) first)))

stop_at_arrow : (d : ℕ) (p : Place) (ts : List Lexeme) (o : Out Lexeme Tree) → no_params ts ≡ false → IsStop o → Outcome parameters ts o → Outcome (rule (Closure d p)) ts o
unfolding rules
stop_at_arrow d p ts o e s g = ruled (stop o s (maybe_is e g))

-- at a name with an arrow or a comma
stop_at_name : (d : ℕ) (p : Place) (n : List ℕ) (q : Place) (us : List Lexeme) (o : Out Lexeme Tree) (b : Bool) → is_next (mark_of m.Arrow) us ≡ b → is_next (mark_of m.Arrow) us || is_next (mark_of m.Comma) us ≡ true → IsStop o → Outcome parameters (lexeme (t.Name n) q ∷ us) o → Outcome (rule (Closure d p)) (lexeme (t.Name n) q ∷ us) o
stop_at_name d p n q us o true e f s g =
    let k = mark_there m.Arrow us e in
    stop_at_arrow d p (lexeme (t.Name n) q ∷ us) o (subst (λ l. no_params (lexeme (t.Name n) q ∷ l) ≡ false) (sym k.is) refl) s g
stop_at_name d p n q us o false e f s g =
    let k = mark_there m.Comma us (subst (λ b. b || is_next (mark_of m.Comma) us ≡ true) e f) in
    let h : Outcome parameters (lexeme (t.Name n) q ∷ lexeme (t.Mark m.Comma) k.place ∷ k.rest) o = subst (λ l. Outcome parameters (lexeme (t.Name n) q ∷ l) o) k.is g in
    at (ap (λ l. lexeme (t.Name n) q ∷ l) k.is) (stop_at_comma d p n q k.place k.rest o (no_params (lexeme (t.Name n) q ∷ lexeme (t.Mark m.Comma) k.place ∷ k.rest)) refl s h)

or_nothing : (a b : Bool) → b ≡ false → a || b ≡ true → a ≡ true
or_nothing true b e f = refl
or_nothing false b e f = absurd (let g : true ≡ false = sym f ∙ e in cc)

stop_at : (d : ℕ) (p : Place) (x : Token) (q : Place) (us : List Lexeme) (o : Out Lexeme Tree) → begins_params (lexeme x q ∷ us) ≡ true → IsStop o → Outcome parameters (lexeme x q ∷ us) o → Outcome (rule (Closure d p)) (lexeme x q ∷ us) o
stop_at d p (t.Name n) q us o e s g = stop_at_name d p n q us o (is_next (mark_of m.Arrow) us) refl e s g
stop_at d p (t.Keyword w) q us o e s g = stop_at_arrow d p (lexeme (t.Keyword w) q ∷ us) o (ap (λ b. not (b || (is_next name_of (lexeme (t.Keyword w) q ∷ us) && params_from false us))) (or_nothing (is_next (mark_of m.Arrow) (lexeme (t.Keyword w) q ∷ us)) false refl e)) s g
stop_at d p (t.Number w) q us o e s g = stop_at_arrow d p (lexeme (t.Number w) q ∷ us) o (ap (λ b. not (b || (is_next name_of (lexeme (t.Number w) q ∷ us) && params_from false us))) (or_nothing (is_next (mark_of m.Arrow) (lexeme (t.Number w) q ∷ us)) false refl e)) s g
stop_at d p (t.Plain w z) q us o e s g = stop_at_arrow d p (lexeme (t.Plain w z) q ∷ us) o (ap (λ b. not (b || (is_next name_of (lexeme (t.Plain w z) q ∷ us) && params_from false us))) (or_nothing (is_next (mark_of m.Arrow) (lexeme (t.Plain w z) q ∷ us)) false refl e)) s g
stop_at d p (t.Pattern z) q us o e s g = stop_at_arrow d p (lexeme (t.Pattern z) q ∷ us) o (ap (λ b. not (b || (is_next name_of (lexeme (t.Pattern z) q ∷ us) && params_from false us))) (or_nothing (is_next (mark_of m.Arrow) (lexeme (t.Pattern z) q ∷ us)) false refl e)) s g
stop_at d p (t.OpenTemplate w) q us o e s g = stop_at_arrow d p (lexeme (t.OpenTemplate w) q ∷ us) o (ap (λ b. not (b || (is_next name_of (lexeme (t.OpenTemplate w) q ∷ us) && params_from false us))) (or_nothing (is_next (mark_of m.Arrow) (lexeme (t.OpenTemplate w) q ∷ us)) false refl e)) s g
stop_at d p (t.TemplateText z) q us o e s g = stop_at_arrow d p (lexeme (t.TemplateText z) q ∷ us) o (ap (λ b. not (b || (is_next name_of (lexeme (t.TemplateText z) q ∷ us) && params_from false us))) (or_nothing (is_next (mark_of m.Arrow) (lexeme (t.TemplateText z) q ∷ us)) false refl e)) s g
stop_at d p t.OpenHole q us o e s g = stop_at_arrow d p (lexeme t.OpenHole q ∷ us) o (ap (λ b. not (b || (is_next name_of (lexeme t.OpenHole q ∷ us) && params_from false us))) (or_nothing (is_next (mark_of m.Arrow) (lexeme t.OpenHole q ∷ us)) false refl e)) s g
stop_at d p t.CloseHole q us o e s g = stop_at_arrow d p (lexeme t.CloseHole q ∷ us) o (ap (λ b. not (b || (is_next name_of (lexeme t.CloseHole q ∷ us) && params_from false us))) (or_nothing (is_next (mark_of m.Arrow) (lexeme t.CloseHole q ∷ us)) false refl e)) s g
stop_at d p (t.CloseTemplate w) q us o e s g = stop_at_arrow d p (lexeme (t.CloseTemplate w) q ∷ us) o (ap (λ b. not (b || (is_next name_of (lexeme (t.CloseTemplate w) q ∷ us) && params_from false us))) (or_nothing (is_next (mark_of m.Arrow) (lexeme (t.CloseTemplate w) q ∷ us)) false refl e)) s g
stop_at d p (t.Mark w) q us o e s g = stop_at_arrow d p (lexeme (t.Mark w) q ∷ us) o (ap (λ b. not (b || (is_next name_of (lexeme (t.Mark w) q ∷ us) && params_from false us))) (or_nothing (is_next (mark_of m.Arrow) (lexeme (t.Mark w) q ∷ us)) false refl e)) s g
stop_at d p t.Separator q us o e s g = stop_at_arrow d p (lexeme t.Separator q ∷ us) o (ap (λ b. not (b || (is_next name_of (lexeme t.Separator q ∷ us) && params_from false us))) (or_nothing (is_next (mark_of m.Arrow) (lexeme t.Separator q ∷ us)) false refl e)) s g

pub closure_stop : (d : ℕ) (p : Place) (ts : List Lexeme) (o : Out Lexeme Tree) → begins_params ts ≡ true → IsStop o → Outcome parameters ts o → Outcome (rule (Closure d p)) ts o
closure_stop d p [] o e s g = absurd cc
closure_stop d p (x ∷ us) o e s g = stop_at d p x.token x.place us o e s g

-- ---- statements or labels

abbrev pub Close : Tree → Gram
Close a = closes >>= λ c. gives a

labels_fail : (d : ℕ) (ts : List Lexeme) → no_next name_of ts ≡ true → Outcome (some_labels d >>= Close) ts (unexpected (length ts))
labels_fail d ts e = fails (fails (fails (off e)))

-- at no label
plain_body_at : (d : ℕ) (x : Token) (q : Place) (us : List Lexeme) (o : Out Lexeme Tree) → labels (lexeme x q ∷ us) ≡ false → Outcome (rule (Body d) >>= Close) (lexeme x q ∷ us) o → Outcome (either (rule (Body d)) (some_labels d) >>= Close) (lexeme x q ∷ us) o
plain_body_at d (t.Name n) q us o e r =
    let ts : List Lexeme = lexeme (t.Name n) q ∷ us in
    let other : Outcome (some_labels d >>= Close) ts (unexpected (length us)) = fails (fails (fails (seq (takes refl refl) (off (not_next colon us e))))) in
    arms_first (rule (Body d)) (some_labels d) Close ts o (either_left (rule (Body d) >>= Close) (some_labels d >>= Close) ts o (length us) r (adds_unexpected (some_labels d >>= Close) ts (length us) other) (stands_reaches (rule (Body d) >>= Close) ts us o (stands_first (body_stands d n q us)) r))
plain_body_at d (t.Keyword w) q us o e r = arms_first (rule (Body d)) (some_labels d) Close (lexeme (t.Keyword w) q ∷ us) o (first_arm r (labels_fail d (lexeme (t.Keyword w) q ∷ us) refl))
plain_body_at d (t.Number w) q us o e r = arms_first (rule (Body d)) (some_labels d) Close (lexeme (t.Number w) q ∷ us) o (first_arm r (labels_fail d (lexeme (t.Number w) q ∷ us) refl))
plain_body_at d (t.Plain w z) q us o e r = arms_first (rule (Body d)) (some_labels d) Close (lexeme (t.Plain w z) q ∷ us) o (first_arm r (labels_fail d (lexeme (t.Plain w z) q ∷ us) refl))
plain_body_at d (t.Pattern z) q us o e r = arms_first (rule (Body d)) (some_labels d) Close (lexeme (t.Pattern z) q ∷ us) o (first_arm r (labels_fail d (lexeme (t.Pattern z) q ∷ us) refl))
plain_body_at d (t.OpenTemplate w) q us o e r = arms_first (rule (Body d)) (some_labels d) Close (lexeme (t.OpenTemplate w) q ∷ us) o (first_arm r (labels_fail d (lexeme (t.OpenTemplate w) q ∷ us) refl))
plain_body_at d (t.TemplateText z) q us o e r = arms_first (rule (Body d)) (some_labels d) Close (lexeme (t.TemplateText z) q ∷ us) o (first_arm r (labels_fail d (lexeme (t.TemplateText z) q ∷ us) refl))
plain_body_at d t.OpenHole q us o e r = arms_first (rule (Body d)) (some_labels d) Close (lexeme t.OpenHole q ∷ us) o (first_arm r (labels_fail d (lexeme t.OpenHole q ∷ us) refl))
plain_body_at d t.CloseHole q us o e r = arms_first (rule (Body d)) (some_labels d) Close (lexeme t.CloseHole q ∷ us) o (first_arm r (labels_fail d (lexeme t.CloseHole q ∷ us) refl))
plain_body_at d (t.CloseTemplate w) q us o e r = arms_first (rule (Body d)) (some_labels d) Close (lexeme (t.CloseTemplate w) q ∷ us) o (first_arm r (labels_fail d (lexeme (t.CloseTemplate w) q ∷ us) refl))
plain_body_at d (t.Mark w) q us o e r = arms_first (rule (Body d)) (some_labels d) Close (lexeme (t.Mark w) q ∷ us) o (first_arm r (labels_fail d (lexeme (t.Mark w) q ∷ us) refl))
plain_body_at d t.Separator q us o e r = arms_first (rule (Body d)) (some_labels d) Close (lexeme t.Separator q ∷ us) o (first_arm r (labels_fail d (lexeme t.Separator q ∷ us) refl))

pub plain_body : (d : ℕ) (ts : List Lexeme) (o : Out Lexeme Tree) → labels ts ≡ false → Outcome (closed (rule (Body d))) ts o → Outcome (closed (either (rule (Body d)) (some_labels d))) ts o
plain_body d [] o e r = arms_first (rule (Body d)) (some_labels d) Close [] o (first_arm r (labels_fail d [] refl))
plain_body d (x ∷ us) o e r = plain_body_at d x.token x.place us o e r

-- at a label
pub labelled_body : (d : ℕ) (ts : List Lexeme) (o : Out Lexeme Tree) → labels ts ≡ true → Outcome (closed (some_labels d)) ts o → Outcome (closed (either (rule (Body d)) (some_labels d))) ts o
labelled_body d ts o e r =
    let k = label_there ts e in
    let ends : body_ends ts ≡ true = ends_at_label ts e in
    let none : Outcome (rule (Body d)) ts (got empty ts (past_label ts)) = body_ends_here d 0 empty ts ts ends (body_begins d ts) in
    let other : Outcome (rule (Body d) >>= Close) ts (unexpected (length (after ts))) = stands_at_colon (rule (Body d)) Close ts ts empty e none (fails (no_close ts e)) in
    let stands : Stands (some_labels d >>= Close) ts (after ts) = subst (λ l. Stands (some_labels d >>= Close) l (after l)) (sym k.is) (stands_first (stands_first (stands_first (stands_first (stands_after refl))))) in
    arms_first (rule (Body d)) (some_labels d) Close ts o (either_right (rule (Body d) >>= Close) (some_labels d >>= Close) ts o (length (after ts)) r (adds_unexpected (rule (Body d) >>= Close) ts (length (after ts)) other) (stands_reaches (some_labels d >>= Close) ts (after ts) o stands r))
  where
    ends_at_label : (ls : List Lexeme) → labels ls ≡ true → body_ends ls ≡ true
    ends_at_label ls f = ap (λ b. not (on_first stmt_starts_at ls) || b) f ∙ or_true (not (on_first stmt_starts_at ls))

-- a name and a colon
pub two_labels : (ts rest : List Lexeme) (v : Tree) → TakesTwo name_of colon ts v rest → labels ts ≡ true
two_labels ts rest v e = subst (λ l. labels l ≡ true) (sym e.5) (ap (λ z. not (none_of z) && is_next colon (e.1 ∷ rest)) e.3 ∙ ap (λ z. not (none_of z)) e.4)
