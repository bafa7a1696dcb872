-- The choices of closures and statements.
use Rattle.std.proofs.Common.{◌≡◌, ℕ, suc, Bool, true, false, List, [], ◌∷◌, Some, refl, subst, ap}
use Rattle.std.specs.Prelude.{codes, not, ◌||◌, ◌&&◌}
use Rattle.nf_value.specs.declared.place.Place.{Place}
use Rattle.nf_token.specs.declared.token.Mark.TheVariants as m
use Rattle.nf_token.specs.declared.token.Keyword.{Keyword}
use Rattle.nf_token.specs.declared.token.Keyword.TheVariants as k
use Rattle.nf_token.specs.declared.token.Token.{Token}
use Rattle.nf_token.specs.declared.token.Token.TheVariants as t
use Rattle.nf_token.specs.declared.token.Lexeme.{Lexeme}
use Rattle.nf_grammar.specs.Gram.{gives, bind, either, only_where, many, rule}
use Rattle.nf_grammar.specs.Parts.{no_next, none_of}
use Rattle.nf_grammar.specs.Reads.{Reads, reads_token, reads_gives, reads_bind, reads_left, reads_right, reads_where, reads_end, reads_more, reads_rule}
use Rattle.nf_ast.specs.Tree.{Tree, empty}
use Rattle.nf_exprs.specs.Level.{Body, Stmt, Choice, Gram}
use Rattle.nf_exprs.specs.Tokens.{mark_of, keyword_of, word_of, name_of, separator, labels, is_next, starts, starts_at, no_start, on_first, stmt_starts_at, body_ends, no_params, params_from}
use Rattle.nf_exprs.specs.Rules as row
use Rattle.nf_exprs.specs.Rules.{rules}
use Rattle.nf_exprs.proofs.Rows.{expr_misses}
use Rattle.nf_exprs.proofs.Labels.{no_close}
use Rattle.nf_parser.proofs.Words.{not_true}
use Rattle.nf_parser.proofs.Names.{before_equals, expr_name, label_of, body_at_label, stmt_at_label}
use Rattle.nf_parser.proofs.Det.{Det, det_token, det_gives, det_bind, det_either, det_where, det_rule, always, first_came, token_came, came_next, not_come, heads_first, heads_bind, Front, by_front, mark_front, keyword_front, word_front, name_front, seq_det, rule_det, maybe_det, many_det, none_det, skips_det, with_sep_det, stmt_sep_det, separated_det, commas_det}
use Rattle.nf_parser.proofs.Choices.{clash, both, round_det}

-- ---- brackets

pub closes_det : {f : List Lexeme → Bool} → Det f row.closes
closes_det = seq_det (skips_det separator (no_next separator) (λ ts e. e)) (λ s. seq_det det_token (λ c. det_gives))

pub braced_det : {f : List Lexeme → Bool} {g : Gram} (d : ℕ) → Det always g → Det f (row.braced d g)
braced_det d h = seq_det det_token (λ o. seq_det h (λ x. seq_det closes_det (λ c. det_gives)))

-- no label comes
pub unlabelled : List Lexeme → Bool
unlabelled ts = not (labels ts)

-- where a `}` closes, no label comes
closes_unlabelled : (ts : List Lexeme) (v : Tree) (r : List Lexeme) → Reads rules row.closes ts v r → unlabelled ts ≡ true
unfolding unlabelled
closes_unlabelled ts v r x = at_any (labels ts) refl
  where
    at_any : (b : Bool) → labels ts ≡ b → not (labels ts) ≡ true
    at_any true l = absurd ((no_close ts l).ends.none v r x)
    at_any false l = ap not l

-- what closes follows it
pub closed_det : {f : List Lexeme → Bool} {g : Gram} {k : Tree → Gram} → Det unlabelled g → ((a : Tree) → Det f (k a)) → Det f (bind g (λ x. bind row.closes (λ c. k x)))
closed_det {f} {g} {k} d h = det_bind d (λ x. seq_det closes_det (λ c. h x)) follows
  where
    follows : (a : Tree) (ts : List Lexeme) (v : Tree) (r : List Lexeme) → Reads rules (bind row.closes (λ c. k a)) ts v r → f r ≡ true → unlabelled ts ≡ true
    follows a ts v r (reads_bind x y) e = closes_unlabelled ts _ _ x

-- statements read nothing where a label comes
pub body_once : (d : ℕ) (ts : List Lexeme) (v : Tree) (r : List Lexeme) → labels ts ≡ true → Reads rules (rule (Body d)) ts v r → unlabelled r ≡ true → ⊥
unfolding unlabelled
body_once d ts v r l x e =
    let same = ((body_at_label d ts (label_of ts l)).ends.only v r x).1 in
    both (labels ts) l (not_true _ (subst (λ y. not (labels y) ≡ true) same e))

-- ---- closures

comma_names : {i : ℕ} {a v : Tree} {us mid : List Lexeme} → Reads rules (many row.no_comma (row.comma_then (row.kind name_of)) i a) us v mid → is_next (mark_of m.Arrow) mid ≡ true → params_from false us ≡ true
comma_names (reads_end {ts = us} c) e = at_end us e
  where
    at_end : (us : List Lexeme) → is_next (mark_of m.Arrow) us ≡ true → params_from false us ≡ true
    at_end [] e = absurd cc
    at_end (x ∷ us) e = rw e refl
comma_names (reads_more (reads_bind (reads_token {t = c} e) (reads_bind (reads_token {t = n} {ts = us} f) reads_gives)) x) h =
    let more = comma_names x h in
    or_second (is_next (mark_of m.Arrow) (c ∷ n ∷ us)) _ (rw (ap none_of e, ap none_of f, more) refl)
  where
    or_second : (a b : Bool) → b ≡ true → a || b ≡ true
    or_second true b e = refl
    or_second false b e = e

params_read : {ts r : List Lexeme} {v : Tree} → Reads rules row.parameters ts v r → no_params ts ≡ true → ⊥
params_read (reads_bind (reads_right (reads_where c reads_gives)) (reads_bind {ts = ts} x y)) e = both (is_next (mark_of m.Arrow) ts) (ap not (came_next (token_came x))) (neither _ _ e).0
  where
    neither : (a b : Bool) → not (a || b) ≡ true → (a ≡ false) × (b ≡ false)
    neither true b e = absurd cc
    neither false true e = absurd cc
    neither false false e = (refl, refl)
params_read (reads_bind (reads_left (reads_bind (reads_token {t = n} {ts = us} f) z)) (reads_bind x y)) e = both (params_from true (n ∷ us)) (rw (ap none_of f, comma_names z (ap not (came_next (token_came x)))) refl) (neither _ _ e).1
  where
    neither : (a b : Bool) → not (a || b) ≡ true → (a ≡ false) × (b ≡ false)
    neither true b e = absurd cc
    neither false true e = absurd cc
    neither false false e = (refl, refl)

params_once : (ts : List Lexeme) (v w : Tree) (r s : List Lexeme) → Reads rules row.parameters ts v r → Reads rules (only_where no_params (gives empty)) ts w s → always r ≡ true → always s ≡ true → ⊥
params_once ts v w r s x (reads_where c y) e h = params_read x c

names_det : {f : List Lexeme → Bool} → Det f (row.maybe row.names (no_next name_of))
names_det = maybe_det (commas_det det_token) heads_first (λ ts e. e)

pub maybe_names_det : {f : List Lexeme → Bool} → Det f (row.maybe row.names (no_next name_of))
maybe_names_det = names_det

pub label_det : {f : List Lexeme → Bool} (d : ℕ) → Det f (row.label d)
label_det d = seq_det det_token (λ n. seq_det det_token (λ c. seq_det (rule_det (λ ts. refl)) (λ e. det_gives)))

label_next : {k : Tree → Gram} {d : ℕ} {ts r : List Lexeme} {v : Tree} → Reads rules (bind (row.label d) k) ts v r → labels ts ≡ true
label_next (reads_bind (reads_bind (reads_token {t = n} e) (reads_bind x y)) z) = rw (ap none_of e, came_next (token_came x)) refl

labels_once : (d : ℕ) (ts : List Lexeme) (v w : Tree) (r s : List Lexeme) → Reads rules (rule (Body d)) ts v r → Reads rules (row.some_labels d) ts w s → unlabelled r ≡ true → unlabelled s ≡ true → ⊥
labels_once d ts v w r s x (reads_bind y z) e h = body_once d ts v r (label_next y) x e

pub closure_det : (d : ℕ) (p : Place) → Det always (bind (row.maybe row.parameters no_params) (row.closure_body d p))
closure_det d p = seq_det (det_either (seq_det names_det (λ xs. seq_det det_token (λ a. det_gives))) (det_where det_gives) params_once) (λ ps. seq_det (closed_det (det_either (rule_det (λ ts. refl)) (seq_det (with_sep_det (label_det d)) (λ a. many_det name_of (λ i x. separated_det (with_sep_det (label_det d)) i x) (λ i x. heads_bind (heads_bind heads_first)) (λ ts e. e))) (labels_once d)) (λ xs. det_gives)) (λ xs. det_gives))

-- ---- statements

-- a keyword that begins a statement begins none of the others
module _ (d : ℕ) {q : Keyword} {ts : List Lexeme} (f : Front (t.Keyword q) ts) (e : no_start ts ≡ true) where
  no_shown : (w : Tree) (s : List Lexeme) → Reads rules (either (row.printed d) (either (row.logged d) (row.alone d))) ts w s → ⊥
  no_shown w s (reads_left (reads_where c x)) = clash f (first_came x) (λ q. refl)
  no_shown w s (reads_right (reads_left (reads_where c x))) = clash f (first_came x) (λ q. refl)
  no_shown w s (reads_right (reads_right (reads_where c x))) = (expr_misses d 0 ts e).ends.none w s x

  module _ (no_if : (p : Place) → none_of (keyword_of k.If (record { token = t.Keyword q; place = p })) ≡ true) where
    no_chosen : (w : Tree) (s : List Lexeme) → Reads rules (either (rule (Choice d 1)) (either (row.printed d) (either (row.logged d) (row.alone d)))) ts w s → ⊥
    unfolding rules
    no_chosen w s (reads_left (reads_rule (reads_bind (reads_bind x z) y))) = clash f (token_came x) no_if
    no_chosen w s (reads_right x) = no_shown w s x

    no_returned : ((p : Place) → none_of (keyword_of k.Return (record { token = t.Keyword q; place = p })) ≡ true) → (w : Tree) (s : List Lexeme) → Reads rules (either (row.assigned d) (either (row.returned d) (either (rule (Choice d 1)) (either (row.printed d) (either (row.logged d) (row.alone d)))))) ts w s → ⊥
    no_returned h w s (reads_left x) = clash f (first_came x) (λ q. refl)
    no_returned h w s (reads_right (reads_left x)) = clash f (first_came x) h
    no_returned h w s (reads_right (reads_right x)) = no_chosen w s x

module _ (d : ℕ) where
  shown : Gram
  shown = either (row.printed d) (either (row.logged d) (row.alone d))

  keyword_starts_none : (q : Keyword) {ts : List Lexeme} → starts_at (t.Keyword q) ≡ false → Front (t.Keyword q) ts → no_start ts ≡ true
  keyword_starts_none q e f = by_front (λ us. no_start us ≡ true) f (λ p r. ap not e)

  def_once : (ts : List Lexeme) (v w : Tree) (r s : List Lexeme) → Reads rules (row.defined d) ts v r → Reads rules (either (row.all_defined d) (either (row.assigned d) (either (row.returned d) (either (rule (Choice d 1)) (either (row.printed d) (either (row.logged d) (row.alone d))))))) ts w s → no_next (mark_of m.Equals) r ≡ true → no_next (mark_of m.Equals) s ≡ true → ⊥
  def_once ts v w r s (reads_bind (reads_token a) x) (reads_left (reads_bind (reads_token b) (reads_bind y z))) e h = clash (mark_front m.OpenRound (first_came y)) (first_came x) (λ q. refl)
  def_once ts v w r s x (reads_right y) e h =
      let f = keyword_front k.Def (first_came x) in
      no_returned d f (keyword_starts_none k.Def refl f) (λ p. refl) (λ p. refl) w s y

  all_once : (ts : List Lexeme) (v w : Tree) (r s : List Lexeme) → Reads rules (row.all_defined d) ts v r → Reads rules (either (row.assigned d) (either (row.returned d) (either (rule (Choice d 1)) (either (row.printed d) (either (row.logged d) (row.alone d)))))) ts w s → no_next (mark_of m.Equals) r ≡ true → no_next (mark_of m.Equals) s ≡ true → ⊥
  all_once ts v w r s x y e h =
      let f = keyword_front k.Def (first_came x) in
      no_returned d f (keyword_starts_none k.Def refl f) (λ p. refl) (λ p. refl) w s y

  and_start : (a b : Bool) → a && b ≡ true → b ≡ false → ⊥
  and_start true b e f = both b e f
  and_start false b e f = cc

  assigned_once : (ts : List Lexeme) (v w : Tree) (r s : List Lexeme) → Reads rules (row.assigned d) ts v r → Reads rules (either (row.returned d) (either (rule (Choice d 1)) (either (row.printed d) (either (row.logged d) (row.alone d))))) ts w s → no_next (mark_of m.Equals) r ≡ true → no_next (mark_of m.Equals) s ≡ true → ⊥
  unfolding rules
  assigned_once ts v w r s x (reads_left y) e h = clash (name_front (first_came x)).1 (first_came y) (λ q. refl)
  assigned_once ts v w r s x (reads_right (reads_left (reads_rule (reads_bind (reads_bind y z) u)))) e h = clash (name_front (first_came x)).1 (token_came y) (λ q. refl)
  assigned_once ts v w r s (reads_bind (reads_token {t = n} {ts = us} a) x) (reads_right (reads_right (reads_left (reads_where c y)))) e h = and_start (is_next (word_of (codes "println")) (n ∷ us)) (starts us) c (before_equals (first_came x).takes).start
  assigned_once ts v w r s (reads_bind (reads_token {t = n} {ts = us} a) x) (reads_right (reads_right (reads_right (reads_left (reads_where c (reads_bind y (reads_bind z u))))))) e h = no_dot a x y z
    where
      no_dot : {t1 t2 t3 : Tree} {k : Tree → Gram} {mid end r1 : List Lexeme} {o : Tree} → name_of n ≡ Some t1 → Reads rules (bind (row.mark m.Equals) k) us t2 r1 → Reads rules (row.word (codes "log")) (n ∷ us) o mid → Reads rules (row.mark m.Dot) mid t3 end → ⊥
      no_dot a x (reads_token b) z = clash (mark_front m.Equals (first_came x)) (token_came z) (λ q. refl)
  assigned_once ts v w r s (reads_bind (reads_token {t = n} {ts = us} {v = o} a) x) (reads_right (reads_right (reads_right (reads_right (reads_where c y))))) e h =
      let same = ((expr_name d (n ∷ us) us o (n, a, refl) (before_equals (first_came x).takes) 0).ends.only w s y).1 in
      not_come (first_came x) (subst (λ z. no_next (mark_of m.Equals) z ≡ true) same h)

  return_once : (ts : List Lexeme) (v w : Tree) (r s : List Lexeme) → Reads rules (row.returned d) ts v r → Reads rules (either (rule (Choice d 1)) (either (row.printed d) (either (row.logged d) (row.alone d)))) ts w s → no_next (mark_of m.Equals) r ≡ true → no_next (mark_of m.Equals) s ≡ true → ⊥
  return_once ts v w r s x y e h =
      let f = keyword_front k.Return (first_came x) in
      no_chosen d f (keyword_starts_none k.Return refl f) (λ p. refl) w s y

  choice_once : (ts : List Lexeme) (v w : Tree) (r s : List Lexeme) → Reads rules (rule (Choice d 1)) ts v r → Reads rules (either (row.printed d) (either (row.logged d) (row.alone d))) ts w s → no_next (mark_of m.Equals) r ≡ true → no_next (mark_of m.Equals) s ≡ true → ⊥
  unfolding rules
  choice_once ts v w r s (reads_rule (reads_bind (reads_bind x z) u)) y e h =
      let f = keyword_front k.If (token_came x) in
      no_shown d f (keyword_starts_none k.If refl f) w s y

  neither : (a b : Bool) → not (a || b) ≡ true → (a ≡ false) × (b ≡ false)
  neither true b e = absurd cc
  neither false true e = absurd cc
  neither false false e = (refl, refl)

  print_once : (ts : List Lexeme) (v w : Tree) (r s : List Lexeme) → Reads rules (row.printed d) ts v r → Reads rules (either (row.logged d) (row.alone d)) ts w s → no_next (mark_of m.Equals) r ≡ true → no_next (mark_of m.Equals) s ≡ true → ⊥
  print_once ts v w r s (reads_where c x) (reads_left (reads_where a y)) e h = clash (word_front (codes "println") (first_came x)) (first_came y) (λ q. refl)
  print_once ts v w r s (reads_where c x) (reads_right (reads_where a y)) e h = both _ c (neither _ _ a).0

  log_once : (ts : List Lexeme) (v w : Tree) (r s : List Lexeme) → Reads rules (row.logged d) ts v r → Reads rules (row.alone d) ts w s → no_next (mark_of m.Equals) r ≡ true → no_next (mark_of m.Equals) s ≡ true → ⊥
  log_once ts v w r s (reads_where c x) (reads_where a y) e h = both _ c (neither _ _ a).1

  pub log_det : {f : List Lexeme → Bool} → Det f (row.log d)
  log_det = seq_det det_token (λ w. seq_det det_token (λ o. seq_det det_token (λ n. seq_det (rule_det (λ ts. refl)) (λ x. det_gives))))

  pub print_det : {f : List Lexeme → Bool} → Det f (row.print d)
  print_det = seq_det det_token (λ w. seq_det (rule_det (λ ts. refl)) (λ x. det_gives))

  pub assigned_det : {f : List Lexeme → Bool} → Det f (row.assigned d)
  assigned_det = seq_det det_token (λ n. seq_det det_token (λ e. seq_det (rule_det (λ ts. refl)) (λ x. det_gives)))

  either_define : (ts : List Lexeme) (v w : Tree) (r s : List Lexeme) → Reads rules (row.defined d) ts v r → Reads rules (row.all_defined d) ts w s → no_next (mark_of m.Equals) r ≡ true → no_next (mark_of m.Equals) s ≡ true → ⊥
  either_define ts v w r s x y e h = def_once ts v w r s x (reads_left y) e h

  define_once : (ts : List Lexeme) (v w : Tree) (r s : List Lexeme) → Reads rules (row.defines d) ts v r → Reads rules (either (row.assigned d) (either (row.returned d) (either (rule (Choice d 1)) (row.plain_statement d)))) ts w s → no_next (mark_of m.Equals) r ≡ true → no_next (mark_of m.Equals) s ≡ true → ⊥
  define_once ts v w r s (reads_left x) y e h = def_once ts v w r s x (reads_right y) e h
  define_once ts v w r s (reads_right x) y e h = all_once ts v w r s x y e h

  pub statement_det : Det (no_next (mark_of m.Equals)) (row.statement d)
  statement_det = det_either (det_either (seq_det det_token (λ w. seq_det det_token (λ n. seq_det det_token (λ e. seq_det (rule_det (λ ts. refl)) (λ x. det_gives))))) (seq_det det_token (λ w. seq_det (round_det d (commas_det det_token)) (λ ns. seq_det det_token (λ e. seq_det (rule_det (λ ts. refl)) (λ x. det_gives))))) either_define) (det_either assigned_det (det_either (seq_det det_token (λ w. seq_det (rule_det (λ ts. refl)) (λ x. det_gives))) (det_either (rule_det (λ ts. refl)) (det_either (det_where print_det) (det_either (det_where log_det) (det_where (rule_det (λ ts. refl))) log_once) print_once) choice_once) return_once) assigned_once) define_once

-- ---- where no statement begins

stmt_if_starts : (x : Token) → starts_at x ≡ true → stmt_starts_at x ≡ true
stmt_if_starts (t.Keyword k.Def) e = refl
stmt_if_starts (t.Keyword k.If) e = refl
stmt_if_starts (t.Keyword k.Return) e = refl
stmt_if_starts (t.Keyword k.Else) e = e
stmt_if_starts (t.Keyword k.False) e = e
stmt_if_starts (t.Keyword k.In) e = e
stmt_if_starts (t.Keyword k.Null) e = e
stmt_if_starts (t.Keyword k.True) e = e
stmt_if_starts (t.Mark x) e = e
stmt_if_starts (t.Name x) e = e
stmt_if_starts (t.Number x) e = e
stmt_if_starts (t.Plain q x) e = e
stmt_if_starts (t.Pattern x) e = e
stmt_if_starts (t.OpenTemplate x) e = e
stmt_if_starts (t.TemplateText x) e = e
stmt_if_starts t.OpenHole e = e
stmt_if_starts t.CloseHole e = e
stmt_if_starts (t.CloseTemplate x) e = e
stmt_if_starts t.Separator e = e

no_expr_start : (ts : List Lexeme) → on_first stmt_starts_at ts ≡ false → no_start ts ≡ true
no_expr_start [] e = refl
no_expr_start (x ∷ xs) e = at_any (starts_at x.token) refl
  where
    at_any : (b : Bool) → starts_at x.token ≡ b → not (starts_at x.token) ≡ true
    at_any true f = absurd (both (stmt_starts_at x.token) (stmt_if_starts x.token f) e)
    at_any false f = ap not f

no_statement : (d : ℕ) (ts : List Lexeme) (v : Tree) (r : List Lexeme) → on_first stmt_starts_at ts ≡ false → Reads rules (row.statement d) ts v r → ⊥
unfolding rules
no_statement d ts v r e (reads_left (reads_left x)) = both (on_first stmt_starts_at ts) (by_front (λ us. on_first stmt_starts_at us ≡ true) (keyword_front k.Def (first_came x)) (λ q s. refl)) e
no_statement d ts v r e (reads_left (reads_right x)) = both (on_first stmt_starts_at ts) (by_front (λ us. on_first stmt_starts_at us ≡ true) (keyword_front k.Def (first_came x)) (λ q s. refl)) e
no_statement d ts v r e (reads_right (reads_left x)) = both (on_first stmt_starts_at ts) (by_front (λ us. on_first stmt_starts_at us ≡ true) (name_front (first_came x)).1 (λ q s. refl)) e
no_statement d ts v r e (reads_right (reads_right (reads_left x))) = both (on_first stmt_starts_at ts) (by_front (λ us. on_first stmt_starts_at us ≡ true) (keyword_front k.Return (first_came x)) (λ q s. refl)) e
no_statement d ts v r e (reads_right (reads_right (reads_right (reads_left (reads_rule (reads_bind (reads_bind x z) u)))))) = both (on_first stmt_starts_at ts) (by_front (λ us. on_first stmt_starts_at us ≡ true) (keyword_front k.If (token_came x)) (λ q s. refl)) e
no_statement d ts v r e (reads_right (reads_right (reads_right (reads_right (reads_left (reads_where c x)))))) = both (on_first stmt_starts_at ts) (by_front (λ us. on_first stmt_starts_at us ≡ true) (word_front (codes "println") (first_came x)) (λ q s. refl)) e
no_statement d ts v r e (reads_right (reads_right (reads_right (reads_right (reads_right (reads_left (reads_where c x))))))) = both (on_first stmt_starts_at ts) (by_front (λ us. on_first stmt_starts_at us ≡ true) (word_front (codes "log") (first_came x)) (λ q s. refl)) e
no_statement d ts v r e (reads_right (reads_right (reads_right (reads_right (reads_right (reads_right (reads_where c x))))))) = (expr_misses d 0 ts (no_expr_start ts e)).ends.none v r x

body_over : (d i : ℕ) (a : Tree) (ts : List Lexeme) (b : Tree) (mid : List Lexeme) → body_ends ts ≡ true → Reads rules (row.separated (rule (Stmt d)) i a) ts b mid → ⊥
unfolding rules
body_over d i a ts b mid e (reads_bind x y) = at_any (on_first stmt_starts_at ts) (labels ts) refl refl e
  where
    at_statement : on_first stmt_starts_at ts ≡ false → {v : Tree} {r : List Lexeme} → Reads rules (row.with_sep (rule (Stmt d))) ts v r → ⊥
    at_statement f (reads_bind (reads_rule z) u) = no_statement d ts _ _ f z

    at_any : (p q : Bool) → on_first stmt_starts_at ts ≡ p → labels ts ≡ q → not p || q ≡ true → ⊥
    at_any p true f l h = (stmt_at_label d ts (label_of ts l)).ends.none _ _ x
    at_any false false f l h = at_statement f x
    at_any true false f l h = both false h refl

pub body_det : (d : ℕ) → Det always (row.series body_ends (rule (Stmt d)))
body_det d = none_det (λ i x. separated_det (stmt_sep_det (det_rule (λ ts e. e))) i x) (λ i x ts b mid c y. body_over d i x ts b mid c y)

-- ---- choices

pub block_det : {f : List Lexeme → Bool} (d : ℕ) → Det f (row.block d)
block_det d = seq_det (braced_det d (rule_det (λ ts. refl))) (λ xs. det_gives)

else_once : (d n : ℕ) (ts : List Lexeme) (v w : Tree) (r s : List Lexeme) → Reads rules (row.block d) ts v r → Reads rules (rule (Choice d (suc n))) ts w s → always r ≡ true → always s ≡ true → ⊥
unfolding rules
else_once d n ts v w r s (reads_bind x z) (reads_rule (reads_bind (reads_bind y u) o)) e h = clash (mark_front m.OpenBrace (first_came x)) (token_came y) (λ q. refl)

pub choice_det : (d n : ℕ) → Det always (row.choice d n)
choice_det d n = seq_det (seq_det det_token (λ w. seq_det (round_det d (rule_det (λ ts. refl))) (λ c. seq_det (block_det d) (λ xs. det_gives)))) (λ a. seq_det (maybe_det (seq_det det_token (λ w. det_either (block_det d) (rule_det (λ ts. refl)) (else_once d n))) heads_first (λ ts e. e)) (λ e. det_gives))
