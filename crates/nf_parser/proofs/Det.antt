-- Parts that any tokens spell in one way at most, where what follows passes a test.
use Rattle.std.proofs.Common.{◌≡◌, ℕ, suc, Bool, true, false, List, [], ◌∷◌, Some, None, refl, sym, subst, ap, ◌∙◌}
use Rattle.std.proofs.Common.{rules as std_rules}
use Rattle.std.specs.Prelude.{not, if◌then◌else◌}
use Rattle.std.proofs.lemmas.Slice.Eq.{bytes_eq-Decides}
use denote.Enum.Bare.{same_true}
use Rattle.nf_value.specs.declared.place.Place.{Place}
use Rattle.nf_token.specs.contracts.token.Mark as mark_type
use Rattle.nf_token.specs.contracts.token.Keyword as keyword_type
use Rattle.nf_token.specs.declared.token.Mark.{Mark}
use Rattle.nf_token.specs.declared.token.Mark.TheVariants as m
use Rattle.nf_token.specs.declared.token.Keyword.{Keyword}
use Rattle.nf_token.specs.declared.token.PlainKind.{PlainKind}
use Rattle.nf_token.specs.declared.token.TemplateKind.{TemplateKind}
use Rattle.nf_token.specs.declared.token.Token.{Token}
use Rattle.nf_token.specs.declared.token.Token.TheVariants as t
use Rattle.nf_token.specs.declared.token.Lexeme.{Lexeme}
use Rattle.nf_grammar.specs.Gram.{token, gives, bind, either, only_where, many, rule}
use Rattle.nf_grammar.specs.Parts.{no_next, none_of}
use Rattle.nf_grammar.specs.Reads.{Reads, reads_token, reads_bind, reads_left, reads_right, reads_where, reads_rule}
use Rattle.nf_ast.specs.Tree.{Tree}
use Rattle.nf_exprs.specs.Level.{Level, Stmt, Output, Gram}
use Rattle.nf_exprs.specs.Tokens.{Kind, mark_at, mark_of, keyword_at, keyword_of, word_at, word_of, name_at, name_of, plain_at, plain, open_template_at, open_template, separator_at, separator, at_end, colon}
use Rattle.nf_exprs.specs.Rules.{rules, skips, sep, with_sep, separated, commas}
use Rattle.nf_exprs.proofs.Rows.{no_end_at_separator}
use Rattle.nf_parser.proofs.Words.{Came, comes_next}

-- any tokens may follow
abbrev pub always : List Lexeme → Bool
always ts = true

-- what may follow a rule
abbrev pub follow : Level → List Lexeme → Bool
follow (Stmt d) = no_next (mark_of m.Equals)
follow Output = no_next colon
follow _ = always

pub data Det : (List Lexeme → Bool) → Gram → Type 0 where
  det_token : {f : List Lexeme → Bool} {b : Bool} {p : Kind} → Det f (token b p)
  det_gives : {f : List Lexeme → Bool} {v : Tree} → Det f (gives v)
  det_bind : {f h : List Lexeme → Bool} {g : Gram} {k : Tree → Gram} → Det h g → ((a : Tree) → Det f (k a)) → ((a : Tree) (ts : List Lexeme) (v : Tree) (r : List Lexeme) → Reads rules (k a) ts v r → f r ≡ true → h ts ≡ true) → Det f (bind g k)
  det_either : {f : List Lexeme → Bool} {g h : Gram} → Det f g → Det f h → ((ts : List Lexeme) (v w : Tree) (r s : List Lexeme) → Reads rules g ts v r → Reads rules h ts w s → f r ≡ true → f s ≡ true → ⊥) → Det f (either g h)
  det_where : {f : List Lexeme → Bool} {c : List Lexeme → Bool} {g : Gram} → Det f g → Det f (only_where c g)
  det_many : {f : List Lexeme → Bool} {c : List Lexeme → Bool} {q : ℕ → Tree → Gram} {n : ℕ} {a : Tree} → ((i : ℕ) (x : Tree) → Det always (q i x)) → ((i : ℕ) (x : Tree) (ts mid r : List Lexeme) (b v : Tree) → c ts ≡ true → Reads rules (q i x) ts b mid → Reads rules (many c q (suc i) b) mid v r → f r ≡ true → ⊥) → Det f (many c q n a)
  det_rule : {f : List Lexeme → Bool} {l : Level} → ((ts : List Lexeme) → f ts ≡ true → follow l ts ≡ true) → Det f (rule l)

-- ---- the first token

pub first_came : {b : Bool} {p : Kind} {k : Tree → Gram} {ts r : List Lexeme} {v : Tree} → Reads rules (bind (token b p) k) ts v r → Came p ts
first_came (reads_bind (reads_token e) s) = record { v = _; rest = _; takes = (_, e, refl) }

pub token_came : {b : Bool} {p : Kind} {ts r : List Lexeme} {v : Tree} → Reads rules (token b p) ts v r → Came p ts
token_came (reads_token e) = record { v = _; rest = _; takes = (_, e, refl) }

pub came_next : {p : Kind} {ts : List Lexeme} → Came p ts → no_next p ts ≡ false
came_next {p} {ts} c = subst (λ x. no_next p x ≡ false) (sym c.takes.2) (ap none_of c.takes.1)

pub not_come : {p : Kind} {ts : List Lexeme} → Came p ts → no_next p ts ≡ true → ⊥
not_come c e = let f = came_next c in cc

-- the part begins with this token
abbrev pub Heads : Kind → Gram → Type 0
Heads p g = (ts : List Lexeme) (v : Tree) (r : List Lexeme) → Reads rules g ts v r → Came p ts

pub heads_token : {b : Bool} {p : Kind} → Heads p (token b p)
heads_token ts v r x = token_came x

pub heads_first : {b : Bool} {p : Kind} {k : Tree → Gram} → Heads p (bind (token b p) k)
heads_first ts v r x = first_came x

pub heads_bind : {p : Kind} {g : Gram} {k : Tree → Gram} → Heads p g → Heads p (bind g k)
heads_bind h ts v r (reads_bind x y) = h ts _ _ x

pub heads_rule : {p : Kind} {l : Level} → Heads p (rules l) → Heads p (rule l)
heads_rule h ts v r (reads_rule x) = h ts _ _ x

-- which token comes
pub record Front (y : Token) (ts : List Lexeme) : Type 0 where
  pub place : Place
  pub rest : List Lexeme
  pub is : ts ≡ (record { token = y; place = place }) ∷ rest

pub front_at : (y : Token) (x : Lexeme) (ts rest : List Lexeme) → x.token ≡ y → ts ≡ x ∷ rest → Front y ts
front_at y x ts rest e f = record { place = x.place; rest = rest; is = f ∙ ap (λ (k : Token). (record { token = k; place = x.place }) ∷ rest) e }

pub miss : (p : Kind) {y : Token} {ts : List Lexeme} → Front y ts → ((q : Place) → none_of (p (record { token = y; place = q })) ≡ true) → no_next p ts ≡ true
miss p {y} {ts} f h = subst (λ us. no_next p us ≡ true) (sym f.is) (h f.place)

pub by_front : {y : Token} {ts : List Lexeme} (P : List Lexeme → Type 0) → Front y ts → ((q : Place) (rest : List Lexeme) → P ((record { token = y; place = q }) ∷ rest)) → P ts
by_front {y} {ts} P f h = subst P (sym f.is) (h f.place f.rest)

if_some : {X : Type 0} (b : Bool) (x v : X) → (if b then Some x else None) ≡ Some v → b ≡ true
if_some true x v e = refl
if_some false x v e = absurd (let f : None ≡ Some v = e in cc)

mark_token : (q : Mark) (x : Token) (p : Place) (v : Tree) → mark_at q x p ≡ Some v → x ≡ t.Mark q
mark_token q (t.Mark x) p v e = ap t.Mark (same_true mark_type.the_type (search std_rules) x q (if_some _ _ v e))
mark_token q _ p v e = absurd cc

keyword_token : (q : Keyword) (x : Token) (p : Place) (v : Tree) → keyword_at q x p ≡ Some v → x ≡ t.Keyword q
keyword_token q (t.Keyword x) p v e = ap t.Keyword (same_true keyword_type.the_type (search std_rules) x q (if_some _ _ v e))
keyword_token q _ p v e = absurd cc

word_token : (w : List ℕ) (x : Token) (p : Place) (v : Tree) → word_at w x p ≡ Some v → x ≡ t.Name w
word_token w (t.Name n) p v e = ap t.Name ((bytes_eq-Decides n w).0 (if_some _ _ v e))
word_token w _ p v e = absurd cc

name_token : (x : Token) (p : Place) (v : Tree) → name_at x p ≡ Some v → (n : List ℕ) × (x ≡ t.Name n)
name_token (t.Name n) p v e = (n, refl)
name_token _ p v e = absurd cc

plain_token : (x : Token) (p : Place) (v : Tree) → plain_at x p ≡ Some v → (q : PlainKind) × (s : List ℕ) × (x ≡ t.Plain q s)
plain_token (t.Plain q s) p v e = (q, s, refl)
plain_token _ p v e = absurd cc

template_token : (x : Token) (p : Place) (v : Tree) → open_template_at x p ≡ Some v → (q : TemplateKind) × (x ≡ t.OpenTemplate q)
template_token (t.OpenTemplate q) p v e = (q, refl)
template_token _ p v e = absurd cc

pub mark_front : (q : Mark) {ts : List Lexeme} → Came (mark_of q) ts → Front (t.Mark q) ts
mark_front q {ts} c = let x = c.takes.0 in front_at (t.Mark q) x ts c.rest (mark_token q x.token x.place c.v c.takes.1) c.takes.2

pub keyword_front : (q : Keyword) {ts : List Lexeme} → Came (keyword_of q) ts → Front (t.Keyword q) ts
keyword_front q {ts} c = let x = c.takes.0 in front_at (t.Keyword q) x ts c.rest (keyword_token q x.token x.place c.v c.takes.1) c.takes.2

pub word_front : (w : List ℕ) {ts : List Lexeme} → Came (word_of w) ts → Front (t.Name w) ts
word_front w {ts} c = let x = c.takes.0 in front_at (t.Name w) x ts c.rest (word_token w x.token x.place c.v c.takes.1) c.takes.2

pub name_front : {ts : List Lexeme} → Came name_of ts → (n : List ℕ) × Front (t.Name n) ts
name_front {ts} c = let x = c.takes.0 in let n = name_token x.token x.place c.v c.takes.1 in (n.0, front_at (t.Name n.0) x ts c.rest n.1 c.takes.2)

pub plain_front : {ts : List Lexeme} → Came plain ts → (q : PlainKind) × (s : List ℕ) × Front (t.Plain q s) ts
plain_front {ts} c = let x = c.takes.0 in let n = plain_token x.token x.place c.v c.takes.1 in (n.0, n.1, front_at (t.Plain n.0 n.1) x ts c.rest n.2 c.takes.2)

pub template_front : {ts : List Lexeme} → Came open_template ts → (q : TemplateKind) × Front (t.OpenTemplate q) ts
template_front {ts} c = let x = c.takes.0 in let n = template_token x.token x.place c.v c.takes.1 in (n.0, front_at (t.OpenTemplate n.0) x ts c.rest n.1 c.takes.2)

-- ---- parts that rules share

pub seq_det : {f : List Lexeme → Bool} {g : Gram} {k : Tree → Gram} → Det always g → ((a : Tree) → Det f (k a)) → Det f (bind g k)
seq_det d h = det_bind d h (λ a ts v r x e. refl)

pub rule_det : {f : List Lexeme → Bool} {l : Level} → ((ts : List Lexeme) → follow l ts ≡ true) → Det f (rule l)
rule_det h = det_rule (λ ts e. h ts)

-- [ x ], where x begins with a token that the test excludes
pub maybe_det : {f : List Lexeme → Bool} {g : Gram} {p : Kind} {c : List Lexeme → Bool} {v : Tree} → Det f g → Heads p g → ((ts : List Lexeme) → c ts ≡ true → no_next p ts ≡ true) → Det f (either g (only_where c (gives v)))
maybe_det {f} {g} {p} {c} {v} d h n = det_either d (det_where det_gives) apart
  where
    apart : (ts : List Lexeme) (a w : Tree) (r s : List Lexeme) → Reads rules g ts a r → Reads rules (only_where c (gives v)) ts w s → f r ≡ true → f s ≡ true → ⊥
    apart ts a w r s x (reads_where e y) i j = not_come (h ts a r x) (n ts e)

-- { x }, where x begins with a token that the test excludes
pub many_det : {f : List Lexeme → Bool} {c : List Lexeme → Bool} {q : ℕ → Tree → Gram} {n : ℕ} {a : Tree} (p : Kind) → ((i : ℕ) (x : Tree) → Det always (q i x)) → ((i : ℕ) (x : Tree) → Heads p (q i x)) → ((ts : List Lexeme) → c ts ≡ true → no_next p ts ≡ true) → Det f (many c q n a)
many_det p d h e = det_many d (λ i x ts mid r b v t y z u. not_come (h i x ts b mid y) (e ts t))

pub none_det : {f : List Lexeme → Bool} {c : List Lexeme → Bool} {q : ℕ → Tree → Gram} {n : ℕ} {a : Tree} → ((i : ℕ) (x : Tree) → Det always (q i x)) → ((i : ℕ) (x : Tree) (ts : List Lexeme) (b : Tree) (mid : List Lexeme) → c ts ≡ true → Reads rules (q i x) ts b mid → ⊥) → Det f (many c q n a)
none_det d h = det_many d (λ i x ts mid r b v t y z u. h i x ts b mid t y)

pub skips_det : {f : List Lexeme → Bool} (p : Kind) (c : List Lexeme → Bool) → ((ts : List Lexeme) → c ts ≡ true → no_next p ts ≡ true) → Det f (skips p c)
skips_det p c h = maybe_det (seq_det det_token (λ a. det_gives)) heads_first h

at_end_no_separator : (ts : List Lexeme) → at_end ts ≡ true → no_next separator ts ≡ true
at_end_no_separator ts e = at_any (no_next separator ts) refl
  where
    at_any : (b : Bool) → no_next separator ts ≡ b → b ≡ true
    at_any true h = refl
    at_any false h = absurd (let c = comes_next separator ts (ap not h) in let g = no_end_at_separator ts c.rest c.v c.takes in cc)

pub sep_det : {f : List Lexeme → Bool} → Det f sep
sep_det = skips_det separator at_end at_end_no_separator

-- a separator isn't an equals sign or a colon, and neither ends a part
record SepNext (ts : List Lexeme) : Type 0 where
  equals : no_next (mark_of m.Equals) ts ≡ true
  colon : no_next colon ts ≡ true

separator_next : (x : Lexeme) (ts : List Lexeme) (v : Tree) → separator x ≡ Some v → SepNext (x ∷ ts)
separator_next x ts v e = at_token x.token x.place e
  where
    at_token : (y : Token) (p : Place) → separator_at y p ≡ Some v → SepNext ((record { token = y; place = p }) ∷ ts)
    at_token t.Separator p e = record { equals = refl; colon = refl }
    at_token _ p e = absurd cc

end_next : (ts : List Lexeme) → at_end ts ≡ true → SepNext ts
end_next [] e = record { equals = refl; colon = refl }
end_next (x ∷ xs) e =
    let f = mark_front m.CloseBrace (comes_next (mark_of m.CloseBrace) (x ∷ xs) e) in
    record { equals = miss (mark_of m.Equals) f (λ q. refl); colon = miss colon f (λ q. refl) }

sep_next : {ts r : List Lexeme} {v : Tree} → Reads rules sep ts v r → SepNext ts
sep_next (reads_left (reads_bind (reads_token {t = x} {ts = ts} {v = v} e) s)) = separator_next x ts v e
sep_next (reads_right (reads_where {ts = ts} e s)) = end_next ts e

-- x sep
pub with_sep_det : {f : List Lexeme → Bool} {g : Gram} → Det always g → Det f (with_sep g)
with_sep_det d = seq_det d (λ a. seq_det sep_det (λ s. det_gives))

pub stmt_sep_det : {f : List Lexeme → Bool} {g : Gram} → Det (no_next (mark_of m.Equals)) g → Det f (with_sep g)
stmt_sep_det {f} {g} d = det_bind d (λ a. seq_det sep_det (λ s. det_gives)) follows
  where
    follows : (a : Tree) (ts : List Lexeme) (v : Tree) (r : List Lexeme) → Reads rules (bind sep (λ s. gives a)) ts v r → f r ≡ true → no_next (mark_of m.Equals) ts ≡ true
    follows a ts v r (reads_bind x y) e = (sep_next x).equals

pub output_sep_det : {f : List Lexeme → Bool} {g : Gram} → Det (no_next colon) g → Det f (with_sep g)
output_sep_det {f} {g} d = det_bind d (λ a. seq_det sep_det (λ s. det_gives)) follows
  where
    follows : (a : Tree) (ts : List Lexeme) (v : Tree) (r : List Lexeme) → Reads rules (bind sep (λ s. gives a)) ts v r → f r ≡ true → no_next colon ts ≡ true
    follows a ts v r (reads_bind x y) e = (sep_next x).colon

-- x sep, at the end of what was read
pub separated_det : {g : Gram} → Det always (with_sep g) → (i : ℕ) (x : Tree) → Det always (separated g i x)
separated_det d i x = seq_det d (λ a. det_gives)

-- x { "," x }
pub commas_det : {f : List Lexeme → Bool} {g : Gram} → Det always g → Det f (commas g)
commas_det {f} {g} d = seq_det d (λ a. many_det (mark_of m.Comma) (λ i x. seq_det det_token (λ c. seq_det d (λ b. det_gives))) (λ i x. heads_first) (λ ts e. e))
