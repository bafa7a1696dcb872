-- Words, names and marks: what a token that is one of them isn't.
use Rattle.std.proofs.Common.{◌≡◌, ℕ, Bool, true, false, List, [], ◌∷◌, Option, Some, None, refl, sym, subst, ap, ◌∙◌}
use Rattle.std.specs.Prelude.{bytes_eq, not, if◌then◌else◌, MatchOption, is_some, ◌&&◌}
use Rattle.std.proofs.lemmas.Slice.Eq.{bytes_eq-Decides}
use denote.Bor.{Bor}
use Rattle.nf_value.specs.declared.place.Place.{Place}
use Rattle.nf_token.specs.declared.token.Mark.{Mark}
use Rattle.nf_token.specs.declared.token.Keyword.{Keyword}
use Rattle.nf_token.specs.declared.token.Token.{Token}
use Rattle.nf_token.specs.declared.token.Token.TheVariants as t
use Rattle.nf_token.specs.declared.token.Lexeme.{Lexeme}
use Rattle.nf_grammar.specs.Gram.{token}
use Rattle.nf_grammar.specs.Parts.{no_next, none_of}
use Rattle.nf_grammar.specs.Reads.{Stands, stands_after}
use Rattle.nf_ast.specs.Tree.{Tree, name, point}
use Rattle.nf_exprs.specs.Tokens.{Kind, word_at, word_of, name_at, name_of, mark_of, keyword_at, keyword_of, plain_at, plain, open_template_at, open_template, is_next, after}
use Rattle.nf_exprs.specs.Rules.{rules}
use Rattle.nf_exprs.specs.Parses.{Takes}

-- ---- a token that comes, or doesn't

pub record Came (p : Kind) (ts : List Lexeme) : Type 0 where
  pub v : Tree
  pub rest : List Lexeme
  pub takes : Takes p ts v rest

module _ {X : Type 0} (tree : X → Tree) (rest : X → List Lexeme) (p : Kind) (ts : List Lexeme) (r : Option X) (b : Bool) where
  came : MatchOption r (no_next p ts ≡ true) (λ x. Takes p ts (tree x) (rest x)) → is_some r ≡ true → Came p ts
  came h e = at_any r h e
    where
      at_any : (r : Option X) → MatchOption r (no_next p ts ≡ true) (λ x. Takes p ts (tree x) (rest x)) → is_some r ≡ true → Came p ts
      at_any None h e = absurd cc
      at_any (Some x) h e = record { v = tree x; rest = rest x; takes = h }

  missed : MatchOption r (no_next p ts ≡ true) (λ x. Takes p ts (tree x) (rest x)) → is_some r ≡ false → no_next p ts ≡ true
  missed h e = at_any r h e
    where
      at_any : (r : Option X) → MatchOption r (no_next p ts ≡ true) (λ x. Takes p ts (tree x) (rest x)) → is_some r ≡ false → no_next p ts ≡ true
      at_any None h e = h
      at_any (Some x) h e = absurd cc

module _ (w : List ℕ) (ts : List Lexeme) (r : Option (Place × Bor (List Lexeme))) where
  pub word_came : MatchOption r (no_next (word_of w) ts ≡ true) (λ x. Takes (word_of w) ts (name x.0 w) x.1.now) → is_some r ≡ true → Came (word_of w) ts
  word_came h e = came (λ x. name x.0 w) (λ x. x.1.now) (word_of w) ts r true h e

  pub word_missed : MatchOption r (no_next (word_of w) ts ≡ true) (λ x. Takes (word_of w) ts (name x.0 w) x.1.now) → is_some r ≡ false → no_next (word_of w) ts ≡ true
  word_missed h e = missed (λ x. name x.0 w) (λ x. x.1.now) (word_of w) ts r true h e

module _ (p : Kind) (ts : List Lexeme) (r : Option (Place × Bor (List Lexeme))) where
  pub mark_came : MatchOption r (no_next p ts ≡ true) (λ x. Takes p ts (point x.0) x.1.now) → is_some r ≡ true → Came p ts
  mark_came h e = came (λ x. point x.0) (λ x. x.1.now) p ts r true h e

  pub mark_missed : MatchOption r (no_next p ts ≡ true) (λ x. Takes p ts (point x.0) x.1.now) → is_some r ≡ false → no_next p ts ≡ true
  mark_missed h e = missed (λ x. point x.0) (λ x. x.1.now) p ts r true h e

data Chance (p : Kind) (ts : List Lexeme) : Type 0 where
  there : Came p ts → Chance p ts
  absent : no_next p ts ≡ true → Chance p ts

chance : (p : Kind) (ts : List Lexeme) → Chance p ts
chance p [] = absent refl
chance p (x ∷ xs) = at_any (p x) refl
  where
    at_any : (o : Option Tree) → p x ≡ o → Chance p (x ∷ xs)
    at_any (Some v) e = there (record { v = v; rest = xs; takes = (x, e, refl) })
    at_any None e = absent (ap none_of e)

pub comes_next : (p : Kind) (ts : List Lexeme) → is_next p ts ≡ true → Came p ts
comes_next p ts e = elim (chance p ts) [ there c ↦ c | absent n ↦ absurd (let f : not (no_next p ts) ≡ false = ap not n in cc) ]

-- a reading stands after it
pub stands_past : {b : Bool} {p : Kind} {ts : List Lexeme} → Came p ts → Stands rules (token b p) ts (after ts)
stands_past {b} {p} {ts} c = subst (λ y. Stands rules (token b p) y (after y)) (sym c.takes.2) (stands_after c.takes.1)

-- ---- another word

same_word : (n w u : List ℕ) (p : Place) → bytes_eq n w ≡ true → bytes_eq w u ≡ false → none_of (word_at u (t.Name n) p) ≡ true
same_word n w u p h d = subst (λ m. none_of (word_at u (t.Name m) p) ≡ true) (sym ((bytes_eq-Decides n w).0 h)) (rw d refl)

no_word : (w : List ℕ) (p : Place) (v : Tree) (b : Bool) → b ≡ false → (if b then Some (name p w) else None) ≡ Some v → ⊥
no_word w p v true h e = absurd cc
no_word w p v false h e = absurd cc

word_at_any : (w u n : List ℕ) (p : Place) (v : Tree) (b : Bool) → bytes_eq n w ≡ b → bytes_eq w u ≡ false → (if bytes_eq n w then Some (name p w) else None) ≡ Some v → none_of (word_at u (t.Name n) p) ≡ true
word_at_any w u n p v true h d e = same_word n w u p h d
word_at_any w u n p v false h d e = absurd (no_word w p v (bytes_eq n w) h e)

word_not_word_at : (w u : List ℕ) (k : Token) (p : Place) (v : Tree) → bytes_eq w u ≡ false → word_at w k p ≡ Some v → none_of (word_at u k p) ≡ true
word_not_word_at w u (t.Name n) p v d e = word_at_any w u n p v (bytes_eq n w) refl d e
word_not_word_at w u _ p v d e = absurd cc

pub other_word : (w u : List ℕ) {ts rest : List Lexeme} {v : Tree} → bytes_eq w u ≡ false → Takes (word_of w) ts v rest → no_next (word_of u) ts ≡ true
other_word w u {ts} {rest} {v} d e = subst (λ x. no_next (word_of u) x ≡ true) (sym e.2) (word_not_word_at w u e.0.token e.0.place v d e.1)

-- ---- a name

-- a name, and the rest
pub record Named (ts : List Lexeme) : Type 0 where
  pub name : List ℕ
  pub place : Place
  pub rest : List Lexeme
  pub is : ts ≡ (record { token = t.Name name; place = place }) ∷ rest

is_name : (k : Token) (p : Place) (v : Tree) → name_at k p ≡ Some v → (n : List ℕ) × (k ≡ t.Name n)
is_name (t.Name n) p v e = (n, refl)
is_name _ p v e = absurd cc

is_word : (w : List ℕ) (k : Token) (p : Place) (v : Tree) → word_at w k p ≡ Some v → (n : List ℕ) × (k ≡ t.Name n)
is_word w (t.Name n) p v e = (n, refl)
is_word w _ p v e = absurd cc

named_at : (x : Lexeme) (ts rest : List Lexeme) (n : List ℕ) → x.token ≡ t.Name n → ts ≡ x ∷ rest → Named ts
named_at x ts rest n e f = record { name = n; place = x.place; rest = rest; is = f ∙ ap (λ (k : Token). (record { token = k; place = x.place }) ∷ rest) e }

pub named : {ts rest : List Lexeme} {v : Tree} → Takes name_of ts v rest → Named ts
named {ts} {rest} {v} e = let n = is_name e.0.token e.0.place v e.1 in named_at e.0 ts rest n.0 n.1 e.2

pub word_named : (w : List ℕ) {ts rest : List Lexeme} {v : Tree} → Takes (word_of w) ts v rest → Named ts
word_named w {ts} {rest} {v} e = let n = is_word w e.0.token e.0.place v e.1 in named_at e.0 ts rest n.0 n.1 e.2

-- what holds of each list that begins with a name
pub by_name : {ts : List Lexeme} (P : List Lexeme → Type 0) → Named ts → ((n : List ℕ) (p : Place) (rest : List Lexeme) → P ((record { token = t.Name n; place = p }) ∷ rest)) → P ts
by_name {ts} P n h = subst P (sym n.is) (h n.name n.place n.rest)

pub no_mark : (q : Mark) {ts : List Lexeme} → Named ts → no_next (mark_of q) ts ≡ true
no_mark q n = by_name (λ ts. no_next (mark_of q) ts ≡ true) n (λ w p rest. refl)

pub no_keyword : (q : Keyword) {ts : List Lexeme} → Named ts → no_next (keyword_of q) ts ≡ true
no_keyword q n = by_name (λ ts. no_next (keyword_of q) ts ≡ true) n (λ w p rest. refl)

-- a keyword is no word
keyword_not_word_at : (q : Keyword) (w : List ℕ) (k : Token) (p : Place) (v : Tree) → keyword_at q k p ≡ Some v → none_of (word_at w k p) ≡ true
keyword_not_word_at q w (t.Keyword x) p v e = refl
keyword_not_word_at q w _ p v e = absurd cc

pub keyword_no_word : (q : Keyword) (w : List ℕ) {ts rest : List Lexeme} {v : Tree} → Takes (keyword_of q) ts v rest → no_next (word_of w) ts ≡ true
keyword_no_word q w {ts} {rest} {v} e = subst (λ x. no_next (word_of w) x ≡ true) (sym e.2) (keyword_not_word_at q w e.0.token e.0.place v e.1)

-- ---- tests

pub both_miss : (a b : Bool) → a && b ≡ true → (a ≡ true) × (b ≡ true)
both_miss true b e = (refl, e)
both_miss false b e = absurd cc

pub not_true : (b : Bool) → not b ≡ true → b ≡ false
not_true true e = absurd cc
not_true false e = refl

pub not_false : (b : Bool) → not b ≡ false → b ≡ true
not_false true e = refl
not_false false e = absurd cc

-- a test that a function computes as its opposite
pub goes_here : (b ends : Bool) → b ≡ not ends → b ≡ true → ends ≡ false
goes_here b ends e f = not_true ends (sym e ∙ f)

pub ends_here : (b ends : Bool) → b ≡ not ends → b ≡ false → ends ≡ true
ends_here b ends e f = not_false ends (sym e ∙ f)

-- whether a word comes, as a function answers
module _ (w : List ℕ) (ts : List Lexeme) (r : Option (Place × Bor (List Lexeme))) (b : Bool) where
  pub known_word : MatchOption r (no_next (word_of w) ts ≡ true) (λ x. Takes (word_of w) ts (name x.0 w) x.1.now) → b ≡ is_some r → b ≡ true → is_next (word_of w) ts ≡ true
  known_word h e f = let c = word_came w ts r h (sym e ∙ f) in ap not (comes_here c)
    where
      comes_here : Came (word_of w) ts → no_next (word_of w) ts ≡ false
      comes_here c = subst (λ x. no_next (word_of w) x ≡ false) (sym c.takes.2) (ap none_of c.takes.1)

  pub unknown_word : MatchOption r (no_next (word_of w) ts ≡ true) (λ x. Takes (word_of w) ts (name x.0 w) x.1.now) → b ≡ is_some r → b ≡ false → is_next (word_of w) ts ≡ false
  unknown_word h e f = ap not (word_missed w ts r h (sym e ∙ f))

-- a plain string opens no template
plain_no_template_at : (k : Token) (p : Place) (v : Tree) → plain_at k p ≡ Some v → none_of (open_template_at k p) ≡ true
plain_no_template_at (t.Plain q s) p v e = refl
plain_no_template_at _ p v e = absurd cc

pub plain_no_template : {ts rest : List Lexeme} {v : Tree} → Takes plain ts v rest → no_next open_template ts ≡ true
plain_no_template {ts} {rest} {v} e = subst (λ x. no_next open_template x ≡ true) (sym e.2) (plain_no_template_at e.0.token e.0.place v e.1)
