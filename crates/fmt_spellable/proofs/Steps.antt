-- What the parts of the grammar that many rules share make of fit tokens.
use Rattle.std.proofs.Common.{◌≡◌, ℕ, Bool, List, ◌∷◌, Some}
use Rattle.nf_token.specs.declared.token.Lexeme.{Lexeme}
use Rattle.nf_grammar.specs.Gram.{token, gives, bind, either, only_where, many}
use Rattle.nf_ast.specs.Tree.{Tree, empty, cons, snoc}
use Rattle.nf_exprs.specs.Level.{Gram}
use Rattle.nf_exprs.specs.Tokens.{Kind}
use Rattle.nf_exprs.specs.Rules.{rules, maybe, listed, series, with_sep, skips, sep, closes, closed}
use Rattle.fmt_tokens.specs.Fits.{Fits}
use Rattle.fmt_trees.specs.Shape.{Sort, row, Shaped, no_more, one_more}
use Rattle.fmt_spellable.specs.Fit.{AreFit}
use Rattle.fmt_spellable.specs.Made.{Made}
use Rattle.fmt_spellable.proofs.Holds.{Holds, holds_token, holds_gives, holds_bind, holds_either, holds_where, holds_many, holds_more}

-- of fit tokens a part makes a tree of which this holds, and leaves fit tokens
abbrev pub Good : ℕ → Gram → (Tree → Type 0) → Type 0
Good n g P = Holds rules n AreFit g (λ v r. P v × AreFit r)

abbrev pub Any : Tree → Type 0
Any v = Unit {0}

module _ {n : ℕ} where
  pub given : {A : Type 0} {g : Gram} {Q : Tree → List Lexeme → Type 0} → (A → Holds rules n AreFit g Q) → Holds rules n (λ ts. A × AreFit ts) g Q
  given h = record { holds = λ ts v r x i c. (h c.0).holds ts v r x i c.1 }

  -- a part, and then what follows from what it made
  pub seq : {g : Gram} {k : Tree → Gram} {P Q : Tree → Type 0} → Good n g P → ((a : Tree) → P a → Good n (k a) Q) → Good n (bind g k) Q
  seq h j = holds_bind h (λ a. given (j a))

  -- one token, and what it stands for
  pub one : {b : Bool} {p : Kind} {P : Tree → Type 0} → ((t : Lexeme) (ts : List Lexeme) (v : Tree) → p t ≡ Some v → AreFit (t ∷ ts) → P v) → Good n (token b p) P
  one h = holds_token (λ t ts v e c. (h t ts v e c, c.2))

  -- one token of which nothing is kept
  pub past : {b : Bool} {p : Kind} → Good n (token b p) Any
  past = one (λ t ts v e c. tt)

  pub skip : {b : Bool} {p : Kind} {k : Tree → Gram} {Q : Tree → Type 0} → ((a : Tree) → Good n (k a) Q) → Good n (bind (token b p) k) Q
  skip h = seq past (λ a u. h a)

  pub ret : {v : Tree} {P : Tree → Type 0} → P v → Good n (gives v) P
  ret h = holds_gives (λ ts c. (h, c))

  pub arms : {g h : Gram} {P : Tree → Type 0} → Good n g P → Good n h P → Good n (either g h) P
  arms a b = holds_either a b

  pub tested : {f : List Lexeme → Bool} {g : Gram} {P : Tree → Type 0} → Good n g P → Good n (only_where f g) P
  tested a = holds_where a

  pub turns : {f : List Lexeme → Bool} {q : ℕ → Tree → Gram} {k : ℕ} {a : Tree} {P : Tree → Type 0} → ((i : ℕ) (b : Tree) → P b → Good n (q i b) P) → P a → Good n (many f q k a) P
  turns h p = holds_more (λ ts c. (p, c)) (λ v r c. c) (holds_many (λ i b. given (h i b)))

  pub weaker : {g : Gram} {P Q : Tree → Type 0} → ((v : Tree) → P v → Q v) → Good n g P → Good n g Q
  weaker h a = holds_more (λ ts c. c) (λ v r c. (h v c.0, c.1)) a

  pub either_of : {f : List Lexeme → Bool} {g : Gram} {P : Tree → Type 0} → Good n g P → P empty → Good n (maybe g f) P
  either_of a p = arms a (tested (ret p))

  pub skipped : {p : Kind} {f : List Lexeme → Bool} → Good n (skips p f) Any
  skipped = either_of (skip (λ a. ret tt)) tt

  pub separated_by : Good n sep Any
  separated_by = skipped

  pub closing : Good n closes Any
  closing = seq skipped (λ a u. skip (λ b. ret tt))

  pub enclosed : {g : Gram} {P : Tree → Type 0} → Good n g P → Good n (closed g) P
  enclosed a = seq a (λ x p. seq closing (λ c u. ret p))

  pub ended : {g : Gram} {P : Tree → Type 0} → Good n g P → Good n (with_sep g) P
  ended a = seq a (λ x p. seq separated_by (λ c u. ret p))

-- ---- parts in a row

snoc_shaped : {s : Sort} {xs b : Tree} → Shaped (row s) xs → Shaped s b → Shaped (row s) (snoc xs b)
snoc_shaped no_more h = one_more h no_more
snoc_shaped (one_more x xs) h = one_more x (snoc_shaped xs h)

snoc_fits : {s : Sort} {xs : Tree} (b : Tree) → Shaped (row s) xs → Fits xs → Fits b → Fits (snoc xs b)
snoc_fits b no_more f h = (h, tt)
snoc_fits b (one_more x xs) f h = (f.0, snoc_fits b xs f.1 h)

pub snoc_made : {s : Sort} {xs b : Tree} → Made (row s) xs → Made s b → Made (row s) (snoc xs b)
snoc_made xs b = record { shaped = snoc_shaped xs.shaped b.shaped; fits = snoc_fits _ xs.shaped xs.fits b.fits }

pub none_made : {s : Sort} → Made (row s) empty
none_made = record { shaped = no_more; fits = tt }

pub one_made : {s : Sort} {x : Tree} → Made s x → Made (row s) (cons x empty)
one_made x = record { shaped = one_more x.shaped no_more; fits = (x.fits, tt) }

-- at least one part of that sort
pub data AtLeastOne (s : Sort) : Tree → Type 0 where
  these : {x xs : Tree} → Made s x → Made (row s) xs → AtLeastOne s (cons x xs)

pub snoc_some : {s : Sort} {xs b : Tree} → AtLeastOne s xs → Made s b → AtLeastOne s (snoc xs b)
snoc_some (these x xs) b = these x (snoc_made xs b)

pub all_of : {s : Sort} {xs : Tree} → AtLeastOne s xs → Made (row s) xs
all_of (these x xs) = record { shaped = one_more x.shaped xs.shaped; fits = (x.fits, xs.fits) }

module _ {n : ℕ} where
  -- x { "," x }
  pub some_listed : {ends : List Lexeme → Bool} {g : Gram} {s : Sort} → Good n g (Made s) → Good n (listed ends g) (AtLeastOne s)
  some_listed h = seq h (λ a p. turns (λ i b q. skip (λ c. seq h (λ x r. ret (snoc_some q r)))) (these p none_made))

  pub all_listed : {ends : List Lexeme → Bool} {g : Gram} {s : Sort} → Good n g (Made s) → Good n (listed ends g) (Made (row s))
  all_listed h = weaker (λ v p. all_of p) (some_listed h)

  pub in_series : {ends : List Lexeme → Bool} {g : Gram} {s : Sort} → Good n g (Made s) → Good n (series ends g) (Made (row s))
  in_series h = turns (λ i b q. seq (ended h) (λ x r. ret (snoc_made q r))) none_made
