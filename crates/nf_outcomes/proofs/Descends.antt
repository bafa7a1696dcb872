-- Parts in which no rule comes back to itself before a token is taken: each rule has a rank, and begins with rules of lower rank alone.
use Rattle.std.proofs.Common.{◌≡◌, ℕ, ◌<◌, Bool, true, false, List, refl, arith}
use Rattle.nf_token.specs.declared.token.Lexeme.{Lexeme}
use Rattle.nf_grammar.specs.Gram.{token, gives, bind, either, only_where, many, rule}
use Rattle.nf_ast.specs.Tree.{Tree}
use Rattle.nf_exprs.specs.declared.band.Band.{Band}
use Rattle.nf_exprs.specs.declared.band.Band.TheVariants as band
use Rattle.nf_exprs.specs.Level.{Level, Expr, Operands, Pre, Post, Prim, Args, Arg, Closure, Body, Stmt, Script, Top, Inputs, Outputs, Task, Parts, Gram}
use Rattle.nf_exprs.specs.Tokens.{Kind}
use Rattle.nf_exprs.specs.Rules.{maybe, skips, with_sep, separated, listed, series, closes, closed, body_section}

abbrev pub band_rank : Band → ℕ
band_rank band.Term = 3
band_rank band.Sum = 4
band_rank band.Range = 5
band_rank band.Compare = 6
band_rank band.Same = 7
band_rank band.Pipe = 8
band_rank band.And = 9
band_rank band.Or = 10

-- above the ranks of all rules with which the rule may begin; 0 where it begins with a token
abbrev pub rank : Level → ℕ
rank (Expr d n) = 11
rank (Operands d b) = band_rank b
rank (Pre d n) = 2
rank (Post d) = 1
rank (Args d) = 13
rank (Arg d) = 12
rank (Closure d p) = 14
rank (Body d) = 13
rank (Stmt d) = 12
rank Script = 2
rank Top = 1
rank Inputs = 1
rank Outputs = 1
rank Task = 14
rank Parts = 14
rank _ = 0

-- every rank is below this
abbrev pub top : ℕ
top = 15

-- whether each reading of the rule takes a token
abbrev pub takes : Level → Bool
takes (Body d) = false
takes Script = false
takes _ = true

-- `Descends b n g`: before a token is taken, g calls rules of a rank below n alone, and what may stand any number of times in it takes a
-- token; where b is true, so does each reading of g
pub data Descends : Bool → ℕ → Gram → Type 0 where
  down_token : {b past : Bool} {n : ℕ} {p : Kind} → Descends b n (token past p)
  down_gives : {n : ℕ} {v : Tree} → Descends false n (gives v)
  down_after : {b past : Bool} {n : ℕ} {p : Kind} {k : Tree → Gram} → ((a : Tree) → Descends false top (k a)) → Descends b n (bind (token past p) k)
  down_first : {b : Bool} {n : ℕ} {g : Gram} {k : Tree → Gram} → Descends b n g → ((a : Tree) → Descends false n (k a)) → Descends b n (bind g k)
  down_second : {b : Bool} {n : ℕ} {g : Gram} {k : Tree → Gram} → Descends false n g → ((a : Tree) → Descends b n (k a)) → Descends b n (bind g k)
  down_either : {b : Bool} {n : ℕ} {g h : Gram} → Descends b n g → Descends b n h → Descends b n (either g h)
  down_where : {b : Bool} {n : ℕ} {c : List Lexeme → Bool} {g : Gram} → Descends b n g → Descends b n (only_where c g)
  down_many : {n i : ℕ} {c : List Lexeme → Bool} {f : ℕ → Tree → Gram} {a : Tree} → ((j : ℕ) (x : Tree) → Descends true n (f j x)) → Descends false n (many c f i a)
  down_rule : {n : ℕ} {l : Level} → rank l < n → Descends false n (rule l)
  down_taking : {b : Bool} {n : ℕ} {l : Level} → takes l ≡ true → rank l < n → Descends b n (rule l)

-- ---- parts that rules share

-- one token after the other
pub down_tokens : {b past more : Bool} {n : ℕ} {p q : Kind} {v : Tree → Tree → Tree} → Descends b n (bind (token past p) (λ x. bind (token more q) (λ y. gives (v x y))))
down_tokens = down_after (λ x. down_after (λ y. down_gives))

-- [ x ]
pub down_maybe : {n : ℕ} {g : Gram} {c : List Lexeme → Bool} → Descends false n g → Descends false n (maybe g c)
down_maybe d = down_either d (down_where down_gives)

pub down_skips : {n : ℕ} {p : Kind} {c : List Lexeme → Bool} → Descends false n (skips p c)
down_skips = down_maybe (down_after (λ t. down_gives))

-- x sep
pub down_sep : {b : Bool} {n : ℕ} {g : Gram} → Descends b n g → Descends b n (with_sep g)
down_sep d = down_first d (λ a. down_first down_skips (λ s. down_gives))

pub down_separated : {b : Bool} {n : ℕ} {g : Gram} (i : ℕ) (a : Tree) → Descends b n g → Descends b n (separated g i a)
down_separated i a d = down_first (down_sep d) (λ x. down_gives)

-- { x sep }
pub down_series : {n : ℕ} {c : List Lexeme → Bool} {g : Gram} → Descends true n g → Descends false n (series c g)
down_series d = down_many (λ i x. down_separated i x d)

-- x { "," x }
pub down_listed : {b : Bool} {n : ℕ} {c : List Lexeme → Bool} {g : Gram} → Descends b n g → Descends false top g → Descends b n (listed c g)
down_listed d e = down_first d (λ a. down_many (λ i x. down_after (λ c. down_first e (λ y. down_gives))))

-- x "}"
pub down_closes : {b : Bool} {n : ℕ} → Descends b n closes
down_closes = down_second down_skips (λ s. down_after (λ c. down_gives))

pub down_closed : {b : Bool} {n : ℕ} {g : Gram} → Descends false n g → Descends b n (closed g)
down_closed d = down_second d (λ x. down_first down_closes (λ c. down_gives))

-- "{" x "}" and "(" x ")"
pub down_braced : {b past : Bool} {n : ℕ} {p : Kind} {g : Gram} → Descends false top g → Descends b n (bind (token past p) (λ o. closed g))
down_braced e = down_after (λ o. down_closed e)

pub down_round : {b past more : Bool} {n : ℕ} {p q : Kind} {g : Gram} → Descends false top g → Descends b n (bind (token past p) (λ o. bind g (λ x. bind (token more q) (λ c. gives x))))
down_round e = down_after (λ o. down_first e (λ x. down_after (λ c. down_gives)))

-- a word, a colon, and statements
pub down_body_section : {b : Bool} {n : ℕ} (w : List ℕ) → 13 < n → Descends b n (body_section w)
down_body_section w h = down_first down_tokens (λ x. down_first (down_rule h) (λ xs. down_gives))

-- ---- rules after a token

pub down_expr : {b : Bool} {d n : ℕ} → Descends b top (rule (Expr d n))
down_expr = down_taking refl (omega arith)

pub down_body : {d : ℕ} → Descends false top (rule (Body d))
down_body = down_rule (omega arith)

-- a token, and an expression
pub down_token_expr : {b past : Bool} {n d i : ℕ} {p : Kind} {v : Tree → Tree → Tree} → Descends b n (bind (token past p) (λ e. bind (rule (Expr d i)) (λ x. gives (v e x))))
down_token_expr = down_after (λ e. down_first down_expr (λ x. down_gives))
