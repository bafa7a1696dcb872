-- What it is for an expression to be read from its tokens, also where brackets may stand round it.
use Rattle.std.proofs.Common.{◌≡◌, ℕ, zero, suc, Bool, true, false, List, ◌+◌, ◌-◌, ◌≤◌, refl, subst, arith, ltb-true, ltb-false}
use Rattle.std.proofs.lemmas.Bool.{le-ltb}
use Rattle.nf_token.specs.declared.token.Mark.TheVariants as m
use Rattle.nf_token.specs.declared.token.Lexeme.{Lexeme}
use Rattle.nf_grammar.specs.Reads.{reads_token, reads_gives, reads_bind, reads_left, reads_right, reads_rule}
use Rattle.nf_ast.specs.Tree.{Tree}
use Rattle.nf_exprs.specs.Rules.{rules}
use Rattle.nf_printer.specs.Levels.{level, needs}
use Rattle.nf_writer.specs.Lines.{Layout}
use Rattle.fmt_trees.specs.Bare.{bare}
use Rattle.fmt_trees.proofs.TreeTokens.{spell, held, mark}
use Rattle.fmt_trees.proofs.Levels.{Reading, ends, weaker, climb, is_chain, Chained, begins, chain_ends}

-- the expression is read where what follows doesn't go on with it
abbrev pub Closed : ℕ → Tree → Type 0
Closed m e = (d : ℕ) (l : Layout) (g : Bool) (rest : List Lexeme) → ends m rest ≡ true → Reading m d (spell e l g rest) (bare e) rest

-- the expression is read, and then the operators and operands that follow on its level
abbrev pub Open : ℕ → Tree → Type 0
Open m e = (d : ℕ) (l : Layout) (g : Bool) (rest r : List Lexeme) (v : Tree) → ends (suc m) rest ≡ true → Chained m d (bare e) rest v r → Reading m d (spell e l g rest) v r

abbrev pub Own : Bool → ℕ → Tree → Type 0
Own true m e = Open m e
Own false m e = Closed m e

abbrev pub IsRead : Tree → Type 0
IsRead e = Own (is_chain (level e)) (level e) e

weaker_by : (j k m : ℕ) (ts : List Lexeme) → k + j ≡ m → ends k ts ≡ true → ends m ts ≡ true
weaker_by zero k m ts e f = subst (λ l. ends l ts ≡ true) (let g : k ≡ m = omega (arith, e) in g) f
weaker_by (suc j) k m ts e f = weaker_by j (suc k) m ts (omega (arith, e)) (weaker k ts f)

closed_own : (b : Bool) (m : ℕ) (e : Tree) → Own b m e → Closed m e
closed_own true m e h = λ d l g rest f. h d l g rest rest (bare e) (weaker m rest f) (chain_ends m d (bare e) rest f)
closed_own false m e h = h

pub closed_at : (k : ℕ) (e : Tree) → needs k e ≡ false → IsRead e → Closed k e
closed_at k e q h d l g rest f =
    let j : k + (level e - k) ≡ level e = omega (arith, ltb-false (level e) k q) in
    climb (level e - k) k (level e) d (spell e l g rest) rest (bare e) j f (closed_own (is_chain (level e)) (level e) e h d l g rest (weaker_by (level e - k) k (level e) rest j f))

pub needs_none : (e : Tree) → needs 0 e ≡ false
needs_none e = le-ltb (level e) 0 (omega arith)

pub whole : (e : Tree) → IsRead e → Closed 0 e
whole e h = closed_at 0 e (needs_none e) h

in_round : (k : ℕ) (e : Tree) → k ≤ 11 → IsRead e → (d : ℕ) (l : Layout) (g : Bool) (rest : List Lexeme) → ends k rest ≡ true → Reading k d (mark m.OpenRound (spell e l g (mark m.CloseRound rest))) (bare e) rest
unfolding rules
in_round k e b h d l g rest f =
    climb (11 - k) k 11 d _ rest (bare e) (omega (arith, b)) f
    (λ n. reads_rule (reads_right (reads_right (reads_left (reads_bind (reads_token refl) (reads_bind (whole e h (suc d) l g (mark m.CloseRound rest) refl 0) (reads_bind (reads_token refl) reads_gives)))))))

held_by : (b : Bool) (k : ℕ) (e : Tree) → needs k e ≡ b → k ≤ 11 → IsRead e → (d : ℕ) (l : Layout) (g : Bool) (rest : List Lexeme) → ends k rest ≡ true → Reading k d (held b (spell e l g) rest) (bare e) rest
held_by true k e q b h = in_round k e b h
held_by false k e q b h = closed_at k e q h

-- an expression in brackets where its level needs them
pub held_at : (k : ℕ) (e : Tree) → k ≤ 11 → IsRead e → (d : ℕ) (l : Layout) (g : Bool) (rest : List Lexeme) → ends k rest ≡ true → Reading k d (held (needs k e) (spell e l g) rest) (bare e) rest
held_at k e = held_by (needs k e) k e refl

opened_by : (c : Bool) (k : ℕ) (e : Tree) → needs k e ≡ false → needs (suc k) e ≡ c → is_chain k ≡ true → IsRead e → Open k e
opened_by true k e q p i h d l g rest r v f x =
    let s : level e ≡ k = omega (arith, ltb-false (level e) k q, ltb-true (level e) (suc k) p) in
    let o : Own (is_chain k) k e = subst (λ n. Own (is_chain n) n e) s h in
    let w : Open k e = subst (λ b. Own b k e) i o in
    w d l g rest r v f x
opened_by false k e q p i h d l g rest r v f x = begins k d (spell e l g rest) rest r (bare e) v i (closed_at (suc k) e p h d l g rest f) x

chained_by : (b : Bool) (k : ℕ) (e : Tree) → needs k e ≡ b → k ≤ 10 → is_chain k ≡ true → IsRead e → (d : ℕ) (l : Layout) (g : Bool) (rest r : List Lexeme) (v : Tree) → ends (suc k) rest ≡ true → Chained k d (bare e) rest v r → Reading k d (held b (spell e l g) rest) v r
chained_by true k e q b i h = λ d l g rest r v f x. begins k d _ rest r (bare e) v i (in_round (suc k) e (omega (arith, b)) h d l g rest f) x
chained_by false k e q b i h = opened_by (needs (suc k) e) k e q refl i h

-- the first operand of a chain, and what goes on after it
pub chain_at : (k : ℕ) (e : Tree) → k ≤ 10 → is_chain k ≡ true → IsRead e → (d : ℕ) (l : Layout) (g : Bool) (rest r : List Lexeme) (v : Tree) → ends (suc k) rest ≡ true → Chained k d (bare e) rest v r → Reading k d (held (needs k e) (spell e l g) rest) v r
chain_at k e = chained_by (needs k e) k e refl
