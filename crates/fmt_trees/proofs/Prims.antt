-- How names, literals, brackets and operators are read.
use Rattle.std.proofs.Common.{◌≡◌, ℕ, ℤ, suc, Bool, true, false, List, ◌∷◌, ◌≤◌, refl, sym, subst, arith}
use Rattle.std.specs.Prelude.{not, ◌&&◌}
use Rattle.nf_value.specs.declared.place.Place.{Place}
use Rattle.nf_token.specs.declared.token.Mark.TheVariants as m
use Rattle.nf_token.specs.declared.token.Lexeme.{Lexeme}
use Rattle.nf_token.specs.declared.token.PlainKind.{PlainKind}
use Rattle.nf_grammar.specs.Reads.{reads_token, reads_gives, reads_bind, reads_left, reads_right, reads_rule}
use Rattle.nf_ast.specs.declared.operators.InfixOperator.{InfixOperator}
use Rattle.nf_ast.specs.declared.operators.InfixOperator.TheVariants as i
use Rattle.nf_ast.specs.declared.operators.PrefixOperator.{PrefixOperator}
use Rattle.nf_ast.specs.declared.operators.PrefixOperator.TheVariants as f
use Rattle.nf_ast.specs.Tree as tree
use Rattle.nf_ast.specs.Tree.{Tree}
use Rattle.nf_exprs.specs.Rules.{rules}
use Rattle.nf_printer.specs.Levels.{needs, infix_level, left_level}
use Rattle.nf_writer.specs.Lines.{Layout}
use Rattle.fmt_trees.specs.Bare.{bare}
use Rattle.fmt_trees.proofs.TreeTokens.{spell, held, mark, lx, word, infix_token}
use Rattle.fmt_trees.proofs.Levels.{Reading, weaker, climb, is_chain, begins, infix_ends, infix_more, infix_once}
use Rattle.fmt_trees.proofs.Own.{Closed, Open, Own, IsRead, whole, held_at, chain_at}

-- an expression without an operator outermost
abbrev pub AsPrim : Tree → Type 0
AsPrim e = (d : ℕ) (l : Layout) (g : Bool) (rest : List Lexeme) → Reading 11 d (spell e l g rest) (bare e) rest

pub prim_open : (e : Tree) → AsPrim e → Open 10 e
prim_open e h d l g rest r v f x = begins 10 d (spell e l g rest) rest r (bare e) v refl (h d l g rest) x

name_prim : (p : Place) (s : List ℕ) (d : ℕ) (rest : List Lexeme) → Reading 11 d (word s rest) (bare (tree.name p s)) rest
unfolding rules
name_prim p s d rest n = reads_rule (reads_left (reads_token refl))

name_held : (b : Bool) (p : Place) (s : List ℕ) (d : ℕ) (rest : List Lexeme) → Reading 11 d (held b (word s) rest) (bare (tree.name p s)) rest
unfolding rules
name_held false p s d rest = name_prim p s d rest
name_held true p s d rest = λ n. reads_rule (reads_right (reads_right (reads_left (reads_bind (reads_token refl) (reads_bind (climb 11 0 11 (suc d) _ _ (bare (tree.name p s)) refl refl (name_prim p s (suc d) (mark m.CloseRound rest)) 0) (reads_bind (reads_token refl) reads_gives))))))

pub name_read : (p : Place) (s : List ℕ) → IsRead (tree.name p s)
name_read p s = prim_open (tree.name p s) (λ d l g rest. name_held g p s d rest)

pub number_read : (p : Place) (n : ℤ) → IsRead (tree.number p n)
unfolding rules
number_read p n = prim_open (tree.number p n) (λ d l g rest k. reads_rule (reads_left (reads_token refl)))

pub text_read : (p : Place) (q : PlainKind) (s : List ℕ) → IsRead (tree.text p q s)
unfolding rules
text_read p q s = prim_open (tree.text p q s) (λ d l g rest k. reads_rule (reads_left (reads_token refl)))

pub pattern_read : (p : Place) (s : List ℕ) → IsRead (tree.pattern p s)
unfolding rules
pattern_read p s = prim_open (tree.pattern p s) (λ d l g rest k. reads_rule (reads_left (reads_token refl)))

truth_prim : (p : Place) (b : Bool) → AsPrim (tree.truth p b)
unfolding rules
truth_prim p true d l g rest n = reads_rule (reads_left (reads_token refl))
truth_prim p false d l g rest n = reads_rule (reads_left (reads_token refl))

pub truth_read : (p : Place) (b : Bool) → IsRead (tree.truth p b)
truth_read p b = prim_open (tree.truth p b) (truth_prim p b)

pub null_read : (p : Place) → IsRead (tree.null p)
unfolding rules
null_read p = prim_open (tree.null p) (λ d l g rest k. reads_rule (reads_left (reads_token refl)))

-- ---- operators before and between operands

prefix_token_read : (x : PrefixOperator) (p : Place) (e : Tree) → IsRead e → Closed 9 (tree.prefix p x e)
unfolding rules
prefix_token_read f.Not p e h d l g rest q n = reads_rule (reads_left (reads_bind (reads_token refl) (reads_bind (held_at 9 e (omega arith) h d l false rest q (suc n)) reads_gives)))
prefix_token_read f.Minus p e h d l g rest q n = reads_rule (reads_left (reads_bind (reads_token refl) (reads_bind (held_at 9 e (omega arith) h d l false rest q (suc n)) reads_gives)))

pub prefix_read : (p : Place) (x : PrefixOperator) (e : Tree) → IsRead e → IsRead (tree.prefix p x e)
prefix_read p x e h = prefix_token_read x p e h

left_chain : (x : InfixOperator) → is_chain (infix_level x) ≡ true → left_level x ≡ infix_level x
left_chain i.Or h = refl
left_chain i.And h = refl
left_chain i.Pipe h = refl
left_chain i.Plus h = refl
left_chain i.Minus h = refl
left_chain i.Times h = refl
left_chain i.Remainder h = refl
left_chain _ h = absurd (let f : false ≡ true = h in cc)

left_once : (x : InfixOperator) → is_chain (infix_level x) ≡ false → left_level x ≡ suc (infix_level x)
left_once i.Same h = refl
left_once i.Differs h = refl
left_once i.Matches h = refl
left_once i.Less h = refl
left_once i.AtMost h = refl
left_once i.Greater h = refl
left_once i.AtLeast h = refl
left_once i.In h = refl
left_once i.Range h = refl
left_once _ h = absurd (let f : true ≡ false = h in cc)

low_level : (x : InfixOperator) → infix_level x ≤ 8
low_level i.Or = omega arith
low_level i.And = omega arith
low_level i.Pipe = omega arith
low_level i.Same = omega arith
low_level i.Differs = omega arith
low_level i.Matches = omega arith
low_level i.Less = omega arith
low_level i.AtMost = omega arith
low_level i.Greater = omega arith
low_level i.AtLeast = omega arith
low_level i.In = omega arith
low_level i.Range = omega arith
low_level i.Plus = omega arith
low_level i.Minus = omega arith
low_level i.Times = omega arith
low_level i.Remainder = omega arith

binary_by : (c : Bool) (p : Place) (x : InfixOperator) (a b : Tree) → is_chain (infix_level x) ≡ c → IsRead a → IsRead b → Own c (infix_level x) (tree.binary p x a b)
binary_by true p x a b i h k = λ d l g rest r v q y.
    let after : List Lexeme = held (needs (suc (infix_level x)) b) (spell b l false) rest in
    subst (λ n. Reading (infix_level x) d (held (needs n a) (spell a l (g && not (needs n a))) (lx (infix_token x) ∷ after)) v r) (sym (left_chain x i))
    (chain_at (infix_level x) a (omega (arith, low_level x)) i h d l (g && not (needs (infix_level x) a)) (lx (infix_token x) ∷ after) r v (infix_ends x after)
    (infix_more x d after rest r (bare a) (bare b) v i (held_at (suc (infix_level x)) b (omega (arith, low_level x)) k d l false rest q) y))
binary_by false p x a b i h k = λ d l g rest q.
    let after : List Lexeme = held (needs (suc (infix_level x)) b) (spell b l false) rest in
    subst (λ n. Reading (infix_level x) d (held (needs n a) (spell a l (g && not (needs n a))) (lx (infix_token x) ∷ after)) (bare (tree.binary p x a b)) rest) (sym (left_once x i))
    (infix_once x d _ after rest (bare a) (bare b) i
    (held_at (suc (infix_level x)) a (omega (arith, low_level x)) h d l (g && not (needs (suc (infix_level x)) a)) (lx (infix_token x) ∷ after) (infix_ends x after))
    (held_at (suc (infix_level x)) b (omega (arith, low_level x)) k d l false rest (weaker (infix_level x) rest q)))

pub binary_read : (p : Place) (x : InfixOperator) (a b : Tree) → IsRead a → IsRead b → IsRead (tree.binary p x a b)
binary_read p x a b = binary_by (is_chain (infix_level x)) p x a b refl

-- ---- conditions

pub conditional_read : (p : Place) (c a b : Tree) → IsRead c → IsRead a → IsRead b → IsRead (tree.conditional p c a b)
unfolding rules
conditional_read p c a b h i j d l g rest q n =
    reads_rule (reads_bind (held_at 1 c (omega arith) h d l (g && not (needs 1 c)) _ refl 0)
    (reads_left (reads_bind (reads_token refl) (reads_bind (whole a i d l false _ refl (suc n)) (reads_bind (reads_token refl) (reads_bind (whole b j d l false rest q (suc n)) reads_gives))))))

pub elvis_read : (p : Place) (a b : Tree) → IsRead a → IsRead b → IsRead (tree.elvis p a b)
unfolding rules
elvis_read p a b h i d l g rest q n =
    reads_rule (reads_bind (held_at 1 a (omega arith) h d l (g && not (needs 1 a)) _ refl 0)
    (reads_right (reads_left (reads_bind (reads_token refl) (reads_bind (whole b i d l false rest q (suc n)) reads_gives)))))
