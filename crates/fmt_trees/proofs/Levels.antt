-- The levels of the grammar against those of the printer, and how an operand is read where a lower level is asked for.
use Rattle.std.proofs.Common.{◌≡◌, ℕ, zero, suc, Bool, true, false, List, ◌∷◌, ◌+◌, refl, subst, arith}
use Rattle.std.specs.Prelude.{◌&&◌}
use Rattle.nf_token.specs.declared.token.Lexeme.{Lexeme}
use Rattle.nf_grammar.specs.Gram.{gives, many, rule}
use Rattle.nf_grammar.specs.Parts.{no_next}
use Rattle.nf_grammar.specs.Reads.{Reads, reads_token, reads_gives, reads_bind, reads_left, reads_right, reads_where, reads_end, reads_more, reads_rule}
use Rattle.nf_ast.specs.declared.operators.InfixOperator.{InfixOperator}
use Rattle.nf_ast.specs.declared.operators.InfixOperator.TheVariants as i
use Rattle.nf_ast.specs.Tree.{Tree, binary}
use Rattle.nf_exprs.specs.declared.band.Band.TheVariants as band
use Rattle.nf_exprs.specs.Level.{Gram, Expr, Operands, Pre, Post, Prim}
use Rattle.nf_exprs.specs.Tokens.{infix_of, no_post}
use Rattle.nf_exprs.specs.Rules.{rules, no_question, operand_next, post_part}
use Rattle.nf_printer.specs.Levels.{infix_level}
use Rattle.fmt_trees.specs.Bare.{nowhere}
use Rattle.fmt_trees.proofs.TreeTokens.{lx, infix_token}

-- a part of the grammar by its level in the printer
abbrev pub at : ℕ → ℕ → ℕ → Gram
at zero d n = rule (Expr d n)
at (suc zero) d n = rule (Operands d band.Or)
at (suc (suc zero)) d n = rule (Operands d band.And)
at (suc (suc (suc zero))) d n = rule (Operands d band.Pipe)
at (suc (suc (suc (suc zero)))) d n = rule (Operands d band.Same)
at (suc (suc (suc (suc (suc zero))))) d n = rule (Operands d band.Compare)
at (suc (suc (suc (suc (suc (suc zero)))))) d n = rule (Operands d band.Range)
at (suc (suc (suc (suc (suc (suc (suc zero))))))) d n = rule (Operands d band.Sum)
at (suc (suc (suc (suc (suc (suc (suc (suc zero)))))))) d n = rule (Operands d band.Term)
at (suc (suc (suc (suc (suc (suc (suc (suc (suc zero))))))))) d n = rule (Pre d n)
at (suc (suc (suc (suc (suc (suc (suc (suc (suc (suc zero)))))))))) d n = rule (Post d)
at (suc (suc (suc (suc (suc (suc (suc (suc (suc (suc (suc m))))))))))) d n = rule (Prim d)

abbrev pub Reading : ℕ → ℕ → List Lexeme → Tree → List Lexeme → Type 0
Reading m d ts v rest = (n : ℕ) → Reads rules (at m d n) ts v rest

-- what follows doesn't go on with an operand of this level or a higher one
abbrev pub ends10 : List Lexeme → Bool
ends10 = no_post

abbrev pub ends8 : List Lexeme → Bool
ends8 ts = no_next (infix_of band.Term) ts && ends10 ts

abbrev pub ends7 : List Lexeme → Bool
ends7 ts = no_next (infix_of band.Sum) ts && ends8 ts

abbrev pub ends6 : List Lexeme → Bool
ends6 ts = no_next (infix_of band.Range) ts && ends7 ts

abbrev pub ends5 : List Lexeme → Bool
ends5 ts = no_next (infix_of band.Compare) ts && ends6 ts

abbrev pub ends4 : List Lexeme → Bool
ends4 ts = no_next (infix_of band.Same) ts && ends5 ts

abbrev pub ends3 : List Lexeme → Bool
ends3 ts = no_next (infix_of band.Pipe) ts && ends4 ts

abbrev pub ends2 : List Lexeme → Bool
ends2 ts = no_next (infix_of band.And) ts && ends3 ts

abbrev pub ends1 : List Lexeme → Bool
ends1 ts = no_next (infix_of band.Or) ts && ends2 ts

abbrev pub ends0 : List Lexeme → Bool
ends0 ts = no_question ts && ends1 ts

abbrev pub ends : ℕ → List Lexeme → Bool
ends zero ts = ends0 ts
ends (suc zero) ts = ends1 ts
ends (suc (suc zero)) ts = ends2 ts
ends (suc (suc (suc zero))) ts = ends3 ts
ends (suc (suc (suc (suc zero)))) ts = ends4 ts
ends (suc (suc (suc (suc (suc zero))))) ts = ends5 ts
ends (suc (suc (suc (suc (suc (suc zero)))))) ts = ends6 ts
ends (suc (suc (suc (suc (suc (suc (suc zero))))))) ts = ends7 ts
ends (suc (suc (suc (suc (suc (suc (suc (suc zero)))))))) ts = ends8 ts
ends (suc (suc (suc (suc (suc (suc (suc (suc (suc zero))))))))) ts = ends10 ts
ends (suc (suc (suc (suc (suc (suc (suc (suc (suc (suc zero)))))))))) ts = ends10 ts
ends (suc (suc (suc (suc (suc (suc (suc (suc (suc (suc (suc m))))))))))) ts = true

pub and_left : (a b : Bool) → (a && b) ≡ true → a ≡ true
and_left true b e = refl
and_left false b e = e

pub and_right : (a b : Bool) → (a && b) ≡ true → b ≡ true
and_right true b e = e
and_right false b e = absurd (let f : false ≡ true = e in cc)

pub weaker : (m : ℕ) (ts : List Lexeme) → ends m ts ≡ true → ends (suc m) ts ≡ true
weaker zero ts e = and_right (no_question ts) (ends1 ts) e
weaker (suc zero) ts e = and_right (no_next (infix_of band.Or) ts) (ends2 ts) e
weaker (suc (suc zero)) ts e = and_right (no_next (infix_of band.And) ts) (ends3 ts) e
weaker (suc (suc (suc zero))) ts e = and_right (no_next (infix_of band.Pipe) ts) (ends4 ts) e
weaker (suc (suc (suc (suc zero)))) ts e = and_right (no_next (infix_of band.Same) ts) (ends5 ts) e
weaker (suc (suc (suc (suc (suc zero))))) ts e = and_right (no_next (infix_of band.Compare) ts) (ends6 ts) e
weaker (suc (suc (suc (suc (suc (suc zero)))))) ts e = and_right (no_next (infix_of band.Range) ts) (ends7 ts) e
weaker (suc (suc (suc (suc (suc (suc (suc zero))))))) ts e = and_right (no_next (infix_of band.Sum) ts) (ends8 ts) e
weaker (suc (suc (suc (suc (suc (suc (suc (suc zero)))))))) ts e = and_right (no_next (infix_of band.Term) ts) (ends10 ts) e
weaker (suc (suc (suc (suc (suc (suc (suc (suc (suc zero))))))))) ts e = e
weaker (suc (suc (suc (suc (suc (suc (suc (suc (suc (suc zero)))))))))) ts e = refl
weaker (suc (suc (suc (suc (suc (suc (suc (suc (suc (suc (suc m))))))))))) ts e = refl

-- a part of a lower level that is one operand
pub step : (m d : ℕ) (ts rest : List Lexeme) (v : Tree) → ends m rest ≡ true → Reading (suc m) d ts v rest → Reading m d ts v rest
unfolding rules
step zero d ts rest v e r n = reads_rule (reads_bind (r 0) (reads_right (reads_right (reads_where (and_left (no_question rest) (ends1 rest) e) reads_gives))))
step (suc zero) d ts rest v e r n = reads_rule (reads_bind (r 0) (reads_end (and_left (no_next (infix_of band.Or) rest) (ends2 rest) e)))
step (suc (suc zero)) d ts rest v e r n = reads_rule (reads_bind (r 0) (reads_end (and_left (no_next (infix_of band.And) rest) (ends3 rest) e)))
step (suc (suc (suc zero))) d ts rest v e r n = reads_rule (reads_bind (r 0) (reads_end (and_left (no_next (infix_of band.Pipe) rest) (ends4 rest) e)))
step (suc (suc (suc (suc zero)))) d ts rest v e r n = reads_rule (reads_bind (r 0) (reads_right (reads_where (and_left (no_next (infix_of band.Same) rest) (ends5 rest) e) reads_gives)))
step (suc (suc (suc (suc (suc zero))))) d ts rest v e r n = reads_rule (reads_bind (r 0) (reads_right (reads_where (and_left (no_next (infix_of band.Compare) rest) (ends6 rest) e) reads_gives)))
step (suc (suc (suc (suc (suc (suc zero)))))) d ts rest v e r n = reads_rule (reads_bind (r 0) (reads_right (reads_where (and_left (no_next (infix_of band.Range) rest) (ends7 rest) e) reads_gives)))
step (suc (suc (suc (suc (suc (suc (suc zero))))))) d ts rest v e r n = reads_rule (reads_bind (r 0) (reads_end (and_left (no_next (infix_of band.Sum) rest) (ends8 rest) e)))
step (suc (suc (suc (suc (suc (suc (suc (suc zero)))))))) d ts rest v e r n = reads_rule (reads_bind (r 0) (reads_end (and_left (no_next (infix_of band.Term) rest) (ends10 rest) e)))
step (suc (suc (suc (suc (suc (suc (suc (suc (suc zero))))))))) d ts rest v e r n = reads_rule (reads_right (r 0))
step (suc (suc (suc (suc (suc (suc (suc (suc (suc (suc zero)))))))))) d ts rest v e r n = reads_rule (reads_bind (r 0) (reads_end e))
step (suc (suc (suc (suc (suc (suc (suc (suc (suc (suc (suc m))))))))))) d ts rest v e r n = r n

pub climb : (j k m d : ℕ) (ts rest : List Lexeme) (v : Tree) → k + j ≡ m → ends k rest ≡ true → Reading m d ts v rest → Reading k d ts v rest
climb zero k m d ts rest v e f r = subst (λ l. Reading l d ts v rest) (let g : m ≡ k = omega (arith, e) in g) r
climb (suc j) k m d ts rest v e f r = step k d ts rest v f (climb j (suc k) m d ts rest v (omega (arith, e)) (weaker k rest f) r)

-- ---- chains

-- whether operators of this level chain
abbrev pub is_chain : ℕ → Bool
is_chain zero = false
is_chain (suc zero) = true
is_chain (suc (suc zero)) = true
is_chain (suc (suc (suc zero))) = true
is_chain (suc (suc (suc (suc zero)))) = false
is_chain (suc (suc (suc (suc (suc zero))))) = false
is_chain (suc (suc (suc (suc (suc (suc zero)))))) = false
is_chain (suc (suc (suc (suc (suc (suc (suc zero))))))) = true
is_chain (suc (suc (suc (suc (suc (suc (suc (suc zero)))))))) = true
is_chain (suc (suc (suc (suc (suc (suc (suc (suc (suc zero))))))))) = false
is_chain (suc (suc (suc (suc (suc (suc (suc (suc (suc (suc zero)))))))))) = true
is_chain (suc (suc (suc (suc (suc (suc (suc (suc (suc (suc (suc m))))))))))) = false

-- what goes on after so many operands
abbrev pub chain : ℕ → ℕ → ℕ → Tree → Gram
chain zero d n a = gives a
chain (suc zero) d n a = many (no_next (infix_of band.Or)) (operand_next d band.Or) n a
chain (suc (suc zero)) d n a = many (no_next (infix_of band.And)) (operand_next d band.And) n a
chain (suc (suc (suc zero))) d n a = many (no_next (infix_of band.Pipe)) (operand_next d band.Pipe) n a
chain (suc (suc (suc (suc zero)))) d n a = gives a
chain (suc (suc (suc (suc (suc zero))))) d n a = gives a
chain (suc (suc (suc (suc (suc (suc zero)))))) d n a = gives a
chain (suc (suc (suc (suc (suc (suc (suc zero))))))) d n a = many (no_next (infix_of band.Sum)) (operand_next d band.Sum) n a
chain (suc (suc (suc (suc (suc (suc (suc (suc zero)))))))) d n a = many (no_next (infix_of band.Term)) (operand_next d band.Term) n a
chain (suc (suc (suc (suc (suc (suc (suc (suc (suc zero))))))))) d n a = gives a
chain (suc (suc (suc (suc (suc (suc (suc (suc (suc (suc zero)))))))))) d n a = many no_post (post_part d) n a
chain (suc (suc (suc (suc (suc (suc (suc (suc (suc (suc (suc m))))))))))) d n a = gives a

abbrev pub Chained : ℕ → ℕ → Tree → List Lexeme → Tree → List Lexeme → Type 0
Chained m d a rest v r = (n : ℕ) → Reads rules (chain m d n a) rest v r

pub begins : (m d : ℕ) (ts mid r : List Lexeme) (a v : Tree) → is_chain m ≡ true → Reading (suc m) d ts a mid → Chained m d a mid v r → Reading m d ts v r
unfolding rules
begins zero d ts mid r a v e x y n = absurd (let f : false ≡ true = e in cc)
begins (suc zero) d ts mid r a v e x y n = reads_rule (reads_bind (x 0) (y 1))
begins (suc (suc zero)) d ts mid r a v e x y n = reads_rule (reads_bind (x 0) (y 1))
begins (suc (suc (suc zero))) d ts mid r a v e x y n = reads_rule (reads_bind (x 0) (y 1))
begins (suc (suc (suc (suc zero)))) d ts mid r a v e x y n = absurd (let f : false ≡ true = e in cc)
begins (suc (suc (suc (suc (suc zero))))) d ts mid r a v e x y n = absurd (let f : false ≡ true = e in cc)
begins (suc (suc (suc (suc (suc (suc zero)))))) d ts mid r a v e x y n = absurd (let f : false ≡ true = e in cc)
begins (suc (suc (suc (suc (suc (suc (suc zero))))))) d ts mid r a v e x y n = reads_rule (reads_bind (x 0) (y 1))
begins (suc (suc (suc (suc (suc (suc (suc (suc zero)))))))) d ts mid r a v e x y n = reads_rule (reads_bind (x 0) (y 1))
begins (suc (suc (suc (suc (suc (suc (suc (suc (suc zero))))))))) d ts mid r a v e x y n = absurd (let f : false ≡ true = e in cc)
begins (suc (suc (suc (suc (suc (suc (suc (suc (suc (suc zero)))))))))) d ts mid r a v e x y n = reads_rule (reads_bind (x 0) (y 0))
begins (suc (suc (suc (suc (suc (suc (suc (suc (suc (suc (suc m))))))))))) d ts mid r a v e x y n = absurd (let f : false ≡ true = e in cc)

-- the chain ends
pub chain_ends : (m d : ℕ) (a : Tree) (rest : List Lexeme) → ends m rest ≡ true → Chained m d a rest a rest
chain_ends zero d a rest e n = reads_gives
chain_ends (suc zero) d a rest e n = reads_end (and_left (no_next (infix_of band.Or) rest) (ends2 rest) e)
chain_ends (suc (suc zero)) d a rest e n = reads_end (and_left (no_next (infix_of band.And) rest) (ends3 rest) e)
chain_ends (suc (suc (suc zero))) d a rest e n = reads_end (and_left (no_next (infix_of band.Pipe) rest) (ends4 rest) e)
chain_ends (suc (suc (suc (suc zero)))) d a rest e n = reads_gives
chain_ends (suc (suc (suc (suc (suc zero))))) d a rest e n = reads_gives
chain_ends (suc (suc (suc (suc (suc (suc zero)))))) d a rest e n = reads_gives
chain_ends (suc (suc (suc (suc (suc (suc (suc zero))))))) d a rest e n = reads_end (and_left (no_next (infix_of band.Sum) rest) (ends8 rest) e)
chain_ends (suc (suc (suc (suc (suc (suc (suc (suc zero)))))))) d a rest e n = reads_end (and_left (no_next (infix_of band.Term) rest) (ends10 rest) e)
chain_ends (suc (suc (suc (suc (suc (suc (suc (suc (suc zero))))))))) d a rest e n = reads_gives
chain_ends (suc (suc (suc (suc (suc (suc (suc (suc (suc (suc zero)))))))))) d a rest e n = reads_end e
chain_ends (suc (suc (suc (suc (suc (suc (suc (suc (suc (suc (suc m))))))))))) d a rest e n = reads_gives

-- ---- operators between operands

pub infix_ends : (x : InfixOperator) (us : List Lexeme) → ends (suc (infix_level x)) (lx (infix_token x) ∷ us) ≡ true
infix_ends i.Or us = refl
infix_ends i.And us = refl
infix_ends i.Pipe us = refl
infix_ends i.Same us = refl
infix_ends i.Differs us = refl
infix_ends i.Matches us = refl
infix_ends i.Less us = refl
infix_ends i.AtMost us = refl
infix_ends i.Greater us = refl
infix_ends i.AtLeast us = refl
infix_ends i.In us = refl
infix_ends i.Range us = refl
infix_ends i.Plus us = refl
infix_ends i.Minus us = refl
infix_ends i.Times us = refl
infix_ends i.Remainder us = refl

pub infix_more : (x : InfixOperator) (d : ℕ) (us rest r : List Lexeme) (a b v : Tree) → is_chain (infix_level x) ≡ true → Reading (suc (infix_level x)) d us b rest → Chained (infix_level x) d (binary nowhere x a b) rest v r → Chained (infix_level x) d a (lx (infix_token x) ∷ us) v r
infix_more i.Or d us rest r a b v e p q n = reads_more (reads_bind (reads_token refl) (reads_bind (p 0) reads_gives)) (q (suc n))
infix_more i.And d us rest r a b v e p q n = reads_more (reads_bind (reads_token refl) (reads_bind (p 0) reads_gives)) (q (suc n))
infix_more i.Pipe d us rest r a b v e p q n = reads_more (reads_bind (reads_token refl) (reads_bind (p 0) reads_gives)) (q (suc n))
infix_more i.Same d us rest r a b v e p q n = absurd (let f : false ≡ true = e in cc)
infix_more i.Differs d us rest r a b v e p q n = absurd (let f : false ≡ true = e in cc)
infix_more i.Matches d us rest r a b v e p q n = absurd (let f : false ≡ true = e in cc)
infix_more i.Less d us rest r a b v e p q n = absurd (let f : false ≡ true = e in cc)
infix_more i.AtMost d us rest r a b v e p q n = absurd (let f : false ≡ true = e in cc)
infix_more i.Greater d us rest r a b v e p q n = absurd (let f : false ≡ true = e in cc)
infix_more i.AtLeast d us rest r a b v e p q n = absurd (let f : false ≡ true = e in cc)
infix_more i.In d us rest r a b v e p q n = absurd (let f : false ≡ true = e in cc)
infix_more i.Range d us rest r a b v e p q n = absurd (let f : false ≡ true = e in cc)
infix_more i.Plus d us rest r a b v e p q n = reads_more (reads_bind (reads_token refl) (reads_bind (p 0) reads_gives)) (q (suc n))
infix_more i.Minus d us rest r a b v e p q n = reads_more (reads_bind (reads_token refl) (reads_bind (p 0) reads_gives)) (q (suc n))
infix_more i.Times d us rest r a b v e p q n = reads_more (reads_bind (reads_token refl) (reads_bind (p 0) reads_gives)) (q (suc n))
infix_more i.Remainder d us rest r a b v e p q n = reads_more (reads_bind (reads_token refl) (reads_bind (p 0) reads_gives)) (q (suc n))

pub infix_once : (x : InfixOperator) (d : ℕ) (ts us rest : List Lexeme) (a b : Tree) → is_chain (infix_level x) ≡ false → Reading (suc (infix_level x)) d ts a (lx (infix_token x) ∷ us) → Reading (suc (infix_level x)) d us b rest → Reading (infix_level x) d ts (binary nowhere x a b) rest
unfolding rules
infix_once i.Or d ts us rest a b e p q n = absurd (let f : true ≡ false = e in cc)
infix_once i.And d ts us rest a b e p q n = absurd (let f : true ≡ false = e in cc)
infix_once i.Pipe d ts us rest a b e p q n = absurd (let f : true ≡ false = e in cc)
infix_once i.Same d ts us rest a b e p q n = reads_rule (reads_bind (p 0) (reads_left (reads_bind (reads_token refl) (reads_bind (q 0) reads_gives))))
infix_once i.Differs d ts us rest a b e p q n = reads_rule (reads_bind (p 0) (reads_left (reads_bind (reads_token refl) (reads_bind (q 0) reads_gives))))
infix_once i.Matches d ts us rest a b e p q n = reads_rule (reads_bind (p 0) (reads_left (reads_bind (reads_token refl) (reads_bind (q 0) reads_gives))))
infix_once i.Less d ts us rest a b e p q n = reads_rule (reads_bind (p 0) (reads_left (reads_bind (reads_token refl) (reads_bind (q 0) reads_gives))))
infix_once i.AtMost d ts us rest a b e p q n = reads_rule (reads_bind (p 0) (reads_left (reads_bind (reads_token refl) (reads_bind (q 0) reads_gives))))
infix_once i.Greater d ts us rest a b e p q n = reads_rule (reads_bind (p 0) (reads_left (reads_bind (reads_token refl) (reads_bind (q 0) reads_gives))))
infix_once i.AtLeast d ts us rest a b e p q n = reads_rule (reads_bind (p 0) (reads_left (reads_bind (reads_token refl) (reads_bind (q 0) reads_gives))))
infix_once i.In d ts us rest a b e p q n = reads_rule (reads_bind (p 0) (reads_left (reads_bind (reads_token refl) (reads_bind (q 0) reads_gives))))
infix_once i.Range d ts us rest a b e p q n = reads_rule (reads_bind (p 0) (reads_left (reads_bind (reads_token refl) (reads_bind (q 0) reads_gives))))
infix_once i.Plus d ts us rest a b e p q n = absurd (let f : true ≡ false = e in cc)
infix_once i.Minus d ts us rest a b e p q n = absurd (let f : true ≡ false = e in cc)
infix_once i.Times d ts us rest a b e p q n = absurd (let f : true ≡ false = e in cc)
infix_once i.Remainder d ts us rest a b e p q n = absurd (let f : true ≡ false = e in cc)
