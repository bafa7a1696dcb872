-- The steps of a reading, from what a function answers.
use Rattle.std.proofs.Common.{◌≡◌, ℕ, suc, ◌+◌, ◌≤◌, ◌<◌, Bool, true, false, List, [], ◌∷◌, ◌++◌, length, map, Option, Some, None, Result, Ok, Err, refl, sym, subst, arith, ap, ◌∙◌}
use Rattle.std.specs.Prelude.{MatchOption, ok_or, is_some, ◌||◌}
use Rattle.std.proofs.lemmas.Bool.{le-leb, lt-leb}
use Rattle.nf_token.specs.declared.token.Lexeme.{Lexeme}
use Rattle.nf_token.specs.declared.token.Mark.TheVariants as m
use Rattle.nf_grammar.specs.Gram.{token, bind, gives, many, ◌>>=◌}
use Rattle.nf_grammar.specs.Parts.{no_next, none_of}
use Rattle.nf_grammar.specs.Outcome.{Out, got, unexpected, too_deep}
use Rattle.nf_grammar.proofs.Short.{at, at_deep, ret, takes, misses, sinks, seq, dives, goes, stop, part_stop, IsStop}
use Rattle.nf_ast.specs.Tree.{Tree, empty, cons, snoc, name}
use Rattle.nf_value.specs.declared.place.Place.{Place}
use Rattle.nf_ast.specs.View.{trees, name_tree}
use Rattle.nf_exprs.specs.declared.fault.Fault.{Fault}
use Rattle.nf_exprs.specs.declared.fault.Fault.TheVariants.{Unexpected, TooDeep, Mem}
use Rattle.nf_exprs.specs.Level.{Gram}
use Rattle.nf_exprs.specs.Tokens.{Kind, mark_of, name_of}
use Rattle.nf_exprs.specs.Rules.{past_depth, past_chain, past_either, listed, comma_then}
use Rattle.nf_exprs.specs.Parses.{Outcome, Fails, Parses, Takes, TakesTwo}

-- ---- limits

pub short : (n : ℕ) → n < 256 → past_chain n ≡ false
short n h = lt-leb 256 n h

pub long : (n : ℕ) → 256 ≤ n → past_chain n ≡ true
long n h = le-leb 256 n h

pub shallow : (d : ℕ) → d < 64 → past_depth d ≡ false
shallow d h = lt-leb 64 d h

pub deep : (d : ℕ) → 64 ≤ d → past_depth d ≡ true
deep d h = le-leb 64 d h

-- ---- one token

-- it comes
pub comes : {p : Kind} {ts rest : List Lexeme} {v : Tree} → Takes p ts v rest → no_next p ts ≡ false
comes {p} {ts} {rest} {v} e = subst (λ x. no_next p x ≡ false) (sym e.2) (ap none_of e.1)

pub took_one : {p : Kind} {ts rest : List Lexeme} {v : Tree} → Takes p ts v rest → Outcome (token false p) ts (got v rest (length rest))
took_one e = at e.2 (takes refl e.1)

-- it comes, within the limits, and then
pub took : {b : Bool} {p : Kind} {k : Tree → Gram} {ts rest : List Lexeme} {v : Tree} {o : Out Lexeme Tree} → b ≡ false → Takes p ts v rest → Outcome (k v) rest o → Outcome (bind (token b p) k) ts o
took f e q = at e.2 (seq (takes f e.1) q)

-- it comes, past a limit
pub sunk : {b : Bool} {p : Kind} {k : Tree → Gram} {ts rest : List Lexeme} {v : Tree} → b ≡ true → Takes p ts v rest → Outcome (bind (token b p) k) ts (too_deep (length ts))
sunk f e = at_deep e.2 (dives (sinks f e.1))

-- what a function answers that asks for one token
pub expected : {X : Type 0} (tree : X → Tree) (rest : X → List Lexeme) (p : Kind) (ts : List Lexeme) (r : Option X) → MatchOption r (no_next p ts ≡ true) (λ x. Takes p ts (tree x) (rest x)) → Parses tree rest (token false p) ts (ok_or r (Unexpected (length ts)))
expected tree rest p ts None e = misses e
expected tree rest p ts (Some x) e = took_one e

-- ---- what a function answers, from what another one did

-- where this goes no further, that goes no further
abbrev pub Hands : Gram → List Lexeme → Gram → List Lexeme → Type 0
Hands g ts h us = (o : Out Lexeme Tree) → IsStop o → Outcome g ts o → Outcome h us o

pub lift_fault : (g h : Gram) (ts us : List Lexeme) (e : Fault) → Hands g ts h us → Fails g ts e → Fails h us e
lift_fault g h ts us Mem f p = tt
lift_fault g h ts us (Unexpected n) f p = f (unexpected n) tt p
lift_fault g h ts us (TooDeep n) f p = f (too_deep n) tt p

-- what another one answers
pub lifted : {X : Type 0} (tree : X → Tree) (rest : X → List Lexeme) (g h : Gram) (ts us : List Lexeme) (r : Result X Fault) → ((o : Out Lexeme Tree) → Outcome g ts o → Outcome h us o) → Parses tree rest g ts r → Parses tree rest h us r
lifted tree rest g h ts us (Ok x) f p = f (got (tree x) (rest x) (length (rest x))) p
lifted tree rest g h ts us (Err Mem) f p = tt
lifted tree rest g h ts us (Err (Unexpected n)) f p = f (unexpected n) p
lifted tree rest g h ts us (Err (TooDeep n)) f p = f (too_deep n) p

-- ---- lists

pub trees_push : (xs : List Tree) (x : Tree) → trees (xs ++ x ∷ []) ≡ snoc (trees xs) x
trees_push [] x = refl
trees_push (y ∷ ys) x = ap (cons y) (trees_push ys x)

pub views_push : {X : Type 0} (f : X → Tree) (xs ys : List X) (x : X) → ys ≡ xs ++ x ∷ [] → trees (map f ys) ≡ snoc (trees (map f xs)) (f x)
views_push f xs ys x e = ap (λ l. trees (map f l)) e ∙ pushed f xs x
  where
    pushed : {X : Type 0} (f : X → Tree) (xs : List X) (x : X) → trees (map f (xs ++ x ∷ [])) ≡ snoc (trees (map f xs)) (f x)
    pushed f [] x = refl
    pushed f (y ∷ ys) x = ap (cons (f y)) (pushed f ys x)

pub views_first : {X : Type 0} (f : X → Tree) (xs ys : List X) (x : X) → xs ≡ [] → ys ≡ xs ++ x ∷ [] → trees (map f ys) ≡ cons (f x) empty
views_first f xs ys x e h = views_push f xs ys x h ∙ ap (λ l. snoc (trees (map f l)) (f x)) e

-- parts that were read, and what is left of them leads to how all of them end
abbrev pub Going : Gram → List Lexeme → Gram → List Lexeme → Type 0
Going g ts h us = (o : Out Lexeme Tree) → Outcome g ts o → Outcome h us o

-- x, at the end of what was read
abbrev pub each : Gram → ℕ → Tree → Gram
each g n acc = g >>= λ a. gives (snoc acc a)

module _ (ends : List Lexeme → Bool) (g : Gram) (n : ℕ) (acc : Tree) (ts : List Lexeme) where
  pub each_goes : (b : Tree) (rest : List Lexeme) (o : Out Lexeme Tree) → ends ts ≡ false → Outcome g ts (got b rest (length rest)) → Outcome (many ends (each g) (suc n) (snoc acc b)) rest o → Outcome (many ends (each g) n acc) ts o
  each_goes b rest o e p q = goes e (seq p ret) q

  pub each_stops : ends ts ≡ false → Hands g ts (many ends (each g) n acc) ts
  each_stops e o s p = part_stop o s e (stop o s p)

module _ (ends : List Lexeme → Bool) (g : Gram) (n : ℕ) (acc : Tree) (ts after : List Lexeme) (v : Tree) (comma : Takes (mark_of m.Comma) ts v after) where
  pub comma_goes : (b : Tree) (rest : List Lexeme) (o : Out Lexeme Tree) → ends ts ≡ false → Outcome g after (got b rest (length rest)) → Outcome (many ends (comma_then g) (suc n) (snoc acc b)) rest o → Outcome (many ends (comma_then g) n acc) ts o
  comma_goes b rest o e p q = goes e (took refl comma (seq p ret)) q

  pub comma_stops : ends ts ≡ false → Hands g after (many ends (comma_then g) n acc) ts
  comma_stops e o s p = part_stop o s e (took refl comma (stop o s p))

-- ---- whether a token comes

pub is_there : {X : Type 0} (tree : X → Tree) (rest : X → List Lexeme) (p : Kind) (ts : List Lexeme) (r : Option X) → MatchOption r (no_next p ts ≡ true) (λ x. Takes p ts (tree x) (rest x)) → is_some r ≡ true → no_next p ts ≡ false
is_there tree rest p ts None e f = absurd cc
is_there tree rest p ts (Some x) e f = comes e

pub isnt_there : {X : Type 0} (tree : X → Tree) (rest : X → List Lexeme) (p : Kind) (ts : List Lexeme) (r : Option X) → MatchOption r (no_next p ts ≡ true) (λ x. Takes p ts (tree x) (rest x)) → is_some r ≡ false → no_next p ts ≡ true
isnt_there tree rest p ts None e f = e
isnt_there tree rest p ts (Some x) e f = absurd cc

-- ---- one bracket further in

pub deeper : (f : ℕ → Gram) (d : ℕ) {ts : List Lexeme} {o : Out Lexeme Tree} → Outcome (f (d + 1)) ts o → Outcome (f (suc d)) ts o
deeper f d {ts} {o} p = let e : d + 1 ≡ suc d = omega arith in subst (λ n. Outcome (f n) ts o) e p

-- a bracket after fewer parts of a chain than the limit
or_none : (b c : Bool) → c ≡ false → b || c ≡ b
or_none true c e = refl
or_none false c e = e

or_more : (b c : Bool) → c ≡ true → b || c ≡ true
or_more true c e = refl
or_more false c e = e

pub either_short : (d n : ℕ) → n < 256 → past_either d n ≡ past_depth d
either_short d n h = or_none (past_depth d) (past_chain n) (short n h)

pub either_long : (d n : ℕ) → 256 ≤ n → past_either d n ≡ true
either_long d n h = or_more (past_depth d) (past_chain n) (long n h)

pub as_opens : (d n : ℕ) (p : Kind) {ts : List Lexeme} {o : Out Lexeme Tree} → n < 256 → Outcome (token (past_depth d) p) ts o → Outcome (token (past_either d n) p) ts o
as_opens d n p {ts} {o} h q = subst (λ b. Outcome (token b p) ts o) (sym (either_short d n h)) q

pub as_short : (n : ℕ) (p : Kind) {ts : List Lexeme} {o : Out Lexeme Tree} → n < 256 → Outcome (token false p) ts o → Outcome (token (past_chain n) p) ts o
as_short n p {ts} {o} h q = subst (λ b. Outcome (token b p) ts o) (sym (short n h)) q

-- ---- lists with commas, and parts in a row, as they are read

module _ {X : Type 0} (f : X → Tree) (ends : List Lexeme → Bool) (g : Gram) where
  pub list_begins : (xs ys : List X) (x : X) (ts us : List Lexeme) → xs ≡ [] → ys ≡ xs ++ x ∷ [] → Outcome g us (got (f x) ts (length ts)) → Going (many ends (comma_then g) 0 (trees (map f ys))) ts (listed ends g) us
  list_begins xs ys x ts us e h p o q = seq p (subst (λ t. Outcome (many ends (comma_then g) 0 t) ts o) (views_first f xs ys x e h) q)

  pub list_goes : (h : Gram) (n : ℕ) (xs ys : List X) (x : X) (ts after rest us : List Lexeme) (v : Tree) → Takes (mark_of m.Comma) ts v after → ends ts ≡ false → ys ≡ xs ++ x ∷ [] → Outcome g after (got (f x) rest (length rest)) → Going (many ends (comma_then g) n (trees (map f xs))) ts h us → Going (many ends (comma_then g) (suc n) (trees (map f ys))) rest h us
  list_goes h n xs ys x ts after rest us v k e i p before o q = before o (comma_goes ends g n (trees (map f xs)) ts after v k (f x) rest o e p (subst (λ t. Outcome (many ends (comma_then g) (suc n) t) rest o) (views_push f xs ys x i) q))

  pub list_stops : (h : Gram) (n : ℕ) (xs : List X) (ts after us : List Lexeme) (v : Tree) → Takes (mark_of m.Comma) ts v after → ends ts ≡ false → Going (many ends (comma_then g) n (trees (map f xs))) ts h us → Hands g after h us
  list_stops h n xs ts after us v k e before o s p = before o (comma_stops ends g n (trees (map f xs)) ts after v k e o s p)

  pub row_goes : (h : Gram) (n : ℕ) (xs ys : List X) (x : X) (ts rest us : List Lexeme) → ends ts ≡ false → ys ≡ xs ++ x ∷ [] → Outcome g ts (got (f x) rest (length rest)) → Going (many ends (each g) n (trees (map f xs))) ts h us → Going (many ends (each g) (suc n) (trees (map f ys))) rest h us
  row_goes h n xs ys x ts rest us e i p before o q = before o (each_goes ends g n (trees (map f xs)) ts (f x) rest o e p (subst (λ t. Outcome (many ends (each g) (suc n) t) rest o) (views_push f xs ys x i) q))

  pub row_stops : (h : Gram) (n : ℕ) (xs : List X) (ts us : List Lexeme) → ends ts ≡ false → Going (many ends (each g) n (trees (map f xs))) ts h us → Hands g ts h us
  row_stops h n xs ts us e before o s p = before o (each_stops ends g n (trees (map f xs)) ts e o s p)

-- ---- two tokens

pub two_seen : {X : Type 0} (tree : X → Tree) (rest : X → List Lexeme) (p q : Kind) (test : List Lexeme → Bool) (ts : List Lexeme) (r : Option X) → ((v : Tree) (us : List Lexeme) → TakesTwo p q ts v us → test ts ≡ true) → MatchOption r (test ts ≡ false) (λ x. TakesTwo p q ts (tree x) (rest x)) → is_some r ≡ true → test ts ≡ true
two_seen tree rest p q test ts None f e h = absurd cc
two_seen tree rest p q test ts (Some x) f e h = f (tree x) (rest x) e

pub two_unseen : {X : Type 0} (tree : X → Tree) (rest : X → List Lexeme) (p q : Kind) (test : List Lexeme → Bool) (ts : List Lexeme) (r : Option X) → MatchOption r (test ts ≡ false) (λ x. TakesTwo p q ts (tree x) (rest x)) → is_some r ≡ false → test ts ≡ false
two_unseen tree rest p q test ts None e h = e
two_unseen tree rest p q test ts (Some x) e h = absurd cc

-- a name and its copy
pub named : {ts rest : List Lexeme} {p : Place} {x y : List ℕ} → x ≡ y → Outcome (token false name_of) ts (got (name p y) rest (length rest)) → Outcome (token false name_of) ts (got (name_tree (p, x)) rest (length rest))
named {ts} {rest} {p} {x} {y} e q = subst (λ z. Outcome (token false name_of) ts (got (name p z) rest (length rest))) (sym e) q
