-- Operands of one band.
use Rattle.std.proofs.Common.{◌≡◌, ℕ, zero, suc, ◌≤◌, ◌<◌, Bool, true, false, List, [], ◌∷◌, ◌++◌, length, map, refl, sym, subst, arith, ap, ◌∙◌, if◌then◌else◌}
use Rattle.nf_value.specs.declared.place.Place.{Place}
use Rattle.nf_token.specs.declared.token.Lexeme.{Lexeme}
use Rattle.nf_grammar.specs.Gram.{rule, bind, gives, many, either, only_where}
use Rattle.nf_grammar.specs.Parts.{no_next, none_of}
use Rattle.nf_grammar.specs.Outcome.{Out, got, unexpected, too_deep}
use Rattle.nf_grammar.proofs.Short.{at, at_deep, ret, takes, sinks, seq, fails, dives, off, ruled, stops, goes, part_fails, part_dives, maybe_not, maybe_is, IsStop}
use Rattle.nf_exprs.specs.declared.band.Band.{Band}
use Rattle.nf_ast.specs.declared.operators.InfixOperator.{InfixOperator}
use Rattle.nf_ast.specs.declared.expr.Operand.{Operand}
use Rattle.nf_ast.specs.Tree.{Tree, empty, binary}
use Rattle.nf_exprs.specs.Level.{Operands, Gram}
use Rattle.nf_exprs.specs.Tokens.{infix_of, operator}
use Rattle.nf_ast.specs.View.{operands, view_operand}
use Rattle.nf_exprs.specs.Rules.{rules, operand, operand_next, after_operand, is_single}
use Rattle.nf_exprs.specs.Parses.{Outcome, Takes}
use Rattle.nf_exprs.proofs.Leads.{Leads}
use Rattle.nf_exprs.proofs.Steps.{short, long}

-- the operands that were read, with one more
pub operands_push : (a : Tree) (xs : List Tree) (p : Place) (mark : InfixOperator) (e b : Tree) → operands a (xs ++ binary p mark e b ∷ []) ≡ binary p mark (operands a xs) b
operands_push a [] p mark e b = refl
operands_push a (binary q m x y ∷ xs) p mark e b = operands_push (binary q m a y) xs p mark e b
operands_push a (_ ∷ xs) p mark e b = operands_push a xs p mark e b

-- more operands after so many, in a band that takes any number
abbrev pub more : ℕ → Band → ℕ → Tree → Gram
more d b n a = many (no_next (infix_of b)) (operand_next d b) n a

after_first : Bool → Gram → Gram → Gram
after_first c g h = if c then g else h

module _ (d n : ℕ) (b : Band) (acc : Tree) (ts after : List Lexeme) (p : Place) (mark : InfixOperator) (takes_it : Takes (infix_of b) ts (operator p mark) after) where
  goes_on : no_next (infix_of b) (takes_it.0 ∷ after) ≡ false
  goes_on = ap none_of takes_it.1

  pub more_dives : 256 ≤ n → Outcome (more d b n acc) ts (too_deep (length ts))
  more_dives h = at_deep takes_it.2 (part_dives goes_on (dives (sinks (long n h) takes_it.1)))

  next_got : (x : Tree) (rest : List Lexeme) → n < 256 → Outcome (operand d b) after (got x rest (length rest)) → Outcome (operand_next d b n acc) (takes_it.0 ∷ after) (got (binary p mark acc x) rest (length rest))
  next_got x rest h q = seq (takes (short n h) takes_it.1) (seq q ret)

  pub more_goes : (x : Tree) (rest : List Lexeme) (o : Out Lexeme Tree) → n < 256 → Outcome (operand d b) after (got x rest (length rest)) → Outcome (more d b (suc n) (binary p mark acc x)) rest o → Outcome (more d b n acc) ts o
  more_goes x rest o h q r = at takes_it.2 (goes goes_on (next_got x rest h q) r)

  pub more_stops : (o : Out Lexeme Tree) → IsStop o → n < 256 → Outcome (operand d b) after o → Outcome (more d b n acc) ts o
  more_stops (got v rest left) s h q = absurd s
  more_stops (unexpected left) s h q = at takes_it.2 (part_fails goes_on (seq (takes (short n h) takes_it.1) (fails q)))
  more_stops (too_deep left) s h q = at takes_it.2 (part_dives goes_on (seq (takes (short n h) takes_it.1) (dives q)))

  -- the one operand after the first, in a band that takes no more
  pub once_goes : (x : Tree) (rest : List Lexeme) → 1 ≡ n → Outcome (operand d b) after (got x rest (length rest)) → Outcome (either (operand_next d b 1 acc) (only_where (no_next (infix_of b)) (gives acc))) ts (got (binary p mark acc x) rest (length rest))
  once_goes x rest e q = at takes_it.2 (maybe_is goes_on (subst (λ k. Outcome (operand_next d b k acc) (takes_it.0 ∷ after) (got (binary p mark acc x) rest (length rest))) (sym e) (next_got x rest (omega (arith, e)) q)))

-- no mark of the band comes
pub more_ends : (d n : ℕ) (b : Band) (acc : Tree) (ts : List Lexeme) → no_next (infix_of b) ts ≡ true → Outcome (more d b n acc) ts (got acc ts (length ts))
more_ends d n b acc ts e = stops e (off e)

pub once_ends : (d : ℕ) (b : Band) (acc : Tree) (ts : List Lexeme) → no_next (infix_of b) ts ≡ true → Outcome (either (operand_next d b 1 acc) (only_where (no_next (infix_of b)) (gives acc))) ts (got acc ts (length ts))
once_ends d b acc ts e = maybe_not e (off e)

-- ---- while operands are read

abbrev pub once : ℕ → Band → Tree → Gram
once d b a = either (operand_next d b 1 a) (only_where (no_next (infix_of b)) (gives a))

-- so many operands of the band were read, and give this tree
abbrev pub GoingAs : Bool → ℕ → Band → ℕ → Tree → List Lexeme → List Lexeme → Type 0
GoingAs false d b n a ts us = Leads (more d b n a) ts (λ v. v) (rule (Operands d b)) us
GoingAs true d b n a ts us = (n ≡ 1 → Leads (once d b a) ts (λ v. v) (rule (Operands d b)) us) × (1 < n → Outcome (rule (Operands d b)) us (got a ts (length ts)))

abbrev pub Going : ℕ → Band → ℕ → Tree → List Lexeme → List Lexeme → Type 0
Going d b n a ts us = GoingAs (is_single b) d b n a ts us

after_as : (d : ℕ) (b : Band) (a : Tree) (ts : List Lexeme) (o : Out Lexeme Tree) (c : Bool) → is_single b ≡ c → Outcome (if c then once d b a else more d b 1 a) ts o → Outcome (after_operand d b a) ts o
after_as d b a ts o c e q = subst (λ x. Outcome (if x then once d b a else more d b 1 a) ts o) (sym e) q

by_operands : (d : ℕ) (b : Band) (a : Tree) (ts us : List Lexeme) (o : Out Lexeme Tree) → Outcome (operand d b) us (got a ts (length ts)) → Outcome (after_operand d b a) ts o → Outcome (rule (Operands d b)) us o
unfolding rules
by_operands d b a ts us o p q = ruled (seq p q)

-- after the first operand
module _ (d : ℕ) (b : Band) (a : Tree) (ts us : List Lexeme) (first : Outcome (operand d b) us (got a ts (length ts))) where
  begins_as : (c : Bool) → is_single b ≡ c → GoingAs c d b 1 a ts us
  begins_as false e = record { goes = λ v rest q. by_operands d b a ts us (got v rest (length rest)) first (after_as d b a ts (got v rest (length rest)) false e q); stops = λ o s q. by_operands d b a ts us o first (after_as d b a ts o false e q) }
  begins_as true e = ((λ n. record { goes = λ v rest q. by_operands d b a ts us (got v rest (length rest)) first (after_as d b a ts (got v rest (length rest)) true e q); stops = λ o s q. by_operands d b a ts us o first (after_as d b a ts o true e q) }), λ n. absurd (omega (arith, n)))

  pub begins : (xs : List Operand) → xs ≡ [] → Going d b 1 (operands a (map view_operand xs)) ts us
  begins xs e = subst (λ l. Going d b 1 (operands a (map view_operand l)) ts us) (sym e) (begins_as (is_single b) refl)

-- at a mark of the band
module _ (d n : ℕ) (b : Band) (acc : Tree) (ts after us : List Lexeme) (p : Place) (mark : InfixOperator) (takes_it : Takes (infix_of b) ts (operator p mark) after) where
  goes_here : no_next (infix_of b) (takes_it.0 ∷ after) ≡ false
  goes_here = ap none_of takes_it.1

  once_stops : (o : Out Lexeme Tree) → IsStop o → Outcome (operand d b) after o → Outcome (once d b acc) ts o
  once_stops (got v rest left) s q = absurd s
  once_stops (unexpected left) s q = at takes_it.2 (maybe_is goes_here (seq (takes refl takes_it.1) (fails q)))
  once_stops (too_deep left) s q = at takes_it.2 (maybe_is goes_here (seq (takes refl takes_it.1) (dives q)))

  next_as : (c : Bool) (x : Tree) (rest : List Lexeme) → n < 256 → (c ≡ true → n ≡ 1) → Outcome (operand d b) after (got x rest (length rest)) → GoingAs c d b n acc ts us → GoingAs c d b (suc n) (binary p mark acc x) rest us
  next_as false x rest h one q before = record {
    goes = λ v r s. before.goes v r (more_goes d n b acc ts after p mark takes_it x rest (got v r (length r)) h q s);
    stops = λ o s r. before.stops o s (more_goes d n b acc ts after p mark takes_it x rest o h q r);
  }
  next_as true x rest h one q before =
      let e = one refl in
      ((λ k. absurd (omega (arith, k, e))), λ k. (before.0 e).goes (binary p mark acc x) rest (once_goes d n b acc ts after p mark takes_it x rest (sym e) q))

  stops_as : (c : Bool) (o : Out Lexeme Tree) → IsStop o → n < 256 → (c ≡ true → n ≡ 1) → Outcome (operand d b) after o → GoingAs c d b n acc ts us → Outcome (rule (Operands d b)) us o
  stops_as false o s h one q before = before.stops o s (more_stops d n b acc ts after p mark takes_it o s h q)
  stops_as true o s h one q before = (before.0 (one refl)).stops o s (once_stops o s q)

  dives_as : (c : Bool) → 256 ≤ n → (c ≡ true → n ≡ 1) → GoingAs c d b n acc ts us → Outcome (rule (Operands d b)) us (too_deep (length ts))
  dives_as false h one before = before.stops (too_deep (length ts)) tt (more_dives d n b acc ts after p mark takes_it h)
  dives_as true h one before = absurd (let e = one refl in omega (arith, h, e))

-- where no more comes
pub ends_as : (d n : ℕ) (b : Band) (acc : Tree) (ts us : List Lexeme) (c : Bool) → 1 ≤ n → (c ≡ false → no_next (infix_of b) ts ≡ true) → (n ≤ 1 → no_next (infix_of b) ts ≡ true) → GoingAs c d b n acc ts us → Outcome (rule (Operands d b)) us (got acc ts (length ts))
ends_as d n b acc ts us false some e f before = before.goes acc ts (more_ends d n b acc ts (e refl))
ends_as d (suc zero) b acc ts us true some e f before = (before.0 refl).goes acc ts (once_ends d b acc ts (f (omega arith)))
ends_as d (suc (suc n)) b acc ts us true some e f before = before.1 (omega arith)
ends_as d zero b acc ts us true some e f before = absurd (omega (arith, some))

-- ---- over what was read

module _ (d n : ℕ) (b : Band) (a : Tree) (xs : List Operand) (ts after us : List Lexeme) (p : Place) (mark : InfixOperator) (takes_it : Takes (infix_of b) ts (operator p mark) after) (few : is_single b ≡ true → n ≤ 1) (some : 1 ≤ n) (before : Going d b n (operands a (map view_operand xs)) ts us) where
  one : is_single b ≡ true → n ≡ 1
  one e = let le = few e in omega (arith, le, some)

  pub band_dives : 256 ≤ n → Outcome (rule (Operands d b)) us (too_deep (length ts))
  band_dives h = dives_as d n b (operands a (map view_operand xs)) ts after us p mark takes_it (is_single b) h one before

  pub band_stops : n < 256 → (o : Out Lexeme Tree) → IsStop o → Outcome (operand d b) after o → Outcome (rule (Operands d b)) us o
  band_stops h o s q = stops_as d n b (operands a (map view_operand xs)) ts after us p mark takes_it (is_single b) o s h one q before

  pub band_goes : (m : ℕ) (ys : List Operand) (y : Operand) (x : Tree) (rest : List Lexeme) → n < 256 → m ≡ suc n → ys ≡ xs ++ y ∷ [] → view_operand y ≡ binary p mark empty x → Outcome (operand d b) after (got x rest (length rest)) → Going d b m (operands a (map view_operand ys)) rest us
  band_goes m ys y x rest h e f g q =
      subst (λ k. Going d b k (operands a (map view_operand ys)) rest us) (sym e)
      (subst (λ t. Going d b (suc n) t rest us) (sym pushed)
      (next_as d n b (operands a (map view_operand xs)) ts after us p mark takes_it (is_single b) x rest h one q before))
    where
      map_pushed : (zs : List Operand) → map view_operand (zs ++ y ∷ []) ≡ map view_operand zs ++ view_operand y ∷ []
      map_pushed [] = refl
      map_pushed (z ∷ zs) = ap (λ l. view_operand z ∷ l) (map_pushed zs)

      pushed : operands a (map view_operand ys) ≡ binary p mark (operands a (map view_operand xs)) x
      pushed = ap (λ l. operands a (map view_operand l)) f ∙ ap (operands a) (map_pushed xs) ∙ ap (λ t. operands a (map view_operand xs ++ t ∷ [])) g ∙ operands_push a (map view_operand xs) p mark empty x

pub band_not : (d : ℕ) (b : Band) (us : List Lexeme) (o : Out Lexeme Tree) → IsStop o → Outcome (operand d b) us o → Outcome (rule (Operands d b)) us o
unfolding rules
band_not d b us o s p = ruled (fails_or_dives o s p)
  where
    fails_or_dives : {k : Tree → Gram} (o : Out Lexeme Tree) → IsStop o → Outcome (operand d b) us o → Outcome (bind (operand d b) k) us o
    fails_or_dives (got v rest left) s q = absurd s
    fails_or_dives (unexpected left) s q = fails q
    fails_or_dives (too_deep left) s q = dives q
