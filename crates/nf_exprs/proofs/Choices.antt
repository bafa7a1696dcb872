-- The arms of a choice, which stand in one list.
use Rattle.std.proofs.Common.{◌≡◌, ℕ, suc, ◌≤◌, ◌<◌, true, false, List, [], ◌∷◌, ◌++◌, length, map, refl, sym, subst, ap, ◌∙◌}
use Rattle.nf_value.specs.declared.place.Place.{Place}
use Rattle.nf_token.specs.declared.token.Mark.TheVariants as m
use Rattle.nf_token.specs.declared.token.Keyword.TheVariants as k
use Rattle.nf_token.specs.declared.token.Token.TheVariants as t
use Rattle.nf_token.specs.declared.token.Lexeme.{Lexeme}
use Rattle.nf_grammar.specs.Gram.{rule}
use Rattle.nf_grammar.specs.Parts.{no_next}
use Rattle.nf_grammar.specs.Outcome.{Out, got, unexpected, too_deep}
use Rattle.nf_grammar.proofs.Short.{ret, seq, fails, off, first_arm, second_arm, ruled, maybe_not, maybe_is, stop, IsStop}
use Rattle.nf_ast.specs.declared.expr.Arm.{Arm}
use Rattle.nf_ast.specs.Tree as tree
use Rattle.nf_ast.specs.Tree.{Tree, empty, point}
use Rattle.nf_ast.specs.View.{choice, view_arm}
use Rattle.nf_exprs.specs.Level.{Choice, Gram}
use Rattle.nf_exprs.specs.Tokens.{mark_of, keyword_of}
use Rattle.nf_exprs.specs.Rules.{rules, arm, block, else_arm, maybe}
use Rattle.nf_exprs.specs.Parses.{Outcome, Takes, arm_tree}
use Rattle.nf_exprs.proofs.Are.{lexeme, a_keyword}
use Rattle.nf_exprs.proofs.Leads.{Leads}
use Rattle.nf_exprs.proofs.Steps.{short, long, took, sunk, comes}

-- what may stand after so many arms
abbrev pub after_arms : ℕ → ℕ → Gram
after_arms d n = maybe (else_arm d n) (no_next (keyword_of k.Else))

abbrev pub ChoiceGoing : ℕ → ℕ → List Arm → List Lexeme → List Lexeme → Type 0
ChoiceGoing d n xs ts us = Leads (after_arms d n) ts (choice (map view_arm xs)) (rule (Choice d 1)) us

choice_push : (xs : List Arm) (x : Arm) (e : Tree) → choice (map view_arm (xs ++ x ∷ [])) e ≡ choice (map view_arm xs) (choice (view_arm x ∷ []) e)
choice_push [] x e = refl
choice_push (y ∷ ys) x e = ap (tree.choice (view_arm y).place (view_arm y).condition (tree.statements (view_arm y).body)) (choice_push ys x e)

pub choice_begins : (d : ℕ) (xs ys : List Arm) (x : Arm) (ts us : List Lexeme) → xs ≡ [] → ys ≡ xs ++ x ∷ [] → Outcome (arm d) us (got (arm_tree (view_arm x)) ts (length ts)) → ChoiceGoing d 1 ys ts us
unfolding rules
choice_begins d xs ys x ts us e f p = subst (λ l. ChoiceGoing d 1 l ts us) (sym (f ∙ ap (λ l. l ++ x ∷ []) e)) (record { goes = λ v rest q. ruled (seq p (seq q ret)); stops = λ o s q. ruled (seq p (stop o s q)) })

pub choice_not : (d : ℕ) (us : List Lexeme) (o : Out Lexeme Tree) → IsStop o → Outcome (arm d) us o → Outcome (rule (Choice d 1)) us o
unfolding rules
choice_not d us o s p = ruled (stop o s p)

choice_off : (d n : ℕ) (ts : List Lexeme) → no_next (keyword_of k.If) ts ≡ true → Outcome (rule (Choice d n)) ts (unexpected (length ts))
unfolding rules
choice_off d n ts e = ruled (fails (off e))

module _ (d n : ℕ) (xs : List Arm) (ts after us : List Lexeme) (p : Place) (otherwise : Takes (keyword_of k.Else) ts (point p) after) (before : ChoiceGoing d n xs ts us) where
  pub choice_dives : 256 ≤ n → Outcome (rule (Choice d 1)) us (too_deep (length ts))
  choice_dives h = before.stops (too_deep (length ts)) tt (maybe_is (comes otherwise) (sunk (long n h) otherwise))

  -- the last arm
  pub last_got : (body : Tree) (rest : List Lexeme) → n < 256 → no_next (keyword_of k.If) after ≡ true → Outcome (block d) after (got (tree.statements body) rest (length rest)) → Outcome (rule (Choice d 1)) us (got (choice (map view_arm xs) (tree.statements body)) rest (length rest))
  last_got body rest h e q = before.goes (tree.statements body) rest (maybe_is (comes otherwise) (took (short n h) otherwise (first_arm q (choice_off d (suc n) after e))))

  pub last_stops : n < 256 → no_next (keyword_of k.If) after ≡ true → (o : Out Lexeme Tree) → IsStop o → Outcome (block d) after o → Outcome (rule (Choice d 1)) us o
  last_stops h e o s q = before.stops o s (maybe_is (comes otherwise) (took (short n h) otherwise (first_arm q (choice_off d (suc n) after e))))

  -- one more arm
  block_off : no_next (keyword_of k.If) after ≡ false → (q : Place) (vs : List Lexeme) → after ≡ lexeme (t.Keyword k.If) q ∷ vs → Outcome (block d) after (unexpected (length after))
  block_off e q vs is = fails (off (subst (λ l. no_next (mark_of m.OpenBrace) l ≡ true) (sym is) refl))

  pub arm_stops : n < 256 → (q : Place) (vs : List Lexeme) → Takes (keyword_of k.If) after (point q) vs → (o : Out Lexeme Tree) → IsStop o → Outcome (arm d) after o → Outcome (rule (Choice d 1)) us o
  unfolding rules
  arm_stops h q vs i o s r = before.stops o s (maybe_is (comes otherwise) (took (short n h) otherwise (second_arm (block_off (comes i) q vs (a_keyword k.If i)) (ruled (stop o s r)))))

  pub arm_got : (m : ℕ) (ys : List Arm) (x : Arm) (rest : List Lexeme) (q : Place) (vs : List Lexeme) → n < 256 → m ≡ suc n → ys ≡ xs ++ x ∷ [] → Takes (keyword_of k.If) after (point q) vs → Outcome (arm d) after (got (arm_tree (view_arm x)) rest (length rest)) → ChoiceGoing d m ys rest us
  unfolding rules
  arm_got m ys x rest q vs h e f i r =
      subst (λ j. ChoiceGoing d j ys rest us) (sym e) (subst (λ l. ChoiceGoing d (suc n) l rest us) (sym f) (record {
        goes = λ v r2 g. subst (λ z. Outcome (rule (Choice d 1)) us (got z r2 (length r2))) (sym (choice_push xs x v)) (before.goes (choice (view_arm x ∷ []) v) r2 (maybe_is (comes otherwise) (took (short n h) otherwise (second_arm (block_off (comes i) q vs (a_keyword k.If i)) (ruled (seq r (seq g ret)))))));
        stops = λ o s g. before.stops o s (maybe_is (comes otherwise) (took (short n h) otherwise (second_arm (block_off (comes i) q vs (a_keyword k.If i)) (ruled (seq r (stop o s g))))));
      }))

pub choice_ends : (d n : ℕ) (xs : List Arm) (ts us : List Lexeme) → no_next (keyword_of k.Else) ts ≡ true → ChoiceGoing d n xs ts us → Outcome (rule (Choice d 1)) us (got (choice (map view_arm xs) empty) ts (length ts))
choice_ends d n xs ts us e before = before.goes empty ts (maybe_not e (off e))
