-- Operators before an operand.
use Rattle.std.proofs.Common.{◌≡◌, ℕ, suc, ◌≤◌, ◌<◌, true, List, [], ◌∷◌, ◌++◌, length, refl, sym, subst, ap}
use Rattle.nf_value.specs.declared.place.Place.{Place}
use Rattle.nf_token.specs.declared.token.Lexeme.{Lexeme}
use Rattle.nf_grammar.specs.Gram.{rule, bind}
use Rattle.nf_grammar.specs.Parts.{no_next}
use Rattle.nf_grammar.specs.Outcome.{Out, got, unexpected, too_deep}
use Rattle.nf_grammar.proofs.Short.{at, at_deep, ret, takes, sinks, seq, fails, dives, off, first_arm, second_arm, ruled, IsStop}
use Rattle.nf_ast.specs.declared.operators.PrefixOperator.{PrefixOperator}
use Rattle.nf_ast.specs.declared.expr.Prefix.{Prefix}
use Rattle.nf_ast.specs.Tree.{Tree, empty, prefix}
use Rattle.nf_exprs.specs.Level.{Pre, Post, Gram}
use Rattle.nf_exprs.specs.Tokens.{prefix_operator}
use Rattle.nf_ast.specs.View.{prefixes}
use Rattle.nf_exprs.specs.Rules.{rules, prefixed}
use Rattle.nf_exprs.specs.Parses.{Outcome, Takes}
use Rattle.nf_exprs.proofs.Leads.{Leads}
use Rattle.nf_exprs.proofs.Rows.{post_at_prefix}
use Rattle.nf_exprs.proofs.Steps.{short, long}

pub prefixes_push : (ms : List Prefix) (x : Prefix) (e : Tree) → prefixes (ms ++ x ∷ []) e ≡ prefixes ms (prefix x.place x.operator e)
prefixes_push [] x e = refl
prefixes_push (y ∷ ms) x e = ap (prefix y.place y.operator) (prefixes_push ms x e)

pub same_leads : (g : Gram) (ts : List Lexeme) → Leads g ts (λ v. v) g ts
same_leads g ts = record { goes = λ v rest p. p; stops = λ o s p. p }

module _ (d n : ℕ) (ts after : List Lexeme) (p : Place) (operator : PrefixOperator) (takes_it : Takes prefix_operator ts (prefix p operator empty) after) where
  no_post_here : Outcome (rule (Post d)) (takes_it.0 ∷ after) (unexpected (suc (length after)))
  no_post_here = post_at_prefix d takes_it.0 after (prefix p operator empty) takes_it.1

  by_prefix : (o : Out Lexeme Tree) → Outcome (prefixed d n) (takes_it.0 ∷ after) o → Outcome (rule (Pre d n)) ts o
  unfolding rules
  by_prefix o q = at takes_it.2 (ruled (first_arm q no_post_here))

  pub prefix_leads : n < 256 → Leads (rule (Pre d (suc n))) after (λ e. prefix p operator e) (rule (Pre d n)) ts
  prefix_leads h = record {
    goes = λ v rest q. by_prefix (got (prefix p operator v) rest (length rest)) (seq (takes (short n h) takes_it.1) (seq q ret));
    stops = λ o s q. by_prefix o (seq (takes (short n h) takes_it.1) (stopped o s q));
  }
    where
      stopped : {k : Tree → Gram} (o : Out Lexeme Tree) → IsStop o → Outcome (rule (Pre d (suc n))) after o → Outcome (bind (rule (Pre d (suc n))) k) after o
      stopped (got v rest left) s q = absurd s
      stopped (unexpected left) s q = fails q
      stopped (too_deep left) s q = dives q

  pub prefix_dives : 256 ≤ n → Outcome (rule (Pre d n)) ts (too_deep (length ts))
  unfolding rules
  prefix_dives h = at_deep takes_it.2 (ruled (first_arm (dives (sinks (long n h) takes_it.1)) no_post_here))

  -- after operators that were read
  pub prefix_next : (ms : List Prefix) (us : List Lexeme) → n < 256 → Leads (rule (Pre d n)) ts (prefixes ms) (rule (Pre d 0)) us → Leads (rule (Pre d (suc n))) after (prefixes (ms ++ (record { place = p; operator = operator }) ∷ [])) (rule (Pre d 0)) us
  prefix_next ms us h before =
      let next = prefix_leads h in
      record {
        goes = λ v rest q. subst (λ e. Outcome (rule (Pre d 0)) us (got e rest (length rest))) (sym (prefixes_push ms (record { place = p; operator = operator }) v)) (before.goes (prefix p operator v) rest (next.goes v rest q));
        stops = λ o s q. before.stops o s (next.stops o s q);
      }

  pub prefix_pushed : (m : ℕ) (ms ns : List Prefix) (us : List Lexeme) → n < 256 → m ≡ suc n → ns ≡ ms ++ (record { place = p; operator = operator }) ∷ [] → Leads (rule (Pre d n)) ts (prefixes ms) (rule (Pre d 0)) us → Leads (rule (Pre d m)) after (prefixes ns) (rule (Pre d 0)) us
  prefix_pushed m ms ns us h e f before =
      subst (λ k. Leads (rule (Pre d k)) after (prefixes ns) (rule (Pre d 0)) us) (sym e)
      (subst (λ l. Leads (rule (Pre d (suc n))) after (prefixes l) (rule (Pre d 0)) us) (sym f) (prefix_next ms us h before))

pub first_leads : (g : Gram) (ts : List Lexeme) (ms : List Prefix) → ms ≡ [] → Leads g ts (prefixes ms) g ts
first_leads g ts ms e = subst (λ l. Leads g ts (prefixes l) g ts) (sym e) (same_leads g ts)

-- no operator stands here
pub prefix_none : (d n : ℕ) (ts : List Lexeme) (o : Out Lexeme Tree) → no_next prefix_operator ts ≡ true → Outcome (rule (Post d)) ts o → Outcome (rule (Pre d n)) ts o
unfolding rules
prefix_none d n ts o e p = ruled (second_arm (off e) p)

-- the chain after the operators
pub prefix_ends : (d n : ℕ) (ts us rest : List Lexeme) (ms : List Prefix) (v e : Tree) → no_next prefix_operator ts ≡ true → Leads (rule (Pre d n)) ts (prefixes ms) (rule (Pre d 0)) us → e ≡ prefixes ms v → Outcome (rule (Post d)) ts (got v rest (length rest)) → Outcome (rule (Pre d 0)) us (got e rest (length rest))
prefix_ends d n ts us rest ms v e none before is q = subst (λ x. Outcome (rule (Pre d 0)) us (got x rest (length rest))) (sym is) (before.goes v rest (prefix_none d n ts (got v rest (length rest)) none q))
