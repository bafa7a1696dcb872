-- What the rows of the tops do where nothing of them begins, and steps between rows.
use Rattle.std.proofs.Common.{◌≡◌, ◌≤◌, Bool, true, false, List, [], ◌∷◌, length, Some, None, refl, sym, subst, ap, arith}
use Rattle.std.specs.Prelude.{codes, not, if◌then◌else◌}
use Rattle.nf_token.specs.declared.token.Mark.TheVariants as m
use Rattle.nf_token.specs.declared.token.Keyword.TheVariants as k
use Rattle.nf_token.specs.declared.token.Token.{Token}
use Rattle.nf_token.specs.declared.token.Token.TheVariants as t
use Rattle.nf_token.specs.declared.token.Lexeme.{Lexeme}
use Rattle.nf_value.specs.declared.place.Place.{Place}
use Rattle.nf_grammar.specs.Gram.{gives, bind, rule}
use Rattle.nf_grammar.specs.Parts.{no_next}
use Rattle.nf_grammar.specs.Reads.{Reads, reads_gives, reads_bind, reads_rule, reads_left, reads_right, reads_where, Stands, stands_gives, stands_first, stands_second, stands_rule, stands_left, stands_right, Deep, deep_first, deep_second, deep_rule, deep_left, deep_right, deep_where, stands_where}
use Rattle.nf_grammar.specs.Outcome.{Out, got, unexpected}
use Rattle.nf_grammar.proofs.Outcomes.{Adds, same_outcome, reads_stands, either_left, reaches_all, bind_got_short}
use Rattle.nf_grammar.proofs.Short.{off, fails, second_arm, ruled}
use Rattle.nf_ast.specs.Tree.{Tree}
use Rattle.nf_exprs.specs.Level.{Level, Args, Top, Process, Output, Workflow, Function, Gram}
use Rattle.nf_exprs.specs.Tokens.{word_of, labels, after, no_start, starts_at, mark_at, mark_of, keyword_of}
use Rattle.nf_exprs.specs.Rules.{rules, no_word, no_top, input_words, output_words, some_input, output_value, small_top, round_args, bare_args, directive_args, maybe}
use Rattle.nf_exprs.specs.Parses.{Outcome, Takes, past_label}
use Rattle.nf_exprs.proofs.Steps.{comes}
use Rattle.nf_parser.proofs.Words.{both_miss, Came}

-- ---- steps between rows

-- a rule, and what comes after it
rule_reads : {l : Level} {q : Tree → Gram} {ts r : List Lexeme} {v : Tree} → Reads rules (bind (rules l) q) ts v r → Reads rules (bind (rule l) q) ts v r
rule_reads (reads_bind p s) = reads_bind (reads_rule p) s

rule_back : {l : Level} {q : Tree → Gram} {ts r : List Lexeme} {v : Tree} → Reads rules (bind (rule l) q) ts v r → Reads rules (bind (rules l) q) ts v r
rule_back (reads_bind (reads_rule p) s) = reads_bind p s

rule_stands : {l : Level} {q : Tree → Gram} {ts r : List Lexeme} → Stands rules (bind (rules l) q) ts r → Stands rules (bind (rule l) q) ts r
rule_stands (stands_first p) = stands_first (stands_rule p)
rule_stands (stands_second p s) = stands_second (reads_rule p) s

rule_stands_back : {l : Level} {q : Tree → Gram} {ts r : List Lexeme} → Stands rules (bind (rule l) q) ts r → Stands rules (bind (rules l) q) ts r
rule_stands_back (stands_first (stands_rule p)) = stands_first p
rule_stands_back (stands_second (reads_rule p) s) = stands_second p s

rule_deep : {l : Level} {q : Tree → Gram} {ts r : List Lexeme} → Deep rules (bind (rules l) q) ts r → Deep rules (bind (rule l) q) ts r
rule_deep (deep_first p) = deep_first (deep_rule p)
rule_deep (deep_second p s) = deep_second (reads_rule p) s

rule_deep_back : {l : Level} {q : Tree → Gram} {ts r : List Lexeme} → Deep rules (bind (rule l) q) ts r → Deep rules (bind (rules l) q) ts r
rule_deep_back (deep_first (deep_rule p)) = deep_first p
rule_deep_back (deep_second (reads_rule p) s) = deep_second p s

pub rule_first : {l : Level} {q : Tree → Gram} {ts : List Lexeme} {o : Out Lexeme Tree} → Outcome (bind (rules l) q) ts o → Outcome (bind (rule l) q) ts o
rule_first {l} {q} {ts} {o} = same_outcome (bind (rules l) q) (bind (rule l) q) ts o (record { reads = rule_reads; reads_back = rule_back; stands = rule_stands; stands_back = rule_stands_back; deep = rule_deep; deep_back = rule_deep_back })

-- what a part is made into, before what comes after it
made_reads : {g : Gram} {f : Tree → Tree} {q : Tree → Gram} {ts r : List Lexeme} {v : Tree} → Reads rules (bind g (λ x. q (f x))) ts v r → Reads rules (bind (bind g (λ x. gives (f x))) q) ts v r
made_reads (reads_bind p s) = reads_bind (reads_bind p reads_gives) s

made_back : {g : Gram} {f : Tree → Tree} {q : Tree → Gram} {ts r : List Lexeme} {v : Tree} → Reads rules (bind (bind g (λ x. gives (f x))) q) ts v r → Reads rules (bind g (λ x. q (f x))) ts v r
made_back (reads_bind (reads_bind p reads_gives) s) = reads_bind p s

made_stands : {g : Gram} {f : Tree → Tree} {q : Tree → Gram} {ts r : List Lexeme} → Stands rules (bind g (λ x. q (f x))) ts r → Stands rules (bind (bind g (λ x. gives (f x))) q) ts r
made_stands (stands_first p) = stands_first (stands_first p)
made_stands (stands_second p s) = stands_second (reads_bind p reads_gives) s

made_stands_back : {g : Gram} {f : Tree → Tree} {q : Tree → Gram} {ts r : List Lexeme} → Stands rules (bind (bind g (λ x. gives (f x))) q) ts r → Stands rules (bind g (λ x. q (f x))) ts r
made_stands_back (stands_first (stands_first p)) = stands_first p
made_stands_back (stands_first (stands_second p stands_gives)) = stands_first (reads_stands p)
made_stands_back (stands_second (reads_bind p reads_gives) s) = stands_second p s

made_deep : {g : Gram} {f : Tree → Tree} {q : Tree → Gram} {ts r : List Lexeme} → Deep rules (bind g (λ x. q (f x))) ts r → Deep rules (bind (bind g (λ x. gives (f x))) q) ts r
made_deep (deep_first p) = deep_first (deep_first p)
made_deep (deep_second p s) = deep_second (reads_bind p reads_gives) s

made_deep_back : {g : Gram} {f : Tree → Tree} {q : Tree → Gram} {ts r : List Lexeme} → Deep rules (bind (bind g (λ x. gives (f x))) q) ts r → Deep rules (bind g (λ x. q (f x))) ts r
made_deep_back (deep_first (deep_first p)) = deep_first p
made_deep_back (deep_first (deep_second p d)) = elim d [ ]
made_deep_back (deep_second (reads_bind p reads_gives) s) = deep_second p s

pub made : {g : Gram} {f : Tree → Tree} {q : Tree → Gram} {ts : List Lexeme} {o : Out Lexeme Tree} → Outcome (bind g (λ x. q (f x))) ts o → Outcome (bind (bind g (λ x. gives (f x))) q) ts o
made {g} {f} {q} {ts} {o} = same_outcome (bind g (λ x. q (f x))) (bind (bind g (λ x. gives (f x))) q) ts o (record { reads = made_reads; reads_back = made_back; stands = made_stands; stands_back = made_stands_back; deep = made_deep; deep_back = made_deep_back })

-- ---- up to a label

pub after_le : (ts : List Lexeme) → length (after ts) ≤ length ts
after_le [] = omega arith
after_le (x ∷ ts) = omega arith

pub past_label_le : (ts : List Lexeme) → past_label ts ≤ length ts
past_label_le ts = at_any (labels ts)
  where
    at_any : (b : Bool) → (if b then length (after ts) else length ts) ≤ length ts
    at_any true = after_le ts
    at_any false = omega arith

-- a part that ends before a label, and what it is made into
pub to_label : {g : Gram} {q : Tree → Gram} {ts mid : List Lexeme} {a v : Tree} → Outcome g ts (got a mid (past_label mid)) → Outcome (q a) mid (got v mid (length mid)) → Outcome (bind g q) ts (got v mid (past_label mid))
to_label {g} {q} {ts} {mid} {a} {v} p s = bind_got_short g q ts a v mid mid (past_label mid) (length mid) p s (past_label_le mid)

-- ---- an opening round bracket begins an expression

round_starts : (x : Token) (p : Place) (v : Tree) → mark_at m.OpenRound x p ≡ Some v → starts_at x ≡ true
round_starts (t.Name n) p v e = absurd (let f : None ≡ Some v = e in cc)
round_starts (t.Keyword w) p v e = absurd (let f : None ≡ Some v = e in cc)
round_starts (t.Number n) p v e = absurd (let f : None ≡ Some v = e in cc)
round_starts (t.Plain q s) p v e = absurd (let f : None ≡ Some v = e in cc)
round_starts (t.Pattern s) p v e = absurd (let f : None ≡ Some v = e in cc)
round_starts (t.OpenTemplate q) p v e = absurd (let f : None ≡ Some v = e in cc)
round_starts (t.TemplateText s) p v e = absurd (let f : None ≡ Some v = e in cc)
round_starts t.OpenHole p v e = absurd (let f : None ≡ Some v = e in cc)
round_starts t.CloseHole p v e = absurd (let f : None ≡ Some v = e in cc)
round_starts (t.CloseTemplate q) p v e = absurd (let f : None ≡ Some v = e in cc)
round_starts t.Separator p v e = absurd (let f : None ≡ Some v = e in cc)
round_starts (t.Mark m.OpenRound) p v e = refl
round_starts (t.Mark m.CloseRound) p v e = absurd (let f : None ≡ Some v = e in cc)
round_starts (t.Mark m.OpenSquare) p v e = absurd (let f : None ≡ Some v = e in cc)
round_starts (t.Mark m.CloseSquare) p v e = absurd (let f : None ≡ Some v = e in cc)
round_starts (t.Mark m.OpenBrace) p v e = absurd (let f : None ≡ Some v = e in cc)
round_starts (t.Mark m.CloseBrace) p v e = absurd (let f : None ≡ Some v = e in cc)
round_starts (t.Mark m.Comma) p v e = absurd (let f : None ≡ Some v = e in cc)
round_starts (t.Mark m.Colon) p v e = absurd (let f : None ≡ Some v = e in cc)
round_starts (t.Mark m.Dot) p v e = absurd (let f : None ≡ Some v = e in cc)
round_starts (t.Mark m.QuestionDot) p v e = absurd (let f : None ≡ Some v = e in cc)
round_starts (t.Mark m.DotDot) p v e = absurd (let f : None ≡ Some v = e in cc)
round_starts (t.Mark m.Arrow) p v e = absurd (let f : None ≡ Some v = e in cc)
round_starts (t.Mark m.Equals) p v e = absurd (let f : None ≡ Some v = e in cc)
round_starts (t.Mark m.Plus) p v e = absurd (let f : None ≡ Some v = e in cc)
round_starts (t.Mark m.Minus) p v e = absurd (let f : None ≡ Some v = e in cc)
round_starts (t.Mark m.Times) p v e = absurd (let f : None ≡ Some v = e in cc)
round_starts (t.Mark m.Percent) p v e = absurd (let f : None ≡ Some v = e in cc)
round_starts (t.Mark m.Less) p v e = absurd (let f : None ≡ Some v = e in cc)
round_starts (t.Mark m.AtMost) p v e = absurd (let f : None ≡ Some v = e in cc)
round_starts (t.Mark m.Greater) p v e = absurd (let f : None ≡ Some v = e in cc)
round_starts (t.Mark m.AtLeast) p v e = absurd (let f : None ≡ Some v = e in cc)
round_starts (t.Mark m.Same) p v e = absurd (let f : None ≡ Some v = e in cc)
round_starts (t.Mark m.Differs) p v e = absurd (let f : None ≡ Some v = e in cc)
round_starts (t.Mark m.Matches) p v e = absurd (let f : None ≡ Some v = e in cc)
round_starts (t.Mark m.And) p v e = absurd (let f : None ≡ Some v = e in cc)
round_starts (t.Mark m.Or) p v e = absurd (let f : None ≡ Some v = e in cc)
round_starts (t.Mark m.Pipe) p v e = absurd (let f : None ≡ Some v = e in cc)
round_starts (t.Mark m.Not) p v e = absurd (let f : None ≡ Some v = e in cc)
round_starts (t.Mark m.Question) p v e = absurd (let f : None ≡ Some v = e in cc)
round_starts (t.Mark m.Elvis) p v e = absurd (let f : None ≡ Some v = e in cc)

-- ---- where nothing begins

module _ (ts : List Lexeme) where
  pub no_input : no_word input_words ts ≡ true → Outcome some_input ts (unexpected (length ts))
  unfolding rules
  no_input e =
      let a = both_miss (no_next (word_of (codes "val")) ts) _ e in
      let b = both_miss (no_next (word_of (codes "path")) ts) _ a.1 in
      let c = both_miss (no_next (word_of (codes "stdin")) ts) _ b.1 in
      let d = both_miss (no_next (word_of (codes "tuple")) ts) _ c.1 in
      second_arm (ruled (second_arm (off a.0) (second_arm (off b.0) (off c.0)))) (off d.0)

  pub no_output_value : no_next (word_of (codes "val")) ts ≡ true → no_next (word_of (codes "path")) ts ≡ true → no_next (word_of (codes "stdout")) ts ≡ true → Outcome output_value ts (unexpected (length ts))
  no_output_value a b c = second_arm (off a) (second_arm (off b) (off c))

  pub no_output : no_word output_words ts ≡ true → Outcome (rule Output) ts (unexpected (length ts))
  unfolding rules
  no_output e =
      let a = both_miss (no_next (word_of (codes "val")) ts) _ e in
      let b = both_miss (no_next (word_of (codes "path")) ts) _ a.1 in
      let c = both_miss (no_next (word_of (codes "stdout")) ts) _ b.1 in
      let d = both_miss (no_next (word_of (codes "tuple")) ts) _ c.1 in
      ruled (fails (second_arm (no_output_value a.0 b.0 c.0) (off d.0)))

  pub no_small_top : no_next (word_of (codes "params")) ts ≡ true → no_next (word_of (codes "println")) ts ≡ true → no_next (word_of (codes "log")) ts ≡ true → no_next (word_of (codes "nextflow")) ts ≡ true → Outcome small_top ts (unexpected (length ts))
  no_small_top a b c d = second_arm (off a) (second_arm (off b) (second_arm (off c) (off d)))

  pub no_process : no_next (word_of (codes "process")) ts ≡ true → Outcome (rule Process) ts (unexpected (length ts))
  unfolding rules
  no_process e = ruled (off e)

  pub no_workflow : no_next (word_of (codes "workflow")) ts ≡ true → Outcome (rule Workflow) ts (unexpected (length ts))
  unfolding rules
  no_workflow e = ruled (off e)

  pub no_function : no_next (keyword_of k.Def) ts ≡ true → Outcome (rule Function) ts (unexpected (length ts))
  unfolding rules
  no_function e = ruled (off e)

  pub top_misses : no_top ts ≡ true → Outcome (rule Top) ts (unexpected (length ts))
  unfolding rules
  top_misses e =
      let h = both_miss (no_next (keyword_of k.Def) ts) _ e in
      let a = both_miss (no_next (word_of (codes "process")) ts) _ h.1 in
      let b = both_miss (no_next (word_of (codes "workflow")) ts) _ a.1 in
      let c = both_miss (no_next (word_of (codes "params")) ts) _ b.1 in
      let d = both_miss (no_next (word_of (codes "println")) ts) _ c.1 in
      let f = both_miss (no_next (word_of (codes "log")) ts) _ d.1 in
      let g = both_miss (no_next (word_of (codes "nextflow")) ts) _ f.1 in
      ruled (second_arm (no_process a.0) (second_arm (no_workflow b.0) (second_arm (no_function h.0) (no_small_top c.0 d.0 f.0 g.0))))

  -- ---- the arguments of a directive

  pub in_brackets : (o : Out Lexeme Tree) → no_next (mark_of m.OpenRound) ts ≡ false → no_start ts ≡ false → Outcome round_args ts o → Outcome directive_args ts o
  in_brackets o e f p = either_left round_args bare_args ts o (length ts) p (adds_bare e f) (reaches_all round_args ts o p)
    where
      adds_bare : no_next (mark_of m.OpenRound) ts ≡ false → no_start ts ≡ false → Adds rules bare_args ts (length ts)
      adds_bare e f = record {
        none = λ w r d. (none w r d);
        farthest = λ r s. (far r s);
        shallow = λ r d. (shallow r d);
      }
        where
          none : (w : Tree) (r : List Lexeme) → Reads rules bare_args ts w r → ⊥
          none w r (reads_left (reads_where c p)) = absurd cc
          none w r (reads_right (reads_where c p)) = absurd cc

          far : (r : List Lexeme) → Stands rules bare_args ts r → length ts ≤ length r
          far r (stands_left (stands_where c p)) = absurd cc
          far r (stands_right (stands_where c p)) = absurd cc

          shallow : (r : List Lexeme) → Deep rules bare_args ts r → ⊥
          shallow r (deep_left (deep_where c p)) = absurd cc
          shallow r (deep_right (deep_where c p)) = absurd cc

  -- a round bracket that comes opens the arguments
  pub round_first : {o : Out Lexeme Tree} → Came (mark_of m.OpenRound) ts → Outcome round_args ts o → Outcome directive_args ts o
  round_first {o} c p = in_brackets o (comes c.takes) (by_round c.takes) p
    where
      by_round : {rest : List Lexeme} {v : Tree} → Takes (mark_of m.OpenRound) ts v rest → no_start ts ≡ false
      by_round {rest} {v} e = subst (λ us. no_start us ≡ false) (sym e.2) (ap not (round_starts e.0.token e.0.place v e.1))

  pub bare_second : (o : Out Lexeme Tree) → no_next (mark_of m.OpenRound) ts ≡ true → Outcome (maybe (rule (Args 1)) no_start) ts o → Outcome directive_args ts o
  bare_second o e p = second_arm (off e) (same_outcome (maybe (rule (Args 1)) no_start) bare_args ts o (record {
    reads = λ r. elim r [ reads_left q ↦ reads_left (reads_where e q) | reads_right q ↦ reads_right q ];
    reads_back = λ r. elim r [ reads_left (reads_where c q) ↦ reads_left q | reads_right q ↦ reads_right q ];
    stands = λ r. elim r [ stands_left q ↦ stands_left (stands_where e q) | stands_right q ↦ stands_right q ];
    stands_back = λ r. elim r [ stands_left (stands_where c q) ↦ stands_left q | stands_right q ↦ stands_right q ];
    deep = λ r. elim r [ deep_left q ↦ deep_left (deep_where e q) | deep_right q ↦ deep_right q ];
    deep_back = λ r. elim r [ deep_left (deep_where c q) ↦ deep_left q | deep_right q ↦ deep_right q ];
  }) p)
