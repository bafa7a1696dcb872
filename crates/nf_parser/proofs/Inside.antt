-- What stands in a workflow: statements or parts; and what it emits.
use Rattle.std.proofs.Common.{◌≡◌, ℕ, Bool, true, false, List, length, refl, sym, subst, ap}
use Rattle.std.specs.Prelude.{codes, not, ◌&&◌, ◌||◌}
use Rattle.nf_token.specs.declared.token.Mark.TheVariants as m
use Rattle.nf_token.specs.declared.token.Token.TheVariants as t
use Rattle.nf_token.specs.declared.token.Lexeme.{Lexeme}
use Rattle.nf_grammar.specs.Gram.{token, gives, bind, rule}
use Rattle.nf_grammar.specs.Parts.{no_next}
use Rattle.nf_grammar.specs.Reads.{reads_gives, reads_right, reads_where, Stands, stands_first, stands_second, stands_left, stands_right, stands_rule, stands_part}
use Rattle.nf_grammar.specs.Outcome.{Out, got, unexpected}
use Rattle.nf_grammar.proofs.Outcomes.{adds_unexpected, either_left, either_right, stands_reaches, reaches_all, arms_first}
use Rattle.nf_grammar.proofs.Short.{at, takes, off, fails, seq, ruled, maybe_not, maybe_is}
use Rattle.nf_ast.specs.Tree.{Tree, empty, name, parts}
use Rattle.nf_exprs.specs.Level.{Expr, Body, Parts, Gram}
use Rattle.nf_exprs.specs.Tokens.{Kind, word_of, name_of, mark_of, labels, after, is_next, colon, literal, assigns}
use Rattle.nf_exprs.specs.Rules.{rules, closes, sep, with_sep, emit, assigned, workflow_inside}
use Rattle.nf_exprs.specs.Parses.{Outcome, Takes, TakesTwo}
use Rattle.nf_exprs.proofs.Steps.{comes, took_one}
use Rattle.nf_exprs.proofs.Labels.{label_unclosed, past_label_yes}
use Rattle.nf_parser.specs.Ends.{parts_next}
use Rattle.nf_parser.proofs.Words.{Named, named, word_named, Came, comes_next, stands_past, both_miss}
use Rattle.nf_parser.proofs.Names.{label_of, body_at_label, before_equals, expr_name, sep_misses}
use Rattle.nf_parser.proofs.Stray.{main_stands}

-- ---- a name that comes

name_came : {ts : List Lexeme} → Named ts → Came name_of ts
name_came {ts} n = record { v = name n.place n.name; rest = n.rest; takes = ((record { token = t.Name n.name; place = n.place }), refl, n.is) }

literal_came : {ts : List Lexeme} → Named ts → Came literal ts
literal_came {ts} n = record { v = name n.place n.name; rest = n.rest; takes = ((record { token = t.Name n.name; place = n.place }), refl, n.is) }

rest_is : {p : Kind} {ts : List Lexeme} (c : Came p ts) → Takes p ts c.v (after ts)
rest_is {p} {ts} c = subst (λ r. Takes p ts c.v r) (sym (ap after c.takes.2)) c.takes

-- ---- statements or parts

-- what closes them
then_closes : Tree → Gram
then_closes x = bind closes (λ c. gives x)

module _ (ts : List Lexeme) where
  body_stands : Named ts → Stands rules (bind (rule (Body 1)) then_closes) ts (after ts)
  unfolding rules then_closes
  body_stands n = stands_first (stands_rule (stands_part (stands_first (stands_first (stands_rule (stands_right (stands_left (stands_first (stands_past (name_came n))))))))))

  parts_stand : is_next (word_of (codes "take")) ts || is_next (word_of (codes "main")) ts ≡ true → Stands rules (bind (rule Parts) then_closes) ts (after ts)
  unfolding rules then_closes
  parts_stand e = at_take (no_next (word_of (codes "take")) ts) refl
    where
      main_next : no_next (word_of (codes "take")) ts ≡ true → is_next (word_of (codes "main")) ts ≡ true
      main_next h = or_second _ _ (ap not h) e
        where
          or_second : (a b : Bool) → a ≡ false → a || b ≡ true → b ≡ true
          or_second true b e h = absurd cc
          or_second false b e h = h

      at_take : (b : Bool) → no_next (word_of (codes "take")) ts ≡ b → Stands rules (bind (rule Parts) then_closes) ts (after ts)
      at_take false h = stands_first (stands_rule (stands_first (stands_left (stands_first (stands_first (stands_past (comes_next (word_of (codes "take")) ts (ap not h))))))))
      at_take true h = stands_first (stands_rule (stands_second (reads_right (reads_where h reads_gives)) (main_stands ts (parts empty) (main_next h))))

  pub inside_parts : (o : Out Lexeme Tree) → parts_next ts ≡ true → Outcome (bind (rule Parts) (λ x. bind closes (λ c. gives x))) ts o → Outcome (bind workflow_inside (λ x. bind closes (λ c. gives x))) ts o
  unfolding then_closes
  inside_parts o e p =
      let b = both_miss (labels ts) (is_next (word_of (codes "take")) ts || is_next (word_of (codes "main")) ts) e in
      let body = subst (λ n. Outcome (rule (Body 1)) ts (got empty ts n)) (sym (past_label_yes ts b.0)) (body_at_label 1 ts (label_of ts b.0)) in
      let arm = label_unclosed (rule (Body 1)) ts ts empty (length (after ts)) b.0 refl body in
      arms_first (rule (Body 1)) (rule Parts) then_closes ts o (either_right (bind (rule (Body 1)) then_closes) (bind (rule Parts) then_closes) ts o (length (after ts)) p (adds_unexpected (bind (rule (Body 1)) then_closes) ts (length (after ts)) arm) (stands_reaches (bind (rule Parts) then_closes) ts (after ts) o (parts_stand b.1) p))

  -- where no label comes, parts end after a word at most
  no_colon : Named ts → labels ts ≡ false → no_next colon (after ts) ≡ true
  no_colon n e = at_any (no_next colon (after ts)) refl
    where
      at_any : (b : Bool) → no_next colon (after ts) ≡ b → b ≡ true
      at_any true h = refl
      at_any false h = absurd (let f : labels ts ≡ true = rw (comes (name_came n).takes, h) refl in cc)

  module _ (o : Out Lexeme Tree) (p : Outcome (bind (rule (Body 1)) then_closes) ts o) where
    beside : (left : ℕ) → Outcome (bind (rule Parts) then_closes) ts (unexpected left) → (r : List Lexeme) → length r ≡ left → Stands rules (bind (rule (Body 1)) then_closes) ts r → Outcome (bind workflow_inside then_closes) ts o
    beside left q r e s = arms_first (rule (Body 1)) (rule Parts) then_closes ts o (either_left (bind (rule (Body 1)) then_closes) (bind (rule Parts) then_closes) ts o (length r) p (adds_unexpected (bind (rule Parts) then_closes) ts (length r) (subst (λ n. Outcome (bind (rule Parts) then_closes) ts (unexpected n)) (sym e) q)) (stands_reaches (bind (rule (Body 1)) then_closes) ts r o s p))

    beside_none : Outcome (bind (rule Parts) then_closes) ts (unexpected (length ts)) → Outcome (bind workflow_inside then_closes) ts o
    beside_none q = arms_first (rule (Body 1)) (rule Parts) then_closes ts o (either_left (bind (rule (Body 1)) then_closes) (bind (rule Parts) then_closes) ts o (length ts) p (adds_unexpected (bind (rule Parts) then_closes) ts (length ts) q) (reaches_all (bind (rule (Body 1)) then_closes) ts o p))

    no_take : no_next (word_of (codes "take")) ts ≡ true → Outcome (bind (rule Parts) then_closes) ts (unexpected (length ts)) → Outcome (bind workflow_inside then_closes) ts o
    no_take h q = beside_none q

    inside_body : parts_next ts ≡ false → Outcome (bind workflow_inside then_closes) ts o
    unfolding rules
    inside_body e = at_take (no_next (word_of (codes "take")) ts) refl
      where
        unlabelled : (a b : Bool) → a && b ≡ false → b ≡ true → a ≡ false
        unlabelled true b e h = absurd (let f : b ≡ false = e in cc)
        unlabelled false b e h = refl

        some_word : (a b : Bool) → a ≡ true → a || b ≡ true
        some_word true b e = refl
        some_word false b e = absurd cc

        other_some : (a b : Bool) → b ≡ true → a || b ≡ true
        other_some true b e = refl
        other_some false b e = e

        at_main : no_next (word_of (codes "take")) ts ≡ true → (b : Bool) → no_next (word_of (codes "main")) ts ≡ b → Outcome (bind workflow_inside then_closes) ts o
        at_main h true i = beside_none (fails (ruled (seq (maybe_not h (fails (off h))) (fails (fails (off i))))))
        at_main h false i =
            let c = comes_next (word_of (codes "main")) ts (ap not i) in
            let n = word_named (codes "main") c.takes in
            let l = unlabelled (labels ts) _ e (other_some (is_next (word_of (codes "take")) ts) (is_next (word_of (codes "main")) ts) (ap not i)) in
            beside (length (after ts)) (fails (ruled (seq (maybe_not h (fails (off h))) (fails (fails (seq (took_one (rest_is c)) (off (no_colon n l)))))))) (after ts) refl (body_stands n)

        at_take : (b : Bool) → no_next (word_of (codes "take")) ts ≡ b → Outcome (bind workflow_inside then_closes) ts o
        at_take true h = at_main h (no_next (word_of (codes "main")) ts) refl
        at_take false h =
            let c = comes_next (word_of (codes "take")) ts (ap not h) in
            let n = word_named (codes "take") c.takes in
            let l = unlabelled (labels ts) _ e (some_word (is_next (word_of (codes "take")) ts) (is_next (word_of (codes "main")) ts) (ap not h)) in
            beside (length (after ts)) (fails (ruled (fails (maybe_is h (fails (seq (took_one (rest_is c)) (off (no_colon n l)))))))) (after ts) refl (body_stands n)

  pub inside_statements : (o : Out Lexeme Tree) → parts_next ts ≡ false → Outcome (bind (rule (Body 1)) (λ x. bind closes (λ c. gives x))) ts o → Outcome (bind workflow_inside (λ x. bind closes (λ c. gives x))) ts o
  unfolding then_closes
  inside_statements o e p = inside_body o p e

-- ---- what a workflow emits

-- a separator after it
then_sep : Tree → Gram
then_sep x = bind sep (λ s. gives x)

pub took_two : {p q : Kind} {k : Tree → Tree → Gram} {ts rest : List Lexeme} {v : Tree} {o : Out Lexeme Tree} → ((w : Tree) → Outcome (k v w) rest o) → TakesTwo p q ts v rest → Outcome (bind (token false p) (λ a. bind (token false q) (λ b. k a b))) ts o
took_two h e = at e.5 (seq (takes refl e.3) (seq (takes refl e.4) (h e.2)))

module _ (ts rest : List Lexeme) (v : Tree) (e : TakesTwo name_of (mark_of m.Equals) ts v rest) where
  name_first : Takes name_of ts v (after ts)
  name_first = subst (λ us. Takes name_of us v (after us)) (sym e.5) (e.0, e.3, refl)

  equals_second : Takes (mark_of m.Equals) (after ts) e.2 rest
  equals_second = subst (λ us. Takes (mark_of m.Equals) (after us) e.2 rest) (sym e.5) (e.1, e.4, refl)

  pub emit_named : (o : Out Lexeme Tree) → Outcome (bind (assigned 1) (λ x. bind sep (λ s. gives x))) ts o → Outcome (with_sep emit) ts o
  unfolding then_sep
  emit_named o p =
      let f = before_equals equals_second in
      let arm = seq (expr_name 1 ts (after ts) v name_first f 0) (fails (sep_misses f)) in
      let c : Came name_of ts = record { v = v; rest = after ts; takes = name_first } in
      arms_first (assigned 1) (rule (Expr 1 0)) then_sep ts o (either_left (bind (assigned 1) then_sep) (bind (rule (Expr 1 0)) then_sep) ts o (length (after ts)) p (adds_unexpected (bind (rule (Expr 1 0)) then_sep) ts (length (after ts)) arm) (stands_reaches (bind (assigned 1) then_sep) ts (after ts) o (stands_first (stands_first (stands_past c))) p))

-- an expression has read a name that comes
expr_stands : {ts : List Lexeme} → Named ts → Stands rules (bind (rule (Expr 1 0)) then_sep) ts (after ts)
unfolding rules then_sep
expr_stands n = stands_first (stands_rule (stands_first (stands_rule (stands_first (stands_rule (stands_first (stands_rule (stands_first (stands_rule (stands_first (stands_rule (stands_first (stands_rule (stands_first (stands_rule (stands_first (stands_rule (stands_first (stands_rule (stands_right (stands_rule (stands_first (stands_rule (stands_left (stands_past (literal_came n))))))))))))))))))))))))))

pub emit_alone : (ts : List Lexeme) (o : Out Lexeme Tree) → assigns ts ≡ false → Outcome (bind (rule (Expr 1 0)) (λ x. bind sep (λ s. gives x))) ts o → Outcome (with_sep emit) ts o
unfolding then_sep
emit_alone ts o e p = at_name (no_next name_of ts) refl
  where
    no_equals : no_next name_of ts ≡ false → no_next (mark_of m.Equals) (after ts) ≡ true
    no_equals h = at_any (no_next (mark_of m.Equals) (after ts)) refl
      where
        at_any : (b : Bool) → no_next (mark_of m.Equals) (after ts) ≡ b → b ≡ true
        at_any true i = refl
        at_any false i = absurd (let f : assigns ts ≡ true = rw (h, i) refl in cc)

    at_name : (b : Bool) → no_next name_of ts ≡ b → Outcome (with_sep emit) ts o
    at_name true h = arms_first (assigned 1) (rule (Expr 1 0)) then_sep ts o (either_right (bind (assigned 1) then_sep) (bind (rule (Expr 1 0)) then_sep) ts o (length ts) p (adds_unexpected (bind (assigned 1) then_sep) ts (length ts) (fails (off h))) (reaches_all (bind (rule (Expr 1 0)) then_sep) ts o p))
    at_name false h =
        let c = comes_next name_of ts (ap not h) in
        let arm = fails (seq (took_one (rest_is c)) (off (no_equals h))) in
        arms_first (assigned 1) (rule (Expr 1 0)) then_sep ts o (either_right (bind (assigned 1) then_sep) (bind (rule (Expr 1 0)) then_sep) ts o (length (after ts)) p (adds_unexpected (bind (assigned 1) then_sep) ts (length (after ts)) arm) (stands_reaches (bind (rule (Expr 1 0)) then_sep) ts (after ts) o (expr_stands (named c.takes)) p))
