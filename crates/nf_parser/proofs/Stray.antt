-- Labels after a part that ends before one: what goes on with them, and what doesn't.
use Rattle.std.proofs.Common.{◌≡◌, ℕ, Bool, true, false, List, length, refl, sym, subst, ap, ◌∙◌, ◌⊎◌, inl, inr}
use Rattle.std.specs.Prelude.{codes, not, ◌||◌}
use Rattle.nf_value.specs.declared.place.Place.{Place}
use Rattle.nf_token.specs.declared.token.Mark.TheVariants as m
use Rattle.nf_token.specs.declared.token.Lexeme.{Lexeme}
use Rattle.nf_grammar.specs.Gram.{gives, bind, many, rule}
use Rattle.nf_grammar.specs.Parts.{no_next}
use Rattle.nf_grammar.specs.Reads.{reads_gives, reads_right, reads_where, Stands, stands_first, stands_second, stands_left, stands_rule}
use Rattle.nf_grammar.specs.Outcome.{Out, got, unexpected}
use Rattle.nf_grammar.proofs.Outcomes.{stands_reaches, many_ends, where_yes}
use Rattle.nf_grammar.proofs.Short.{ret, off, fails, misses, first_arm, second_arm, ruled, seq, seq_far, maybe_not, stops}
use Rattle.nf_ast.specs.Tree.{Tree, empty}
use Rattle.nf_ast.specs.declared.tops.Task.{Task}
use Rattle.nf_ast.specs.declared.tops.Task.TheVariants as task
use Rattle.nf_exprs.specs.Level.{Args, Arg, Directive, Inputs, Outputs, Task as TaskRule, Gram}
use Rattle.nf_exprs.specs.Tokens.{name_of, plain, open_template, labels, after, directives_end, word_of, is_next, no_start, mark_of}
use Rattle.nf_exprs.specs.Rules.{rules, kind, with_sep, separated, sections, stub_end, task_end, main_parts, emit, maybe_section, body_section, emit_section, directive_args}
use Rattle.nf_exprs.specs.Parses.{Outcome, past_label}
use Rattle.nf_exprs.proofs.Steps.{took_one}
use Rattle.nf_exprs.proofs.Labels.{past_label_yes, past_label_no, no_label_got, stands_at_colon, no_close}
use Rattle.nf_exprs.proofs.Rows.{expr_misses, nothing_starts}
use Rattle.nf_parser.specs.Ends.{section_next, stub_next, IsStray, task_left, IsStrayAfter, NoStrayAfter}
use Rattle.nf_parser.proofs.Words.{Named, named, word_named, by_name, both_miss, Came, comes_next, stands_past}
use Rattle.nf_parser.proofs.Parts.{after_le}
use Rattle.nf_parser.proofs.Names.{Label, label_of, before_colon, sep_misses, Plain}

-- ---- after a part that ended before a label

module _ (g : Gram) (q : Tree → Gram) (us ts : List Lexeme) (v : Tree) where
  -- what comes goes on with the label
  pub goes_past : (known : Bool) (o : Out Lexeme Tree) → (known ≡ true → Stands rules (q v) ts (after ts)) → (known ≡ true) ⊎ (labels ts ≡ false) → Outcome g us (got v ts (past_label ts)) → Outcome (q v) ts o → Outcome (bind g q) us o
  goes_past known o stands h p s = elim h [
    | inl e ↦ at_label (labels ts) refl e
    | inr n ↦ seq (no_label_got g us ts v n p) s
  ]
    where
      at_label : (b : Bool) → labels ts ≡ b → known ≡ true → Outcome (bind g q) us o
      at_label true l e = seq_far (subst (λ n. Outcome g us (got v ts n)) (past_label_yes ts l) p) s (stands_reaches (q v) ts (after ts) o (stands e) s)
      at_label false l e = seq (no_label_got g us ts v l p) s

  -- nothing goes on with it: the place is the colon
  pub strays : (known : Bool) (n : ℕ) → IsStray ts known n → (labels ts ≡ true → known ≡ false → Outcome (q v) ts (unexpected (length ts))) → Outcome g us (got v ts (past_label ts)) → Outcome (bind g q) us (unexpected n)
  strays known n h miss p = subst (λ i. Outcome (bind g q) us (unexpected i)) (sym h.2) (stands_at_colon g q us ts v h.1 p (miss h.1 h.0))

-- ---- the sections of a process

module _ (ts : List Lexeme) where
  inputs_miss : no_next (word_of (codes "input")) ts ≡ true → Outcome (rule Inputs) ts (unexpected (length ts))
  unfolding rules
  inputs_miss e = ruled (fails (off e))

  outputs_miss : no_next (word_of (codes "output")) ts ≡ true → Outcome (rule Outputs) ts (unexpected (length ts))
  unfolding rules
  outputs_miss e = ruled (fails (off e))

  task_misses : no_next (word_of (codes "script")) ts ≡ true → Named ts → Outcome (rule TaskRule) ts (unexpected (length ts))
  unfolding rules
  task_misses e n = ruled (second_arm (fails (off e)) (fails (second_arm (misses (by_name (λ us. no_next plain us ≡ true) n (λ w p r. refl))) (off (by_name (λ us. no_next open_template us ≡ true) n (λ w p r. refl))))))

  pub maybe_inputs_miss : no_next (word_of (codes "input")) ts ≡ true → Outcome (maybe_section (codes "input") (rule Inputs)) ts (got empty ts (length ts))
  maybe_inputs_miss e = maybe_not e (inputs_miss e)

  pub maybe_outputs_miss : no_next (word_of (codes "output")) ts ≡ true → Outcome (maybe_section (codes "output") (rule Outputs)) ts (got empty ts (length ts))
  maybe_outputs_miss e = maybe_not e (outputs_miss e)

  module _ (p : Place) (n ds : Tree) where
    pub sections_miss : labels ts ≡ true → section_next ts ≡ false → Outcome (sections p n ds) ts (unexpected (length ts))
    sections_miss l e =
        let h = not_false_yes _ e in
        let a = both_miss (no_next (word_of (codes "input")) ts) _ h in
        let b = both_miss (no_next (word_of (codes "output")) ts) _ a.1 in
        let c = both_miss (no_next (word_of (codes "script")) ts) _ b.1 in
        seq (maybe_inputs_miss a.0) (seq (maybe_outputs_miss b.0) (seq (maybe_inputs_miss a.0) (fails (task_misses c.0 (named (label_of ts l).name)))))
      where
        not_false_yes : (b : Bool) → not b ≡ false → b ≡ true
        not_false_yes true e = refl
        not_false_yes false e = absurd cc

    pub sections_stand : section_next ts ≡ true → Stands rules (sections p n ds) ts (after ts)
    unfolding rules
    sections_stand e = at_input (no_next (word_of (codes "input")) ts) refl
      where
        at_script : no_next (word_of (codes "input")) ts ≡ true → no_next (word_of (codes "output")) ts ≡ true → (b : Bool) → no_next (word_of (codes "script")) ts ≡ b → Stands rules (sections p n ds) ts (after ts)
        at_script i o false s = stands_second (reads_right (reads_where i reads_gives)) (stands_second (reads_right (reads_where o reads_gives)) (stands_second (reads_right (reads_where i reads_gives)) (stands_first (stands_rule (stands_left (stands_first (stands_first (stands_past (comes_next (word_of (codes "script")) ts (ap not s))))))))))
        at_script i o true s = absurd (let f : section_next ts ≡ false = rw (i, o, s) refl in cc)

        at_output : no_next (word_of (codes "input")) ts ≡ true → (b : Bool) → no_next (word_of (codes "output")) ts ≡ b → Stands rules (sections p n ds) ts (after ts)
        at_output i false o = stands_second (reads_right (reads_where i reads_gives)) (stands_first (stands_left (stands_rule (stands_first (stands_first (stands_past (comes_next (word_of (codes "output")) ts (ap not o))))))))
        at_output i true o = at_script i o (no_next (word_of (codes "script")) ts) refl

        at_input : (b : Bool) → no_next (word_of (codes "input")) ts ≡ b → Stands rules (sections p n ds) ts (after ts)
        at_input false i = stands_first (stands_left (stands_rule (stands_first (stands_first (stands_past (comes_next (word_of (codes "input")) ts (ap not i)))))))
        at_input true i = at_output i (no_next (word_of (codes "output")) ts) refl

  -- ---- the stub

  pub no_stub : stub_next ts ≡ false → no_next (word_of (codes "stub")) ts ≡ true
  no_stub e = at_any (no_next (word_of (codes "stub")) ts) e
    where
      at_any : (b : Bool) → not b ≡ false → b ≡ true
      at_any true e = refl
      at_any false e = absurd cc

  pub stub_misses : no_next (word_of (codes "stub")) ts ≡ true → Outcome (maybe_section (codes "stub") (body_section (codes "stub"))) ts (got empty ts (length ts))
  stub_misses e = maybe_not e (fails (off e))

  stub_end_misses : labels ts ≡ true → stub_next ts ≡ false → Outcome stub_end ts (unexpected (length ts))
  stub_end_misses l e = seq (stub_misses (no_stub e)) (fails (no_close ts l))

  module _ (f : Tree → Tree → Tree) (v : Tree) where
    pub rest_misses : labels ts ≡ true → stub_next ts ≡ false → Outcome (bind stub_end (λ s. gives (f v s))) ts (unexpected (length ts))
    rest_misses l e = fails (stub_end_misses l e)

    pub rest_stands : stub_next ts ≡ true → Stands rules (bind stub_end (λ s. gives (f v s))) ts (after ts)
    rest_stands e = stands_first (stands_first (stands_left (stands_first (stands_first (stands_past (comes_next (word_of (codes "stub")) ts e))))))

  -- ---- the parts of a workflow

  module _ (f : Tree → Tree → Tree) where
    pub main_misses : labels ts ≡ true → is_next (word_of (codes "main")) ts ≡ false → Outcome (main_parts f) ts (unexpected (length ts))
    main_misses l e = fails (fails (off (at_any (no_next (word_of (codes "main")) ts) e)))
      where
        at_any : (b : Bool) → not b ≡ false → b ≡ true
        at_any true e = refl
        at_any false e = absurd cc

    pub main_stands : is_next (word_of (codes "main")) ts ≡ true → Stands rules (main_parts f) ts (after ts)
    main_stands e = stands_first (stands_first (stands_first (stands_past (comes_next (word_of (codes "main")) ts e))))

    pub emit_stands : (v : Tree) → Came (word_of (codes "emit")) ts → Stands rules (bind (maybe_section (codes "emit") emit_section) (λ e. gives (f v e))) ts (after ts)
    emit_stands v c = stands_first (stands_left (stands_first (stands_first (stands_past c))))

-- a section `script:`
pub script_first : (ts : List Lexeme) (o : Out Lexeme Tree) → Came (word_of (codes "script")) ts → Outcome (body_section (codes "script")) ts o → Outcome (rule TaskRule) ts o
unfolding rules
script_first ts o c p = ruled (first_arm p (fails (second_arm (misses (by_name (λ us. no_next plain us ≡ true) n (λ w p r. refl))) (off (by_name (λ us. no_next open_template us ≡ true) n (λ w p r. refl))))))
  where
    n : Named ts
    n = word_named (codes "script") c.takes

-- ---- a task that ended

module _ (us ts : List Lexeme) (f : Tree → Tree → Tree) (v : Tree) where
  pub task_goes : (x : Task) (o : Out Lexeme Tree) → NoStrayAfter x ts → Outcome (rule TaskRule) us (got v ts (task_left x ts)) → Outcome (bind stub_end (λ s. gives (f v s))) ts o → Outcome (task_end f) us o
  task_goes (task.Script x) o h p s = goes_past (rule TaskRule) (λ w. bind stub_end (λ s. gives (f w s))) us ts v (stub_next ts) o (λ e. rest_stands ts f v e) h p s
  task_goes (task.Text e) o h p s = seq p s

  pub task_strays : (x : Task) (n : ℕ) → IsStrayAfter x ts n → Outcome (rule TaskRule) us (got v ts (task_left x ts)) → Outcome (task_end f) us (unexpected n)
  task_strays (task.Script x) n h p = strays (rule TaskRule) (λ w. bind stub_end (λ s. gives (f w s))) us ts v (stub_next ts) n h (λ l e. rest_misses ts f v l e) p
  task_strays (task.Text e) n h p = absurd h

-- ---- lists that end before a label

pub ends_at : (ts : List Lexeme) → directives_end ts ≡ true → (no_next name_of ts ≡ true) ⊎ (labels ts ≡ true)
ends_at ts e = at_any (no_next name_of ts) (labels ts) refl refl e
  where
    at_any : (a b : Bool) → no_next name_of ts ≡ a → labels ts ≡ b → a || b ≡ true → (no_next name_of ts ≡ true) ⊎ (labels ts ≡ true)
    at_any true b e f h = inl e
    at_any false b e f h = inr (f ∙ h)

-- without a name no label comes
pub no_label : (ts : List Lexeme) → no_next name_of ts ≡ true → labels ts ≡ false
no_label ts e = rw e refl

module _ (g : Gram) (n : ℕ) (acc : Tree) (ts : List Lexeme) where
  -- a part that begins with a name, and that a separator must follow
  pub list_ends : directives_end ts ≡ true → (no_next name_of ts ≡ true → Outcome g ts (unexpected (length ts))) → ((l : Label ts) → Outcome (with_sep g) ts (unexpected (length (after ts)))) → Outcome (many directives_end (separated g) n acc) ts (got acc ts (past_label ts))
  list_ends e none label = elim (ends_at ts e) [
    | inl h ↦ subst (λ i. Outcome (many directives_end (separated g) n acc) ts (got acc ts i)) (sym (past_label_no ts (no_label ts h))) (stops e (fails (fails (none h))))
    | inr l ↦ subst (λ i. Outcome (many directives_end (separated g) n acc) ts (got acc ts i)) (sym (past_label_yes ts l)) (many_ends directives_end (separated g) n acc ts (length (after ts)) e (fails (label (label_of ts l))) (after_le ts))
  ]

arg_misses : (d : ℕ) (ts : List Lexeme) → no_start ts ≡ true → Outcome (rule (Arg d)) ts (unexpected (length ts))
unfolding rules
arg_misses d ts e =
    let n = (nothing_starts ts e).name in
    ruled (seq (maybe_not (ap not (no_label ts n)) (off n)) (fails (expr_misses d 0 ts e)))

pub args_rule_misses : (d : ℕ) (ts : List Lexeme) → no_start ts ≡ true → Outcome (rule (Args d)) ts (unexpected (length ts))
unfolding rules
args_rule_misses d ts e = ruled (fails (arg_misses d ts e))

no_args : (ts : List Lexeme) → Plain ts → Outcome directive_args ts (got empty ts (length ts))
no_args ts f = second_arm (off f.round) (maybe_not (ap not f.start) (where_yes (no_next (mark_of m.OpenRound)) (rule (Args 1)) ts (unexpected (length ts)) f.round (args_rule_misses 1 ts (ap not f.start))))

pub directive_misses : (ts : List Lexeme) → no_next name_of ts ≡ true → Outcome (rule Directive) ts (unexpected (length ts))
unfolding rules
directive_misses ts e = ruled (off e)

pub directive_at_label : (ts : List Lexeme) → Label ts → Outcome (with_sep (rule Directive)) ts (unexpected (length (after ts)))
unfolding rules
directive_at_label ts l = seq (ruled (seq (took_one l.name) (seq (no_args (after ts) (before_colon l.colon)) ret))) (fails (sep_misses (before_colon l.colon)))

pub name_at_label : (ts : List Lexeme) → Label ts → Outcome (with_sep (kind name_of)) ts (unexpected (length (after ts)))
name_at_label ts l = seq (took_one l.name) (fails (sep_misses (before_colon l.colon)))

-- what is emitted ends where no expression begins, and then no label comes
pub emits_end : (n : ℕ) (acc : Tree) (ts : List Lexeme) → no_start ts ≡ true → Outcome (many no_start (separated emit) n acc) ts (got acc ts (past_label ts))
emits_end n acc ts e =
    let f = (nothing_starts ts e).name in
    subst (λ i. Outcome (many no_start (separated emit) n acc) ts (got acc ts i)) (sym (past_label_no ts (no_label ts f))) (stops e (fails (fails (second_arm (off f) (expr_misses 1 0 ts e)))))
