-- The rules of expressions, closures and statements begin with rules of lower rank.
use Rattle.std.proofs.Common.{ℕ, suc, ◌<◌, ◌≤◌, Bool, true, false, refl, arith, if◌then◌else◌}
use Rattle.nf_value.specs.declared.place.Place.{Place}
use Rattle.nf_grammar.specs.Gram.{either, rule, ◌>>=◌}
use Rattle.nf_ast.specs.Tree.{Tree}
use Rattle.nf_exprs.specs.declared.band.Band.{Band}
use Rattle.nf_exprs.specs.declared.band.Band.TheVariants as band
use Rattle.nf_exprs.specs.Level.{Expr, Args, Gram}
use Rattle.nf_exprs.specs.Tokens.{literal, no_start, no_params}
use Rattle.nf_exprs.specs.Rules.{kind, maybe, round, operand, is_single, operand_next, after_operand, or_more, prefixed, index, call, post_part, pieces, template_of, key, ended_by_comma, items, pairs, square, closure_of, names, parameters, label, some_labels, closure_body, assigned, print, log, defines, plain_statement, statement, block, arm, choice}
use Rattle.nf_outcomes.proofs.Descends.{band_rank, top, Descends, down_token, down_gives, down_after, down_first, down_second, down_either, down_where, down_many, down_rule, down_taking, down_tokens, down_maybe, down_skips, down_sep, down_separated, down_listed, down_closed, down_braced, down_round, down_expr, down_body, down_token_expr}

-- ---- operands

pub down_operand : {b : Bool} {n : ℕ} (d : ℕ) (x : Band) → band_rank x ≤ n → Descends b n (operand d x)
down_operand d band.Or h = down_taking refl (omega (arith, h))
down_operand d band.And h = down_taking refl (omega (arith, h))
down_operand d band.Pipe h = down_taking refl (omega (arith, h))
down_operand d band.Same h = down_taking refl (omega (arith, h))
down_operand d band.Compare h = down_taking refl (omega (arith, h))
down_operand d band.Range h = down_taking refl (omega (arith, h))
down_operand d band.Sum h = down_taking refl (omega (arith, h))
down_operand d band.Term h = down_taking refl (omega (arith, h))

band_below : (x : Band) → band_rank x ≤ top
band_below band.Or = omega arith
band_below _ = omega arith

down_operand_next : {b : Bool} {n : ℕ} (d : ℕ) (x : Band) (i : ℕ) (a : Tree) → Descends b n (operand_next d x i a)
down_operand_next d x i a = down_after (λ o. down_first (down_operand d x (band_below x)) (λ y. down_gives))

down_if : {b : Bool} {n : ℕ} {g h : Gram} (c : Bool) → Descends b n g → Descends b n h → Descends b n (if c then g else h)
down_if true p q = p
down_if false p q = q

pub down_after_operand : {n : ℕ} (d : ℕ) (x : Band) (a : Tree) → Descends false n (after_operand d x a)
down_after_operand d x a = down_if (is_single x) (down_either (down_operand_next d x 1 a) (down_where down_gives)) (down_many (λ i y. down_operand_next d x i y))

-- ---- expressions

pub down_or_more : {i : ℕ} (d n : ℕ) (a : Tree) → Descends false i (or_more d n a)
down_or_more d n a = down_either (down_after (λ q. down_first down_expr (λ x. down_after (λ c. down_first down_expr (λ y. down_gives))))) (down_either down_token_expr (down_where down_gives))

pub down_prefixed : {b : Bool} {i : ℕ} (d n : ℕ) → Descends b i (prefixed d n)
down_prefixed d n = down_after (λ o. down_first (down_taking refl (omega arith)) (λ e. down_gives))

pub down_args : {d n : ℕ} → 13 < n → Descends false n (maybe (rule (Args d)) no_start)
down_args h = down_maybe (down_taking refl h)

pub down_post_part : {b : Bool} {i : ℕ} (d n : ℕ) (e : Tree) → Descends b i (post_part d n e)
down_post_part d n e = down_either down_tokens (down_either down_tokens (down_either down_index (down_either down_call (down_after (λ o. down_first (down_taking refl (omega arith)) (λ c. down_gives))))))
  where
    down_index : {b : Bool} {i : ℕ} → Descends b i (index d n e)
    down_index = down_after (λ o. down_first down_expr (λ x. down_after (λ c. down_gives)))

    down_call : {b : Bool} {i : ℕ} → Descends b i (call d n e)
    down_call = down_after (λ o. down_first (down_args (omega arith)) (λ xs. down_after (λ c. down_gives)))

-- ---- literals

down_pieces : {n : ℕ} (d : ℕ) → Descends false n (pieces d)
down_pieces d = down_many (λ i x. down_first (down_either down_token (down_after (λ o. down_first down_expr (λ e. down_after (λ c. down_gives))))) (λ y. down_gives))

pub down_template : {b : Bool} {n : ℕ} (d : ℕ) → Descends b n (template_of d)
down_template d = down_after (λ o. down_first (down_pieces d) (λ xs. down_after (λ c. down_gives)))

pub down_key : {b : Bool} {n : ℕ} → Descends b n key
down_key = down_either down_token (down_either down_token (down_after (λ o. down_first (down_maybe (down_after (λ x. down_gives))) (λ xs. down_after (λ c. down_gives)))))

down_ended : {g : Gram} → Descends false top g → Descends false top (ended_by_comma g)
down_ended d = down_first (down_listed d d) (λ xs. down_first down_skips (λ c. down_gives))

pub down_square : {b : Bool} {n : ℕ} (d : ℕ) → Descends b n (square d)
down_square d = down_after (λ o. down_first (down_either down_items (down_either down_pairs (down_after (λ c. down_gives)))) (λ x. down_after (λ c. down_gives)))
  where
    down_items : {p : Place} → Descends false top (items (suc d) p)
    down_items = down_first (down_maybe (down_ended down_expr)) (λ xs. down_gives)

    down_pairs : {p : Place} → Descends false top (pairs (suc d) p)
    down_pairs = down_first (down_ended (down_taking refl (omega arith))) (λ xs. down_gives)

pub down_prim : {b : Bool} {n : ℕ} (d : ℕ) → Descends b n (either (kind literal) (either (template_of d) (either (round d (rule (Expr (suc d) 0))) (either (square d) (closure_of d)))))
down_prim d = down_either down_token (down_either (down_template d) (down_either (down_round down_expr) (down_either (down_square d) (down_after (λ o. down_taking refl (omega arith))))))

-- ---- closures

pub down_names : {b : Bool} {n : ℕ} → Descends b n names
down_names = down_listed down_token down_token

down_parameters : {n : ℕ} → Descends false n parameters
down_parameters = down_first (down_maybe down_names) (λ xs. down_after (λ a. down_gives))

pub down_label : {b : Bool} {n : ℕ} (d : ℕ) → Descends b n (label d)
down_label d = down_after (λ n. down_token_expr)

pub down_closure : (d : ℕ) (p : Place) → Descends true 14 (maybe parameters no_params >>= closure_body d p)
down_closure d p = down_second (down_maybe down_parameters) (λ ps. down_first (down_closed (down_either (down_rule (omega arith)) down_labels)) (λ xs. down_gives))
  where
    down_labels : {n : ℕ} → Descends false n (some_labels d)
    down_labels = down_first (down_sep (down_label d)) (λ a. down_many (λ i x. down_separated i x (down_label d)))

-- ---- statements

down_block : {b : Bool} {n : ℕ} (d : ℕ) → Descends b n (block d)
down_block d = down_first (down_braced down_body) (λ xs. down_gives)

pub down_assigned : {b : Bool} {n : ℕ} (d : ℕ) → Descends b n (assigned d)
down_assigned d = down_after (λ n. down_token_expr)

pub down_print : {b : Bool} {n : ℕ} (d : ℕ) → Descends b n (print d)
down_print d = down_token_expr

pub down_log : {b : Bool} {n : ℕ} (d : ℕ) → Descends b n (log d)
down_log d = down_after (λ w. down_after (λ o. down_token_expr))

down_defines : {b : Bool} {n : ℕ} (d : ℕ) → Descends b n (defines d)
down_defines d = down_either (down_after (λ w. down_after (λ n. down_token_expr))) (down_after (λ w. down_first (down_round down_names) (λ ns. down_token_expr)))

-- a print, or another expression
down_plain : {b : Bool} (d : ℕ) → Descends b 12 (plain_statement d)
down_plain d = down_either (down_where (down_print d)) (down_either (down_where (down_log d)) (down_where (down_taking refl (omega arith))))

pub down_statement : {b : Bool} (d : ℕ) → Descends b 12 (statement d)
down_statement d = down_either (down_defines d) (down_either (down_assigned d) (down_either down_token_expr (down_either (down_taking refl (omega arith)) (down_plain d))))

pub down_choice : {b : Bool} {i : ℕ} (d n : ℕ) → Descends b i (choice d n)
down_choice d n = down_first down_arm (λ a. down_first (down_maybe (down_after (λ w. down_either (down_block d) (down_taking refl (omega arith))))) (λ e. down_gives))
  where
    down_arm : {b : Bool} {i : ℕ} → Descends b i (arm d)
    down_arm = down_after (λ w. down_first (down_round down_expr) (λ c. down_first (down_block d) (λ xs. down_gives)))
