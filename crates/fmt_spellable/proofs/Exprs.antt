-- What the rules of expressions, closures and statements make.
use Rattle.std.proofs.Common.{◌≡◌, ℕ, List}
use Rattle.nf_value.specs.declared.place.Place.{Place}
use Rattle.nf_grammar.specs.Gram.{rule}
use Rattle.nf_ast.specs.Tree as tree
use Rattle.nf_ast.specs.Tree.{Tree, empty}
use Rattle.nf_exprs.specs.declared.band.Band.{Band}
use Rattle.nf_exprs.specs.declared.band.Band.TheVariants as band
use Rattle.nf_exprs.specs.Level.{Level, Expr, Operands, Pre, Post, Prim, Args, Arg, Pair, Closure, Body, Stmt, Choice}
use Rattle.nf_exprs.specs.Rules.{rules, operand, operand_next, after_operand, or_more, prefixed, post_part, squared, items, pairs, parameters, label, some_labels, statement, block, choice, arm, else_arm, defines, assigned, print, log, with_name, with_else}
use Rattle.fmt_trees.specs.Shape as shape
use Rattle.fmt_trees.specs.Shape.{Shaped, row, expr, a_name, arg, pair, closure, params, body, statement as a_statement, choice as a_choice, last, block as a_block, label as a_label}
use Rattle.fmt_spellable.specs.Made.{Made, sort_of}
use Rattle.fmt_spellable.proofs.Steps.{Good, seq, skip, ret, arms, tested, turns, weaker, either_of, skipped, enclosed, ended, some_listed, all_listed, in_series, AtLeastOne, these, none_made, snoc_some}
use Rattle.fmt_spellable.proofs.Tokens.{a_name_good, literal_good, plain_good, infix_good, prefix_good, joined_made, prefixed_made, name_tree, name_key}
use Rattle.fmt_spellable.proofs.Pieces.{template_good, plain_template_good}

-- ---- what is made of parts

closure_expr : {c : Tree} → Made closure c → Made expr c
closure_expr c = record { shaped = shape.function c.shaped; fits = c.fits }

unnamed_arg : {e : Tree} → Made expr e → Made arg e
unnamed_arg e = record { shaped = shape.unnamed e.shaped; fits = e.fits }

-- a name before an argument, or none
data MaybeName : Tree → Type 0 where
  no_name : MaybeName empty
  a_name_there : {p : Place} {s : List ℕ} → Made a_name (tree.name p s) → MaybeName (tree.name p s)

maybe_name : {v : Tree} → Made a_name v → MaybeName v
maybe_name h = of_shape h.shaped h
  where
    of_shape : {v : Tree} → Shaped a_name v → Made a_name v → MaybeName v
    of_shape shape.named h = a_name_there h

arg_made : {n e : Tree} → MaybeName n → Made expr e → Made arg (with_name n e)
arg_made no_name e = unnamed_arg e
arg_made (a_name_there n) e = record { shaped = shape.with_name n.shaped e.shaped; fits = (n.fits, e.fits) }

-- an arm of an `if` that waits for what stands after `else`
data IsArm : Tree → Type 0 where
  an_arm : {p : Place} {c b : Tree} → Made expr c → Made a_block b → IsArm (tree.choice p c b empty)

choice_made : {a e : Tree} → IsArm a → Made last e → Made a_choice (with_else a e)
choice_made (an_arm c b) e = record { shaped = shape.choice_of c.shaped b.shaped e.shaped; fits = (c.fits, b.fits, e.fits) }

define_all_made : {p : Place} {ns e : Tree} → AtLeastOne a_name ns → Made expr e → Made a_statement (tree.define_all p ns e)
define_all_made (these n ns) e = record { shaped = shape.define_all n.shaped ns.shaped e.shaped; fits = ((n.fits, ns.fits), e.fits) }

labels_made : {xs : Tree} → AtLeastOne a_label xs → Made body xs
labels_made (these x xs) = record { shaped = shape.of_labels x.shaped xs.shaped; fits = (x.fits, xs.fits) }

no_params_made : Made params empty
no_params_made = record { shaped = shape.no_params; fits = tt }

no_last_made : Made last empty
no_last_made = record { shaped = shape.no_last; fits = tt }

last_block_made : {b : Tree} → Made a_block b → Made last b
last_block_made b = record { shaped = shape.last_block b.shaped; fits = b.fits }

last_choice_made : {b : Tree} → Made a_choice b → Made last b
last_choice_made b = record { shaped = shape.last_choice b.shaped; fits = b.fits }

choose_made : {b : Tree} → Made a_choice b → Made a_statement b
choose_made b = record { shaped = shape.choose b.shaped; fits = b.fits }

statements_inside : {xs : Tree} → Made (row a_statement) xs → Made body xs
statements_inside xs = record { shaped = shape.of_statements xs.shaped; fits = xs.fits }

alone_made : {e : Tree} → Made expr e → Made a_statement e
alone_made e = record { shaped = shape.alone e.shaped; fits = e.fits }

module _ {n : ℕ} (ih : (l : Level) → Good n (rule l) (Made (sort_of l))) where
  expr_good : (d k : ℕ) → Good n (rule (Expr d k)) (Made expr)
  expr_good d k = ih (Expr d k)

  -- ---- operands
  operand_good : (d : ℕ) (b : Band) → Good n (operand d b) (Made expr)
  operand_good d band.Or = ih (Operands d band.And)
  operand_good d band.And = ih (Operands d band.Pipe)
  operand_good d band.Pipe = ih (Operands d band.Same)
  operand_good d band.Same = ih (Operands d band.Compare)
  operand_good d band.Compare = ih (Operands d band.Range)
  operand_good d band.Range = ih (Operands d band.Sum)
  operand_good d band.Sum = ih (Operands d band.Term)
  operand_good d band.Term = ih (Pre d 0)

  next_good : (d : ℕ) (b : Band) (i : ℕ) {a : Tree} → Made expr a → Good n (operand_next d b i a) (Made expr)
  next_good d b i h = seq (infix_good b) (λ o w. seq (operand_good d b) (λ x q. ret (joined_made w h q)))

  after_good : (d : ℕ) (b : Band) {a : Tree} → Made expr a → Good n (after_operand d b a) (Made expr)
  after_good d band.Or h = turns (λ i x q. next_good d band.Or i q) h
  after_good d band.And h = turns (λ i x q. next_good d band.And i q) h
  after_good d band.Pipe h = turns (λ i x q. next_good d band.Pipe i q) h
  after_good d band.Same h = arms (next_good d band.Same 1 h) (tested (ret h))
  after_good d band.Compare h = arms (next_good d band.Compare 1 h) (tested (ret h))
  after_good d band.Range h = arms (next_good d band.Range 1 h) (tested (ret h))
  after_good d band.Sum h = turns (λ i x q. next_good d band.Sum i q) h
  after_good d band.Term h = turns (λ i x q. next_good d band.Term i q) h

  -- ---- conditional expressions, operators before an operand, and parts after one
  more_good : (d k : ℕ) {a : Tree} → Made expr a → Good n (or_more d k a) (Made expr)
  more_good d k h = arms
      (skip (λ q. seq (expr_good d _) (λ a f. skip (λ c. seq (expr_good d _) (λ b g. ret (record { shaped = shape.conditional h.shaped f.shaped g.shaped; fits = (h.fits, f.fits, g.fits) }))))))
      (arms
      (skip (λ q. seq (expr_good d _) (λ b g. ret (record { shaped = shape.elvis h.shaped g.shaped; fits = (h.fits, g.fits) }))))
      (tested (ret h)))

  prefixed_good : (d k : ℕ) → Good n (prefixed d k) (Made expr)
  prefixed_good d k = seq prefix_good (λ o w. seq (ih (Pre d _)) (λ e h. ret (prefixed_made w h)))

  args_good : (d : ℕ) → Good n (rule (Args d)) (Made (row arg))
  args_good d = ih (Args d)

  post_good : (d i : ℕ) {e : Tree} → Made expr e → Good n (post_part d i e) (Made expr)
  post_good d i h = arms
      (skip (λ dot. seq a_name_good (λ x f. ret (record { shaped = shape.property h.shaped f.shaped; fits = (h.fits, name_tree f) }))))
      (arms
      (skip (λ dot. seq a_name_good (λ x f. ret (record { shaped = shape.safe_property h.shaped f.shaped; fits = (h.fits, name_tree f) }))))
      (arms
      (skip (λ o. seq (expr_good _ 0) (λ x f. skip (λ c. ret (record { shaped = shape.index h.shaped f.shaped; fits = (h.fits, f.fits) })))))
      (arms
      (skip (λ o. seq (either_of (args_good _) none_made) (λ xs f. skip (λ c. ret (record { shaped = shape.call h.shaped f.shaped; fits = (h.fits, f.fits) })))))
      (skip (λ o. seq (ih (Closure _ _)) (λ c f. ret (record { shaped = shape.call_with h.shaped f.shaped; fits = (h.fits, f.fits) })))))))

  -- ---- what stands alone
  items_good : (d : ℕ) (p : Place) → Good n (items d p) (Made expr)
  items_good d p = seq (either_of (seq (all_listed (expr_good d 0)) (λ xs h. seq skipped (λ c u. ret h))) none_made) (λ xs h. ret (record { shaped = shape.list h.shaped; fits = h.fits }))

  pairs_good : (d : ℕ) (p : Place) → Good n (pairs d p) (Made expr)
  pairs_good d p = seq (seq (all_listed (ih (Pair d))) (λ xs h. seq skipped (λ c u. ret h))) (λ xs h. ret (record { shaped = shape.map h.shaped; fits = h.fits }))

  squared_good : (d : ℕ) (p : Place) → Good n (squared d p) (Made expr)
  squared_good d p = seq (arms (items_good d p) (arms (pairs_good d p) (skip (λ c. ret (record { shaped = shape.map shape.no_more; fits = tt }))))) (λ x h. skip (λ c. ret h))

  pub prim_good : (d : ℕ) → Good n (rules (Prim d)) (Made expr)
  unfolding rules
  prim_good d = arms literal_good (arms (template_good (λ e. expr_good e 0) d) (arms
      (skip (λ o. seq (expr_good _ 0) (λ x h. skip (λ c. ret h))))
      (arms (skip (λ o. squared_good _ _)) (skip (λ o. weaker (λ v h. closure_expr h) (ih (Closure _ _)))))))

  pub arg_good : (d : ℕ) → Good n (rules (Arg d)) (Made arg)
  unfolding rules
  arg_good d = seq (either_of (seq a_name_good (λ x f. skip (λ c. ret (maybe_name f)))) no_name) (λ x f. seq (expr_good d 0) (λ e h. ret (arg_made f h)))

  pub pair_good : (d : ℕ) → Good n (rules (Pair d)) (Made pair)
  unfolding rules
  pair_good d = seq (arms (weaker (λ v h. name_key h) a_name_good) (arms plain_good plain_template_good)) (λ k f. skip (λ c. seq (expr_good d 0) (λ e h. ret (record { shaped = shape.pair_of f.shaped h.shaped; fits = (f.fits, h.fits) }))))

  -- ---- closures
  params_good : Good n parameters (Made params)
  params_good = seq (either_of (all_listed a_name_good) none_made) (λ xs h. skip (λ a. ret (record { shaped = shape.some_params h.shaped; fits = h.fits })))

  pub label_good : (d : ℕ) → Good n (label d) (Made a_label)
  label_good d = seq a_name_good (λ x f. skip (λ c. seq (expr_good d 0) (λ e h. ret (record { shaped = shape.label_of f.shaped h.shaped; fits = (f.fits, h.fits) }))))

  some_labels_good : (d : ℕ) → Good n (some_labels d) (AtLeastOne a_label)
  some_labels_good d = seq (ended (label_good d)) (λ a h. turns (λ i b q. seq (ended (label_good d)) (λ x f. ret (snoc_some q f))) (these h none_made))

  pub closure_good : (d : ℕ) (p : Place) → Good n (rules (Closure d p)) (Made closure)
  unfolding rules
  closure_good d p = seq (either_of params_good no_params_made) (λ ps f. seq (enclosed (arms (weaker (λ v h. statements_inside h) (ih (Body d))) (weaker (λ v h. labels_made h) (some_labels_good d)))) (λ xs h. ret (record { shaped = shape.closure_of f.shaped h.shaped; fits = (f.fits, h.fits) })))

  -- ---- statements
  block_good : (d : ℕ) → Good n (block d) (Made a_block)
  block_good d = seq (skip (λ o. enclosed (ih (Body _)))) (λ xs h. ret (record { shaped = shape.block_of h.shaped; fits = h.fits }))

  arm_good : (d : ℕ) → Good n (arm d) IsArm
  arm_good d = skip (λ w. seq (skip (λ o. seq (expr_good _ 0) (λ x h. skip (λ c. ret h)))) (λ c h. seq (block_good d) (λ xs f. ret (an_arm h f))))

  else_good : (d k : ℕ) → Good n (else_arm d k) (Made last)
  else_good d k = skip (λ w. arms (weaker (λ v h. last_block_made h) (block_good d)) (weaker (λ v h. last_choice_made h) (ih (Choice d _))))

  choice_good : (d k : ℕ) → Good n (choice d k) (Made a_choice)
  choice_good d k = seq (arm_good d) (λ a h. seq (either_of (else_good d k) no_last_made) (λ e f. ret (choice_made h f)))

  pub defined_good : (d : ℕ) → Good n (defines d) (Made a_statement)
  defined_good d = arms
      (skip (λ w. seq a_name_good (λ x f. skip (λ e. seq (expr_good d 0) (λ v h. ret (record { shaped = shape.define f.shaped h.shaped; fits = (f.fits, h.fits) }))))))
      (skip (λ w. seq (skip (λ o. seq (some_listed a_name_good) (λ ns h. skip (λ c. ret h)))) (λ ns f. skip (λ e. seq (expr_good d 0) (λ v h. ret (define_all_made f h))))))

  pub assigned_good : (d : ℕ) → Good n (assigned d) (Made a_statement)
  assigned_good d = seq a_name_good (λ x f. skip (λ e. seq (expr_good d 0) (λ v h. ret (record { shaped = shape.assign f.shaped h.shaped; fits = (f.fits, h.fits) }))))

  pub print_good : (d : ℕ) → Good n (print d) (Made a_statement)
  print_good d = skip (λ w. seq (expr_good d 0) (λ v h. ret (record { shaped = shape.println h.shaped; fits = h.fits })))

  pub log_good : (d : ℕ) → Good n (log d) (Made a_statement)
  log_good d = skip (λ w. skip (λ o. seq a_name_good (λ x f. seq (expr_good d 0) (λ v h. ret (record { shaped = shape.log f.shaped h.shaped; fits = (name_tree f, h.fits) })))))

  statement_good : (d : ℕ) → Good n (statement d) (Made a_statement)
  statement_good d = arms (defined_good d) (arms (assigned_good d) (arms
      (skip (λ w. seq (expr_good d 0) (λ v h. ret (record { shaped = shape.return_ h.shaped; fits = h.fits }))))
      (arms (weaker (λ v h. choose_made h) (ih (Choice d 1)))
      (arms (tested (print_good d)) (arms (tested (log_good d)) (tested (weaker (λ v h. alone_made h) (expr_good d 0))))))))

  -- ---- the rows
  pub expr_row : (d k : ℕ) → Good n (rules (Expr d k)) (Made expr)
  unfolding rules
  expr_row d k = seq (ih (Operands d band.Or)) (λ a h. more_good d k h)

  pub operands_row : (d : ℕ) (b : Band) → Good n (rules (Operands d b)) (Made expr)
  unfolding rules
  operands_row d b = seq (operand_good d b) (λ a h. after_good d b h)

  pub pre_row : (d k : ℕ) → Good n (rules (Pre d k)) (Made expr)
  unfolding rules
  pre_row d k = arms (prefixed_good d k) (ih (Post d))

  pub post_row : (d : ℕ) → Good n (rules (Post d)) (Made expr)
  unfolding rules
  post_row d = seq (ih (Prim d)) (λ e h. turns (λ i x q. post_good d i q) h)

  pub args_row : (d : ℕ) → Good n (rules (Args d)) (Made (row arg))
  unfolding rules
  args_row d = all_listed (ih (Arg d))

  pub body_row : (d : ℕ) → Good n (rules (Body d)) (Made (row a_statement))
  unfolding rules
  body_row d = in_series (ih (Stmt d))

  pub stmt_row : (d : ℕ) → Good n (rules (Stmt d)) (Made a_statement)
  unfolding rules
  stmt_row d = statement_good d

  pub choice_row : (d k : ℕ) → Good n (rules (Choice d k)) (Made a_choice)
  unfolding rules
  choice_row d k = choice_good d k
