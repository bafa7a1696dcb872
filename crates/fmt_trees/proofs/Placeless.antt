-- No rule of the grammar depends on a place: a line for each.
use Rattle.std.proofs.Common.{◌≡◌, ℕ, suc, Bool, List, refl, sym, ap, ◌∙◌}
use Rattle.std.specs.Prelude.{not, ◌||◌, codes}
use Rattle.nf_value.specs.declared.place.Place.{Place}
use Rattle.nf_token.specs.declared.token.Keyword.TheVariants as k
use Rattle.nf_token.specs.declared.token.Mark.{Mark}
use Rattle.nf_token.specs.declared.token.Mark.TheVariants as m
use Rattle.nf_token.specs.declared.token.Lexeme.{Lexeme}
use Rattle.nf_grammar.specs.Gram.{token, gives, either, only_where, many, rule, ◌>>=◌}
use Rattle.nf_grammar.specs.Parts.{no_next}
use Rattle.nf_ast.specs.Tree as tree
use Rattle.nf_ast.specs.Tree.{Tree, empty, cons, point, name, snoc, place_of}
use Rattle.nf_exprs.specs.declared.band.Band.{Band}
use Rattle.nf_exprs.specs.declared.band.Band.TheVariants as band
use Rattle.nf_exprs.specs.Level.{Level, Expr, Operands, Pre, Post, Prim, Args, Arg, Pair, Closure, Body, Stmt, Choice, Script, Top, Process, Directive, Input, Inputs, Output, Outputs, Task, Workflow, Parts, Function, Gram}
use Rattle.nf_exprs.specs.Tokens.{Kind, mark_of, keyword_of, name_of, word_of, separator, template_text, infix_of, no_start, labels, body_ends, directives_end, items_end, outputs_end, no_params, at_end, prints, logs}
use Rattle.nf_exprs.specs.Rules.{rules}
use Rattle.nf_exprs.specs.Rules as g
use Rattle.fmt_trees.specs.Bare.{bare, nowhere}
use Rattle.fmt_trees.proofs.Erasing.{Erases, er_token, er_gives, er_bind, er_either, er_where, er_many, er_rule, bare_level, KindErases, Blind}
use Rattle.fmt_trees.proofs.Blind.{mark_erases, keyword_erases, name_erases, word_erases, separator_erases, literal_erases, plain_erases, two_erases, open_template_erases, close_template_erases, template_text_erases, open_hole_erases, close_hole_erases, infix_erases, prefix_erases, blind_no_next, blind_not, blind_or, blind_comma, blind_start, blind_labels, blind_body, blind_directives, blind_post, blind_items, blind_outputs, blind_option, blind_params, blind_end, blind_prints, blind_logs, blind_words, blind_top, blind_question, blind_part}

-- ---- trees

pub place_bare : (x : Tree) → place_of (bare x) ≡ nowhere
place_bare (point p) = refl
place_bare (name p s) = refl
place_bare _ = refl

snoc_bare : (acc x : Tree) → bare (snoc acc x) ≡ snoc (bare acc) (bare x)
snoc_bare (cons a more) x = ap (cons (bare a)) (snoc_bare more x)
snoc_bare _ x = refl

prefix_bare : (o e : Tree) → bare (g.with_prefix o e) ≡ g.with_prefix (bare o) (bare e)
prefix_bare (tree.prefix p o x) e = refl
prefix_bare _ e = refl

filled_bare : (o xs : Tree) → bare (g.filled o xs) ≡ g.filled (bare o) (bare xs)
filled_bare (tree.template p q xs) ys = refl
filled_bare _ ys = refl

name_bare : (n x : Tree) → bare (g.with_name n x) ≡ g.with_name (bare n) (bare x)
name_bare empty x = refl
name_bare _ x = refl

joined_bare : (o a b : Tree) → bare (g.joined o a b) ≡ g.joined (bare o) (bare a) (bare b)
joined_bare (tree.binary p o x y) a b = refl
joined_bare _ a b = refl

else_bare : (c e : Tree) → bare (g.with_else c e) ≡ g.with_else (bare c) (bare e)
else_bare (tree.choice p c xs x) e = refl
else_bare _ e = refl

-- a tree that takes the place of another
at_nowhere : (f : Place → Tree) (x : Tree) → f nowhere ≡ f (place_of (bare x))
at_nowhere f x = ap f (sym (place_bare x))

-- ---- parts that rules share

er_mark : {b : Bool} (x : Mark) → Erases (token b (mark_of x)) (token b (mark_of x))
er_mark x = er_token (mark_erases x)

er_word : (w : List ℕ) → Erases (g.word w) (g.word w)
er_word w = er_token (word_erases w)

er_name : Erases (g.kind name_of) (g.kind name_of)
er_name = er_token name_erases

er_maybe : {h i : Gram} (c : List Lexeme → Bool) → Blind c → Erases h i → Erases (g.maybe h c) (g.maybe i c)
er_maybe c b e = er_either e (er_where b (er_gives refl))

er_comma_then : {h i : Gram} (n : ℕ) (acc : Tree) → Erases h i → Erases (g.comma_then h n acc) (g.comma_then i n (bare acc))
er_comma_then n acc e = er_bind (er_mark m.Comma) (λ c. er_bind e (λ b. er_gives (snoc_bare acc b)))

er_listed : {h i : Gram} (c : List Lexeme → Bool) → Blind c → Erases h i → Erases (g.listed c h) (g.listed c i)
er_listed c b e = er_bind e (λ a. er_many b (λ n acc. er_comma_then n acc e) refl)

er_commas : {h i : Gram} → Erases h i → Erases (g.commas h) (g.commas i)
er_commas e = er_listed g.no_comma blind_comma e

er_skips : (p : Kind) (c : List Lexeme → Bool) → KindErases p → Blind c → Erases (g.skips p c) (g.skips p c)
er_skips p c k b = er_maybe c b (er_bind (er_token k) (λ t. er_gives refl))

er_sep : Erases g.sep g.sep
er_sep = er_skips separator at_end separator_erases blind_end

er_with_sep : {h i : Gram} → Erases h i → Erases (g.with_sep h) (g.with_sep i)
er_with_sep e = er_bind e (λ a. er_bind er_sep (λ s. er_gives refl))

er_separated : {h i : Gram} (n : ℕ) (acc : Tree) → Erases h i → Erases (g.separated h n acc) (g.separated i n (bare acc))
er_separated n acc e = er_bind (er_with_sep e) (λ a. er_gives (snoc_bare acc a))

er_series : {h i : Gram} (c : List Lexeme → Bool) → Blind c → Erases h i → Erases (g.series c h) (g.series c i)
er_series c b e = er_many b (λ n acc. er_separated n acc e) refl

er_past_separator : Erases g.past_separator g.past_separator
er_past_separator = er_skips separator (no_next separator) separator_erases (blind_no_next separator separator_erases)

er_closes : Erases g.closes g.closes
er_closes = er_bind er_past_separator (λ s. er_bind (er_mark m.CloseBrace) (λ c. er_gives refl))

er_closed : {h i : Gram} → Erases h i → Erases (g.closed h) (g.closed i)
er_closed e = er_bind e (λ x. er_bind er_closes (λ c. er_gives refl))

er_braced : {h i : Gram} (d : ℕ) → Erases h i → Erases (g.braced d h) (g.braced d i)
er_braced d e = er_bind (er_mark m.OpenBrace) (λ o. er_closed e)

er_round : {h i : Gram} (d : ℕ) → Erases h i → Erases (g.round d h) (g.round d i)
er_round d e = er_bind (er_mark m.OpenRound) (λ o. er_bind e (λ x. er_bind (er_mark m.CloseRound) (λ c. er_gives refl)))

er_head : (x : List ℕ) → Erases (g.head x) (g.head x)
er_head x = er_bind (er_word x) (λ w. er_bind (er_mark m.Colon) (λ c. er_gives refl))

-- a tree that is built at the place of another
er_at : (f : Place → Tree → Tree) (x : Tree) {h i : Gram} → ((y : Tree) → bare (f (place_of x) y) ≡ f nowhere (bare y)) → Erases h i → Erases (h >>= λ y. gives (f (place_of x) y)) (i >>= λ y. gives (f (place_of (bare x)) y))
er_at f x h e = er_bind e (λ y. er_gives (h y ∙ at_nowhere (λ p. f p (bare y)) x))

er_headed : (x : List ℕ) {h i : Gram} → Erases h i → Erases (g.headed x (λ p. h >>= λ xs. gives (tree.section p xs))) (g.headed x (λ p. i >>= λ xs. gives (tree.section p xs)))
er_headed x e = er_bind (er_head x) (λ w. er_at tree.section w (λ y. refl) e)

-- ---- expressions

er_expr : (d n : ℕ) → Erases (rule (Expr d n)) (rule (Expr d n))
er_expr d n = er_rule refl

er_conditional : (d n : ℕ) (c : Tree) → Erases (g.conditional d n c) (g.conditional d n (bare c))
er_conditional d n c = er_bind (er_mark m.Question) (λ q. er_bind (er_expr d (suc n)) (λ a. er_bind (er_mark m.Colon) (λ o. er_bind (er_expr d (suc n)) (λ b. er_gives (at_nowhere (λ p. tree.conditional p (bare c) (bare a) (bare b)) q)))))

er_otherwise : (d n : ℕ) (a : Tree) → Erases (g.otherwise d n a) (g.otherwise d n (bare a))
er_otherwise d n a = er_bind (er_mark m.Elvis) (λ q. er_bind (er_expr d (suc n)) (λ b. er_gives (at_nowhere (λ p. tree.elvis p (bare a) (bare b)) q)))

er_or_more : (d n : ℕ) (a : Tree) → Erases (g.or_more d n a) (g.or_more d n (bare a))
er_or_more d n a = er_either (er_conditional d n a) (er_either (er_otherwise d n a) (er_where blind_question (er_gives refl)))

er_operand : (d : ℕ) (b : Band) → Erases (g.operand d b) (g.operand d b)
er_operand d band.Or = er_rule refl
er_operand d band.And = er_rule refl
er_operand d band.Pipe = er_rule refl
er_operand d band.Same = er_rule refl
er_operand d band.Compare = er_rule refl
er_operand d band.Range = er_rule refl
er_operand d band.Sum = er_rule refl
er_operand d band.Term = er_rule refl

er_operand_next : (d : ℕ) (b : Band) (n : ℕ) (acc : Tree) → Erases (g.operand_next d b n acc) (g.operand_next d b n (bare acc))
er_operand_next d b n acc = er_bind (er_token (infix_erases b)) (λ o. er_bind (er_operand d b) (λ x. er_gives (joined_bare o acc x)))

er_many_operands : (d : ℕ) (b : Band) (a : Tree) → Erases (many (no_next (infix_of b)) (g.operand_next d b) 1 a) (many (no_next (infix_of b)) (g.operand_next d b) 1 (bare a))
er_many_operands d b a = er_many (blind_no_next (infix_of b) (infix_erases b)) (λ n acc. er_operand_next d b n acc) refl

er_one_operand : (d : ℕ) (b : Band) (a : Tree) → Erases (either (g.operand_next d b 1 a) (only_where (no_next (infix_of b)) (gives a))) (either (g.operand_next d b 1 (bare a)) (only_where (no_next (infix_of b)) (gives (bare a))))
er_one_operand d b a = er_either (er_operand_next d b 1 a) (er_where (blind_no_next (infix_of b) (infix_erases b)) (er_gives refl))

er_after_operand : (d : ℕ) (b : Band) (a : Tree) → Erases (g.after_operand d b a) (g.after_operand d b (bare a))
er_after_operand d band.Or a = er_many_operands d band.Or a
er_after_operand d band.And a = er_many_operands d band.And a
er_after_operand d band.Pipe a = er_many_operands d band.Pipe a
er_after_operand d band.Same a = er_one_operand d band.Same a
er_after_operand d band.Compare a = er_one_operand d band.Compare a
er_after_operand d band.Range a = er_one_operand d band.Range a
er_after_operand d band.Sum a = er_many_operands d band.Sum a
er_after_operand d band.Term a = er_many_operands d band.Term a

er_prefixed : (d n : ℕ) → Erases (g.prefixed d n) (g.prefixed d n)
er_prefixed d n = er_bind (er_token prefix_erases) (λ o. er_bind (er_rule refl) (λ e. er_gives (prefix_bare o e)))

er_args : (d : ℕ) → Erases (g.maybe (rule (Args d)) no_start) (g.maybe (rule (Args d)) no_start)
er_args d = er_maybe no_start blind_start (er_rule refl)

er_post_part : (d n : ℕ) (e : Tree) → Erases (g.post_part d n e) (g.post_part d n (bare e))
er_post_part d n e =
    er_either (er_bind (er_mark m.Dot) (λ o. er_bind er_name (λ x. er_gives refl)))
    (er_either (er_bind (er_mark m.QuestionDot) (λ o. er_bind er_name (λ x. er_gives refl)))
    (er_either (er_bind (er_mark m.OpenSquare) (λ o. er_bind (er_expr (suc d) 0) (λ i. er_bind (er_mark m.CloseSquare) (λ c. er_gives (at_nowhere (λ p. tree.index p (bare e) (bare i)) o)))))
    (er_either (er_bind (er_mark m.OpenRound) (λ o. er_bind (er_args (suc d)) (λ xs. er_bind (er_mark m.CloseRound) (λ c. er_gives (at_nowhere (λ p. tree.call p (bare e) (bare xs)) o)))))
    (er_bind (er_mark m.OpenBrace) (λ o. er_bind (er_rule (ap (Closure (suc d)) (sym (place_bare o)))) (λ c. er_gives refl))))))

-- ---- literals

er_hole : (d : ℕ) → Erases (g.hole d) (g.hole d)
er_hole d = er_bind (er_token open_hole_erases) (λ o. er_bind (er_expr (suc d) 0) (λ e. er_bind (er_token close_hole_erases) (λ c. er_gives (at_nowhere (λ p. tree.hole p (bare e)) o))))

er_pieces : (d : ℕ) → Erases (g.pieces d) (g.pieces d)
er_pieces d = er_many blind_part (λ n acc. er_bind (er_either (er_token template_text_erases) (er_hole d)) (λ x. er_gives (snoc_bare acc x))) refl

er_template : (d : ℕ) → Erases (g.template_of d) (g.template_of d)
er_template d = er_bind (er_token open_template_erases) (λ o. er_bind (er_pieces d) (λ xs. er_bind (er_token close_template_erases) (λ c. er_gives (filled_bare o xs))))

er_plain_template : Erases g.plain_template g.plain_template
er_plain_template =
    er_bind (er_token open_template_erases) (λ o. er_bind (er_maybe (no_next template_text) (blind_no_next template_text template_text_erases) (er_bind (er_token template_text_erases) (λ x. er_gives refl)))
    (λ xs. er_bind (er_token close_template_erases) (λ c. er_gives (filled_bare o xs))))

er_key : Erases g.key g.key
er_key = er_either er_name (er_either (er_token plain_erases) er_plain_template)

er_ended_by_comma : {h i : Gram} → Erases h i → Erases (g.ended_by_comma h) (g.ended_by_comma i)
er_ended_by_comma e = er_bind (er_listed items_end blind_items e) (λ xs. er_bind (er_skips (mark_of m.Comma) g.no_comma (mark_erases m.Comma) blind_comma) (λ c. er_gives refl))

er_squared : (d : ℕ) (o : Tree) → Erases (g.squared d (place_of o)) (g.squared d (place_of (bare o)))
er_squared d o =
    er_bind (er_either (er_bind (er_maybe no_start blind_start (er_ended_by_comma (er_expr d 0))) (λ xs. er_gives (at_nowhere (λ p. tree.list p (bare xs)) o)))
    (er_either (er_bind (er_ended_by_comma (er_rule refl)) (λ xs. er_gives (at_nowhere (λ p. tree.map p (bare xs)) o)))
    (er_bind (er_mark m.Colon) (λ c. er_gives (at_nowhere (λ p. tree.map p empty) o)))))
    (λ x. er_bind (er_mark m.CloseSquare) (λ c. er_gives refl))

er_square : (d : ℕ) → Erases (g.square d) (g.square d)
er_square d = er_bind (er_mark m.OpenSquare) (λ o. er_squared (suc d) o)

er_closure_of : (d : ℕ) → Erases (g.closure_of d) (g.closure_of d)
er_closure_of d = er_bind (er_mark m.OpenBrace) (λ o. er_rule (ap (Closure (suc d)) (sym (place_bare o))))

er_prim : (d : ℕ) → Erases (rules (Prim d)) (rules (Prim d))
unfolding rules
er_prim d = er_either (er_token literal_erases) (er_either (er_template d) (er_either (er_round d (er_expr (suc d) 0)) (er_either (er_square d) (er_closure_of d))))

-- ---- closures

er_names : Erases g.names g.names
er_names = er_commas er_name

er_maybe_names : Erases (g.maybe g.names (no_next name_of)) (g.maybe g.names (no_next name_of))
er_maybe_names = er_maybe (no_next name_of) (blind_no_next name_of name_erases) er_names

er_parameters : Erases g.parameters g.parameters
er_parameters = er_bind er_maybe_names (λ xs. er_bind (er_mark m.Arrow) (λ a. er_gives refl))

er_label : (d : ℕ) → Erases (g.label d) (g.label d)
er_label d = er_bind er_name (λ n. er_bind (er_mark m.Colon) (λ c. er_bind (er_expr d 0) (λ e. er_gives refl)))

er_some_labels : (d : ℕ) → Erases (g.some_labels d) (g.some_labels d)
er_some_labels d = er_bind (er_with_sep (er_label d)) (λ a. er_many (blind_no_next name_of name_erases) (λ n acc. er_separated n acc (er_label d)) refl)

er_closure_body : (d : ℕ) (p : Place) (ps : Tree) → Erases (g.closure_body d p ps) (g.closure_body d nowhere (bare ps))
er_closure_body d p ps = er_bind (er_closed (er_either (er_rule refl) (er_some_labels d))) (λ xs. er_gives refl)

-- ---- statements

er_defined : (d : ℕ) → Erases (g.defined d) (g.defined d)
er_defined d = er_bind (er_token (keyword_erases k.Def)) (λ w. er_bind er_name (λ n. er_bind (er_mark m.Equals) (λ e. er_bind (er_expr d 0) (λ x. er_gives (at_nowhere (λ p. tree.define p (bare n) (bare x)) w)))))

er_all_defined : (d : ℕ) → Erases (g.all_defined d) (g.all_defined d)
er_all_defined d = er_bind (er_token (keyword_erases k.Def)) (λ w. er_bind (er_round d er_names) (λ n. er_bind (er_mark m.Equals) (λ e. er_bind (er_expr d 0) (λ x. er_gives (at_nowhere (λ p. tree.define_all p (bare n) (bare x)) w)))))

er_assigned : (d : ℕ) → Erases (g.assigned d) (g.assigned d)
er_assigned d = er_bind er_name (λ n. er_bind (er_mark m.Equals) (λ e. er_bind (er_expr d 0) (λ x. er_gives refl)))

er_returned : (d : ℕ) → Erases (g.returned d) (g.returned d)
er_returned d = er_bind (er_token (keyword_erases k.Return)) (λ w. er_bind (er_expr d 0) (λ x. er_gives (at_nowhere (λ p. tree.return_ p (bare x)) w)))

er_print : (d : ℕ) → Erases (g.print d) (g.print d)
er_print d = er_bind (er_word (codes "println")) (λ w. er_bind (er_expr d 0) (λ x. er_gives (at_nowhere (λ p. tree.println p (bare x)) w)))

er_log : (d : ℕ) → Erases (g.log d) (g.log d)
er_log d = er_bind (er_word (codes "log")) (λ w. er_bind (er_mark m.Dot) (λ o. er_bind er_name (λ n. er_bind (er_expr d 0) (λ x. er_gives (at_nowhere (λ p. tree.log p (bare n) (bare x)) w)))))

er_alone : (d : ℕ) → Erases (g.alone d) (g.alone d)
er_alone d = er_where (blind_not (λ ts. prints ts || logs ts) (blind_or prints logs blind_prints blind_logs)) (er_expr d 0)

er_block : (d : ℕ) → Erases (g.block d) (g.block d)
er_block d = er_bind (er_braced d (er_rule refl)) (λ xs. er_gives refl)

er_else_arm : (d n : ℕ) → Erases (g.else_arm d n) (g.else_arm d n)
er_else_arm d n = er_bind (er_token (keyword_erases k.Else)) (λ w. er_either (er_block d) (er_rule refl))

er_arm : (d : ℕ) → Erases (g.arm d) (g.arm d)
er_arm d = er_bind (er_token (keyword_erases k.If)) (λ w. er_bind (er_round d (er_expr (suc d) 0)) (λ c. er_bind (er_block d) (λ xs. er_gives (at_nowhere (λ p. tree.choice p (bare c) (bare xs) empty) w))))

er_choice : (d n : ℕ) → Erases (g.choice d n) (g.choice d n)
er_choice d n = er_bind (er_arm d) (λ a. er_bind (er_maybe (no_next (keyword_of k.Else)) (blind_no_next (keyword_of k.Else) (keyword_erases k.Else)) (er_else_arm d n)) (λ e. er_gives (else_bare a e)))

er_statement : (d : ℕ) → Erases (g.statement d) (g.statement d)
er_statement d = er_either (er_either (er_defined d) (er_all_defined d)) (er_either (er_assigned d) (er_either (er_returned d) (er_either (er_rule refl) (er_either (er_where blind_prints (er_print d)) (er_either (er_where blind_logs (er_log d)) (er_alone d))))))

-- ---- processes

er_directive_args : Erases g.directive_args g.directive_args
er_directive_args = er_either (er_round 1 (er_args 2)) (er_maybe no_start blind_start (er_where (blind_no_next (mark_of m.OpenRound) (mark_erases m.OpenRound)) (er_rule refl)))

er_directive : Erases g.directive g.directive
er_directive = er_bind er_name (λ n. er_bind er_directive_args (λ xs. er_gives refl))

er_one_name : Erases g.one_name g.one_name
er_one_name = er_either er_name (er_round 1 er_name)

er_input : Erases g.input g.input
er_input =
    er_either (er_bind (er_word (codes "val")) (λ w. er_bind er_one_name (λ n. er_gives (at_nowhere (λ p. tree.val p (bare n)) w))))
    (er_either (er_bind (er_word (codes "path")) (λ w. er_bind er_one_name (λ n. er_gives (at_nowhere (λ p. tree.path p (bare n)) w))))
    (er_bind (er_word (codes "stdin")) (λ w. er_gives (at_nowhere tree.stdin w))))

er_tuple : {h i : Gram} (c : List Lexeme → Bool) → Blind c → Erases h i → Erases (g.tuple_of h c) (g.tuple_of i c)
er_tuple c b e = er_bind (er_word (codes "tuple")) (λ w. er_bind (er_listed c b e) (λ xs. er_gives (at_nowhere (λ p. tree.tuple p (bare xs)) w)))

er_some_input : Erases g.some_input g.some_input
er_some_input = er_either (er_rule refl) (er_tuple g.no_comma blind_comma (er_rule refl))

er_inputs : Erases g.input_section g.input_section
er_inputs = er_headed (codes "input") (er_series (g.no_word g.input_words) (blind_words g.input_words) er_some_input)

er_output_value : Erases g.output_value g.output_value
er_output_value =
    er_either (er_bind (er_word (codes "val")) (λ w. er_bind (er_expr 1 0) (λ n. er_gives (at_nowhere (λ p. tree.val p (bare n)) w))))
    (er_either (er_bind (er_word (codes "path")) (λ w. er_bind (er_expr 1 0) (λ n. er_gives (at_nowhere (λ p. tree.path p (bare n)) w))))
    (er_bind (er_word (codes "stdout")) (λ w. er_gives (at_nowhere tree.stdout w))))

er_options : Erases g.options g.options
er_options = er_many blind_option (λ n acc. er_bind (er_skips (mark_of m.Comma) g.no_comma (mark_erases m.Comma) blind_comma) (λ c. er_bind (er_label 1) (λ o. er_gives (snoc_bare acc o)))) refl

er_output : Erases g.one_output g.one_output
er_output = er_bind (er_either er_output_value (er_tuple outputs_end blind_outputs er_output_value)) (λ v. er_bind er_options (λ os. er_gives refl))

er_outputs : Erases g.output_section g.output_section
er_outputs = er_headed (codes "output") (er_series (g.no_word g.output_words) (blind_words g.output_words) (er_rule refl))

er_maybe_section : (x : List ℕ) {h i : Gram} → Erases h i → Erases (g.maybe_section x h) (g.maybe_section x i)
er_maybe_section x e = er_maybe (no_next (word_of x)) (blind_no_next (word_of x) (word_erases x)) e

er_second : (xs : Tree) → Erases (g.second_inputs xs) (g.second_inputs (bare xs))
er_second empty = er_maybe_section (codes "input") (er_rule refl)
er_second _ = er_gives refl

er_body_section : (x : List ℕ) → Erases (g.body_section x) (g.body_section x)
er_body_section x = er_headed x (er_rule refl)

er_task : Erases g.task g.task
er_task = er_either (er_body_section (codes "script")) (er_with_sep (er_either (er_token plain_erases) (er_template 1)))

er_stub_end : Erases g.stub_end g.stub_end
er_stub_end = er_bind (er_maybe_section (codes "stub") (er_body_section (codes "stub"))) (λ s. er_bind er_closes (λ c. er_gives refl))

er_sections : (w n ds : Tree) → Erases (g.sections (place_of w) n ds) (g.sections (place_of (bare w)) (bare n) (bare ds))
er_sections w n ds =
    er_bind (er_maybe_section (codes "input") (er_rule refl)) (λ xs. er_bind (er_maybe_section (codes "output") (er_rule refl)) (λ ys. er_bind (er_second xs) (λ zs.
    er_bind (er_rule refl) (λ t. er_bind er_stub_end (λ s. er_gives (at_nowhere (λ p. tree.process p (bare n) (bare ds) (bare zs) (bare ys) (bare t) (bare s)) w))))))

er_process : Erases g.process g.process
er_process = er_bind (er_word (codes "process")) (λ w. er_bind er_name (λ n. er_bind (er_mark m.OpenBrace) (λ o. er_bind (er_series directives_end blind_directives (er_rule refl)) (λ ds. er_sections w n ds))))

-- ---- workflows and other tops

er_emit : Erases g.emit g.emit
er_emit = er_either (er_assigned 1) (er_expr 1 0)

er_parts : Erases g.workflow_parts g.workflow_parts
er_parts =
    er_bind (er_maybe_section (codes "take") (er_headed (codes "take") (er_series directives_end blind_directives er_name))) (λ t.
    er_bind (er_body_section (codes "main")) (λ b. er_bind (er_maybe_section (codes "emit") (er_headed (codes "emit") (er_series no_start blind_start er_emit))) (λ e. er_gives refl)))

er_workflow : Erases g.workflow g.workflow
er_workflow =
    er_bind (er_word (codes "workflow")) (λ w. er_bind (er_maybe (no_next name_of) (blind_no_next name_of name_erases) er_name) (λ n.
    er_bind (er_braced 0 (er_either (er_rule refl) (er_rule refl))) (λ b. er_gives (at_nowhere (λ p. tree.workflow p (bare n) (bare b)) w))))

er_function : Erases g.function g.function
er_function =
    er_bind (er_token (keyword_erases k.Def)) (λ w. er_bind er_name (λ n. er_bind (er_mark m.OpenRound) (λ o. er_bind er_maybe_names (λ ps. er_bind (er_mark m.CloseRound) (λ c.
    er_bind (er_braced 0 (er_rule refl)) (λ b. er_gives (at_nowhere (λ p. tree.function p (bare n) (bare ps) (bare b)) w)))))))

er_parameter : Erases g.parameter g.parameter
er_parameter = er_bind (er_word (codes "params")) (λ w. er_bind (er_mark m.Dot) (λ o. er_bind er_name (λ n. er_bind (er_mark m.Equals) (λ e. er_bind (er_expr 0 0) (λ x. er_gives (at_nowhere (λ p. tree.parameter p (bare n) (bare x)) w))))))

er_dsl : Erases g.dsl g.dsl
er_dsl = er_bind (er_word (codes "nextflow")) (λ w. er_bind (er_mark m.Dot) (λ a. er_bind (er_word (codes "enable")) (λ x. er_bind (er_mark m.Dot) (λ b. er_bind (er_word (codes "dsl")) (λ y. er_bind (er_mark m.Equals) (λ e. er_bind (er_token two_erases) (λ n. er_gives (at_nowhere tree.dsl w))))))))

er_small_top : Erases g.small_top g.small_top
er_small_top = er_either er_parameter (er_either (er_print 0) (er_either (er_log 0) er_dsl))

-- ---- the rules

pub er_rules : (l : Level) → Erases (rules l) (rules (bare_level l))
unfolding rules
er_rules (Expr d n) = er_bind (er_rule refl) (λ a. er_or_more d n a)
er_rules (Operands d b) = er_bind (er_operand d b) (λ a. er_after_operand d b a)
er_rules (Pre d n) = er_either (er_prefixed d n) (er_rule refl)
er_rules (Post d) = er_bind (er_rule refl) (λ e. er_many blind_post (λ n x. er_post_part d n x) refl)
er_rules (Prim d) = er_prim d
er_rules (Args d) = er_commas (er_rule refl)
er_rules (Arg d) = er_bind (er_maybe (λ ts. not (labels ts)) (blind_not labels blind_labels) (er_bind er_name (λ n. er_bind (er_mark m.Colon) (λ c. er_gives refl)))) (λ n. er_bind (er_expr d 0) (λ x. er_gives (name_bare n x)))
er_rules (Pair d) = er_bind er_key (λ n. er_bind (er_mark m.Colon) (λ c. er_bind (er_expr d 0) (λ x. er_gives refl)))
er_rules (Closure d p) = er_bind (er_maybe no_params blind_params er_parameters) (λ ps. er_closure_body d p ps)
er_rules (Body d) = er_series body_ends blind_body (er_rule refl)
er_rules (Stmt d) = er_statement d
er_rules (Choice d n) = er_choice d n
er_rules Script = er_bind er_past_separator (λ s. er_series g.no_top blind_top (er_rule refl))
er_rules Top = er_either (er_rule refl) (er_either (er_rule refl) (er_either (er_rule refl) er_small_top))
er_rules Process = er_process
er_rules Directive = er_directive
er_rules Input = er_input
er_rules Inputs = er_inputs
er_rules Output = er_output
er_rules Outputs = er_outputs
er_rules Task = er_task
er_rules Workflow = er_workflow
er_rules Parts = er_parts
er_rules Function = er_function
