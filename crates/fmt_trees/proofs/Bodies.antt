-- How closures and statements are read.
use Rattle.std.proofs.Common.{◌≡◌, ℕ, suc, Bool, true, false, List, refl, sym, subst, ap}
use Rattle.std.specs.Prelude.{not, codes}
use Rattle.nf_value.specs.declared.place.Place.{Place}
use Rattle.nf_token.specs.declared.token.Keyword.TheVariants as k
use Rattle.nf_token.specs.declared.token.Mark.TheVariants as m
use Rattle.nf_token.specs.declared.token.Lexeme.{Lexeme}
use Rattle.nf_grammar.specs.Gram.{rule, either}
use Rattle.nf_grammar.specs.Parts.{no_next}
use Rattle.nf_grammar.specs.Reads.{Reads, reads_token, reads_gives, reads_bind, reads_left, reads_right, reads_where, reads_end, reads_rule}
use Rattle.nf_ast.specs.Tree as tree
use Rattle.nf_ast.specs.Tree.{Tree, empty, cons}
use Rattle.nf_exprs.specs.Level.{Prim, Body, Stmt, Choice}
use Rattle.nf_exprs.specs.Tokens.{name_of, keyword_of, no_params, body_ends}
use Rattle.nf_exprs.specs.Rules.{rules, kind, maybe, closed, closes, sep, some_labels, label, block, else_arm, no_comma, names}
use Rattle.nf_printer.specs.Levels.{prints}
use Rattle.nf_writer.specs.Lines.{Layout, deeper}
use Rattle.nf_printer.specs.Bodies.{is_short}
use Rattle.fmt_trees.specs.Bare.{bare}
use Rattle.fmt_trees.specs.Shape as sort
use Rattle.fmt_trees.specs.Shape.{Shaped}
use Rattle.fmt_trees.proofs.TreeTokens as tree_tokens
use Rattle.fmt_trees.proofs.TreeTokens.{spell, mark, separator, else_before, breaks, maybe_separator}
use Rattle.fmt_trees.proofs.Own.{IsRead, whole}
use Rattle.fmt_trees.proofs.Prims.{prim_open}
use Rattle.fmt_trees.proofs.Rows.{Each, none, some, a_row, no_row, Closes, by_comma, by_round, by_square, by_brace, by_separator, by_arrow, by_nothing, Plain, Part, listed_read, series_read}
use Rattle.fmt_trees.proofs.Holds.{NameRead, ClosureRead, Braced, ParamsRead, Inside}
use Rattle.fmt_trees.proofs.Posts.{each_plain, ArgRead}
use Rattle.fmt_trees.proofs.Literals.{nothing_more, expr_plain}
use Rattle.fmt_trees.proofs.Fronts.{front, front_starts, front_no_label, front_no_params, front_no_arrow, word_no_params, NoArrow, arrow_off, arrow_brace, arrow_separator, arrow_equals, arrow_colon, a_dot}
use Rattle.fmt_trees.proofs.Quiet.{statement_quiet}

-- ---- arguments

pub unnamed_read : (e : Tree) → Shaped sort.expr e → IsRead e → ArgRead e
unfolding rules
unnamed_read e s h d l tl c = reads_rule (reads_bind (reads_right (reads_where (ap not (front_no_label c (front s l false tl))) reads_gives)) (reads_bind (expr_plain d l e h tl c) reads_gives))

pub named_read : (p : Place) (s : List ℕ) (e : Tree) → IsRead e → ArgRead (tree.named (tree.name p s) e)
unfolding rules
named_read p s e h d l tl c = reads_rule (reads_bind (reads_left (reads_bind (reads_token refl) (reads_bind (reads_token refl) reads_gives))) (reads_bind (expr_plain d l e h tl c) reads_gives))

-- ---- names

name_plain : (l : Layout) (n : Tree) → NameRead n → Plain (kind name_of) l n
name_plain l n h tl c = h l tl

pub names_read : (x xs : Tree) (l : Layout) (tl : List Lexeme) → NameRead x → Each NameRead xs → Closes tl → no_comma tl ≡ true → Reads rules names (tree_tokens.listed (cons x xs) l tl) (cons (bare x) (bare xs)) tl
names_read x xs l tl p q c e = listed_read (kind name_of) l no_comma x tl (name_plain l x p) (each_plain (name_plain l) q) c e

pub name_names : (p : Place) (s : List ℕ) → NameRead (tree.name p s)
name_names p s l tl = reads_token refl

-- ---- what closes a body

after_brace : (b : Bool) (tl : List Lexeme) → Reads rules sep (maybe_separator b (mark m.CloseBrace tl)) empty (mark m.CloseBrace tl)
after_brace true tl = reads_left (reads_bind (reads_token refl) reads_gives)
after_brace false tl = reads_right (reads_where refl reads_gives)

brace_closes : (b : Bool) (tl : List Lexeme) → Closes (maybe_separator b (mark m.CloseBrace tl))
brace_closes true tl = by_separator
brace_closes false tl = by_brace

pub closed_brace : (tl : List Lexeme) → Reads rules closes (mark m.CloseBrace tl) empty tl
closed_brace tl = reads_bind (reads_right (reads_where refl reads_gives)) (reads_bind (reads_token refl) reads_gives)

-- nothing but a separator
nothing_closes : (b : Bool) (tl : List Lexeme) → Reads rules closes (maybe_separator b (mark m.CloseBrace tl)) empty tl
nothing_closes true tl = reads_bind (reads_left (reads_bind (reads_token refl) reads_gives)) (reads_bind (reads_token refl) reads_gives)
nothing_closes false tl = closed_brace tl

nothing_ends : (b : Bool) (tl : List Lexeme) → body_ends (maybe_separator b (mark m.CloseBrace tl)) ≡ true
nothing_ends true tl = refl
nothing_ends false tl = refl

-- ---- bodies

abbrev pub StmtRead : Tree → Type 0
StmtRead x = (d : ℕ) (l : Layout) → Part (rule (Stmt d)) l x

-- statements, up to where no statement begins
pub statements_read : (x : Tree) {xs : Tree} → StmtRead x → Each StmtRead xs → (d : ℕ) (l : Layout) (tl us : List Lexeme) → Reads rules sep tl empty us → Closes tl → body_ends us ≡ true → Reads rules (rule (Body d)) (tree_tokens.parts (cons x xs) l tl) (cons (bare x) (bare xs)) us
unfolding rules
statements_read x p q d l tl us e c o = reads_rule (series_read (rule (Stmt d)) l body_ends tl us e c o x 0 (p d l) (each_plain (λ y h. h d l) q) no_row)

pub body_read : {xs : Tree} → Each StmtRead xs → (d : ℕ) (l : Layout) (b : Bool) (tl : List Lexeme) → Reads rules (closed (rule (Body d))) (tree_tokens.parts xs l (maybe_separator b (mark m.CloseBrace tl))) (bare xs) tl
unfolding rules
body_read none d l b tl = reads_bind (reads_rule (reads_end (nothing_ends b tl))) (reads_bind (nothing_closes b tl) reads_gives)
body_read (some {x = x} p q) d l b tl = reads_bind (statements_read x p q d l (maybe_separator b (mark m.CloseBrace tl)) (mark m.CloseBrace tl) (after_brace b tl) (brace_closes b tl) refl) (reads_bind (closed_brace tl) reads_gives)

abbrev pub LabelRead : Tree → Type 0
LabelRead x = (d : ℕ) (l : Layout) (g : Bool) (tl : List Lexeme) → Closes tl → Reads rules (label d) (spell x l g tl) (bare x) tl

labels_read : (x : Tree) {xs : Tree} → LabelRead x → Each LabelRead xs → (d : ℕ) (l : Layout) (b : Bool) (tl : List Lexeme) → Reads rules (some_labels d) (tree_tokens.parts (cons x xs) l (maybe_separator b (mark m.CloseBrace tl))) (cons (bare x) (bare xs)) (mark m.CloseBrace tl)
labels_read x p none d l b tl =
    reads_bind (reads_bind (p d l (prints x false) (maybe_separator b (mark m.CloseBrace tl)) (brace_closes b tl)) (reads_bind (after_brace b tl) reads_gives)) (reads_end refl)
labels_read x p (some {x = y} {xs = ys} q s) d l b tl =
    let tail : List Lexeme = maybe_separator b (mark m.CloseBrace tl) in
    reads_bind (reads_bind (p d l (prints x false) (tree_tokens.next_parts (cons y ys) l tail) by_separator) (reads_bind (reads_left (reads_bind (reads_token refl) reads_gives)) reads_gives))
    (series_read (label d) l (no_next name_of) tail (mark m.CloseBrace tl) (after_brace b tl) (brace_closes b tl) refl y 0 (q d l (prints y false)) (each_plain (λ z h. h d l (prints z false)) s) (a_row no_row))

pub label_read : (p : Place) (s : List ℕ) (e : Tree) → IsRead e → LabelRead (tree.label (tree.name p s) e)
label_read p s e h d l g tl c = reads_bind (reads_token refl) (reads_bind (reads_token refl) (reads_bind (expr_plain d l e h tl c) reads_gives))

-- ---- how a body begins

statement_no_params : {x : Tree} → Shaped sort.statement x → (l : Layout) (tl : List Lexeme) → NoArrow tl → no_params (spell x l (prints x false) tl) ≡ true
statement_no_params (sort.alone {e = e} h) l tl n = front_no_params n (front h l (prints e false) tl)
statement_no_params (sort.define h i) l tl n = refl
statement_no_params (sort.define_all h i j) l tl n = refl
statement_no_params (sort.assign {e = e} (sort.named {s = s}) h) l tl n = word_no_params s _ (arrow_equals {us = spell e l false tl})
statement_no_params (sort.return_ h) l tl n = refl
statement_no_params (sort.println h) l tl n = word_no_params (codes "println") _ (front_no_arrow (front h l false tl))
statement_no_params (sort.log {n = k} {e = e} h i) l tl n = word_no_params (codes "log") _ (arrow_off {us = spell k l false (spell e l false tl)} a_dot)
statement_no_params (sort.choose (sort.choice_of h i j)) l tl n = refl

brace_no_arrow : (b : Bool) (tl : List Lexeme) → NoArrow (maybe_separator b (mark m.CloseBrace tl))
brace_no_arrow true tl = arrow_separator
brace_no_arrow false tl = arrow_brace

next_no_arrow : {s : sort.Sort} {xs : Tree} → Shaped (sort.row s) xs → (l : Layout) (tl : List Lexeme) → NoArrow tl → NoArrow (tree_tokens.next_parts xs l tl)
next_no_arrow sort.no_more l tl n = n
next_no_arrow (sort.one_more h i) l tl n = arrow_separator

nothing_no_params : (b : Bool) (tl : List Lexeme) → no_params (maybe_separator b (mark m.CloseBrace tl)) ≡ true
nothing_no_params true tl = refl
nothing_no_params false tl = refl

statements_no_params : {xs : Tree} → Shaped (sort.row sort.statement) xs → (l : Layout) (b : Bool) (tl : List Lexeme) → no_params (tree_tokens.parts xs l (maybe_separator b (mark m.CloseBrace tl))) ≡ true
statements_no_params sort.no_more l b tl = nothing_no_params b tl
statements_no_params (sort.one_more h i) l b tl = statement_no_params h l _ (next_no_arrow i l _ (brace_no_arrow b tl))

labels_no_params : {x : Tree} (xs : Tree) → Shaped sort.label x → (l : Layout) (tl : List Lexeme) → no_params (tree_tokens.parts (cons x xs) l tl) ≡ true
labels_no_params xs (sort.label_of {e = e} (sort.named {s = s}) h) l tl = word_no_params s _ (arrow_colon {us = spell e l false (tree_tokens.next_parts xs l tl)})

pub statements_inside : {xs : Tree} → Shaped (sort.row sort.statement) xs → Each StmtRead xs → (d : ℕ) (l : Layout) (b : Bool) (tl : List Lexeme) → Inside d l b xs tl
statements_inside s h d l b tl = record {
  reads = inner (body_read h d l b tl);
  first = statements_no_params s l b tl;
}
  where
    inner : {ts rest : List Lexeme} {v : Tree} → Reads rules (closed (rule (Body d))) ts v rest → Reads rules (closed (either (rule (Body d)) (some_labels d))) ts v rest
    inner (reads_bind x y) = reads_bind (reads_left x) y

pub labels_inside : {x xs : Tree} → Shaped sort.label x → LabelRead x → Each LabelRead xs → (d : ℕ) (l : Layout) (b : Bool) (tl : List Lexeme) → Inside d l b (cons x xs) tl
labels_inside {x} {xs} s p q d l b tl = record {
  reads = reads_bind (reads_right (labels_read x p q d l b tl)) (reads_bind (closed_brace tl) reads_gives);
  first = labels_no_params xs s l (maybe_separator b (mark m.CloseBrace tl));
}

-- ---- closures

pub no_params_read : ParamsRead empty
no_params_read l tl e = reads_right (reads_where e reads_gives)

pub params_read : {ns : Tree} → Each NameRead ns → ParamsRead (tree.params ns)
params_read none l tl e = reads_left (reads_bind (reads_right (reads_where refl reads_gives)) (reads_bind (reads_token refl) reads_gives))
params_read (some {x = x} {xs = xs} p q) l tl e = reads_left (reads_bind (reads_left (names_read x xs l (mark m.Arrow tl) p q by_arrow refl)) (reads_bind (reads_token refl) reads_gives))

pub closure_read : (p : Place) (ps xs : Tree) → ParamsRead ps → ((d : ℕ) (l : Layout) (b : Bool) (tl : List Lexeme) → Inside d l b xs tl) → ClosureRead (tree.closure p ps xs)
unfolding rules
closure_read p ps xs h i d l g tl =
    let b : Bool = breaks l (is_short xs) xs in
    let body : Inside d (deeper l) b xs tl = i d (deeper l) b tl in
    record {
      inside = spell ps l false (tree_tokens.parts xs (deeper l) (maybe_separator b (mark m.CloseBrace tl)));
      opens = refl;
      reads = reads_rule (reads_bind (h l (tree_tokens.parts xs (deeper l) (maybe_separator b (mark m.CloseBrace tl))) body.first) (reads_bind body.reads reads_gives));
    }

pub closure_expr_read : {x : Tree} → Shaped sort.closure x → ClosureRead x → IsRead x
unfolding rules
closure_expr_read (sort.closure_of {p = p} {ps = ps} {xs = xs} h i) r = prim_open (tree.closure p ps xs) (λ d l g rest n. opened d l g rest (r (suc d) l g rest))
  where
    opened : (d : ℕ) (l : Layout) (g : Bool) (rest : List Lexeme) → Braced (suc d) l g (tree.closure p ps xs) rest → Reads rules (rule (Prim d)) (spell (tree.closure p ps xs) l g rest) (bare (tree.closure p ps xs)) rest
    opened d l g rest b = subst (λ ts. Reads rules (rule (Prim d)) ts (bare (tree.closure p ps xs)) rest) (sym b.opens) (reads_rule (reads_right (reads_right (reads_right (reads_right (reads_bind (reads_token refl) b.reads))))))

-- ---- statements

pub alone_read : (e : Tree) → Shaped sort.expr e → IsRead e → StmtRead e
unfolding rules
alone_read e s h d l tl c = reads_rule (reads_right (reads_right (reads_right (reads_right (reads_right (reads_right (reads_where (ap not (statement_quiet s l tl c)) (whole e h d l (prints e false) tl (nothing_more tl c) 0))))))))

pub define_read : (p : Place) (n e : Tree) → NameRead n → IsRead e → StmtRead (tree.define p n e)
unfolding rules
define_read p n e i h d l tl c = reads_rule (reads_left (reads_left (reads_bind (reads_token refl) (reads_bind (i l _) (reads_bind (reads_token refl) (reads_bind (expr_plain d l e h tl c) reads_gives))))))

pub define_all_read : (p : Place) (n ns e : Tree) → NameRead n → Each NameRead ns → IsRead e → StmtRead (tree.define_all p (cons n ns) e)
unfolding rules
define_all_read p n ns e i j h d l tl c = reads_rule (reads_left (reads_right (reads_bind (reads_token refl) (reads_bind (reads_bind (reads_token refl) (reads_bind (names_read n ns l _ i j by_round refl) (reads_bind (reads_token refl) reads_gives))) (reads_bind (reads_token refl) (reads_bind (expr_plain d l e h tl c) reads_gives))))))

pub assign_read : (n e : Tree) → NameRead n → IsRead e → StmtRead (tree.assign n e)
unfolding rules
assign_read n e i h d l tl c = reads_rule (reads_right (reads_left (reads_bind (i l _) (reads_bind (reads_token refl) (reads_bind (expr_plain d l e h tl c) reads_gives)))))

pub return_read : (p : Place) (e : Tree) → IsRead e → StmtRead (tree.return_ p e)
unfolding rules
return_read p e h d l tl c = reads_rule (reads_right (reads_right (reads_left (reads_bind (reads_token refl) (reads_bind (expr_plain d l e h tl c) reads_gives)))))

pub println_read : (p : Place) (e : Tree) → Shaped sort.expr e → IsRead e → StmtRead (tree.println p e)
unfolding rules
println_read p e s h d l tl c = reads_rule (reads_right (reads_right (reads_right (reads_right (reads_left (reads_where (front_starts (front s l false tl)) (reads_bind (reads_token refl) (reads_bind (expr_plain d l e h tl c) reads_gives))))))))

pub log_read : (p q : Place) (n : List ℕ) (e : Tree) → Shaped sort.expr e → IsRead e → StmtRead (tree.log p (tree.name q n) e)
unfolding rules
log_read p q n e s h d l tl c = reads_rule (reads_right (reads_right (reads_right (reads_right (reads_right (reads_left (reads_where (front_starts (front s l false tl)) (reads_bind (reads_token refl) (reads_bind (reads_token refl) (reads_bind (reads_token refl) (reads_bind (expr_plain d l e h tl c) reads_gives)))))))))))

-- ---- choices

abbrev pub BlockRead : Tree → Type 0
BlockRead x = (d : ℕ) (l : Layout) (g : Bool) (tl : List Lexeme) → Reads rules (block d) (spell x l g tl) (bare x) tl

abbrev pub ChoiceRead : Tree → Type 0
ChoiceRead x = (d n : ℕ) (l : Layout) (g : Bool) (tl : List Lexeme) → Closes tl → Reads rules (rule (Choice d n)) (spell x l g tl) (bare x) tl

abbrev pub LastRead : Tree → Type 0
LastRead x = (d n : ℕ) (l : Layout) (tl : List Lexeme) → Closes tl → Reads rules (maybe (else_arm d n) (no_next (keyword_of k.Else))) (else_before x (spell x l false tl)) (bare x) tl

pub block_read : (xs : Tree) → Each StmtRead xs → BlockRead (tree.statements xs)
block_read xs h d l g tl = reads_bind (reads_bind (reads_token refl) (body_read h (suc d) (deeper l) (breaks l false xs) tl)) reads_gives

no_else : {tl : List Lexeme} → Closes tl → no_next (keyword_of k.Else) tl ≡ true
no_else by_comma = refl
no_else by_round = refl
no_else by_square = refl
no_else by_brace = refl
no_else by_separator = refl
no_else by_arrow = refl
no_else by_nothing = refl

pub no_last_read : LastRead empty
no_last_read d n l tl c = reads_right (reads_where (no_else c) reads_gives)

pub last_block_read : {x : Tree} → Shaped sort.block x → BlockRead x → LastRead x
last_block_read (sort.block_of s) h d n l tl c = reads_left (reads_bind (reads_token refl) (reads_left (h d l false tl)))

pub last_choice_read : {x : Tree} → Shaped sort.choice x → ChoiceRead x → LastRead x
last_choice_read (sort.choice_of s t u) h d n l tl c = reads_left (reads_bind (reads_token refl) (reads_right (h d (suc n) l false tl c)))

pub choice_read : (p : Place) (c b e : Tree) → IsRead c → BlockRead b → LastRead e → ChoiceRead (tree.choice p c b e)
unfolding rules
choice_read p c b e h i j d n l g tl q = reads_rule (reads_bind (reads_bind (reads_token refl) (reads_bind (reads_bind (reads_token refl) (reads_bind (expr_plain (suc d) l c h _ by_round) (reads_bind (reads_token refl) reads_gives))) (reads_bind (i d l false _) reads_gives))) (reads_bind (j d n l tl q) reads_gives))

pub choose_read : (x : Tree) → ChoiceRead x → StmtRead x
unfolding rules
choose_read x h d l tl c = reads_rule (reads_right (reads_right (reads_right (reads_left (h d 1 l (prints x false) tl c)))))
