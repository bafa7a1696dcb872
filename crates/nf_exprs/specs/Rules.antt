-- The grammar: parts that rules share, and a row for each rule. In comments `{ x }` is any number of x, `[ x ]` is x or nothing, and what
-- stands in quotes is a token.
use Rattle.std.specs.Prelude.{ℕ, suc, Bool, true, false, not, ◌||◌, ◌&&◌, List, [], ◌∷◌, codes, nat_le, if◌then◌else◌}
use Rattle.nf_value.specs.declared.place.Place.{Place}
use Rattle.nf_token.specs.declared.token.Mark.{Mark}
use Rattle.nf_token.specs.declared.token.Mark.TheVariants as m
use Rattle.nf_token.specs.declared.token.Keyword.TheVariants as k
use Rattle.nf_token.specs.declared.token.Lexeme.{Lexeme}
use Rattle.nf_grammar.specs.Gram.{token, gives, either, only_where, many, rule, ◌>>=◌}
use Rattle.nf_grammar.specs.Parts.{no_next}
use Rattle.nf_ast.specs.Tree as tree
use Rattle.nf_ast.specs.Tree.{Tree, empty, cons, point, name, template, snoc, place_of}
use Rattle.nf_exprs.specs.declared.band.Band.{Band}
use Rattle.nf_exprs.specs.declared.band.Band.TheVariants as band
use Rattle.nf_exprs.specs.Level.{Level, Expr, Operands, Pre, Post, Prim, Args, Arg, Pair, Closure, Body, Stmt, Choice, Script, Top, Process, Directive, Input, Inputs, Output, Outputs, Task, Workflow, Parts, Function, Gram}
use Rattle.nf_exprs.specs.Tokens.{Kind, mark_of, keyword_of, name_of, word_of, separator, literal, plain, two, open_template, close_template, template_text, open_hole, close_hole, infix_of, prefix_operator, no_start, labels, body_ends, directives_end, no_post, items_end, outputs_end, no_option, no_params, at_end, prints, logs}

-- ---- limits

-- where d brackets are open, one more passes the limit
abbrev pub past_depth : ℕ → Bool
past_depth d = nat_le 64 d

-- where a chain has n parts, one more passes the limit
abbrev pub past_chain : ℕ → Bool
past_chain n = nat_le 256 n

abbrev pub past_either : ℕ → ℕ → Bool
past_either d n = past_depth d || past_chain n

-- ---- parts that rules share

abbrev pub kind : Kind → Gram
kind p = token false p

abbrev pub mark : Mark → Gram
mark x = kind (mark_of x)

abbrev pub word : List ℕ → Gram
word x = kind (word_of x)

-- a bracket that opens, within the limit
abbrev pub opens : ℕ → Mark → Gram
opens d x = token (past_depth d) (mark_of x)

-- [ x ], which ends only where the test holds
abbrev pub maybe : Gram → (List Lexeme → Bool) → Gram
maybe g ends = either g (only_where ends (gives empty))

-- x, of which nothing is kept, and the tree that was read before
abbrev pub then_gives : Gram → Tree → Gram
then_gives g a = g >>= λ b. gives a

-- "," x, put at the end of what was read
abbrev pub comma_then : Gram → ℕ → Tree → Gram
comma_then g n acc = mark m.Comma >>= λ c. g >>= λ b. gives (snoc acc b)

-- x { "," x }, up to where the test holds
abbrev pub listed : (List Lexeme → Bool) → Gram → Gram
listed ends g = g >>= λ a. many ends (comma_then g) 0 (cons a empty)

abbrev pub no_comma : List Lexeme → Bool
no_comma = no_next (mark_of m.Comma)

-- x { "," x }
abbrev pub commas : Gram → Gram
commas = listed no_comma

-- [ a token of this kind ], of which nothing is kept; it may be missing only where the test holds
abbrev pub skips : Kind → (List Lexeme → Bool) → Gram
skips p ends = maybe (kind p >>= λ t. gives empty) ends

-- a separator, which may be missing before `}` and at the end
abbrev pub sep : Gram
sep = skips separator at_end

-- x sep
abbrev pub with_sep : Gram → Gram
with_sep g = g >>= λ a. sep >>= λ s. gives a

-- x sep, put at the end of what was read
abbrev pub separated : Gram → ℕ → Tree → Gram
separated g n acc = with_sep g >>= λ a. gives (snoc acc a)

-- { x sep }, up to where the test holds
abbrev pub series : (List Lexeme → Bool) → Gram → Gram
series ends g = many ends (separated g) 0 empty

-- [ a separator ]
abbrev pub past_separator : Gram
past_separator = skips separator (no_next separator)

-- a `}`, before which a separator may stand
abbrev pub closes : Gram
closes = past_separator >>= λ s. mark m.CloseBrace >>= λ c. gives empty

-- x "}"
abbrev pub closed : Gram → Gram
closed g = g >>= λ x. closes >>= λ c. gives x

-- "{" x "}"
abbrev pub braced : ℕ → Gram → Gram
braced d g = opens d m.OpenBrace >>= λ o. closed g

-- "(" x ")"
abbrev pub round : ℕ → Gram → Gram
round d g = opens d m.OpenRound >>= λ o. g >>= λ x. mark m.CloseRound >>= λ c. gives x

-- a word and a colon
abbrev pub head : List ℕ → Gram
head x = word x >>= λ w. mark m.Colon >>= λ c. gives w

abbrev pub headed : List ℕ → (Place → Gram) → Gram
headed x g = head x >>= λ w. g (place_of w)

-- ---- trees

abbrev pub with_prefix : Tree → Tree → Tree
with_prefix (tree.prefix p o x) e = tree.prefix p o e
with_prefix _ e = empty

-- a template with its parts
abbrev pub filled : Tree → Tree → Tree
filled (template p q xs) ys = template p q ys
filled _ ys = empty

abbrev pub with_name : Tree → Tree → Tree
with_name empty x = x
with_name n x = tree.named n x

abbrev pub top_words : List (List ℕ)
top_words = codes "process" ∷ codes "workflow" ∷ codes "params" ∷ codes "println" ∷ codes "log" ∷ codes "nextflow" ∷ []

abbrev pub no_word : List (List ℕ) → List Lexeme → Bool
no_word [] ts = true
no_word (x ∷ xs) ts = no_next (word_of x) ts && no_word xs ts

-- no top begins here
abbrev pub no_top : List Lexeme → Bool
no_top ts = no_next (keyword_of k.Def) ts && no_word top_words ts

-- ---- levels of operands

abbrev pub joined : Tree → Tree → Tree → Tree
joined (tree.binary p o x y) a b = tree.binary p o a b
joined _ a b = empty

-- an operand of the band
abbrev pub operand : ℕ → Band → Gram
operand d band.Or = rule (Operands d band.And)
operand d band.And = rule (Operands d band.Pipe)
operand d band.Pipe = rule (Operands d band.Same)
operand d band.Same = rule (Operands d band.Compare)
operand d band.Compare = rule (Operands d band.Range)
operand d band.Range = rule (Operands d band.Sum)
operand d band.Sum = rule (Operands d band.Term)
operand d band.Term = rule (Pre d 0)

-- the band takes two operands at most
abbrev pub is_single : Band → Bool
is_single band.Same = true
is_single band.Compare = true
is_single band.Range = true
is_single _ = false

-- an operator and its right operand, after the left one
abbrev pub operand_next : ℕ → Band → ℕ → Tree → Gram
operand_next d b n acc = token (past_chain n) (infix_of b) >>= λ o. operand d b >>= λ x. gives (joined o acc x)

-- operand { operator operand }, or operand [ operator operand ], from the left
abbrev pub after_operand : ℕ → Band → Tree → Gram
after_operand d b a = if is_single b then either (operand_next d b 1 a) (only_where (no_next (infix_of b)) (gives a)) else many (no_next (infix_of b)) (operand_next d b) 1 a

-- ---- expressions

abbrev pub question : Kind
question = mark_of m.Question

abbrev pub elvis : Kind
elvis = mark_of m.Elvis

abbrev pub no_question : List Lexeme → Bool
no_question ts = no_next question ts && no_next elvis ts

-- "?" expr ":" expr, after the condition
abbrev pub conditional : ℕ → ℕ → Tree → Gram
conditional d n c = do
  q ← token (past_chain n) question
  a ← rule (Expr d (suc n))
  colon ← mark m.Colon
  b ← rule (Expr d (suc n))
  gives (tree.conditional (place_of q) c a b)

-- "?:" expr, after the left operand
abbrev pub otherwise : ℕ → ℕ → Tree → Gram
otherwise d n a = do
  q ← token (past_chain n) elvis
  b ← rule (Expr d (suc n))
  gives (tree.elvis (place_of q) a b)

abbrev pub or_more : ℕ → ℕ → Tree → Gram
or_more d n a = either (conditional d n a) (either (otherwise d n a) (only_where no_question (gives a)))

abbrev pub prefixed : ℕ → ℕ → Gram
prefixed d n = do
  o ← token (past_chain n) prefix_operator
  e ← rule (Pre d (suc n))
  gives (with_prefix o e)

-- "." name, and "?." name
abbrev pub property : ℕ → Tree → Gram
property n e = do
  dot ← token (past_chain n) (mark_of m.Dot)
  x ← kind name_of
  gives (tree.property e x)

abbrev pub safe_property : ℕ → Tree → Gram
safe_property n e = do
  dot ← token (past_chain n) (mark_of m.QuestionDot)
  x ← kind name_of
  gives (tree.safe_property e x)

-- "[" expr "]", and "(" [ args ] ")"
abbrev pub index : ℕ → ℕ → Tree → Gram
index d n e = do
  o ← token (past_either d n) (mark_of m.OpenSquare)
  i ← rule (Expr (suc d) 0)
  c ← mark m.CloseSquare
  gives (tree.index (place_of o) e i)

abbrev pub call : ℕ → ℕ → Tree → Gram
call d n e = do
  o ← token (past_either d n) (mark_of m.OpenRound)
  xs ← maybe (rule (Args (suc d))) no_start
  c ← mark m.CloseRound
  gives (tree.call (place_of o) e xs)

-- a closure after the expression that is called with it
abbrev pub call_with : ℕ → ℕ → Tree → Gram
call_with d n e = do
  o ← token (past_either d n) (mark_of m.OpenBrace)
  c ← rule (Closure (suc d) (place_of o))
  gives (tree.call_with e c)

abbrev pub post_part : ℕ → ℕ → Tree → Gram
post_part d n e = either (property n e) (either (safe_property n e) (either (index d n e) (either (call d n e) (call_with d n e))))

-- ---- literals

abbrev pub opens_hole : ℕ → Gram
opens_hole d = token (past_depth d) open_hole

abbrev pub hole : ℕ → Gram
hole d = do
  o ← opens_hole d
  e ← rule (Expr (suc d) 0)
  c ← kind close_hole
  gives (tree.hole (place_of o) e)

abbrev pub no_part : List Lexeme → Bool
no_part ts = no_next template_text ts && no_next open_hole ts

abbrev pub piece : ℕ → Gram
piece d = either (kind template_text) (hole d)

abbrev pub part_next : ℕ → ℕ → Tree → Gram
part_next d n acc = piece d >>= λ x. gives (snoc acc x)

abbrev pub pieces : ℕ → Gram
pieces d = many no_part (part_next d) 0 empty

abbrev pub template_of : ℕ → Gram
template_of d = do
  o ← kind open_template
  xs ← pieces d
  c ← kind close_template
  gives (filled o xs)

-- the text of a template without a hole, if it has one
abbrev pub maybe_text : Gram
maybe_text = maybe (kind template_text >>= λ x. gives (cons x empty)) (no_next template_text)

-- a template without a hole
abbrev pub plain_template : Gram
plain_template = do
  o ← kind open_template
  xs ← maybe_text
  c ← kind close_template
  gives (filled o xs)

-- the key of a pair
abbrev pub key : Gram
key = either (kind name_of) (either (kind plain) plain_template)

-- expr { "," expr } [ "," ], or nothing; the same of pairs, but at least one; or ":"
abbrev pub ended_by_comma : Gram → Gram
ended_by_comma g = listed items_end g >>= λ xs. skips (mark_of m.Comma) no_comma >>= λ c. gives xs

abbrev pub items : ℕ → Place → Gram
items d p = maybe (ended_by_comma (rule (Expr d 0))) no_start >>= λ xs. gives (tree.list p xs)

abbrev pub pairs : ℕ → Place → Gram
pairs d p = ended_by_comma (rule (Pair d)) >>= λ xs. gives (tree.map p xs)

abbrev pub no_pairs : Place → Gram
no_pairs p = mark m.Colon >>= λ c. gives (tree.map p empty)

-- a list or a map after its bracket, which stands at the place
abbrev pub squared : ℕ → Place → Gram
squared d p = either (items d p) (either (pairs d p) (no_pairs p)) >>= λ x. mark m.CloseSquare >>= λ c. gives x

abbrev pub square : ℕ → Gram
square d = opens d m.OpenSquare >>= λ o. squared (suc d) (place_of o)

abbrev pub closure_of : ℕ → Gram
closure_of d = opens d m.OpenBrace >>= λ o. rule (Closure (suc d) (place_of o))

-- ---- closures

abbrev pub names : Gram
names = commas (kind name_of)

-- [ names ] "->"
abbrev pub parameters : Gram
parameters = maybe names (no_next name_of) >>= λ xs. mark m.Arrow >>= λ a. gives (tree.params xs)

-- name ":" expr
abbrev pub label : ℕ → Gram
label d = kind name_of >>= λ n. mark m.Colon >>= λ c. rule (Expr d 0) >>= λ e. gives (tree.label n e)

abbrev pub some_labels : ℕ → Gram
some_labels d = with_sep (label d) >>= λ a. many (no_next name_of) (separated (label d)) 0 (cons a empty)

-- a closure after its parameters
abbrev pub closure_body : ℕ → Place → Tree → Gram
closure_body d p ps = closed (either (rule (Body d)) (some_labels d)) >>= λ xs. gives (tree.closure p ps xs)

-- ---- statements

abbrev pub defined : ℕ → Gram
defined d = do
  w ← kind (keyword_of k.Def)
  n ← kind name_of
  e ← mark m.Equals
  x ← rule (Expr d 0)
  gives (tree.define (place_of w) n x)

abbrev pub all_defined : ℕ → Gram
all_defined d = do
  w ← kind (keyword_of k.Def)
  ns ← round d names
  e ← mark m.Equals
  x ← rule (Expr d 0)
  gives (tree.define_all (place_of w) ns x)

abbrev pub assigned : ℕ → Gram
assigned d = kind name_of >>= λ n. mark m.Equals >>= λ e. rule (Expr d 0) >>= λ x. gives (tree.assign n x)

abbrev pub returned : ℕ → Gram
returned d = kind (keyword_of k.Return) >>= λ w. rule (Expr d 0) >>= λ x. gives (tree.return_ (place_of w) x)

-- `println` and `log.name`, where an expression begins directly after them
abbrev pub print : ℕ → Gram
print d = word (codes "println") >>= λ w. rule (Expr d 0) >>= λ x. gives (tree.println (place_of w) x)

abbrev pub log : ℕ → Gram
log d = word (codes "log") >>= λ w. mark m.Dot >>= λ o. kind name_of >>= λ n. rule (Expr d 0) >>= λ x. gives (tree.log (place_of w) n x)

abbrev pub printed : ℕ → Gram
printed d = only_where prints (print d)

abbrev pub logged : ℕ → Gram
logged d = only_where logs (log d)

-- an expression that is no print
abbrev pub alone : ℕ → Gram
alone d = only_where (λ ts. not (prints ts || logs ts)) (rule (Expr d 0))

abbrev pub block : ℕ → Gram
block d = braced d (rule (Body (suc d))) >>= λ xs. gives (tree.statements xs)

-- "else" and what stands after it, after n arms
abbrev pub else_arm : ℕ → ℕ → Gram
else_arm d n = token (past_chain n) (keyword_of k.Else) >>= λ w. either (block d) (rule (Choice d (suc n)))

-- "if", a condition and statements
abbrev pub arm : ℕ → Gram
arm d = kind (keyword_of k.If) >>= λ w. round d (rule (Expr (suc d) 0)) >>= λ c. block d >>= λ xs. gives (tree.choice (place_of w) c xs empty)

-- an arm with what stands after its `else`
abbrev pub with_else : Tree → Tree → Tree
with_else (tree.choice p c xs x) e = tree.choice p c xs e
with_else _ e = empty

abbrev pub choice : ℕ → ℕ → Gram
choice d n = arm d >>= λ a. maybe (else_arm d n) (no_next (keyword_of k.Else)) >>= λ e. gives (with_else a e)

-- a definition of one name or of several
abbrev pub defines : ℕ → Gram
defines d = either (defined d) (all_defined d)

-- a print, or another expression
abbrev pub plain_statement : ℕ → Gram
plain_statement d = either (printed d) (either (logged d) (alone d))

abbrev pub statement : ℕ → Gram
statement d = either (defines d) (either (assigned d) (either (returned d) (either (rule (Choice d 1)) (plain_statement d))))

-- ---- processes

-- arguments in brackets, which open directly after the name; arguments without brackets
abbrev pub round_args : Gram
round_args = round 1 (maybe (rule (Args 2)) no_start)

abbrev pub bare_args : Gram
bare_args = maybe (only_where (no_next (mark_of m.OpenRound)) (rule (Args 1))) no_start

abbrev pub directive_args : Gram
directive_args = either round_args bare_args

abbrev pub directive : Gram
directive = kind name_of >>= λ n. directive_args >>= λ xs. gives (tree.directive n xs)

-- name, or "(" name ")"
abbrev pub one_name : Gram
one_name = either (kind name_of) (round 1 (kind name_of))

abbrev pub val_input : Gram
val_input = word (codes "val") >>= λ w. one_name >>= λ n. gives (tree.val (place_of w) n)

abbrev pub path_input : Gram
path_input = word (codes "path") >>= λ w. one_name >>= λ n. gives (tree.path (place_of w) n)

abbrev pub input : Gram
input = either val_input (either path_input (word (codes "stdin") >>= λ w. gives (tree.stdin (place_of w))))

abbrev pub tuple_of : Gram → (List Lexeme → Bool) → Gram
tuple_of g ends = word (codes "tuple") >>= λ w. listed ends g >>= λ xs. gives (tree.tuple (place_of w) xs)

abbrev pub input_words : List (List ℕ)
input_words = codes "val" ∷ codes "path" ∷ codes "stdin" ∷ codes "tuple" ∷ []

-- an input, or a tuple of some
abbrev pub some_input : Gram
some_input = either (rule Input) (tuple_of (rule Input) no_comma)

abbrev pub inputs : Gram
inputs = series (no_word input_words) some_input

abbrev pub input_section : Gram
input_section = headed (codes "input") (λ p. inputs >>= λ xs. gives (tree.section p xs))

abbrev pub val_output : Gram
val_output = word (codes "val") >>= λ w. rule (Expr 1 0) >>= λ e. gives (tree.val (place_of w) e)

abbrev pub path_output : Gram
path_output = word (codes "path") >>= λ w. rule (Expr 1 0) >>= λ e. gives (tree.path (place_of w) e)

abbrev pub output_value : Gram
output_value = either val_output (either path_output (word (codes "stdout") >>= λ w. gives (tree.stdout (place_of w))))

-- [ "," ] name ":" expr, put at the end of what was read
abbrev pub option_next : ℕ → Tree → Gram
option_next n acc = skips (mark_of m.Comma) no_comma >>= λ c. label 1 >>= λ o. gives (snoc acc o)

abbrev pub options : Gram
options = many no_option option_next 0 empty

-- the options of an output after its value
abbrev pub with_options : Tree → Gram
with_options v = options >>= λ os. gives (tree.output v os)

-- the value of an output: one part, or a tuple
abbrev pub some_output : Gram
some_output = either output_value (tuple_of output_value outputs_end)

abbrev pub one_output : Gram
one_output = some_output >>= with_options

abbrev pub output_words : List (List ℕ)
output_words = codes "val" ∷ codes "path" ∷ codes "stdout" ∷ codes "tuple" ∷ []

abbrev pub outputs : Gram
outputs = series (no_word output_words) (rule Output)

abbrev pub output_section : Gram
output_section = headed (codes "output") (λ p. outputs >>= λ xs. gives (tree.section p xs))

abbrev pub maybe_section : List ℕ → Gram → Gram
maybe_section x g = maybe g (no_next (word_of x))

-- an input section, where none has been
abbrev pub second_inputs : Tree → Gram
second_inputs empty = maybe_section (codes "input") (rule Inputs)
second_inputs xs = gives xs

abbrev pub body_section : List ℕ → Gram
body_section x = headed x (λ p. rule (Body 1) >>= λ xs. gives (tree.section p xs))

-- a string sep, or a section of statements
abbrev pub string : ℕ → Gram
string d = either (kind plain) (template_of d)

abbrev pub task : Gram
task = either (body_section (codes "script")) (with_sep (string 1))

abbrev pub directives : Gram
directives = series directives_end (rule Directive)

-- the stub, if it has one, and the `}`
abbrev pub stub_end : Gram
stub_end = maybe_section (codes "stub") (body_section (codes "stub")) >>= λ s. closes >>= λ c. gives s

-- what a task runs, the stub and the `}`, of which f makes the tree
abbrev pub task_end : (Tree → Tree → Tree) → Gram
task_end f = rule Task >>= λ t. stub_end >>= λ s. gives (f t s)

-- what stands in a process after its directives
abbrev pub sections : Place → Tree → Tree → Gram
sections p n ds = do
  xs ← maybe_section (codes "input") (rule Inputs)
  ys ← maybe_section (codes "output") (rule Outputs)
  zs ← second_inputs xs
  task_end (tree.process p n ds zs ys)

abbrev pub process_body : Place → Tree → Gram
process_body p n = directives >>= sections p n

abbrev pub process : Gram
process = word (codes "process") >>= λ w. kind name_of >>= λ n. opens 0 m.OpenBrace >>= λ o. process_body (place_of w) n

-- ---- workflows

abbrev pub emit : Gram
emit = either (assigned 1) (rule (Expr 1 0))

abbrev pub taken_names : Gram
taken_names = series directives_end (kind name_of)

abbrev pub take_section : Gram
take_section = headed (codes "take") (λ p. taken_names >>= λ xs. gives (tree.section p xs))

abbrev pub emits : Gram
emits = series no_start emit

abbrev pub emit_section : Gram
emit_section = headed (codes "emit") (λ p. emits >>= λ xs. gives (tree.section p xs))

-- the sections `main` and `emit`, of which f makes the tree
abbrev pub main_parts : (Tree → Tree → Tree) → Gram
main_parts f = do
  b ← body_section (codes "main")
  e ← maybe_section (codes "emit") emit_section
  gives (f b e)

abbrev pub workflow_parts : Gram
workflow_parts = maybe_section (codes "take") take_section >>= λ t. main_parts (tree.parts t)

-- statements alone, or sections
abbrev pub workflow_inside : Gram
workflow_inside = either (rule (Body 1)) (rule Parts)

abbrev pub workflow : Gram
workflow = do
  w ← word (codes "workflow")
  n ← maybe (kind name_of) (no_next name_of)
  b ← braced 0 workflow_inside
  gives (tree.workflow (place_of w) n b)

-- ---- other tops

abbrev pub function : Gram
function = do
  w ← kind (keyword_of k.Def)
  n ← kind name_of
  o ← opens 0 m.OpenRound
  ps ← maybe names (no_next name_of)
  c ← mark m.CloseRound
  b ← braced 0 (rule (Body 1))
  gives (tree.function (place_of w) n ps b)

abbrev pub parameter : Gram
parameter = do
  w ← word (codes "params")
  o ← mark m.Dot
  n ← kind name_of
  e ← mark m.Equals
  x ← rule (Expr 0 0)
  gives (tree.parameter (place_of w) n x)

abbrev pub dsl : Gram
dsl = do
  w ← word (codes "nextflow")
  a ← mark m.Dot
  x ← word (codes "enable")
  b ← mark m.Dot
  y ← word (codes "dsl")
  e ← mark m.Equals
  n ← kind two
  gives (tree.dsl (place_of w))

-- what begins with a word that may also be a name
abbrev pub small_top : Gram
small_top = either parameter (either (print 0) (either (log 0) dsl))

abbrev pub tops : Gram
tops = series no_top (rule Top)

-- ---- the rules

unfoldable pub rules : Level → Gram
rules (Expr d n) = rule (Operands d band.Or) >>= or_more d n
rules (Operands d b) = operand d b >>= after_operand d b
rules (Pre d n) = either (prefixed d n) (rule (Post d))
rules (Post d) = rule (Prim d) >>= many no_post (post_part d) 0
rules (Prim d) = either (kind literal) (either (template_of d) (either (round d (rule (Expr (suc d) 0))) (either (square d) (closure_of d))))
rules (Args d) = commas (rule (Arg d))
rules (Arg d) = maybe (kind name_of >>= λ n. mark m.Colon >>= λ c. gives n) (λ ts. not (labels ts)) >>= λ n. rule (Expr d 0) >>= λ x. gives (with_name n x)
rules (Pair d) = key >>= λ n. mark m.Colon >>= λ c. rule (Expr d 0) >>= λ x. gives (tree.pair n x)
rules (Closure d p) = maybe parameters no_params >>= closure_body d p
rules (Body d) = series body_ends (rule (Stmt d))
rules (Stmt d) = statement d
rules (Choice d n) = choice d n
rules Script = past_separator >>= λ s. tops
rules Top = either (rule Process) (either (rule Workflow) (either (rule Function) small_top))
rules Process = process
rules Directive = directive
rules Input = input
rules Inputs = input_section
rules Output = one_output
rules Outputs = output_section
rules Task = task
rules Workflow = workflow
rules Parts = workflow_parts
rules Function = function
