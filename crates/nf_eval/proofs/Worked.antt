-- Worked expressions: what the definition gives for each.
use Rattle.std.proofs.Common.{◌≡◌, ℕ, ◌+◌, List, pos, negsuc, true, false, [], ◌∷◌, Some, Ok, refl, codes}
use Rattle.std.specs.Fmt.{digits}
use Rattle.nf_value.specs.Plain.{null, truth, int, text, list, plains_of}
use Rattle.nf_value.specs.declared.place.Place.{Place}
use Rattle.nf_value.specs.declared.fault.EvalKind.TheVariants.{WrongKind, DivZero, Arity, NoMethod, NoProperty}
use Rattle.nf_token.specs.declared.token.PlainKind.TheVariants as kind
use Rattle.nf_token.specs.declared.token.TemplateKind.TheVariants as template_kind
use Rattle.nf_ast.specs.declared.operators.InfixOperator.TheVariants as infix_operator
use Rattle.nf_ast.specs.declared.operators.PrefixOperator.TheVariants as before
use Rattle.nf_ast.specs.Tree as tree
use Rattle.nf_ast.specs.Tree.{Tree, empty, cons}
use Rattle.nf_infix.specs.Compare.{matches}
use Rattle.nf_placed.specs.Placed.{fault, made}
use Rattle.nf_placed.specs.Scope.{Env}
use Rattle.nf_eval.specs.Evaluation.{Closing, Definition, functions_of, eval_of, apply_of, branch_of, labels_of}

abbrev at : ℕ → Place
at k = record { line = 1; col = k }

abbrev x_is_ten : Env
x_is_ten = record { names = (codes "x", int (pos 10)) ∷ []; captured = []; functions = []; patterns = codes "a+" ∷ []; titles = codes "one" ∷ []; answer = λ k vs. Some (int (pos 1)); in_process = false }

-- an environment with these functions in place of its own
abbrev with_functions : List Definition → Env → Env
with_functions ds env = record env { functions = functions_of ds env.patterns env.titles env.answer }

abbrev one : Tree
one = tree.number (at 1) (pos 1)

abbrev two : Tree
two = tree.number (at 2) (pos 2)

abbrev zero_div : ℕ → Tree
zero_div k = tree.binary (at k) infix_operator.Remainder one (tree.number (at 3) (pos 0))

abbrev x : Tree
x = tree.name (at 4) (codes "x")

abbrev it : Tree
it = tree.name (at 5) (codes "it")

abbrev both_numbers : Tree
both_numbers = tree.list (at 6) (cons one (cons two empty))

abbrev block_of : Tree → Tree
block_of e = tree.closure (at 7) empty (cons e empty)

-- `1 + 2`, `-7 % 3`, and the place of an operator
sum : eval_of (tree.binary (at 9) infix_operator.Plus one two) x_is_ten ≡ Ok (int (pos 3))
unfolding digits
sum = refl

remainder : eval_of (tree.binary (at 9) infix_operator.Remainder (tree.prefix (at 8) before.Minus (tree.number (at 1) (pos 7))) (tree.number (at 2) (pos 3))) x_is_ten ≡ Ok (int (negsuc 0))
unfolding digits
remainder = refl

at_the_operator : eval_of (tree.binary (at 9) infix_operator.Times one (tree.null (at 3))) x_is_ten ≡ fault WrongKind (at 9)
unfolding digits
at_the_operator = refl

-- the left operand's fault comes first, and a second operand that isn't needed has none
from_the_left : eval_of (tree.binary (at 9) infix_operator.Plus (zero_div 8) (zero_div 10)) x_is_ten ≡ fault DivZero (at 8)
unfolding digits
from_the_left = refl

not_needed : eval_of (tree.binary (at 9) infix_operator.Or one (zero_div 8)) x_is_ten ≡ Ok (truth true)
unfolding digits
not_needed = refl

needed : eval_of (tree.binary (at 9) infix_operator.And one (zero_div 8)) x_is_ten ≡ fault DivZero (at 8)
unfolding digits
needed = refl

elvis : eval_of (tree.elvis (at 9) (tree.number (at 1) (pos 0)) x) x_is_ten ≡ Ok (int (pos 10))
unfolding digits
elvis = refl

chosen : eval_of (tree.conditional (at 9) (tree.null (at 1)) (zero_div 8) two) x_is_ten ≡ Ok (int (pos 2))
unfolding digits
chosen = refl

-- `[1, 2].collect { it + x }`, with and without brackets
images : eval_of (tree.call_with (tree.property both_numbers (tree.name (at 8) (codes "collect"))) (block_of (tree.binary (at 9) infix_operator.Plus it x))) x_is_ten ≡ Ok (list (plains_of (int (pos 11) ∷ int (pos 12) ∷ [])))
unfolding digits
images = refl

images_in_brackets : eval_of (tree.call (at 10) (tree.property both_numbers (tree.name (at 8) (codes "collect"))) (cons (block_of (tree.binary (at 9) infix_operator.Plus it x)) empty)) x_is_ten ≡ Ok (list (plains_of (int (pos 11) ∷ int (pos 12) ∷ [])))
unfolding digits
images_in_brackets = refl

found : eval_of (tree.call_with (tree.property both_numbers (tree.name (at 8) (codes "find"))) (block_of (tree.binary (at 9) infix_operator.Greater it one))) x_is_ten ≡ Ok (int (pos 2))
unfolding digits
found = refl

-- the receiver, then the arguments, then the method
no_method : eval_of (tree.call (at 10) (tree.property one (tree.name (at 8) (codes "trim"))) empty) x_is_ten ≡ fault NoMethod (at 8)
unfolding digits
no_method = refl

arguments_first : eval_of (tree.call (at 10) (tree.property one (tree.name (at 8) (codes "trim"))) (cons (zero_div 9) empty)) x_is_ten ≡ fault DivZero (at 9)
unfolding digits
arguments_first = refl

by_zero : eval_of (tree.call (at 10) (tree.property x (tree.name (at 8) (codes "intdiv"))) (cons (tree.number (at 9) (pos 0)) empty)) x_is_ten ≡ fault DivZero (at 8)
unfolding digits
by_zero = refl

-- null stays null after `?.`, and arguments aren't evaluated
safe : eval_of (tree.call (at 10) (tree.safe_property (tree.null (at 1)) (tree.name (at 8) (codes "trim"))) (cons (zero_div 9) empty)) x_is_ten ≡ Ok null
unfolding digits
safe = refl

no_property : eval_of (tree.property one (tree.name (at 8) (codes "name"))) x_is_ten ≡ fault NoProperty (at 8)
unfolding digits
no_property = refl

larger : eval_of (tree.call (at 10) (tree.property (tree.name (at 1) (codes "Math")) (tree.name (at 8) (codes "max"))) (cons one (cons two empty))) x_is_ten ≡ Ok (int (pos 2))
unfolding digits
larger = refl

native : eval_of (tree.call (at 10) (tree.name (at 8) (codes "one")) empty) x_is_ten ≡ Ok (int (pos 1))
unfolding digits
native = refl

-- "a$x"
printed : eval_of (tree.template (at 9) template_kind.Double (cons (tree.piece (at 1) (codes "a")) (cons (tree.hole (at 2) x) empty))) x_is_ten ≡ Ok (text (codes "a10"))
unfolding digits
printed = refl

keys : eval_of (tree.index (at 9) (tree.map (at 6) (cons (tree.pair (tree.name (at 1) (codes "k")) one) (cons (tree.pair (tree.name (at 1) (codes "k")) two) empty))) (tree.text (at 2) kind.Single (codes "k"))) x_is_ten ≡ Ok (int (pos 2))
unfolding digits
keys = refl

abbrev y : Tree
y = tree.name (at 3) (codes "y")

-- `if (it) { def y = 1; y = 2; return y } 3`
abbrev returns_in_arm : Tree
returns_in_arm = cons (tree.choice (at 1) it (tree.statements (cons (tree.define (at 2) y one) (cons (tree.assign y two) (cons (tree.return_ (at 4) y) empty)))) empty) (cons (tree.number (at 5) (pos 3)) empty)

abbrev closing : Tree → Tree → Closing
closing names b = record { place = at 7; params = names; body = b; env = x_is_ten }

returned : apply_of (closing empty returns_in_arm) (truth true ∷ []) ≡ Ok (int (pos 2))
unfolding digits
returned = refl

went_on : apply_of (closing empty returns_in_arm) (truth false ∷ []) ≡ Ok (int (pos 3))
unfolding digits
went_on = refl

-- an arm rebinds a name of the body around it, and its own names end with it
abbrev rebinds_in_arm : Tree
rebinds_in_arm = cons (tree.choice (at 1) one (tree.statements (cons (tree.define (at 2) x one) (cons (tree.assign it two) empty))) empty) (cons (tree.list (at 6) (cons it (cons x empty))) empty)

rebound : apply_of (closing empty rebinds_in_arm) (null ∷ []) ≡ Ok (list (plains_of (int (pos 2) ∷ int (pos 10) ∷ [])))
unfolding digits
rebound = refl

-- several parameters take the items of one list of that length
abbrev a_and_b : Tree
a_and_b = tree.params (cons (tree.name (at 1) (codes "a")) (cons (tree.name (at 2) (codes "b")) empty))

spread : apply_of (closing a_and_b (cons (tree.name (at 3) (codes "b")) empty)) (list (plains_of (null ∷ truth true ∷ [])) ∷ []) ≡ Ok (truth true)
unfolding digits
spread = refl

wrong_number : apply_of (closing a_and_b empty) (null ∷ []) ≡ fault Arity (at 7)
unfolding digits
wrong_number = refl

no_statement : apply_of (closing empty empty) (null ∷ []) ≡ Ok null
unfolding digits
no_statement = refl

-- `{ def (a, b) = it; b }`
split : apply_of (closing empty (cons (tree.define_all (at 1) (cons (tree.name (at 1) (codes "a")) (cons (tree.name (at 2) (codes "b")) empty)) it) (cons (tree.name (at 3) (codes "b")) empty))) (list (plains_of (null ∷ null ∷ null ∷ [])) ∷ []) ≡ fault Arity (at 1)
unfolding digits
split = refl

-- a closure sees the names around it: `{ def y = 1; [1, 2].collect { it + y } }`
sees_around : apply_of (closing empty (cons (tree.define (at 2) y one) (cons (tree.call_with (tree.property both_numbers (tree.name (at 8) (codes "collect"))) (block_of (tree.binary (at 9) infix_operator.Plus it y))) empty))) (null ∷ []) ≡ Ok (list (plains_of (int (pos 2) ∷ int (pos 3) ∷ [])))
unfolding digits
sees_around = refl

-- a name that is only captured keeps its value: `{ x = 2; x }`
captured : apply_of (closing empty (cons (tree.assign x two) (cons x empty))) (null ∷ []) ≡ Ok (int (pos 10))
unfolding digits
captured = refl

-- a pattern that isn't built is of the wrong kind, after what is matched against it; one that is built is looked for in the text
not_built : eval_of (tree.binary (at 9) infix_operator.Matches (tree.text (at 1) kind.Single (codes "b")) (tree.pattern (at 3) (codes "b"))) x_is_ten ≡ fault WrongKind (at 9)
unfolding digits
not_built = refl

before_the_pattern : eval_of (tree.binary (at 9) infix_operator.Matches (zero_div 8) (tree.pattern (at 3) (codes "b"))) x_is_ten ≡ fault DivZero (at 8)
unfolding digits
before_the_pattern = refl

built : eval_of (tree.binary (at 9) infix_operator.Matches (tree.text (at 1) kind.Single (codes "aa")) (tree.pattern (at 3) (codes "a+"))) x_is_ten ≡ made (at 9) (matches (text (codes "aa")) (codes "a+"))
unfolding digits
built = refl

-- labels
abbrev small_or_large : Tree
small_or_large = cons (tree.label (tree.name (at 1) (codes "small")) (tree.binary (at 2) infix_operator.Less it x)) (cons (tree.label (tree.name (at 3) (codes "large")) (tree.truth (at 4) true)) empty)

branches : branch_of (closing empty small_or_large) (int (pos 12) ∷ []) ≡ Ok (int (pos 1))
unfolding digits
branches = refl

labelled : labels_of (closing empty small_or_large) (int (pos 12) ∷ []) ≡ Ok (list (plains_of (truth false ∷ truth true ∷ [])))
unfolding digits
labelled = refl

-- functions of a script: each calls those before it, sees its parameters alone, and has the place of its own fault
abbrev n : Tree
n = tree.name (at 11) (codes "n")

abbrev calls : ℕ → List ℕ → Tree → Tree
calls k name e = tree.call (at (k + 1)) (tree.name (at k) name) (cons e empty)

abbrev of_one : List ℕ → Tree → Definition
of_one name e = record { name = name; params = codes "n" ∷ []; body = cons e empty }

-- the first calls the second, which calls the first
abbrev two_functions : Env
two_functions = with_functions (of_one (codes "late") (calls 14 (codes "early") (tree.binary (at 16) infix_operator.Plus n one)) ∷ of_one (codes "early") (calls 17 (codes "late") n) ∷ []) x_is_ten

abbrev summing : Env
summing = with_functions (of_one (codes "late") (calls 14 (codes "early") (calls 15 (codes "early") n)) ∷ of_one (codes "early") (tree.binary (at 16) infix_operator.Plus n one) ∷ []) x_is_ten

calls_earlier : eval_of (calls 20 (codes "late") two) summing ≡ Ok (int (pos 4))
unfolding digits
calls_earlier = refl

calls_no_later : eval_of (calls 20 (codes "late") two) two_functions ≡ fault NoMethod (at 17)
unfolding digits
calls_no_later = refl

sees_parameters : eval_of (calls 20 (codes "f") two) (with_functions (of_one (codes "f") x ∷ []) x_is_ten) ≡ Ok null
unfolding digits
sees_parameters = refl

faults_within : eval_of (tree.binary (at 19) infix_operator.Plus one (calls 20 (codes "f") two)) (with_functions (of_one (codes "f") (zero_div 8) ∷ []) x_is_ten) ≡ fault DivZero (at 8)
unfolding digits
faults_within = refl

as_many_arguments : eval_of (tree.call (at 21) (tree.name (at 20) (codes "late")) empty) summing ≡ fault Arity (at 20)
unfolding digits
as_many_arguments = refl

no_block : eval_of (tree.call_with (tree.name (at 20) (codes "late")) (block_of it)) summing ≡ fault WrongKind (at 20)
unfolding digits
no_block = refl
