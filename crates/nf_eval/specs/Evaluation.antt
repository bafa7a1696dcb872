-- What an expression means in an environment: a value, or its first fault from the left, with its place.
use Rattle.std.specs.Prelude.{ℕ, pos, ◌+◌, Bool, true, false, List, [], ◌∷◌, ◌++◌, length, if◌then◌else◌, Option, Some, None, Ok}
use Rattle.nf_value.specs.Plain.{Plain, null, truth, int, text}
use Rattle.nf_value.specs.Truth.{truth_of}
use Rattle.nf_value.specs.declared.place.Place.{Place}
use Rattle.nf_value.specs.declared.fault.EvalKind.TheVariants.{WrongKind}
use Rattle.nf_builtins.specs.Lists.{list_of}
use Rattle.nf_builtins.specs.Natives.{is_among}
use Rattle.nf_ast.specs.declared.operators.InfixOperator.{InfixOperator}
use Rattle.nf_ast.specs.declared.operators.InfixOperator.TheVariants as infix_operator
use Rattle.nf_ast.specs.Tree as tree
use Rattle.nf_ast.specs.Tree.{Tree, empty, cons, place_of}
use Rattle.nf_infix.specs.Compare.{matches}
use Rattle.nf_infix.specs.Literal.{new_list, new_map}
use Rattle.nf_infix.specs.Property.{property}
use Rattle.nf_infix.specs.Read.{index}
use Rattle.nf_infix.specs.Template.{hole_text}
use Rattle.nf_placed.specs.Placed.{Placed, ◌>>=◌, fault, made}
use Rattle.nf_placed.specs.Operators.{infix_of, prefix_of}
use Rattle.nf_placed.specs.Scope.{Env, Function, value_of, defined, rebound, left_by, inside}
use Rattle.nf_placed.specs.Calls.{Argument, plain, block, Callee, nothing, method, function, math, no_function, called}
use Rattle.nf_placed.specs.Body.{Flow, going, returned, value_of_body, name_in, key_text, pattern_in, is_math, names_in, bound, paired, split, with_all}

-- arguments, evaluated in an environment
abbrev pub Arguments : Type 0
Arguments = Env → Placed (List Argument)

-- what a part of a script means, by where it stands
pub record Meaning : Type 0 where
  -- as an expression, before arguments at a place, before a closure at a place, and as an argument
  pub value : Env → Placed Plain
  pub applied : Place → Arguments → Env → Placed Plain
  pub closed : Place → Arguments → Env → Placed Plain
  pub argument : Env → Placed Argument
  -- as a statement
  pub done : Env → Placed Flow
  -- as a part of a template, and as a pair of a map
  pub written : Env → Placed (List ℕ)
  pub entry : Env → Placed (List ℕ × Plain)
  -- parts in a row: as items, arguments, parts of a template, pairs and statements, where the last value is carried on, and as labels, where the
  -- places before are counted
  pub items : Env → Placed (List Plain)
  pub arguments : Arguments
  pub text : Env → Placed (List ℕ)
  pub entries : Env → Placed (List (List ℕ × Plain))
  pub body : Env → Plain → Placed Flow
  pub first_true : Env → ℕ → Placed Plain

-- the place of faults that no text of a script has
abbrev pub nowhere : Place
nowhere = record { line = 0; col = 0 }

abbrev pub nothing_there : Meaning
nothing_there = record {
  value = λ env. fault WrongKind nowhere;
  applied = λ p args env. fault WrongKind p;
  closed = λ p args env. fault WrongKind p;
  argument = λ env. fault WrongKind nowhere;
  done = λ env. Ok (going env null);
  written = λ env. Ok [];
  entry = λ env. fault WrongKind nowhere;
  items = λ env. Ok [];
  arguments = λ env. Ok [];
  text = λ env. Ok [];
  entries = λ env. Ok [];
  body = λ env last. Ok (going env last);
  first_true = λ env k. Ok null;
}

-- what can't be called: a call of it is of the wrong kind, once its arguments have values
abbrev pub expression : (Env → Placed Plain) → Meaning
expression value = record nothing_there {
  value = value;
  applied = λ p args env. value env >>= λ v. called (no_function p) args env;
  closed = λ p args env. value env >>= λ v. called (no_function p) args env;
  argument = λ env. value env >>= λ v. Ok (plain v);
  done = λ env. value env >>= λ v. Ok (going env v);
}

-- what can be called, with or without brackets before a closure
abbrev pub callable : (Env → Placed Plain) → (Env → Placed Callee) → Meaning
callable value callee = record (expression value) {
  applied = λ p args env. callee env >>= λ c. called c args env;
  closed = λ p args env. callee env >>= λ c. called c args env;
}

abbrev pub statement : (Env → Placed Flow) → Meaning
statement done = record nothing_there { done = done }

-- ---- infix operators

abbrev pub either : (Env → Placed Plain) → (Env → Placed Plain) → Env → Placed Plain
either a b env = a env >>= λ v. if truth_of v then Ok (truth true) else b env >>= λ w. Ok (truth (truth_of w))

abbrev pub both : (Env → Placed Plain) → (Env → Placed Plain) → Env → Placed Plain
both a b env = a env >>= λ v. if truth_of v then (b env >>= λ w. Ok (truth (truth_of w))) else Ok (truth false)

-- `==~` wants a pattern or a plain string after it, and that pattern has to be built
abbrev pub matched : Place → (Env → Placed Plain) → Option (List ℕ) → (Env → Placed Plain) → Env → Placed Plain
matched p a (Some re) b env = a env >>= λ v. if is_among re env.patterns then made p (matches v re) else fault WrongKind p
matched p a None b env = a env >>= λ v. b env >>= λ w. fault WrongKind p

abbrev pub binary : Place → InfixOperator → (Env → Placed Plain) → Option (List ℕ) → (Env → Placed Plain) → Env → Placed Plain
binary p infix_operator.Or a re b env = either a b env
binary p infix_operator.And a re b env = both a b env
binary p infix_operator.Matches a re b env = matched p a re b env
binary p k a re b env = a env >>= λ v. b env >>= λ w. made p (infix_of k v w)

-- ---- closures

-- the result of a closure for arguments. Its body captures the names around it
abbrev pub closure : Place → Tree → (Env → Plain → Placed Flow) → Env → List Plain → Placed Plain
closure p ps body env vs = bound p ps vs >>= λ ns. body (with_all ns (inside env)) null >>= λ f. Ok (value_of_body f)

-- the place of a closure's `{`
abbrev pub opening : Tree → Place
opening (tree.closure p ps b) = p
opening _ = nowhere

-- ---- names that are read

abbrev pub method_of : Bool → (Env → Placed Plain) → Place → List ℕ → Env → Placed Callee
method_of true value p n env = Ok (math p n)
method_of false value p n env = value env >>= λ v. Ok (method v p n)

-- after `?.` null stays null
abbrev pub read_safe : Place → List ℕ → Plain → Placed Plain
read_safe p n null = Ok null
read_safe p n v = made p (property v n)

abbrev pub safe_method : Place → List ℕ → Plain → Callee
safe_method p n null = nothing
safe_method p n v = method v p n

-- ---- statements

-- after braces the names that they defined are gone
abbrev pub left : Env → Flow → Flow
left outer (going inner v) = going (left_by outer inner) v
left outer (returned v) = returned v

abbrev pub next : (Env → Plain → Placed Flow) → Flow → Placed Flow
next more (going env v) = more env v
next more (returned v) = Ok (returned v)

abbrev pub chosen : (Env → Placed Flow) → (Env → Placed Flow) → Env → Bool → Placed Flow
chosen body last env true = body env
chosen body last env false = last env

-- ---- all parts

abbrev pub meaning_of : Tree → Meaning
meaning_of empty = nothing_there
meaning_of (cons a more) = record nothing_there {
  items = λ env. (meaning_of a).value env >>= λ v. (meaning_of more).items env >>= λ vs. Ok (v ∷ vs);
  arguments = λ env. (meaning_of a).argument env >>= λ x. (meaning_of more).arguments env >>= λ xs. Ok (x ∷ xs);
  text = λ env. (meaning_of a).written env >>= λ s. (meaning_of more).text env >>= λ t. Ok (s ++ t);
  entries = λ env. (meaning_of a).entry env >>= λ x. (meaning_of more).entries env >>= λ xs. Ok (x ∷ xs);
  body = λ env last. (meaning_of a).done env >>= next (meaning_of more).body;
  first_true = λ env k. (meaning_of a).value env >>= λ v. if truth_of v then Ok (int (pos k)) else (meaning_of more).first_true env (k + 1);
}
meaning_of (tree.number p i) = expression (λ env. Ok (int i))
meaning_of (tree.text p k s) = expression (λ env. Ok (text s))
meaning_of (tree.pattern p s) = expression (λ env. fault WrongKind p)
meaning_of (tree.template p k xs) = expression (λ env. (meaning_of xs).text env >>= λ t. made p (Ok (text t)))
meaning_of (tree.piece p s) = record nothing_there { written = λ env. Ok s }
meaning_of (tree.hole p e) = record nothing_there { written = λ env. (meaning_of e).value env >>= λ v. Ok (hole_text env.in_process v) }
meaning_of (tree.truth p b) = expression (λ env. Ok (truth b))
meaning_of (tree.null p) = expression (λ env. Ok null)
meaning_of (tree.name p n) = callable (λ env. Ok (value_of n env)) (λ env. Ok (function p n))
meaning_of (tree.list p xs) = expression (λ env. (meaning_of xs).items env >>= λ vs. made p (new_list vs))
meaning_of (tree.map p xs) = expression (λ env. (meaning_of xs).entries env >>= λ ps. made p (new_map ps))
meaning_of (tree.pair k e) = record nothing_there { entry = λ env. (meaning_of e).value env >>= λ v. Ok (key_text k, v) }
meaning_of (tree.closure p ps b) = record (expression (λ env. fault WrongKind p)) {
  argument = λ env. Ok (block (closure p ps (meaning_of b).body env));
}
meaning_of (tree.label n e) = expression (meaning_of e).value
meaning_of (tree.prefix p k e) = expression (λ env. (meaning_of e).value env >>= λ v. made p (prefix_of k v))
meaning_of (tree.binary p k a b) = expression (binary p k (meaning_of a).value (pattern_in b) (meaning_of b).value)
meaning_of (tree.conditional p c a b) = expression (λ env. (meaning_of c).value env >>= λ v. if truth_of v then (meaning_of a).value env else (meaning_of b).value env)
meaning_of (tree.elvis p a b) = expression (λ env. (meaning_of a).value env >>= λ v. if truth_of v then Ok v else (meaning_of b).value env)
meaning_of (tree.property e n) = callable (λ env. (meaning_of e).value env >>= λ v. made (place_of n) (property v (name_in n))) (method_of (is_math e) (meaning_of e).value (place_of n) (name_in n))
meaning_of (tree.safe_property e n) = callable (λ env. (meaning_of e).value env >>= read_safe (place_of n) (name_in n)) (λ env. (meaning_of e).value env >>= λ v. Ok (safe_method (place_of n) (name_in n) v))
meaning_of (tree.index p e i) = expression (λ env. (meaning_of e).value env >>= λ v. (meaning_of i).value env >>= λ w. made p (index v w))
meaning_of (tree.call p f xs) = record (expression (λ env. (meaning_of f).applied p (meaning_of xs).arguments env)) {
  closed = λ q more env. (meaning_of f).applied p (λ inner. (meaning_of xs).arguments inner >>= λ first. more inner >>= λ second. Ok (first ++ second)) env;
}
meaning_of (tree.named n e) = record (expression (meaning_of e).value) { argument = λ env. fault WrongKind (place_of n) }
meaning_of (tree.call_with f c) = expression (λ env. (meaning_of f).closed (opening c) (λ inner. (meaning_of c).argument inner >>= λ x. Ok (x ∷ [])) env)
meaning_of (tree.define p n e) = statement (λ env. (meaning_of e).value env >>= λ v. Ok (going (defined (name_in n) v env) null))
meaning_of (tree.define_all p ns e) = statement (λ env. (meaning_of e).value env >>= λ v. split p (names_in ns) v >>= λ bs. Ok (going (with_all bs env) null))
meaning_of (tree.assign n e) = statement (λ env. (meaning_of e).value env >>= λ v. Ok (going (rebound (name_in n) v env) null))
meaning_of (tree.return_ p e) = statement (λ env. (meaning_of e).value env >>= λ v. Ok (returned v))
meaning_of (tree.choice p c b last) = statement (λ env. (meaning_of c).value env >>= λ v. chosen (meaning_of b).done (meaning_of last).done env (truth_of v))
meaning_of (tree.statements b) = statement (λ env. (meaning_of b).body env null >>= λ f. Ok (left env f))
meaning_of (tree.println p e) = nothing_there
meaning_of (tree.log p n e) = nothing_there
meaning_of _ = nothing_there

-- ---- what contracts say

-- the value of an expression
abbrev pub eval_of : Tree → Env → Placed Plain
eval_of e env = (meaning_of e).value env

-- the value of statements as a body
abbrev pub body_of : Tree → Env → Placed Plain
body_of b env = (meaning_of b).body env null >>= λ f. Ok (value_of_body f)

-- a closure: its place, parameters and body, and the names around it when it was made
pub record Closing : Type 0 where
  pub place : Place
  pub params : Tree
  pub body : Tree
  pub env : Env

abbrev pub apply_of : Closing → List Plain → Placed Plain
apply_of c vs = bound c.place c.params vs >>= λ ns. body_of c.body (with_all ns (inside c.env))

-- the number of the first label that is true, from 0, or null; and the values of all labels
abbrev pub branch_of : Closing → List Plain → Placed Plain
branch_of c vs = bound c.place c.params vs >>= λ ns. (meaning_of c.body).first_true (with_all ns (inside c.env)) 0

abbrev pub labels_of : Closing → List Plain → Placed Plain
labels_of c vs = bound c.place c.params vs >>= λ ns. (meaning_of c.body).items (with_all ns (inside c.env)) >>= λ ws. Ok (list_of ws)

-- ---- functions, where each calls only those before it

pub record Definition : Type 0 where
  pub name : List ℕ
  pub params : List (List ℕ)
  pub body : Tree

-- each function gives the value of its body, in which its parameters are the only names
abbrev pub functions_of : List Definition → List (List ℕ) → List (List ℕ) → (ℕ → List Plain → Option Plain) → List Function
functions_of [] patterns titles answer = []
functions_of (d ∷ earlier) patterns titles answer = record {
  name = d.name;
  arity = length d.params;
  gives = λ vs. body_of d.body (with_all (paired d.params vs) (record {
    names = [];
    captured = [];
    functions = functions_of earlier patterns titles answer;
    patterns = patterns;
    titles = titles;
    answer = answer;
    in_process = false;
  }));
} ∷ functions_of earlier patterns titles answer
