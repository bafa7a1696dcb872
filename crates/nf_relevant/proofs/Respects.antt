-- Meanings that are the same in environments that are alike.
use Rattle.std.proofs.Common.{◌≡◌, ℕ, List, length, Option, Some, None, Ok, refl, ◌∙◌, ap}
use Rattle.nf_value.specs.Plain.{Plain, null}
use Rattle.nf_value.specs.declared.place.Place.{Place}
use Rattle.nf_value.specs.declared.fault.EvalKind.TheVariants.{WrongKind}
use Rattle.nf_placed.specs.Placed.{Placed, ◌>>=◌, fault}
use Rattle.nf_placed.specs.Scope.{Env, function_in}
use Rattle.nf_placed.specs.Calls.{Argument, plain, Callee, nothing, method, function, math, no_function, called, method_call, math_call, function_call, values_in, by_values, by_function, native_call, unfit_function}
use Rattle.nf_placed.specs.Body.{Flow, going}
use Rattle.nf_eval.specs.Evaluation.{Meaning, Arguments, nothing_there, expression, callable, statement}
use Rattle.nf_relevant.specs.Reads.{AreAlike}
use Rattle.nf_relevant.proofs.Alike.{EndAlike, bind_same, end_after}

module _ (among : List (List ℕ)) where
  abbrev pub Same : {A : Type 0} → (Env → A) → Type 0
  Same f = (one other : Env) → AreAlike among one other → f one ≡ f other

  abbrev pub SameEnd : (Env → Placed Flow) → Type 0
  SameEnd f = (one other : Env) → AreAlike among one other → EndAlike among (f one) (f other)

  pub record Respects (m : Meaning) : Type 0 where
    pub value : Same m.value
    pub applied : (p : Place) (args : Arguments) → Same args → Same (m.applied p args)
    pub closed : (p : Place) (args : Arguments) → Same args → Same (m.closed p args)
    pub argument : Same m.argument
    pub done : SameEnd m.done
    pub written : Same m.written
    pub entry : Same m.entry
    pub items : Same m.items
    pub arguments : Same m.arguments
    pub text : Same m.text
    pub entries : Same m.entries
    pub body : (v : Plain) → SameEnd (λ env. m.body env v)
    pub first_true : (k : ℕ) → Same (λ env. m.first_true env k)

  pub after : {A B : Type 0} (f : Env → Placed A) (g : A → Env → Placed B) → Same f → ((x : A) → Same (g x)) → Same (λ env. f env >>= λ x. g x env)
  after f g h k one other e = bind_same (f one) (f other) (λ x. g x one) (λ x. g x other) (h one other e) (λ x. k x one other e)

  pub after_end : {A : Type 0} (f : Env → Placed A) (g : A → Env → Placed Flow) → Same f → ((x : A) → SameEnd (g x)) → SameEnd (λ env. f env >>= λ x. g x env)
  after_end f g h k one other e = end_after among (f one) (f other) (λ x. g x one) (λ x. g x other) (h one other e) (λ x. k x one other e)

  pub always : {A : Type 0} (a : A) → Same (λ env. a)
  always a one other e = refl

  -- ---- calls

  by_function_same : (p : Place) (n : List ℕ) (vs : List Plain) → Same (λ env. by_function (function_in n env.functions) p n env vs)
  by_function_same p n vs one other e = by_found (function_in n one.functions) (function_in n other.functions) (ap (function_in n) e.functions)
    where
      native : native_call p n one.titles one.answer vs ≡ native_call p n other.titles other.answer vs
      native = ap (λ t. native_call p n t one.answer vs) e.titles ∙ ap (λ a. native_call p n other.titles a vs) e.answer

      by_found : (f g : Option _) → f ≡ g → by_function f p n one vs ≡ by_function g p n other vs
      by_found None g h = native ∙ ap (λ o. by_function o p n other vs) h
      by_found (Some f) g h = ap (λ o. by_function o p n other vs) h

  unfit_same : (n : List ℕ) (k : ℕ) → Same (λ env. unfit_function (function_in n env.functions) n env k)
  unfit_same n k one other e = by_found (function_in n one.functions) (function_in n other.functions) (ap (function_in n) e.functions)
    where
      by_found : (f g : Option _) → f ≡ g → unfit_function f n one k ≡ unfit_function g n other k
      by_found None g h = ap (λ t. unfit_function None n (record one { titles = t }) k) e.titles ∙ ap (λ o. unfit_function o n other k) h
      by_found (Some f) g h = ap (λ o. unfit_function o n other k) h

  function_call_same : (p : Place) (n : List ℕ) (xs : List Argument) → Same (λ env. function_call p n env xs)
  function_call_same p n xs one other e = by_all (values_in xs)
    where
      by_all : (o : Option (List Plain))
          → by_values p (unfit_function (function_in n one.functions) n one (length xs)) o (λ vs. by_function (function_in n one.functions) p n one vs)
          ≡ by_values p (unfit_function (function_in n other.functions) n other (length xs)) o (λ vs. by_function (function_in n other.functions) p n other vs)
      by_all None = ap (λ k. fault k p) (unfit_same n (length xs) one other e)
      by_all (Some vs) = by_function_same p n vs one other e

  pub called_same : (c : Callee) (args : Arguments) → Same args → Same (called c args)
  called_same nothing args h = always (Ok null)
  called_same (method v p n) args h = after args (λ xs env. method_call p n v xs) h (λ xs. always (method_call p n v xs))
  called_same (function p n) args h = after args (λ xs env. function_call p n env xs) h (function_call_same p n)
  called_same (math p n) args h = after args (λ xs env. math_call p n xs) h (λ xs. always (math_call p n xs))
  called_same (no_function p) args h = after args (λ xs env. fault WrongKind p) h (λ xs. always (fault WrongKind p))

  -- ---- kinds of parts

  going_same : (v : Plain) → SameEnd (λ env. Ok (going env v))
  going_same v one other e = (e, refl)

  pub respects_nothing : Respects nothing_there
  respects_nothing = record {
    value = always _;
    applied = λ p args h. always _;
    closed = λ p args h. always _;
    argument = always _;
    done = going_same null;
    written = always _;
    entry = always _;
    items = always _;
    arguments = always _;
    text = always _;
    entries = always _;
    body = going_same;
    first_true = λ k. always _;
  }

  pub respects_expression : (value : Env → Placed Plain) → Same value → Respects (expression value)
  respects_expression value h = record {
    value = h;
    applied = λ p args k. after value (λ v. called (no_function p) args) h (λ v. called_same (no_function p) args k);
    closed = λ p args k. after value (λ v. called (no_function p) args) h (λ v. called_same (no_function p) args k);
    argument = after value (λ v env. Ok (plain v)) h (λ v. always (Ok (plain v)));
    done = after_end value (λ v env. Ok (going env v)) h going_same;
    written = always _;
    entry = always _;
    items = always _;
    arguments = always _;
    text = always _;
    entries = always _;
    body = going_same;
    first_true = λ k. always _;
  }

  pub respects_callable : (value : Env → Placed Plain) (callee : Env → Placed Callee) → Same value → Same callee → Respects (callable value callee)
  respects_callable value callee h k = record {
    value = h;
    applied = λ p args a. after callee (λ c. called c args) k (λ c. called_same c args a);
    closed = λ p args a. after callee (λ c. called c args) k (λ c. called_same c args a);
    argument = after value (λ v env. Ok (plain v)) h (λ v. always (Ok (plain v)));
    done = after_end value (λ v env. Ok (going env v)) h going_same;
    written = always _;
    entry = always _;
    items = always _;
    arguments = always _;
    text = always _;
    entries = always _;
    body = going_same;
    first_true = λ k. always _;
  }

  pub respects_statement : (done : Env → Placed Flow) → SameEnd done → Respects (statement done)
  respects_statement done h = record {
    value = always _;
    applied = λ p args k. always _;
    closed = λ p args k. always _;
    argument = always _;
    done = h;
    written = always _;
    entry = always _;
    items = always _;
    arguments = always _;
    text = always _;
    entries = always _;
    body = going_same;
    first_true = λ k. always _;
  }
