-- What comes of the parts that stand in one list.
use Rattle.std.proofs.Common.{◌≡◌, ◌∙◌, ℕ, suc, Bool, true, false, List, [], ◌∷◌, ◌++◌, length, map, Ok, Err, refl, sym, ap, subst, codes}
use Rattle.std.specs.Prelude.{Option, Some, None, Result}
use Rattle.std.proofs.lemmas.Slice.Eq.{bytes_eq-Decides}
use Rattle.std.proofs.lemmas.Bool.{false≢true}
use Rattle.nf_value.specs.Plain.{Plain, null}
use Rattle.nf_value.specs.View.{plain_of}
use Rattle.nf_value.specs.declared.value.Value.{Value}
use Rattle.nf_value.specs.declared.place.Place.{Place}
use Rattle.nf_value.specs.declared.fault.EvalFault.{EvalFault}
use Rattle.nf_value.specs.declared.fault.EvalRefusal.{EvalRefusal}
use Rattle.nf_value.specs.declared.fault.EvalRefusal.TheVariants as refusal
use Rattle.nf_value.specs.declared.fault.EvalKind.TheVariants.{WrongKind}
use Rattle.nf_ast.specs.declared.operators.InfixOperator.{InfixOperator}
use Rattle.nf_ast.specs.declared.operators.InfixOperator.TheVariants as infix_operator
use Rattle.nf_ast.specs.declared.expr.Prefix.{Prefix}
use Rattle.nf_ast.specs.declared.expr.Postfix.{Postfix}
use Rattle.nf_ast.specs.declared.expr.ClosureBody.TheOpen as o
use Rattle.nf_ast.specs.declared.expr.ClosureBody.TheOpen.{Postfix-F}
use Rattle.nf_ast.specs.declared.expr.ClosureBody.TheFolds.{fold_out-Postfix}
use Rattle.nf_ast.specs.Tree as tree
use Rattle.nf_ast.specs.Tree.{Tree}
use Rattle.nf_ast.specs.View.{BranchTree, ArmTree, applied, postfix, operands, prefixes, trees, view_postfix, body_step, expr_step, piece_step, postfix_step, stmt_step, arg_step, arm_step, branch_step, closure_step, label_step, operand_step, pair_step}
use Rattle.nf_placed.specs.Placed.{Placed, ◌>>=◌, fault, made, Evaluates}
use Rattle.nf_placed.specs.Operators.{prefix_of}
use Rattle.nf_placed.specs.Scope.{Env, value_of}
use Rattle.nf_placed.specs.Calls.{Argument, block, Callee, nothing, method, function, math, no_function, called, method_call, function_call, math_call}
use Rattle.nf_infix.specs.Read.{index}
use Rattle.nf_placed.specs.Body.{pattern_in}
use Rattle.nf_infix.specs.Property.{property}
use Rattle.nf_placed.specs.Body.{is_math}
use Rattle.nf_eval.specs.Evaluation.{Arguments, meaning_of, binary, method_of, read_safe, safe_method, opening}
use Rattle.nf_eval.specs.Shapes.{is_flat, is_closure, block_of}
use Rattle.nf_eval.proofs.Shaping.{closure_argument}
use Rattle.nf_eval.specs.Gives.{IsRefused}
use Rattle.nf_eval.proofs.Evaluating.{refused_on, refused_at}
use Rattle.nf_eval.specs.declared.subjects.Subject.{Subject}
use Rattle.nf_eval.specs.declared.subjects.Subject.TheVariants as s
use Rattle.nf_eval.specs.declared.subjects.Called.{Called}
use Rattle.nf_eval.specs.Chains.{prefixed, combined, going_on, callee_of, takes, placed_value, has_value, closure_next, IsReady, value_at, applied_at, is_math_at, and_more, Stands, Fails, Comes, IsCall, Waits}
use Rattle.nf_eval.specs.declared.subjects.Waiting.{Waiting}

kept : (r : Placed Plain) → r ≡ (r >>= λ v. Ok v)
kept (Ok v) = refl
kept (Err e) = refl

regrouped : (r : Placed Plain) (f g : Plain → Placed Plain) → ((r >>= f) >>= g) ≡ (r >>= λ v. f v >>= g)
regrouped (Ok v) f g = refl
regrouped (Err e) f g = refl

-- ---- operators before an operand

pub prefixes_value : (ms : List Prefix) (e : Tree) (env : Env) → (meaning_of (prefixes ms e)).value env ≡ ((meaning_of e).value env >>= prefixed ms)
prefixes_value [] e env = kept ((meaning_of e).value env)
prefixes_value (x ∷ ms) e env = ap (λ (r : Placed Plain). r >>= λ v. made x.place (prefix_of x.operator v)) (prefixes_value ms e env) ∙ regrouped ((meaning_of e).value env) (prefixed ms) (λ v. made x.place (prefix_of x.operator v))

-- ---- operands

binary_first : (p : Place) (k : InfixOperator) (a : Env → Placed Plain) (re : Option (List ℕ)) (b : Env → Placed Plain) (env : Env) → binary p k a re b env ≡ (a env >>= λ v. binary p k (λ e. Ok v) re b env)
binary_first p infix_operator.Or a re b env = refl
binary_first p infix_operator.And a re b env = refl
binary_first p infix_operator.Matches a (Some t) b env = refl
binary_first p infix_operator.Matches a None b env = refl
binary_first p infix_operator.Pipe a re b env = refl
binary_first p infix_operator.Same a re b env = refl
binary_first p infix_operator.Differs a re b env = refl
binary_first p infix_operator.Less a re b env = refl
binary_first p infix_operator.AtMost a re b env = refl
binary_first p infix_operator.Greater a re b env = refl
binary_first p infix_operator.AtLeast a re b env = refl
binary_first p infix_operator.In a re b env = refl
binary_first p infix_operator.Range a re b env = refl
binary_first p infix_operator.Plus a re b env = refl
binary_first p infix_operator.Minus a re b env = refl
binary_first p infix_operator.Times a re b env = refl
binary_first p infix_operator.Remainder a re b env = refl

pub operands_value : (a : Tree) (xs : List Tree) (env : Env) → (meaning_of (operands a xs)).value env ≡ ((meaning_of a).value env >>= going_on xs env)
operands_value a [] env = kept ((meaning_of a).value env)
operands_value a (tree.binary p k x b ∷ xs) env = operands_value (tree.binary p k a b) xs env ∙ ap (λ (r : Placed Plain). r >>= going_on xs env) (binary_first p k (meaning_of a).value (pattern_in b) (meaning_of b).value env) ∙ regrouped ((meaning_of a).value env) (combined p k b env) (going_on xs env)
operands_value a (_ ∷ xs) env = operands_value a xs env

-- ---- what can't be called

record IsFlatly (t : Tree) (env : Env) : Type 0 where
  applied_is : (p : Place) (args : Arguments) → (meaning_of t).applied p args env ≡ ((meaning_of t).value env >>= λ v. called (no_function p) args env)
  closed_is : (p : Place) (args : Arguments) → (meaning_of t).closed p args env ≡ ((meaning_of t).value env >>= λ v. called (no_function p) args env)
  no_math : is_math t ≡ false

flat_is : (env : Env) (t : Tree) → is_flat t ≡ true → IsFlatly t env
flat_is env (tree.number p i) h = record { applied_is = λ q args. refl; closed_is = λ q args. refl; no_math = refl }
flat_is env (tree.text p k x) h = record { applied_is = λ q args. refl; closed_is = λ q args. refl; no_math = refl }
flat_is env (tree.pattern p x) h = record { applied_is = λ q args. refl; closed_is = λ q args. refl; no_math = refl }
flat_is env (tree.template p k xs) h = record { applied_is = λ q args. refl; closed_is = λ q args. refl; no_math = refl }
flat_is env (tree.truth p b) h = record { applied_is = λ q args. refl; closed_is = λ q args. refl; no_math = refl }
flat_is env (tree.null p) h = record { applied_is = λ q args. refl; closed_is = λ q args. refl; no_math = refl }
flat_is env (tree.list p xs) h = record { applied_is = λ q args. refl; closed_is = λ q args. refl; no_math = refl }
flat_is env (tree.map p xs) h = record { applied_is = λ q args. refl; closed_is = λ q args. refl; no_math = refl }
flat_is env (tree.closure p ps b) h = record { applied_is = λ q args. refl; closed_is = λ q args. refl; no_math = refl }
flat_is env (tree.prefix p k e) h = record { applied_is = λ q args. refl; closed_is = λ q args. refl; no_math = refl }
flat_is env (tree.binary p k a b) h = record { applied_is = λ q args. refl; closed_is = λ q args. refl; no_math = refl }
flat_is env (tree.conditional p c a b) h = record { applied_is = λ q args. refl; closed_is = λ q args. refl; no_math = refl }
flat_is env (tree.elvis p a b) h = record { applied_is = λ q args. refl; closed_is = λ q args. refl; no_math = refl }
flat_is env (tree.index p e i) h = record { applied_is = λ q args. refl; closed_is = λ q args. refl; no_math = refl }
flat_is env (tree.call_with f c) h = record { applied_is = λ q args. refl; closed_is = λ q args. refl; no_math = refl }
flat_is env _ h = absurd (false≢true h)

pub flat_stands : (t : Tree) (env : Env) (v : Value) → is_flat t ≡ true → (meaning_of t).value env ≡ Ok (plain_of v) → Stands t env (s.Value v)
flat_stands t env v f h =
    let is = flat_is env t f in
    record {
      is_value = λ has. h;
      is_applied = λ has p args. is.applied_is p args ∙ ap (λ (r : Placed Plain). r >>= λ w. called (no_function p) args env) h;
      is_closed = λ q more. is.closed_is q more ∙ ap (λ (r : Placed Plain). r >>= λ w. called (no_function q) more env) h;
      names_math = is.no_math;
    }

pub flat_fails : (t : Tree) (env : Env) (x : EvalFault) → is_flat t ≡ true → (meaning_of t).value env ≡ Err x → Fails t env x
flat_fails t env x f h =
    let is = flat_is env t f in
    record {
      no_value = h;
      not_applied = λ p args. is.applied_is p args ∙ ap (λ (r : Placed Plain). r >>= λ w. called (no_function p) args env) h;
      not_closed = λ q more. is.closed_is q more ∙ ap (λ (r : Placed Plain). r >>= λ w. called (no_function q) more env) h;
    }

pub prefixes_flat : (x : Prefix) (ms : List Prefix) (e : Tree) → is_flat (prefixes (x ∷ ms) e) ≡ true
prefixes_flat x ms e = refl

-- what has its value is ready, whatever comes next
pub ready : (closure : Bool) (t : Tree) (env : Env) (y : Subject) → Stands t env y → has_value y ≡ true → Comes closure t env (Ok y)
ready closure t env y h has = (h, λ n. has)

-- whether a part is a closure, whatever comes after it
same_first : (t : Tree) (xs ys : List Tree) (a b : Bool) → closure_next (t ∷ xs) a ≡ closure_next (t ∷ ys) b
same_first (tree.call_with f c) xs ys a b = refl
same_first _ xs ys a b = refl

pub ready_first : (x : Postfix) (now more : List Postfix) (a b : Bool) (s : Subject) → now ≡ x ∷ more → IsReady (closure_next (map view_postfix now) b) s → IsReady (closure_next (view_postfix x ∷ []) a) s
ready_first x now more a b s left h n = h (ap (λ l. closure_next (map view_postfix l) b) left ∙ same_first (view_postfix x) (map view_postfix more) [] b a ∙ n)

-- ---- names, and what is read of a value

pub name_stands : (p : Place) (n : List ℕ) (env : Env) → Stands (tree.name p n) env (s.Name p n)
name_stands p n env = record { is_value = λ has. refl; is_applied = λ has q args. refl; is_closed = λ q more. refl; names_math = refl }

module _ (t : Tree) (env : Env) (p : Place) (n : List ℕ) where
  -- a property
  called_method : (args : Arguments) (v : Plain) → is_math t ≡ false → (meaning_of t).value env ≡ Ok v → (method_of (is_math t) (meaning_of t).value p n env >>= λ c. called c args env) ≡ called (method v p n) args env
  called_method args v m h = ap (λ (b : Bool). method_of b (meaning_of t).value p n env >>= λ c. called c args env) m ∙ ap (λ (r : Placed Plain). (r >>= λ w. Ok (method w p n)) >>= λ c. called c args env) h

  failed_method : (args : Arguments) (x : EvalFault) → is_math t ≡ false → (meaning_of t).value env ≡ Err x → (method_of (is_math t) (meaning_of t).value p n env >>= λ c. called c args env) ≡ Err x
  failed_method args x m h = ap (λ (b : Bool). method_of b (meaning_of t).value p n env >>= λ c. called c args env) m ∙ ap (λ (r : Placed Plain). (r >>= λ w. Ok (method w p n)) >>= λ c. called c args env) h

  pub property_stands : (w : Value) → is_math t ≡ false → (meaning_of t).value env ≡ Ok (plain_of w) → Stands (tree.property t (tree.name p n)) env (s.Property w p n)
  property_stands w m h = record {
    is_value = λ has. ap (λ (r : Placed Plain). r >>= λ v. made p (property v n)) h;
    is_applied = λ has q args. called_method args (plain_of w) m h;
    is_closed = λ q more. called_method more (plain_of w) m h;
    names_math = refl;
  }

  pub property_fails : (x : EvalFault) → is_math t ≡ false → (meaning_of t).value env ≡ Err x → Fails (tree.property t (tree.name p n)) env x
  property_fails x m h = record {
    no_value = ap (λ (r : Placed Plain). r >>= λ v. made p (property v n)) h;
    not_applied = λ q args. failed_method args x m h;
    not_closed = λ q more. failed_method more x m h;
  }

  pub math_stands : is_math t ≡ true → (meaning_of t).value env ≡ Ok (value_of (codes "Math") env) → Stands (tree.property t (tree.name p n)) env (s.Math p n)
  math_stands m h = record {
    is_value = λ has. ap (λ (r : Placed Plain). r >>= λ v. made p (property v n)) h;
    is_applied = λ has q args. ap (λ (b : Bool). method_of b (meaning_of t).value p n env >>= λ c. called c args env) m;
    is_closed = λ q args. ap (λ (b : Bool). method_of b (meaning_of t).value p n env >>= λ c. called c args env) m;
    names_math = refl;
  }

  pub safe_stands : (w : Value) → (meaning_of t).value env ≡ Ok (plain_of w) → Stands (tree.safe_property t (tree.name p n)) env (s.Safe w p n)
  safe_stands w h = record {
    is_value = λ has. ap (λ (r : Placed Plain). r >>= read_safe p n) h;
    is_applied = λ has q args. ap (λ (r : Placed Plain). (r >>= λ v. Ok (safe_method p n v)) >>= λ c. called c args env) h;
    is_closed = λ q args. ap (λ (r : Placed Plain). (r >>= λ v. Ok (safe_method p n v)) >>= λ c. called c args env) h;
    names_math = refl;
  }

  pub safe_fails : (x : EvalFault) → (meaning_of t).value env ≡ Err x → Fails (tree.safe_property t (tree.name p n)) env x
  safe_fails x h = record {
    no_value = ap (λ (r : Placed Plain). r >>= read_safe p n) h;
    not_applied = λ q args. ap (λ (r : Placed Plain). (r >>= λ v. Ok (safe_method p n v)) >>= λ c. called c args env) h;
    not_closed = λ q args. ap (λ (r : Placed Plain). (r >>= λ v. Ok (safe_method p n v)) >>= λ c. called c args env) h;
  }

-- the name `Math` has its value
pub math_value : (t : Tree) (env : Env) (x : Subject) → Stands t env x → is_math_at x ≡ true → (meaning_of t).value env ≡ Ok (value_of (codes "Math") env)
math_value t env (s.Name p n) h m = h.is_value refl ∙ ap (λ (k : List ℕ). Ok (value_of k env)) ((bytes_eq-Decides n (codes "Math")).0 m)
math_value t env (s.Value v) h m = absurd (false≢true m)
math_value t env (s.Property v p n) h m = absurd (false≢true m)
math_value t env (s.Safe v p n) h m = absurd (false≢true m)
math_value t env (s.Math p n) h m = absurd (false≢true m)
math_value t env (s.Call c k r) h m = absurd (false≢true m)

-- ---- a fault stays

no_fault_of_math : (t : Tree) (env : Env) (x : EvalFault) → (meaning_of t).value env ≡ Err x → is_math t ≡ false
no_fault_of_math (tree.name p n) env x h = absurd (ok_is_no_fault (value_of n env) x h)
  where
    ok_is_no_fault : (v : Plain) (x : EvalFault) → Ok v ≡ Err x → ⊥
    ok_is_no_fault v x e = cc
no_fault_of_math _ env x h = refl

abbrev Layer : Type 0
Layer = Postfix-F Tree Tree Tree Tree Tree Tree ArmTree BranchTree Tree Tree Tree Tree

of_part : (P : Tree → Type 0) → ((z : Layer) → P (postfix_step z)) → (y : Postfix) → P (view_postfix y)
of_part P h y =
    subst P (sym (fold_out-Postfix Tree Tree Tree Tree Tree Tree ArmTree BranchTree Tree Tree Tree Tree body_step expr_step piece_step postfix_step stmt_step arg_step arm_step branch_step closure_step label_step operand_step pair_step y)) (h _)

module _ (env : Env) (x : EvalFault) where
  call_fails : (t args : Tree) (p : Place) → Fails t env x → Fails (tree.call p t args) env x
  call_fails t args p h = record {
    no_value = h.not_applied p (meaning_of args).arguments;
    not_applied = λ q more. ap (λ (r : Placed Plain). r >>= λ w. called (no_function q) more env) (h.not_applied p (meaning_of args).arguments);
    not_closed = λ q more. h.not_applied p (λ inner. (meaning_of args).arguments inner >>= λ first. more inner >>= λ second. Ok (first ++ second));
  }

  part_fails : (t : Tree) → Fails t env x → (z : Layer) → Fails (applied t (postfix_step z)) env x
  part_fails t h (o.Property p n) = property_fails t env p n x (no_fault_of_math t env x h.no_value) h.no_value
  part_fails t h (o.SafeProperty p n) = safe_fails t env p n x h.no_value
  part_fails t h (o.Index p i) = flat_fails (tree.index p t i) env x refl (ap (λ (r : Placed Plain). r >>= λ v. (meaning_of i).value env >>= λ w. made p (index v w)) h.no_value)
  part_fails t h (o.Call p xs) = call_fails t (trees xs.items) p h
  part_fails t h (o.With c) = flat_fails (tree.call_with t c) env x refl (h.not_closed (opening c) (λ inner. (meaning_of c).argument inner >>= λ a. Ok (a ∷ [])))

  pub parts_fail : (ys : List Postfix) (t : Tree) → Fails t env x → Fails (postfix t (map view_postfix ys)) env x
  parts_fail [] t h = h
  parts_fail (y ∷ ys) t h = parts_fail ys (applied t (view_postfix y)) (of_part (λ v. Fails (applied t v) env x) (part_fails t h) y)

-- ---- calls

abbrev wrong_of : Place → Placed (List Argument) → Placed Plain
wrong_of p r = r >>= λ xs. fault WrongKind p

pub called_at : (c : Callee) (a b : Arguments) (env : Env) → a env ≡ b env → called c a env ≡ called c b env
called_at nothing a b env e = refl
called_at (method v p n) a b env e = ap (λ (r : Placed (List Argument)). r >>= λ xs. method_call p n v xs) e
called_at (function p n) a b env e = ap (λ (r : Placed (List Argument)). r >>= λ xs. function_call p n env xs) e
called_at (math p n) a b env e = ap (λ (r : Placed (List Argument)). r >>= λ xs. math_call p n xs) e
called_at (no_function p) a b env e = ap (λ (r : Placed (List Argument)). wrong_of p r) e

pub no_arguments : (c : Callee) (a : Arguments) (env : Env) → takes c ≡ false → called c a env ≡ Ok null
no_arguments nothing a env h = refl
no_arguments (method v p n) a env h = absurd (false≢true (sym h))
no_arguments (function p n) a env h = absurd (false≢true (sym h))
no_arguments (math p n) a env h = absurd (false≢true (sym h))
no_arguments (no_function p) a env h = absurd (false≢true (sym h))

pub failed_arguments : (c : Callee) (a : Arguments) (env : Env) (x : EvalFault) → takes c ≡ true → a env ≡ Err x → called c a env ≡ Err x
failed_arguments nothing a env x h e = absurd (false≢true h)
failed_arguments (method v p n) a env x h e = ap (λ (r : Placed (List Argument)). r >>= λ xs. method_call p n v xs) e
failed_arguments (function p n) a env x h e = ap (λ (r : Placed (List Argument)). r >>= λ xs. function_call p n env xs) e
failed_arguments (math p n) a env x h e = ap (λ (r : Placed (List Argument)). r >>= λ xs. math_call p n xs) e
failed_arguments (no_function p) a env x h e = ap (λ (r : Placed (List Argument)). wrong_of p r) e

-- a call that gets its arguments and one more
module _ (t args : Tree) (p : Place) (env : Env) (b : Subject) (c : Called) (h : Stands t env b) (has : has_value b ≡ true) (calls : (a : Arguments) → applied_at b p a env ≡ called (callee_of c) a env) where
  -- its own arguments, and then the others
  abbrev both : Arguments → Arguments
  both more inner = (meaning_of args).arguments inner >>= λ first. more inner >>= λ second. Ok (first ++ second)

  gives : (a : Arguments) → (meaning_of t).applied p a env ≡ called (callee_of c) a env
  gives a = h.is_applied has p a ∙ calls a

  is_waiting : (xs : List Argument) → (meaning_of args).arguments env ≡ Ok xs → (q : Place) (more : Arguments) → (meaning_of (tree.call p t args)).closed q more env ≡ called (callee_of c) (and_more xs more) env
  is_waiting xs given q more = gives (both more) ∙ called_at (callee_of c) (both more) (and_more xs more) env (ap (λ (w : Placed (List Argument)). w >>= λ first. more env >>= λ second. Ok (first ++ second)) given)

  -- a call of what takes these arguments
  pub call_stands : (xs : List Argument) (k : ℕ) (r : Result Value EvalFault) → (meaning_of args).arguments env ≡ Ok xs → suc (length xs) ≡ k → called (callee_of c) (λ e. Ok xs) env ≡ placed_value r → Stands (tree.call p t args) env (s.Call c k (Some r))
  call_stands xs k r given len is =
      let value : (meaning_of t).applied p (meaning_of args).arguments env ≡ placed_value r = gives (meaning_of args).arguments ∙ called_at (callee_of c) (meaning_of args).arguments (λ e. Ok xs) env given ∙ is in
      record {
        is_value = λ y. value;
        is_applied = λ y q more. ap (λ (w : Placed Plain). w >>= λ v. called (no_function q) more env) value;
        is_closed = (xs, len, is_waiting xs given);
        names_math = refl;
      }

  -- a call that waits for a closure
  pub call_waits : (xs : List Argument) (k : ℕ) → (meaning_of args).arguments env ≡ Ok xs → suc (length xs) ≡ k → Stands (tree.call p t args) env (s.Call c k None)
  call_waits xs k given len = record {
    is_value = λ y. absurd (false≢true y);
    is_applied = λ y. absurd (false≢true y);
    is_closed = (xs, len, is_waiting xs given);
    names_math = refl;
  }

  -- a call of nothing, which evaluates no arguments
  pub nothing_stands : (r : Result Value EvalFault) → takes (callee_of c) ≡ false → placed_value r ≡ Ok null → Stands (tree.call p t args) env (s.Call c 1 (Some r))
  nothing_stands r none is =
      let nulls : (a : Arguments) → (meaning_of t).applied p a env ≡ Ok null = λ a. gives a ∙ no_arguments (callee_of c) a env none in
      record {
        is_value = λ y. nulls (meaning_of args).arguments ∙ sym is;
        is_applied = λ y q more. ap (λ (w : Placed Plain). w >>= λ v. called (no_function q) more env) (nulls (meaning_of args).arguments ∙ sym is);
        is_closed = ([], refl, λ q more. nulls (both more) ∙ sym (no_arguments (callee_of c) (and_more [] more) env none));
        names_math = refl;
      }

  -- its arguments have a fault
  pub arguments_have_fault : (x : EvalFault) → takes (callee_of c) ≡ true → (meaning_of args).arguments env ≡ Err x → Fails (tree.call p t args) env x
  arguments_have_fault x some is =
      let fails : (a : Arguments) → a env ≡ Err x → (meaning_of t).applied p a env ≡ Err x = λ a e. gives a ∙ failed_arguments (callee_of c) a env x some e in
      record {
        no_value = fails (meaning_of args).arguments is;
        not_applied = λ q more. ap (λ (r : Placed Plain). r >>= λ w. called (no_function q) more env) (fails (meaning_of args).arguments is);
        not_closed = λ q more. fails (both more) (ap (λ (w : Placed (List Argument)). w >>= λ first. more env >>= λ second. Ok (first ++ second)) is);
      }

  pub arguments_refused : (closure : Bool) (r : EvalRefusal) (x : Result Subject EvalRefusal) → x ≡ Err r → takes (callee_of c) ≡ true → IsRefused ((meaning_of args).arguments env) r → Comes closure (tree.call p t args) env x
  arguments_refused closure (refusal.Fault e) x is some given = subst (Comes closure (tree.call p t args) env) (sym is) (arguments_have_fault e some given)
  arguments_refused closure refusal.Mem x is some given = subst (Comes closure (tree.call p t args) env) (sym is) tt

  pub call_comes : (closure : Bool) (xs : List Argument) (k : ℕ) (x : Result Subject EvalRefusal) → (meaning_of args).arguments env ≡ Ok xs → suc (length xs) ≡ k → IsCall c k (called (callee_of c) (λ e. Ok xs) env) x → Comes closure (tree.call p t args) env x
  call_comes closure xs k (Ok y) given len is = ready closure (tree.call p t args) env y (subst (Stands (tree.call p t args) env) (sym is.1) (call_stands xs k is.0 given len (sym is.2))) (ap has_value is.1)
  call_comes closure xs k (Err (refusal.Fault e)) given len is = absurd is
  call_comes closure xs k (Err refusal.Mem) given len is = tt

-- what is called has a fault
pub call_has_fault : (t args : Tree) (p : Place) (env : Env) (x : EvalFault) → ((a : Arguments) → (meaning_of t).applied p a env ≡ Err x) → Fails (tree.call p t args) env x
call_has_fault t args p env x h = record {
  no_value = h (meaning_of args).arguments;
  not_applied = λ q more. ap (λ (r : Placed Plain). r >>= λ w. called (no_function q) more env) (h (meaning_of args).arguments);
  not_closed = λ q more. h (λ inner. (meaning_of args).arguments inner >>= λ first. more inner >>= λ second. Ok (first ++ second));
}

-- ---- several parts

pub parts_refused : (now later : Bool) (u : Tree) (y : Postfix) (ys : List Postfix) (env : Env) (r : EvalRefusal) → Comes now (applied u (view_postfix y)) env (Err r) → Comes later (postfix u (map view_postfix (y ∷ ys))) env (Err r)
parts_refused now later u y ys env (refusal.Fault x) h = parts_fail env x ys (applied u (view_postfix y)) h
parts_refused now later u y ys env refusal.Mem h = tt

-- ---- a part has no value

pub flat_refused : (closure : Bool) (t : Tree) (env : Env) (r : EvalRefusal) (x : Result Subject EvalRefusal) → is_flat t ≡ true → x ≡ Err r → IsRefused ((meaning_of t).value env) r → Comes closure t env x
flat_refused closure t env (refusal.Fault e) x f is h = subst (Comes closure t env) (sym is) (flat_fails t env e f h)
flat_refused closure t env refusal.Mem x f is h = subst (Comes closure t env) (sym is) tt

pub property_refused : (closure : Bool) (t : Tree) (env : Env) (p : Place) (n : List ℕ) (r : EvalRefusal) (x : Result Subject EvalRefusal) → is_math t ≡ false → x ≡ Err r → IsRefused ((meaning_of t).value env) r → Comes closure (tree.property t (tree.name p n)) env x
property_refused closure t env p n (refusal.Fault e) x m is h = subst (Comes closure (tree.property t (tree.name p n)) env) (sym is) (property_fails t env p n e m h)
property_refused closure t env p n refusal.Mem x m is h = subst (Comes closure (tree.property t (tree.name p n)) env) (sym is) tt

pub safe_refused : (closure : Bool) (t : Tree) (env : Env) (p : Place) (n : List ℕ) (r : EvalRefusal) (x : Result Subject EvalRefusal) → x ≡ Err r → IsRefused ((meaning_of t).value env) r → Comes closure (tree.safe_property t (tree.name p n)) env x
safe_refused closure t env p n (refusal.Fault e) x is h = subst (Comes closure (tree.safe_property t (tree.name p n)) env) (sym is) (safe_fails t env p n e h)
safe_refused closure t env p n refusal.Mem x is h = subst (Comes closure (tree.safe_property t (tree.name p n)) env) (sym is) tt

-- what is called, or its arguments, have none
pub call_refused : (closure : Bool) (t args : Tree) (p : Place) (env : Env) (r : EvalRefusal) (x : Result Subject EvalRefusal) → x ≡ Err r → ((a : Arguments) → IsRefused ((meaning_of t).applied p a env) r) → Comes closure (tree.call p t args) env x
call_refused closure t args p env (refusal.Fault e) x is h = subst (Comes closure (tree.call p t args) env) (sym is) (call_has_fault t args p env e h)
call_refused closure t args p env refusal.Mem x is h = subst (Comes closure (tree.call p t args) env) (sym is) tt

-- ---- an index

module _ (t i : Tree) (p : Place) (env : Env) where
  abbrev at_index : Placed Plain
  at_index = (meaning_of (tree.index p t i)).value env

  pub index_refused : (closure : Bool) (r : EvalRefusal) (x : Result Subject EvalRefusal) → x ≡ Err r → IsRefused ((meaning_of t).value env) r → Comes closure (tree.index p t i) env x
  index_refused closure r x is h = flat_refused closure (tree.index p t i) env r x refl is (refused_on ((meaning_of t).value env) (λ v. (meaning_of i).value env >>= λ w. made p (index v w)) r h)

  after_first : (v : Plain) → (meaning_of t).value env ≡ Ok v → at_index ≡ ((meaning_of i).value env >>= λ w. made p (index v w))
  after_first v h = ap (λ (q : Placed Plain). q >>= λ u. (meaning_of i).value env >>= λ w. made p (index u w)) h

  pub place_refused : (closure : Bool) (v : Plain) (r : EvalRefusal) (x : Result Subject EvalRefusal) → x ≡ Err r → (meaning_of t).value env ≡ Ok v → IsRefused ((meaning_of i).value env) r → Comes closure (tree.index p t i) env x
  place_refused closure v r x is h k = flat_refused closure (tree.index p t i) env r x refl is (refused_at at_index ((meaning_of i).value env >>= λ w. made p (index v w)) r (after_first v h) (refused_on ((meaning_of i).value env) (λ w. made p (index v w)) r k))

  after_both : (v w : Plain) → (meaning_of t).value env ≡ Ok v → (meaning_of i).value env ≡ Ok w → at_index ≡ made p (index v w)
  after_both v w h k = after_first v h ∙ ap (λ (q : Placed Plain). q >>= λ u. made p (index v u)) k

  pub item_refused : (closure : Bool) (v w : Plain) (r : EvalRefusal) (x : Result Subject EvalRefusal) → x ≡ Err r → (meaning_of t).value env ≡ Ok v → (meaning_of i).value env ≡ Ok w → IsRefused (made p (index v w)) r → Comes closure (tree.index p t i) env x
  item_refused closure v w r x is h k m = flat_refused closure (tree.index p t i) env r x refl is (refused_at at_index (made p (index v w)) r (after_both v w h k) m)

  pub item_stands : (v w : Plain) (y : Value) → (meaning_of t).value env ≡ Ok v → (meaning_of i).value env ≡ Ok w → made p (index v w) ≡ Ok (plain_of y) → Stands (tree.index p t i) env (s.Value y)
  item_stands v w y h k m = flat_stands (tree.index p t i) env y refl (after_both v w h k ∙ m)

-- ---- a closure after a chain

module _ (t c : Tree) (env : Env) (q : Place) where
  abbrev pub one_block : Arguments
  one_block inner = (meaning_of c).argument inner >>= λ a. Ok (a ∷ [])

  abbrev pub that_block : Arguments
  that_block e = Ok (block (block_of c e) ∷ [])

  pub with_value : (xs : List Argument) (k : Callee) → opening c ≡ q → is_closure c ≡ true → ((more : Arguments) → (meaning_of t).closed q more env ≡ called k (and_more xs more) env) → (meaning_of (tree.call_with t c)).value env ≡ called k (and_more xs that_block) env
  with_value xs k o is h =
      ap (λ (p : Place). (meaning_of t).closed p one_block env) o ∙ h one_block
      ∙ called_at k (and_more xs one_block) (and_more xs that_block) env (ap (λ (r : Placed Argument). (r >>= λ a. Ok (a ∷ [])) >>= λ ys. Ok (xs ++ ys)) (closure_argument c env is))

-- ---- what is read

pub read_name : (x : Subject) (p : Place) (n m : List ℕ) (env : Env) (v : Value) → x ≡ s.Name p n → m ≡ n → value_of m env ≡ plain_of v → value_at x env ≡ Ok (plain_of v)
read_name x p n m env v is e h = ap (λ y. value_at y env) is ∙ ap (λ k. Ok (value_of k env)) (sym e) ∙ ap (λ w. Ok w) h

pub read_math : (x : Subject) (p : Place) (n m : List ℕ) (env : Env) (v : Value) (r : Result Value EvalRefusal) → x ≡ s.Math p n → m ≡ n → value_of (codes "Math") env ≡ plain_of v → Evaluates (made p (property (plain_of v) m)) r → Evaluates (value_at x env) r
read_math x p n m env v r is e h k = subst (λ (o : Placed Plain). Evaluates o r) (sym (ap (λ y. value_at y env) is ∙ ap (λ w. made p (property w n)) h ∙ ap (λ j. made p (property (plain_of v) j)) (sym e))) k

-- ---- what is called where a closure comes next

nothing_added : (r : Placed (List Argument)) → r ≡ (r >>= λ ys. Ok ([] ++ ys))
nothing_added (Ok xs) = refl
nothing_added (Err e) = refl

pub safe_waits : (t : Tree) (env : Env) (q : Place) (x : Subject) (v : Value) (p : Place) (n : List ℕ) (c : Called) (w : Waiting) → x ≡ s.Safe v p n → w ≡ record { callee = c; count = 1 } → callee_of c ≡ safe_method p n (plain_of v) → Stands t env x → Waits t env q w
safe_waits t env q x v p n c w is e ce h =
    let stands = subst (Stands t env) is h in
    subst (Waits t env q) (sym e) ([], refl, λ more. stands.is_closed q more ∙ ap (λ k. called k more env) (sym ce) ∙ called_at (callee_of c) more (and_more [] more) env (nothing_added (more env)))

-- ---- a chain after a part that has a fault

pub chain_refused : (now closure : Bool) (ys : List Postfix) (t : Tree) (env : Env) (r : EvalRefusal) (x : Result Subject EvalRefusal) → x ≡ Err r → Comes now t env (Err r) → Comes closure (postfix t (map view_postfix ys)) env x
chain_refused now closure ys t env (refusal.Fault e) x is h = subst (Comes closure (postfix t (map view_postfix ys)) env) (sym is) (parts_fail env e ys t h)
chain_refused now closure ys t env refusal.Mem x is h = subst (Comes closure (postfix t (map view_postfix ys)) env) (sym is) tt
