-- The values of expressions and options.
use Rattle.std.proofs.Common.{◌≡◌, ◌∙◌, ℕ, List, Bool, true, false, true≢false, Result, Ok, Err, Option, Some, None, refl, sym, ap, subst}
use Rattle.nf_value.specs.Plain.{Plain}
use Rattle.nf_value.specs.declared.place.Place.{Place}
use Rattle.nf_value.specs.declared.value.Value.{Value}
use Rattle.nf_ast.specs.Tree as tree
use Rattle.nf_ast.specs.Tree.{Tree}
use Rattle.nf_ast.specs.View.{view_closure}
use Rattle.nf_ast.specs.declared.expr.ClosureExpr.{ClosureExpr}
use Rattle.nf_eval.specs.Evaluation.{Closing, apply_of, eval_of}
use Rattle.nf_lowered.specs.Given.{Gives, HasFault, HasValue}
use Rattle.nf_lowered.proofs.Joining.{fault_by}
use Rattle.nf_names_used.specs.Uses.{no_names}
use Rattle.nf_meaning.specs.declared.fault.LowerFault.{LowerFault}
use Rattle.nf_meaning.specs.declared.fault.LowerFault.TheVariants.{BadOption, ParamFault}
use Rattle.nf_value.specs.View.{plain_of}
use Rattle.nf_value.specs.declared.fault.EvalFault.{EvalFault}
use Rattle.nf_bodies.specs.Means.{GivesAs}
use Rattle.nf_eval.specs.Closing.{closing_of}
use Rattle.nf_eval.specs.Memory.{env_of}
use Rattle.nf_eval.specs.declared.closures.Closure.{Closure}
use Rattle.nf_eval.specs.declared.environment.Env.{Env as Stored}
use Rattle.nf_placed.specs.Placed.{Placed}
use Rattle.nf_placed.specs.Scope.{Env}
use Rattle.nf_relevant.specs.Reads.{AreAlike}
use Rattle.nf_relevant.specs.Reads as relevant
use Rattle.nf_tasks.specs.Memory.{Program, formula_of}
use Rattle.nf_meaning.specs.Arguments.{is_closure, option_value, unless_closure}
use Rattle.nf_meaning.specs.Closures.{env_for}
use Rattle.nf_meaning.specs.Expressions.{closure_fault, value_of}
use Rattle.nf_meaning.specs.Functions.{names_fault}
use Rattle.nf_meaning.specs.Lowered.{Lowered, known, unless}
use Rattle.nf_meaning.specs.Names.{before_run}
use Rattle.nf_meaning.specs.Walk.{Around, State, Walk, ◌>>=◌, at_state, then_by, known_in}
use Rattle.nf_around.specs.Gives.{IsValue, Judges, Reads}
use Rattle.nf_around.proofs.Layers.{closure_is}
use Rattle.nf_around.proofs.Walks.{is_none, still, unless_right, unless_wrong}

-- an expression depends on the names that stand in it
abbrev pub ByTheirNames : Type 0
ByTheirNames = (among : List (List ℕ)) (e : Tree) (one other : Env) → relevant.Reads among e → AreAlike among one other → eval_of e one ≡ eval_of e other

-- ---- a walk after another

pub on_value : {A B C : Type 0} (stands : C → B × State → Type 0) (w : Walk A) (f : A → Walk B) (a : Around) (s : State) (x : A) (r : Result C LowerFault)
    → w a s ≡ Ok (x, s) → Gives stands (f x a s) r → Gives stands ((w >>= f) a s) r
on_value stands w f a s x r h g = subst (λ v. Gives stands v r) (sym (ap (then_by a f) h)) g

pub on_fault : {A B : Type 0} (w : Walk A) (f : A → Walk B) (a : Around) (s : State) (e : LowerFault) → HasFault (w a s) e → HasFault ((w >>= f) a s) e
on_fault w f a s e h = fault_by (w a s) ((w >>= f) a s) e (λ k. ap (then_by a f) k) h

-- ---- a value before the run

pub value_at_closure : (t : Tree) (c : ClosureExpr) (a : Around) (s : State) → t ≡ view_closure c → value_of t a s ≡ Err (BadOption c.place)
value_at_closure t c a s is = ap (λ e. value_of e a s) (is ∙ closure_is c)

no_closure_fault : (t : Tree) → is_closure t ≡ false → closure_fault t ≡ None
no_closure_fault (tree.closure p ps b) h = absurd (true≢false h)
no_closure_fault _ h = refl

module _ (t : Tree) (a : Around) (s : State) (apart : is_closure t ≡ false) where
  -- what its names are judged to be, and what it is then
  pub value_by : (r : Result Value LowerFault)
      → Gives IsValue (unless (names_fault a.given a.definitions (known_in a s.scope) before_run t no_names) (known (eval_of t (env_for before_run a s.scope)))) r
      → Reads IsValue (value_of t) a s r
  value_by r h =
      still IsValue (unless (closure_fault t) (unless (names_fault a.given a.definitions (known_in a s.scope) before_run t no_names) (known (eval_of t (env_for before_run a s.scope))))) s r
      (unless_right IsValue (closure_fault t) (unless (names_fault a.given a.definitions (known_in a s.scope) before_run t no_names) (known (eval_of t (env_for before_run a s.scope)))) r
      (no_closure_fault t apart) h)

  pub value_wrong : (e : LowerFault) → Judges (names_fault a.given a.definitions (known_in a s.scope) before_run t no_names) (Err e) → Reads IsValue (value_of t) a s (Err e)
  value_wrong e h = value_by (Err e) (unless_wrong (names_fault a.given a.definitions (known_in a s.scope) before_run t no_names) (known (eval_of t (env_for before_run a s.scope))) e h)

  pub value_right : (u : Unit {0}) (r : Result Value LowerFault) → Judges (names_fault a.given a.definitions (known_in a s.scope) before_run t no_names) (Ok u)
      → Gives IsValue (known (eval_of t (env_for before_run a s.scope))) r → Reads IsValue (value_of t) a s r
  value_right u r h g = value_by r (unless_right IsValue (names_fault a.given a.definitions (known_in a s.scope) before_run t no_names) (known (eval_of t (env_for before_run a s.scope))) r
      (is_none (names_fault a.given a.definitions (known_in a s.scope) before_run t no_names) u h) g)

-- ---- options

pub option_at_closure : (p : Place) (t : Tree) (c : ClosureExpr) (a : Around) (s : State) → t ≡ view_closure c → option_value p t a s ≡ Err (BadOption p)
option_at_closure p t c a s is = ap (λ e. option_value p e a s) (is ∙ closure_is c)

pub option_by : (p : Place) (t : Tree) (a : Around) (s : State) (r : Result Value LowerFault) → is_closure t ≡ false → Reads IsValue (value_of t) a s r → Reads IsValue (option_value p t) a s r
option_by p t a s r apart h = subst (λ b. Reads IsValue (unless_closure b p (value_of t)) a s r) (sym apart) h

-- ---- what is evaluated

pub known_value : (due : Placed Plain) (v : Value) → due ≡ Ok (plain_of v) → HasValue (known due) (IsValue v)
known_value due v h = record { value = plain_of v; is = ap known h; fits = refl }

pub known_fault : (due : Placed Plain) (f : EvalFault) → due ≡ Err f → known due ≡ Err (ParamFault f)
known_fault due f h = ap known h

pub same_value : ByTheirNames → (n m : Program) (t : Tree) (among : List (List ℕ)) (env : Stored) (other : Env) → n ≡ m → relevant.Reads among t → AreAlike among (env_of env n.titles n.answer) other
    → eval_of t (env_of env m.titles m.answer) ≡ eval_of t other
same_value law n m t among env other same reads alike = ap (λ k. eval_of t (env_of env k.titles k.answer)) (sym same) ∙ law among t (env_of env n.titles n.answer) other reads alike

pub same_result : (n m : Program) (stored : Closure) (c : Closing) (vs : List Plain) → n ≡ m → GivesAs n stored c → apply_of (closing_of stored m.titles m.answer) vs ≡ apply_of c vs
unfolding formula_of
same_result n m stored c vs same h = ap (λ k. apply_of (closing_of stored k.titles k.answer) vs) (sym same) ∙ h vs
