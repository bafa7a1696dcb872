-- Closures that are taken from arguments.
use Rattle.std.proofs.Common.{◌≡◌, ◌∙◌, ◌<◌, ℕ, List, [], ◌∷◌, length, map, Bool, true, false, true≢false, Result, Ok, Err, Option, Some, None, refl, sym, ap, subst, arith}
use Rattle.std.proofs.lemmas.Bool.{false≢true}
use Rattle.std.specs.Prelude.{if◌then◌else◌, unwrap_or}
use Rattle.nf_value.specs.declared.place.Place.{Place}
use Rattle.nf_ast.specs.Tree as tree
use Rattle.nf_ast.specs.Tree.{Tree, cons}
use Rattle.nf_ast.specs.View.{trees, view_body, view_closure, view_label}
use Rattle.nf_ast.specs.declared.expr.ClosureExpr.{ClosureExpr}
use Rattle.nf_ast.specs.declared.expr.Label.{Label}
use Rattle.nf_ast.specs.declared.expr.Stmt.{Stmt}
use Rattle.nf_bodies.specs.Means.{GivesAs}
use Rattle.nf_eval.specs.Evaluation.{Closing}
use Rattle.nf_eval.specs.Memory.{closing}
use Rattle.nf_eval.specs.declared.closures.Closure.{Closure}
use Rattle.nf_lowered.specs.Given.{Gives, HasFault, HasValue}
use Rattle.nf_lowered.proofs.Joining.{fault_is}
use Rattle.nf_names_used.specs.Uses.{is_name, no_names}
use Rattle.nf_meaning.specs.declared.fault.LowerFault.{LowerFault}
use Rattle.nf_meaning.specs.declared.fault.LowerFault.TheVariants.{BadOption}
use Rattle.nf_meaning.specs.Arguments.{is_closure}
use Rattle.nf_meaning.specs.Closures.{bare_fault, closing_in, closure_arg, env_for, has_labels, is_label, labels_arg, no_closure, statements_closure, word_arg}
use Rattle.nf_meaning.specs.Functions.{names_fault}
use Rattle.nf_meaning.specs.Lowered.{or_else}
use Rattle.nf_meaning.specs.Names.{Reading, name_fault, unread}
use Rattle.nf_meaning.specs.Places.{begins_at}
use Rattle.nf_meaning.specs.Walk.{Around, State, Walk, ◌>>=◌, gives, known_in, refused, unless_fault}
use Rattle.nf_tasks.specs.Memory.{Program}
use Rattle.nf_around.specs.Gives.{IsClosing, Judges, Reads}
use Rattle.nf_around.specs.Labels.{params_in}
use Rattle.nf_around.proofs.Layers.{closure_is, label_is}
use Rattle.nf_around.proofs.Uses.{or_none}
use Rattle.nf_around.proofs.Walks.{is_none, walk_right, walk_wrong}

-- ---- no closure

-- what is wrong is wrong for whatever is wanted
wrong_for : {A B : Type 0} (t : Tree) (a : Around) (s : State) (f : LowerFault) → no_closure {A = A} t a s ≡ Err f → no_closure {A = B} t a s ≡ Err f
wrong_for {A = A} {B = B} t a s f h = by (bare_fault a s.scope t) h
  where
    by : (o : Option LowerFault) → (unless_fault o >>= λ _. refused {A = A} (BadOption (begins_at t))) a s ≡ Err f → (unless_fault o >>= λ _. refused {A = B} (BadOption (begins_at t))) a s ≡ Err f
    by None k = let same : BadOption (begins_at t) ≡ f = cc in λ i. Err (same i)
    by (Some g) k = let same : g ≡ f = cc in λ i. Err (same i)

closure_is_none : (r : Reading) (t : Tree) → is_closure t ≡ false → closure_arg r t ≡ no_closure t
closure_is_none r (tree.closure p ps b) h = absurd (true≢false h)
closure_is_none r _ h = refl

labels_are_none : (t : Tree) → is_closure t ≡ false → labels_arg t ≡ no_closure t
labels_are_none (tree.closure p ps b) h = absurd (true≢false h)
labels_are_none _ h = refl

word_is_none : (t : Tree) → is_closure t ≡ false → word_arg t ≡ no_closure t
word_is_none (tree.closure p ps b) h = absurd (true≢false h)
word_is_none _ h = refl

module _ (t : Tree) (a : Around) (s : State) (f : LowerFault) (apart : is_closure t ≡ false) (wrong : no_closure {A = Unit {0}} t a s ≡ Err f) where
  pub no_closing : (r : Reading) → HasFault (closure_arg r t a s) f
  no_closing r = fault_is (closure_arg r t a s) f (ap (λ w. w a s) (closure_is_none r t apart) ∙ wrong_for t a s f wrong)

  pub no_labelled : HasFault (labels_arg t a s) f
  no_labelled = fault_is (labels_arg t a s) f (ap (λ w. w a s) (labels_are_none t apart) ∙ wrong_for t a s f wrong)

  pub no_word : HasFault (word_arg t a s) f
  no_word = fault_is (word_arg t a s) f (ap (λ w. w a s) (word_is_none t apart) ∙ wrong_for t a s f wrong)

-- a name is at fault first
bare_is : (a : Around) (s : State) (t : Tree) → is_name t ≡ true → bare_fault a s.scope t ≡ names_fault a.given a.definitions (known_in a s.scope) unread t no_names
bare_is a s (tree.name p n) h = sym (or_none (or_else (name_fault a.definitions a.given.program.titles (known_in a s.scope) unread p n) None) ∙ or_none (name_fault a.definitions a.given.program.titles (known_in a s.scope) unread p n))
bare_is a s _ h = absurd (false≢true h)

module _ (t : Tree) (a : Around) (s : State) where
  bare_by : (o : Option LowerFault) → bare_fault a s.scope t ≡ o → no_closure {A = Unit {0}} t a s ≡ (unless_fault o >>= λ _. refused {A = Unit {0}} (BadOption (begins_at t))) a s
  bare_by o h = ap (λ f. (unless_fault f >>= λ _. refused {A = Unit {0}} (BadOption (begins_at t))) a s) h

  pub name_wrong : (f : LowerFault) → is_name t ≡ true → names_fault a.given a.definitions (known_in a s.scope) unread t no_names ≡ Some f → no_closure {A = Unit {0}} t a s ≡ Err f
  name_wrong f is h = bare_by (Some f) (bare_is a s t is ∙ h)

  pub name_right : is_name t ≡ true → names_fault a.given a.definitions (known_in a s.scope) unread t no_names ≡ None → no_closure {A = Unit {0}} t a s ≡ Err (BadOption (begins_at t))
  name_right is h = bare_by None (bare_is a s t is ∙ h)

  -- whatever is wrong with the name
  pub name_by : is_name t ≡ true → (o : Option LowerFault) (bad f : LowerFault) → names_fault a.given a.definitions (known_in a s.scope) unread t no_names ≡ o → bad ≡ BadOption (begins_at t) → f ≡ unwrap_or o bad
      → no_closure {A = Unit {0}} t a s ≡ Err f
  name_by is None bad f h place due = name_right is h ∙ (λ i. Err (sym (due ∙ place) i))
  name_by is (Some e) bad f h place due = name_wrong e is h ∙ (λ i. Err (sym due i))

bare_none : (a : Around) (s : State) (t : Tree) → is_name t ≡ false → bare_fault a s.scope t ≡ None
bare_none a s (tree.name p n) h = absurd (true≢false h)
bare_none a s _ h = refl

pub other_wrong : (t : Tree) (a : Around) (s : State) → is_name t ≡ false → no_closure {A = Unit {0}} t a s ≡ Err (BadOption (begins_at t))
other_wrong t a s apart = ap (λ o. (unless_fault o >>= λ _. refused {A = Unit {0}} (BadOption (begins_at t))) a s) (bare_none a s t apart)

-- ---- a closure without labels

abbrev statements_walk : Reading → ClosureExpr → Bool → Walk Closing
statements_walk r c b = if b then refused (BadOption c.place) else statements_closure r c.place (params_in c.params) (view_body c.body)

module _ (r : Reading) (c : ClosureExpr) (a : Around) (s : State) where
  closure_by : (b : Bool) → has_labels (view_body c.body) ≡ b → closure_arg r (view_closure c) a s ≡ statements_walk r c b a s
  closure_by b h = ap (λ e. closure_arg r e a s) (closure_is c) ∙ ap (λ t. statements_walk r c t a s) h

  pub has_some : has_labels (view_body c.body) ≡ true → closure_arg r (view_closure c) a s ≡ Err (BadOption c.place)
  has_some h = closure_by true h

  closing_fits : (stored : Closure) → GivesAs a.given.program stored (closing (view_closure c) (env_for r a s.scope))
      → GivesAs a.given.program stored (closing_in (env_for r a s.scope) c.place (params_in c.params) (view_body c.body))
  closing_fits stored h = subst (λ e. GivesAs a.given.program stored (closing e (env_for r a s.scope))) (closure_is c) h

  module _ (none : has_labels (view_body c.body) ≡ false) where
    pub closure_wrong : (e : LowerFault) → Judges (names_fault a.given a.definitions (known_in a s.scope) r (view_closure c) no_names) (Err e) → HasFault (closure_arg r (view_closure c) a s) e
    closure_wrong e h =
        let t = tree.closure c.place (params_in c.params) (view_body c.body) in
        subst (λ w. HasFault w e) (sym (closure_by false none))
        (walk_wrong (names_fault a.given a.definitions (known_in a s.scope) r t no_names) (gives (closing_in (env_for r a s.scope) c.place (params_in c.params) (view_body c.body))) a s e
        (subst (λ q. Judges (names_fault a.given a.definitions (known_in a s.scope) r q no_names) (Err e)) (closure_is c) h))

    pub closure_right : (u : Unit {0}) (stored : Closure) → Judges (names_fault a.given a.definitions (known_in a s.scope) r (view_closure c) no_names) (Ok u)
        → GivesAs a.given.program stored (closing (view_closure c) (env_for r a s.scope)) → Reads (IsClosing a.given.program) (closure_arg r (view_closure c)) a s (Ok stored)
    closure_right u stored h g =
        let t = tree.closure c.place (params_in c.params) (view_body c.body) in
        let k = closing_in (env_for r a s.scope) c.place (params_in c.params) (view_body c.body) in
        subst (λ w. Gives (λ x z. IsClosing a.given.program x z.0 × (z.1 ≡ s)) w (Ok stored)) (sym (closure_by false none))
        (walk_right (λ x z. IsClosing a.given.program x z.0 × (z.1 ≡ s)) (names_fault a.given a.definitions (known_in a s.scope) r t no_names) (gives k) a s (Ok stored)
        (ap (λ q. names_fault a.given a.definitions (known_in a s.scope) r q no_names) (sym (closure_is c)) ∙ is_none (names_fault a.given a.definitions (known_in a s.scope) r (view_closure c) no_names) u h)
        (record { value = (k, s); is = refl; fits = (closing_fits stored g, refl) }))

-- ---- labels in memory

pub some_in : (ls : List Label) → 0 < length ls → has_labels (trees (map view_label ls)) ≡ true
some_in [] lt = absurd (omega arith)
some_in (l ∷ ls) lt = ap (λ t. has_labels (cons t (trees (map view_label ls)))) (label_is l)
