-- Labels, one after another.
use Rattle.std.proofs.Common.{◌≡◌, ◌∙◌, ◌+◌, ◌<◌, ◌≤◌, ℕ, Bool, true, false, List, [], ◌∷◌, ◌++◌, length, get_or, map, take, drop, Option, Some, None, Result, Ok, Err, refl, sym, ap, subst, true≢false}
use Rattle.std.specs.Prelude.{if◌then◌else◌}
use Rattle.std.specs.Str.{bytes_eq}
use Rattle.std.proofs.Common.{◌||◌, add-one, drop-cons, arith}
use Rattle.std.proofs.lemmas.List.{take_more, map-append, take_all, drop_all}
use Rattle.nf_builtins.specs.Natives.{is_among}
use Rattle.nf_value.specs.declared.place.Place.{Place}
use Rattle.nf_ast.specs.Tree as tree
use Rattle.nf_ast.specs.Tree.{Tree, empty, cons}
use Rattle.nf_ast.specs.View.{trees, view, view_body, view_closure, view_label}
use Rattle.nf_ast.specs.declared.expr.ClosureExpr.{ClosureExpr}
use Rattle.nf_ast.specs.declared.expr.Label.{Label as Stored}
use Rattle.nf_bodies.specs.Labels.{Label, label_tree, with_label}
use Rattle.nf_bodies.specs.Means.{GivesAs, GiveLabels}
use Rattle.nf_eval.specs.Evaluation.{Closing}
use Rattle.nf_eval.specs.Memory.{closing}
use Rattle.nf_eval.specs.declared.closures.Closure.{Closure}
use Rattle.nf_lowered.specs.Given.{Gives, HasFault, HasValue}
use Rattle.nf_lowered.proofs.Joining.{fault_by}
use Rattle.nf_names_used.specs.Uses.{no_names, params_uses}
use Rattle.nf_meaning.specs.declared.fault.LowerFault.{LowerFault}
use Rattle.nf_meaning.specs.declared.fault.LowerFault.TheVariants.{BadOption, TwiceDefined}
use Rattle.nf_meaning.specs.Closures.{env_for, has_labels, label_fault, label_judge, labels_arg, labels_closure, labels_fault, labels_in}
use Rattle.nf_meaning.specs.Functions.{names_fault}
use Rattle.nf_meaning.specs.Lowered.{Lowered, or_else, fault_if, unless}
use Rattle.nf_meaning.specs.Names.{in_run, uses_fault}
use Rattle.nf_meaning.specs.Walk.{Around, Scope, State, Walk, ◌>>=◌, gives, refused, unless_fault, known_in}
use Rattle.nf_tasks.specs.Memory.{Program}
use Rattle.nf_around.specs.Gives.{Judges, Reads}
use Rattle.nf_around.specs.Labels.{AreLabelled, AreLabels, HasParams, IsLabelled, Labelled, closing_of, judged_label, judged_labels, label_of, params_in, with_only}
use Rattle.nf_around.proofs.Layers.{closure_is, label_is}
use Rattle.nf_around.proofs.Uses.{label_alone, params_alone}
use Rattle.nf_around.proofs.Walks.{is_none, unless_right, unless_wrong, walk_right, walk_wrong}

-- ---- the parameters

pub params_judged : (a : Around) (s : Scope) (c : ClosureExpr) (t : Tree) (r : Result (Unit {0}) LowerFault) → t ≡ tree.closure c.place (params_in c.params) empty
    → Judges (names_fault a.given a.definitions (known_in a s) in_run t no_names) r → Judges (uses_fault a.given a.definitions (known_in a s) in_run (params_uses (params_in c.params))) r
params_judged a s c t r is h = subst (λ f. Judges f r) (ap (λ e. names_fault a.given a.definitions (known_in a s) in_run e no_names) is ∙ params_alone a.given a.definitions (known_in a s) in_run c.place (params_in c.params)) h

-- ---- one label

module _ (a : Around) (s : Scope) (c : ClosureExpr) (l : Stored) (before : List (List ℕ)) where
  pub title_twice : is_among l.name before ≡ true → judged_label a s c before l ≡ Err (TwiceDefined l.place)
  title_twice h = ap (λ b. unless (fault_if b (TwiceDefined l.place)) (unless (label_judge a s (params_in c.params) (view l.value)) (Ok tt))) h

  title_new : is_among l.name before ≡ false → label_fault before (tree.name l.place l.name) ≡ None
  title_new h = ap (λ b. fault_if b (TwiceDefined l.place)) h

  module _ (fine : HasParams a s c) (t : Tree) (is : t ≡ with_only c l) (new : is_among l.name before ≡ false) where
    wrong_alone : names_fault a.given a.definitions (known_in a s) in_run t no_names ≡ label_judge a s (params_in c.params) (view l.value)
    wrong_alone =
        ap (λ e. names_fault a.given a.definitions (known_in a s) in_run e no_names) is
        ∙ label_alone a.given a.definitions (known_in a s) in_run c.place (params_in c.params) (tree.name l.place l.name) (view l.value) fine

    pub label_refused : (e : LowerFault) → Judges (names_fault a.given a.definitions (known_in a s) in_run t no_names) (Err e) → HasFault (judged_label a s c before l) e
    label_refused e h =
        subst (λ f. HasFault (unless f (unless (label_judge a s (params_in c.params) (view l.value)) (Ok tt))) e) (sym (title_new new))
        (subst (λ f. Judges f (Err e)) wrong_alone h)

    pub label_gives : (u : Unit {0}) (stored : Closure) → Judges (names_fault a.given a.definitions (known_in a s) in_run t no_names) (Ok u)
        → GivesAs a.given.program stored (closing t (env_for in_run a s)) → HasValue (judged_label a s c before l) (IsLabelled a s c l stored)
    label_gives u stored h gives =
        let none : label_judge a s (params_in c.params) (view l.value) ≡ None = sym wrong_alone ∙ is_none (names_fault a.given a.definitions (known_in a s) in_run t no_names) u h in
        record {
          value = tt;
          is = ap (λ f. unless f (unless (label_judge a s (params_in c.params) (view l.value)) (Ok tt))) (title_new new) ∙ ap (λ f. unless f (Ok tt)) none;
          fits = subst (λ e. GivesAs a.given.program stored (closing e (env_for in_run a s))) is gives;
        }

either_first : (x y z : Bool) → (x || (y || z)) ≡ (y || (x || z))
either_first true true z = refl
either_first true false z = refl
either_first false y z = refl

among_last : (n m : List ℕ) (ns : List (List ℕ)) → is_among n (ns ++ m ∷ []) ≡ (bytes_eq m n || is_among n ns)
among_last n m [] = refl
among_last n m (k ∷ ns) = ap (λ b. bytes_eq k n || b) (among_last n m ns) ∙ either_first (bytes_eq k n) (bytes_eq m n) (is_among n ns)

fine_here : (b : Bool) (p : Place) (wrong next : Option LowerFault) (u : Unit {0}) → unless (fault_if b (TwiceDefined p)) (unless wrong (Ok tt)) ≡ Ok u
    → or_else (fault_if b (TwiceDefined p)) (or_else wrong next) ≡ next
fine_here true p wrong next u h = absurd (let e : ◌≡◌ {A = Lowered (Unit {0})} (Err (TwiceDefined p)) (Ok u) = h in cc)
fine_here false p None next u h = refl
fine_here false p (Some f) next u h = absurd (let e : ◌≡◌ {A = Lowered (Unit {0})} (Err f) (Ok u) = h in cc)

wrong_here : (twice wrong next : Option LowerFault) (e : LowerFault) → HasFault (unless {A = Unit {0}} twice (unless wrong (Ok tt))) e → HasFault (unless {A = Unit {0}} (or_else twice (or_else wrong next)) (Ok tt)) e
wrong_here (Some f) wrong next e h = h
wrong_here None (Some f) next e h = h
wrong_here None None next e h = fault_by {A = Unit {0}} {B = Unit {0}} (Ok tt) (unless next (Ok tt)) e (λ k. absurd (let q : ◌≡◌ {A = Lowered (Unit {0})} (Ok tt) (Err e) = k in cc)) h

-- ---- one label more

push_label : (n : Program) (stored : List Closure) (x : Closure) (c : Closing) (ls : List Label) (l : Label) → GiveLabels n stored c ls → GivesAs n x (with_label c l)
    → GiveLabels n (stored ++ x ∷ []) c (ls ++ l ∷ [])
push_label n [] x c [] l h g = (g, tt)
push_label n (y ∷ stored) x c (m ∷ ls) l h g = (h.0, push_label n stored x c ls l h.1 g)
push_label n [] x c (m ∷ ls) l h g = absurd h
push_label n (y ∷ stored) x c [] l h g = absurd h

-- the labels so far, with what is wrong with the others
pub record Goes (a : Around) (s : Scope) (c : ClosureExpr) (all : List Stored) (i : ℕ) (titles : List (List ℕ)) (stored : List Closure) : Type 0 where
  pub given : GiveLabels a.given.program stored (closing_of a s c) (map label_of (take i all))
  pub before : List (List ℕ)
  pub same : (n : List ℕ) → is_among n before ≡ is_among n titles
  pub rest : labels_fault (label_judge a s (params_in c.params)) [] (trees (map view_label all))
      ≡ labels_fault (label_judge a s (params_in c.params)) before (trees (map view_label (drop i all)))

module _ (a : Around) (s : Scope) (c : ClosureExpr) (all : List Stored) where
  pub begins : Goes a s c all 0 [] []
  begins = record { given = tt; before = []; same = λ n. refl; rest = refl }

  among_more : (n m : List ℕ) (before titles : List (List ℕ)) → is_among n before ≡ is_among n titles → is_among n (m ∷ before) ≡ is_among n (titles ++ m ∷ [])
  among_more n m before titles h = ap (λ b. bytes_eq m n || b) h ∙ sym (among_last n m titles)

  -- the label at this place is fine
  pub goes_on : (i : ℕ) (l : Stored) (titles : List (List ℕ)) (stored : List Closure) (x : Closure) → i < length all → l ≡ get_or all i l
      → HasValue (judged_label a s c titles l) (IsLabelled a s c l x) → Goes a s c all i titles stored → Goes a s c all (i + 1) (titles ++ l.name ∷ []) (stored ++ x ∷ [])
  goes_on i l titles stored x lt is h g =
      let more : map label_of (take (i + 1) all) ≡ map label_of (take i all) ++ label_of l ∷ [] =
      ap (map label_of) (take_more all i l lt ∙ ap (λ y. take i all ++ y ∷ []) (sym is)) ∙ map-append label_of (take i all) (l ∷ []) in
      let left : drop i all ≡ l ∷ drop (i + 1) all = rw (add-one, drop-cons all i l, ← is) refl in
      let judge = label_judge a s (params_in c.params) in
      let here : fault_if (is_among l.name g.before) (TwiceDefined l.place) ≡ fault_if (is_among l.name titles) (TwiceDefined l.place) = ap (λ b. fault_if b (TwiceDefined l.place)) (g.same l.name) in
      let next = labels_fault judge (l.name ∷ g.before) (trees (map view_label (drop (i + 1) all))) in
      record {
        given = subst (GiveLabels a.given.program (stored ++ x ∷ []) (closing_of a s c)) (sym more) (push_label a.given.program stored x (closing_of a s c) (map label_of (take i all)) (label_of l) g.given h.fits);
        before = l.name ∷ g.before;
        same = λ n. among_more n l.name g.before titles (g.same n);
        rest = g.rest
            ∙ ap (λ ls. labels_fault judge g.before (trees (map view_label ls))) left
            ∙ ap (λ t. labels_fault judge g.before (cons t (trees (map view_label (drop (i + 1) all))))) (label_is l)
            ∙ ap (λ f. or_else f (or_else (judge (view l.value)) next)) here
            ∙ fine_here (is_among l.name titles) l.place (judge (view l.value)) next h.value h.is;
      }

  -- the label at this place isn't
  pub goes_wrong : (i : ℕ) (l : Stored) (titles : List (List ℕ)) (stored : List Closure) (e : LowerFault) → i < length all → l ≡ get_or all i l
      → HasFault (judged_label a s c titles l) e → Goes a s c all i titles stored → HasFault (judged_labels a s c all) e
  goes_wrong i l titles stored e lt is h g =
      let left : drop i all ≡ l ∷ drop (i + 1) all = rw (add-one, drop-cons all i l, ← is) refl in
      let judge = label_judge a s (params_in c.params) in
      let here : fault_if (is_among l.name g.before) (TwiceDefined l.place) ≡ fault_if (is_among l.name titles) (TwiceDefined l.place) = ap (λ b. fault_if b (TwiceDefined l.place)) (g.same l.name) in
      let next = labels_fault judge (l.name ∷ g.before) (trees (map view_label (drop (i + 1) all))) in
      let whole : labels_fault judge [] (trees (map view_label all)) ≡ or_else (fault_if (is_among l.name titles) (TwiceDefined l.place)) (or_else (judge (view l.value)) next) =
      g.rest
      ∙ ap (λ ls. labels_fault judge g.before (trees (map view_label ls))) left
      ∙ ap (λ t. labels_fault judge g.before (cons t (trees (map view_label (drop (i + 1) all))))) (label_is l)
      ∙ ap (λ f. or_else f (or_else (judge (view l.value)) next)) here in
      subst (λ f. HasFault (unless f (Ok tt)) e) (sym whole) (wrong_here (fault_if (is_among l.name titles) (TwiceDefined l.place)) (judge (view l.value)) next e h)

  -- all are
  pub goes_to_end : (i : ℕ) (titles : List (List ℕ)) (stored : List Closure) → length all ≤ i → titles ≡ map (λ l. l.name) (take i all) → Goes a s c all i titles stored
      → HasValue (judged_labels a s c all) (λ u. (titles ≡ map (λ l. l.name) all) × GiveLabels a.given.program stored (closing_of a s c) (map label_of all))
  goes_to_end i titles stored end named g = record {
    value = tt;
    is = ap (λ f. unless f (Ok tt)) (g.rest ∙ ap (λ ls. labels_fault (label_judge a s (params_in c.params)) g.before (trees (map view_label ls))) (drop_all i all end));
    fits = (named ∙ ap (λ ls. map (λ (l : Stored). l.name) ls) (take_all i all end), subst (λ ls. GiveLabels a.given.program stored (closing_of a s c) (map label_of ls)) (take_all i all end) g.given);
  }

-- ---- the whole

names_are : (ls : List Stored) → labels_in (trees (map view_label ls)) ≡ map (λ l. l.name) ls
names_are [] = refl
names_are (l ∷ ls) = ap (λ t. labels_in (cons t (trees (map view_label ls)))) (label_is l) ∙ ap (λ ns. l.name ∷ ns) (names_are ls)

trees_are : (ls : List Stored) → trees (map view_label ls) ≡ trees (map label_tree (map label_of ls))
trees_are [] = refl
trees_are (l ∷ ls) = ap (λ t. cons t (trees (map view_label ls))) (label_is l) ∙ ap (cons (label_tree (label_of l))) (trees_are ls)

module _ (a : Around) (s : State) (c : ClosureExpr) (ls : List Stored) (body : view_body c.body ≡ trees (map view_label ls)) where
  are_labels : (x : Labelled) → AreLabelled a s.scope c ls x tt → has_labels (trees (map view_label ls)) ≡ true → AreLabels a.given.program x (closing_of a s.scope c)
  are_labels x h some = by ls h some body
    where
      by : (ms : List Stored) → AreLabelled a s.scope c ms x tt → has_labels (trees (map view_label ms)) ≡ true → view_body c.body ≡ trees (map view_label ms) → AreLabels a.given.program x (closing_of a s.scope c)
      by [] k e is = absurd (true≢false (sym e))
      by (m ∷ ms) k e is = record {
        first = label_of m;
        more = map label_of ms;
        has = record { body = is ∙ trees_are (m ∷ ms) };
        named = k.0 ∙ sym (names_are (m ∷ ms)) ∙ sym (ap labels_in is);
        give = k.1;
      }

abbrev labels_walk : ClosureExpr → Bool → Walk Closing
labels_walk c b = if b then labels_closure c.place (params_in c.params) (view_body c.body) else refused (BadOption c.place)

-- a closure without labels
pub no_labels : (a : Around) (s : State) (c : ClosureExpr) → has_labels (view_body c.body) ≡ false → labels_arg (view_closure c) a s ≡ Err (BadOption c.place)
no_labels a s c h = ap (λ e. labels_arg e a s) (closure_is c) ∙ ap (λ b. labels_walk c b a s) h

module _ (a : Around) (s : State) (c : ClosureExpr) (some : has_labels (view_body c.body) ≡ true) where
  labels_are : labels_arg (view_closure c) a s ≡ labels_closure c.place (params_in c.params) (view_body c.body) a s
  labels_are = ap (λ e. labels_arg e a s) (closure_is c) ∙ ap (λ b. labels_walk c b a s) some

  pub params_wrong : (e : LowerFault) → Judges (uses_fault a.given a.definitions (known_in a s.scope) in_run (params_uses (params_in c.params))) (Err e)
      → HasFault (labels_arg (view_closure c) a s) e
  params_wrong e h = subst (λ w. HasFault w e) (sym labels_are) (walk_wrong (uses_fault a.given a.definitions (known_in a s.scope) in_run (params_uses (params_in c.params)))
      (λ b t. (unless_fault (labels_fault (label_judge a s.scope (params_in c.params)) [] (view_body c.body)) >>= λ _. gives (closing_of a s.scope c)) b t) a s e h)

  module _ (ls : List Stored) (body : view_body c.body ≡ trees (map view_label ls)) (fine : HasParams a s.scope c) where
    labels_rest : (r : Result Labelled LowerFault) → Gives (λ x z. AreLabels a.given.program x z.0 × (z.1 ≡ s))
        ((unless_fault (labels_fault (label_judge a s.scope (params_in c.params)) [] (view_body c.body)) >>= λ _. gives (closing_of a s.scope c)) a s) r
        → Reads (AreLabels a.given.program) (labels_arg (view_closure c)) a s r
    labels_rest r h = subst (λ w. Gives (λ x z. AreLabels a.given.program x z.0 × (z.1 ≡ s)) w r) (sym labels_are)
        (walk_right (λ x z. AreLabels a.given.program x z.0 × (z.1 ≡ s)) (uses_fault a.given a.definitions (known_in a s.scope) in_run (params_uses (params_in c.params)))
        (λ b t. (unless_fault (labels_fault (label_judge a s.scope (params_in c.params)) [] (view_body c.body)) >>= λ _. gives (closing_of a s.scope c)) b t) a s r fine h)

    same_wrong : labels_fault (label_judge a s.scope (params_in c.params)) [] (view_body c.body) ≡ labels_fault (label_judge a s.scope (params_in c.params)) [] (trees (map view_label ls))
    same_wrong = ap (labels_fault (label_judge a s.scope (params_in c.params)) []) body

    pub labels_wrong : (e : LowerFault) → HasFault (judged_labels a s.scope c ls) e → HasFault (labels_arg (view_closure c) a s) e
    labels_wrong e h = labels_rest (Err e) (walk_wrong (labels_fault (label_judge a s.scope (params_in c.params)) [] (view_body c.body)) (gives (closing_of a s.scope c)) a s e
        (subst (λ f. Judges f (Err e)) (sym same_wrong) h))

    pub labels_right : (x : Labelled) → HasValue (judged_labels a s.scope c ls) (AreLabelled a s.scope c ls x) → Reads (AreLabels a.given.program) (labels_arg (view_closure c)) a s (Ok x)
    labels_right x h = labels_rest (Ok x) (walk_right (λ x z. AreLabels a.given.program x z.0 × (z.1 ≡ s)) (labels_fault (label_judge a s.scope (params_in c.params)) [] (view_body c.body))
        (gives (closing_of a s.scope c)) a s (Ok x) (same_wrong ∙ is_none (labels_fault (label_judge a s.scope (params_in c.params)) [] (trees (map view_label ls))) h.value (record { value = h.value; is = h.is; fits = tt }))
        (record { value = (closing_of a s.scope c, s); is = refl; fits = (are_labels a s c ls body x h.fits (ap has_labels (sym body) ∙ some), refl) }))

    pub labels_by : (r : Result Labelled LowerFault) → Gives (AreLabelled a s.scope c ls) (judged_labels a s.scope c ls) r → Reads (AreLabels a.given.program) (labels_arg (view_closure c)) a s r
    labels_by (Ok x) h = labels_right x h
    labels_by (Err e) h = labels_wrong e h
