-- Closures that are just a name.
use Rattle.std.proofs.Common.{◌≡◌, ◌∙◌, ◌<◌, ℕ, List, [], ◌∷◌, length, get_or, map, Option, Some, None, Ok, Err, true, false, true≢false, refl, sym, ap, arith}
use Rattle.std.specs.Prelude.{option_map}
use Rattle.std.specs.Borrow.{Bor}
use Rattle.std.specs.Global.{Vec}
use Rattle.nf_value.specs.declared.place.Place.{Place}
use Rattle.nf_ast.specs.Tree as tree
use Rattle.nf_ast.specs.Tree.{Tree, empty, cons}
use Rattle.nf_ast.specs.View.{ArmTree, choice, last_arm, trees, params_tree, view_body, view_closure, view_label, view_stmt}
use Rattle.nf_ast.specs.declared.expr.ClosureExpr.{ClosureExpr}
use Rattle.nf_ast.specs.declared.expr.Label.{Label}
use Rattle.nf_ast.specs.declared.expr.Stmt.{Stmt}
use Rattle.nf_meaning.specs.declared.fault.LowerFault.TheVariants.{BadOption}
use Rattle.nf_meaning.specs.Closures.{word_arg}
use Rattle.nf_meaning.specs.Walk.{Around, State}
use Rattle.nf_names_used.specs.Uses.{is_name}
use Rattle.nf_around.specs.Labels.{params_in}
use Rattle.nf_around.specs.Gives.{Reads}
use Rattle.nf_around.specs.Words.{IsWord, name_alone, word_after, word_in}
use Rattle.nf_around.proofs.Layers.{closure_is, label_is}

-- ---- what stands in a closure

pub labels_no_word : (ls : List Label) → word_in (trees (map view_label ls)) ≡ None
labels_no_word [] = refl
labels_no_word (l ∷ []) = ap (λ t. word_in (cons t empty)) (label_is l)
labels_no_word (l ∷ m ∷ ls) = refl

pub sole : (ss : List Stmt) (s : Stmt) (o : Option (List ℕ)) → length ss ≡ 1 → s ≡ get_or ss 0 s → o ≡ name_alone (view_stmt s) → o ≡ word_in (trees (map view_stmt ss))
sole [] s o n is h = absurd (omega arith)
sole (x ∷ []) s o n is h = h ∙ ap (λ y. name_alone (view_stmt y)) is
sole (x ∷ y ∷ ss) s o n is h = absurd (omega arith)

pub not_sole : (ss : List Stmt) → (length ss ≡ 1 → ⊥) → word_in (trees (map view_stmt ss)) ≡ None
not_sole [] h = refl
not_sole (x ∷ []) h = absurd (h refl)
not_sole (x ∷ y ∷ ss) h = refl

pub no_name_alone : (t : Tree) → is_name t ≡ false → name_alone t ≡ None
no_name_alone (tree.name p n) h = absurd (true≢false h)
no_name_alone _ h = refl

choice_none : (xs : List ArmTree) (o : Option (List Tree)) → name_alone (choice xs (last_arm o)) ≡ None
choice_none [] None = refl
choice_none [] (Some ss) = refl
choice_none (x ∷ xs) o = refl

pub choice_no_word : (t : Tree) (xs : List ArmTree) (o : Option (List Tree)) → t ≡ choice xs (last_arm o) → None ≡ name_alone t
choice_no_word t xs o is = sym (ap name_alone is ∙ choice_none xs o)

-- ---- the closure

module _ (a : Around) (s : State) (p : Place) where
  name_by : (e : Tree) (n : List ℕ) → name_alone e ≡ Some n → word_arg (tree.closure p empty (cons e empty)) a s ≡ Ok (n, s)
  name_by (tree.name q m) n h = let e : ◌≡◌ {A = Option (List ℕ)} (Some m) (Some n) = h in let same : m ≡ n = cc in ap (λ k. Ok (k, s)) same
  name_by _ n h = absurd (let e : ◌≡◌ {A = Option (List ℕ)} None (Some n) = h in cc)

  word_by : (b : Tree) (n : List ℕ) → word_in b ≡ Some n → word_arg (tree.closure p empty b) a s ≡ Ok (n, s)
  word_by (cons e empty) n h = name_by e n h
  word_by b n h = absurd (let e : ◌≡◌ {A = Option (List ℕ)} None (Some n) = h in cc)

  none_by : (b : Tree) → word_in b ≡ None → word_arg (tree.closure p empty b) a s ≡ Err (BadOption p)
  none_by (cons (tree.name q m) empty) h = absurd (let e : ◌≡◌ {A = Option (List ℕ)} (Some m) None = h in cc)
  none_by b h = refl

module _ (a : Around) (s : State) (c : ClosureExpr) where
  pub word_is : (n : Bor (List ℕ)) → Some n.now ≡ word_after (params_in c.params) (view_body c.body) → Reads IsWord (word_arg (view_closure c)) a s (Ok n)
  word_is n h = record {
    value = (n.now, s);
    is = ap (λ e. word_arg e a s) (closure_is c) ∙ by c.params h;
    fits = (refl, refl);
  }
    where
      by : (ps : Option (Vec (Place × List ℕ))) → Some n.now ≡ word_after (params_in ps) (view_body c.body) → word_arg (tree.closure c.place (params_in ps) (view_body c.body)) a s ≡ Ok (n.now, s)
      by None k = word_by a s c.place (view_body c.body) n.now (sym k)
      by (Some v) k = absurd (let e : ◌≡◌ {A = Option (List ℕ)} (Some n.now) None = k in cc)

  pub word_none : None ≡ word_after (params_in c.params) (view_body c.body) → word_arg (view_closure c) a s ≡ Err (BadOption c.place)
  word_none h = ap (λ e. word_arg e a s) (closure_is c) ∙ by c.params h
    where
      by : (ps : Option (Vec (Place × List ℕ))) → None ≡ word_after (params_in ps) (view_body c.body) → word_arg (tree.closure c.place (params_in ps) (view_body c.body)) a s ≡ Err (BadOption c.place)
      by None k = none_by a s c.place (view_body c.body) (sym k)
      by (Some v) k = refl
