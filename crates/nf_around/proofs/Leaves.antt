-- Expressions by their forms.
use Rattle.std.proofs.Common.{◌≡◌, ◌∙◌, ◌<◌, ℕ, Bool, true, false, List, [], ◌∷◌, length, get_or, map, Option, Some, None, refl, sym, ap, arith}
use Rattle.std.proofs.lemmas.Bool.{false≢true}
use Rattle.std.specs.Prelude.{if◌then◌else◌, codes, ◌&&◌}
use Rattle.std.specs.Str.{bytes_eq}
use Rattle.nf_value.specs.declared.place.Place.{Place}
use Rattle.nf_ast.specs.Tree as tree
use Rattle.nf_ast.specs.Tree.{Tree, empty, cons}
use Rattle.nf_ast.specs.View.{ArmTree, choice, last_arm, trees, view_stmt}
use Rattle.nf_ast.specs.declared.expr.Stmt.{Stmt}
use Rattle.nf_placed.specs.Body.{name_in}
use Rattle.nf_names_used.specs.Uses.{is_name}
use Rattle.nf_slips.specs.Forms as form
use Rattle.nf_slips.specs.Forms.{FormTree, row, extreme, other, total, form_of, of_two, adds_up, member_form, called_form, pair_form, is_extreme, is_expression}
use Rattle.nf_meaning.specs.Arguments.{is_closure}
use Rattle.nf_meaning.specs.Closures.{has_labels, is_label}

-- a closure or a name
abbrev is_leaf : FormTree → Bool
is_leaf (form.closure t) = true
is_leaf (form.name p n) = true
is_leaf _ = false

if_no : (b : Bool) (x y : FormTree) → is_leaf x ≡ false → is_leaf y ≡ false → is_leaf (if b then x else y) ≡ false
if_no true x y h k = h
if_no false x y h k = k

two_no : (b : Bool) (x y : FormTree) → is_leaf (of_two b x y) ≡ false
two_no b (form.name p m) (form.name q n) = if_no b (total m n) other refl refl
two_no b (form.name p m) _ = refl
two_no b _ y = refl

member_no : (x : FormTree) (n : List ℕ) → is_leaf (member_form x n) ≡ false
member_no (form.name p m) n = if_no (bytes_eq m (codes "Math") && is_extreme n) extreme other refl refl
member_no _ n = refl

pair_no : (x : FormTree) → is_leaf (pair_form x) ≡ false
pair_no (row x (row y other)) = two_no true x y
pair_no _ = refl

called_no : (x y : FormTree) → is_leaf (called_form x y) ≡ false
called_no extreme y = pair_no y
called_no _ y = refl

no_closure : (f : FormTree) (u : Tree) → is_leaf f ≡ false → f ≡ form.closure u → ⊥
no_closure f u apart h = false≢true (sym apart ∙ ap is_leaf h)

no_name : (f : FormTree) (p : Place) (n : List ℕ) → is_leaf f ≡ false → f ≡ form.name p n → ⊥
no_name f p n apart h = false≢true (sym apart ∙ ap is_leaf h)

pub closure_of : (t u : Tree) → form_of t ≡ form.closure u → t ≡ u
closure_of (tree.closure p ps b) u h = let e : form.closure (tree.closure p ps b) ≡ form.closure u = h in cc
closure_of (tree.name p n) u h = absurd (let e : form.name p n ≡ form.closure u = h in cc)
closure_of (tree.binary p k a b) u h = absurd (no_closure (form_of (tree.binary p k a b)) u (two_no (adds_up k) (form_of a) (form_of b)) h)
closure_of (tree.property e n) u h = absurd (no_closure (form_of (tree.property e n)) u (member_no (form_of e) (name_in n)) h)
closure_of (tree.call p f xs) u h = absurd (no_closure (form_of (tree.call p f xs)) u (called_no (form_of f) (form_of xs)) h)
closure_of t u h = absurd (no_closure (form_of t) u refl h)

pub name_of : (t : Tree) (p : Place) (n : List ℕ) → form_of t ≡ form.name p n → t ≡ tree.name p n
name_of (tree.name q m) p n h = let e : form.name q m ≡ form.name p n = h in let same : tree.name q m ≡ tree.name p n = cc in same
name_of (tree.closure q ps b) p n h = absurd (let e : form.closure (tree.closure q ps b) ≡ form.name p n = h in cc)
name_of (tree.binary q k a b) p n h = absurd (no_name (form_of (tree.binary q k a b)) p n (two_no (adds_up k) (form_of a) (form_of b)) h)
name_of (tree.property e m) p n h = absurd (no_name (form_of (tree.property e m)) p n (member_no (form_of e) (name_in m)) h)
name_of (tree.call q f xs) p n h = absurd (no_name (form_of (tree.call q f xs)) p n (called_no (form_of f) (form_of xs)) h)
name_of t p n h = absurd (no_name (form_of t) p n refl h)

-- ---- where the form is none

abbrev pub is_closure_form : FormTree → Bool
is_closure_form (form.closure t) = true
is_closure_form _ = false

abbrev pub is_name_form : FormTree → Bool
is_name_form (form.name p n) = true
is_name_form _ = false

pub other_than_closure : (t : Tree) (f : FormTree) → f ≡ form_of t → is_closure_form f ≡ false → is_closure t ≡ false
other_than_closure (tree.closure p ps b) f h apart = absurd (false≢true (sym apart ∙ ap is_closure_form h))
other_than_closure _ f h apart = refl

pub other_than_name : (t : Tree) (f : FormTree) → f ≡ form_of t → is_name_form f ≡ false → is_name t ≡ false
other_than_name (tree.name p n) f h apart = absurd (false≢true (sym apart ∙ ap is_name_form h))
other_than_name _ f h apart = refl

pub other_than_label : (t : Tree) → is_expression t ≡ true → is_label t ≡ false
other_than_label (tree.label n e) h = absurd (false≢true h)
other_than_label _ h = refl

-- ---- statements

choice_no_label : (xs : List ArmTree) (o : Option (List Tree)) → is_label (choice xs (last_arm o)) ≡ false
choice_no_label [] None = refl
choice_no_label [] (Some ss) = refl
choice_no_label (x ∷ xs) o = refl

pub choice_is_none : (t : Tree) (xs : List ArmTree) (o : Option (List Tree)) → t ≡ choice xs (last_arm o) → false ≡ is_label t
choice_is_none t xs o is = sym (ap is_label is ∙ choice_no_label xs o)

pub first_label : (ss : List Stmt) (s : Stmt) (b : Bool) → 0 < length ss → s ≡ get_or ss 0 s → b ≡ is_label (view_stmt s) → b ≡ has_labels (trees (map view_stmt ss))
first_label [] s b lt is h = absurd (omega arith)
first_label (x ∷ ss) s b lt is h = h ∙ ap (λ y. is_label (view_stmt y)) is
