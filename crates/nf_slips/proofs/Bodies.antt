-- The forms of arguments, and of the bodies of closures.
use Rattle.std.proofs.Common.{◌≡◌, ℕ, ◌<◌, Bool, true, false, List, [], ◌∷◌, length, get_or, map, refl, sym, ap, ◌∙◌, subst, arith}
use Rattle.nf_value.specs.declared.place.Place.{Place}
use Rattle.nf_ast.specs.declared.expr.Arg.{Arg}
use Rattle.nf_ast.specs.declared.expr.Label.{Label}
use Rattle.nf_ast.specs.declared.expr.Stmt.{Stmt}
use Rattle.nf_ast.specs.View.{names, trees, view_arg, view_label, view_stmt}
use Rattle.nf_placed.specs.Body.{names_in}
use Rattle.nf_slips.specs.declared.forms.Form.{Form}
use Rattle.nf_slips.specs.declared.forms.Form.TheVariants as f
use Rattle.nf_slips.specs.Forms.{FormTree, label, row, other, form_of, of_two, pair_form, without_label, sole_of, labels_in, are_both, are_two}
use Rattle.nf_slips.specs.Memory.{view_form}
use Rattle.nf_slips.proofs.Layers.{of_label}

-- ---- two arguments

pub two_args : (xs : List Arg) (x y : Arg) (r : FormTree) → length xs ≡ 2 → x ≡ get_or xs 0 x → y ≡ get_or xs 1 y → r ≡ of_two true (form_of (view_arg x)) (form_of (view_arg y)) → r ≡ pair_form (form_of (trees (map view_arg xs)))
two_args [] x y r n p q h = absurd (omega arith)
two_args (a ∷ []) x y r n p q h = absurd (omega arith)
two_args (a ∷ b ∷ []) x y r n p q h = h ∙ ap (λ z. of_two true (form_of (view_arg z)) (form_of (view_arg y))) p ∙ ap (λ z. of_two true (form_of (view_arg a)) (form_of (view_arg z))) q
two_args (a ∷ b ∷ d ∷ xs) x y r n p q h = absurd (omega arith)

pub other_args : (xs : List Arg) → (length xs ≡ 2 → ⊥) → pair_form (form_of (trees (map view_arg xs))) ≡ other
other_args [] h = refl
other_args (a ∷ []) h = refl
other_args (a ∷ b ∷ []) h = absurd (h refl)
other_args (a ∷ b ∷ d ∷ xs) h = refl

-- ---- no statement is a label

no_label_in : (x : Form) → without_label (view_form x) ≡ view_form x
no_label_in (f.Name p n) = refl
no_label_in (f.Number z) = refl
no_label_in (f.Closure c) = refl
no_label_in f.Extreme = refl
no_label_in (f.Total m n) = refl
no_label_in f.Other = refl

pub no_label : (x : Form) (t : FormTree) → view_form x ≡ t → without_label t ≡ t
no_label x t e = subst (λ (y : FormTree). without_label y ≡ y) e (no_label_in x)

unlabelled : (x more : FormTree) → without_label x ≡ x → labels_in (row x more) ≡ []
unlabelled (label n) more h = absurd (let e : other ≡ label n = h in cc)
unlabelled _ more h = refl

pub none_labelled : (xs : List Stmt) (x : Stmt) → 0 < length xs → x ≡ get_or xs 0 x → without_label (form_of (view_stmt x)) ≡ form_of (view_stmt x) → labels_in (form_of (trees (map view_stmt xs))) ≡ []
none_labelled [] x lt is h = absurd (omega arith)
none_labelled (y ∷ ys) x lt is h =
    unlabelled (form_of (view_stmt y)) (form_of (trees (map view_stmt ys))) (subst (λ (z : Stmt). without_label (form_of (view_stmt z)) ≡ form_of (view_stmt z)) is h)

-- ---- a body of one statement

pub sole_one : (xs : List Stmt) (x : Stmt) (r : Form) → length xs ≡ 1 → x ≡ get_or xs 0 x → view_form r ≡ form_of (view_stmt x) → view_form r ≡ sole_of (form_of (trees (map view_stmt xs)))
sole_one [] x r n is h = absurd (omega arith)
sole_one (y ∷ []) x r n is h = let e : view_form r ≡ form_of (view_stmt y) = h ∙ ap (λ z. form_of (view_stmt z)) is in e ∙ sym (no_label r (form_of (view_stmt y)) e)
sole_one (y ∷ z ∷ ys) x r n is h = absurd (omega arith)

pub sole_many : (xs : List Stmt) → (length xs ≡ 1 → ⊥) → sole_of (form_of (trees (map view_stmt xs))) ≡ other
sole_many [] h = refl
sole_many (y ∷ []) h = absurd (h refl)
sole_many (y ∷ z ∷ ys) h = refl

-- labels are no statement
pub sole_labels : (xs : List Label) → sole_of (form_of (trees (map view_label xs))) ≡ other
sole_labels [] = refl
sole_labels (x ∷ []) = of_label (λ w. sole_of (row (form_of w) other) ≡ other) (λ z. refl) x
sole_labels (x ∷ y ∷ ys) = refl

-- ---- two parameters

pub two_params : (ns : List (Place × List ℕ)) (a b : Place × List ℕ) (m n : List ℕ) (r : Bool) → length ns ≡ 2 → a ≡ get_or ns 0 a → b ≡ get_or ns 1 b → r ≡ are_both a.1 b.1 m n → r ≡ are_two (names_in (names ns)) m n
two_params [] a b m n r len p q h = absurd (omega arith)
two_params (x ∷ []) a b m n r len p q h = absurd (omega arith)
two_params (x ∷ y ∷ []) a b m n r len p q h = h ∙ ap (λ z. are_both z.1 b.1 m n) p ∙ ap (λ z. are_both x.1 z.1 m n) q
two_params (x ∷ y ∷ z ∷ ns) a b m n r len p q h = absurd (omega arith)

pub other_params : (ns : List (Place × List ℕ)) (m n : List ℕ) → (length ns ≡ 2 → ⊥) → are_two (names_in (names ns)) m n ≡ false
other_params [] m n h = refl
other_params (x ∷ []) m n h = refl
other_params (x ∷ y ∷ []) m n h = absurd (h refl)
other_params (x ∷ y ∷ z ∷ ns) m n h = refl
