-- Expressions that are closures, and those that aren't.
use Rattle.std.proofs.Common.{◌≡◌, ◌∙◌, ℕ, Bool, true, false, List, refl, sym, ap}
use Rattle.std.proofs.lemmas.Bool.{false≢true}
use Rattle.std.specs.Prelude.{if◌then◌else◌, codes, ◌&&◌}
use Rattle.std.specs.Str.{bytes_eq}
use Rattle.nf_ast.specs.Tree as tree
use Rattle.nf_ast.specs.Tree.{Tree}
use Rattle.nf_fronts.specs.declared.last.Last.{Last}
use Rattle.nf_fronts.specs.declared.last.Last.TheVariants as last
use Rattle.nf_fronts.specs.Lasts.{IsLast, is_other}
use Rattle.nf_placed.specs.Body.{name_in}
use Rattle.nf_slips.specs.Forms as form
use Rattle.nf_slips.specs.Forms.{FormTree, row, extreme, other, total, form_of, of_two, adds_up, member_form, called_form, pair_form, is_extreme, is_expression}
use Rattle.nf_meaning.specs.Arguments.{is_closure}

-- ---- by what stands last

other_is : (t : Tree) → is_other t ≡ true → is_expression t ≡ true
other_is (tree.number p z) h = refl
other_is (tree.text p k s) h = refl
other_is (tree.pattern p s) h = refl
other_is (tree.template p k xs) h = refl
other_is (tree.truth p b) h = refl
other_is (tree.null p) h = refl
other_is (tree.map p xs) h = refl
other_is (tree.closure p ps b) h = refl
other_is (tree.prefix p k e) h = refl
other_is (tree.binary p k a b) h = refl
other_is (tree.elvis p a b) h = refl
other_is (tree.safe_property e n) h = refl
other_is _ h = absurd (false≢true h)

pub last_is_expression : (t : Tree) (l : Last) → IsLast t l → is_expression t ≡ true
last_is_expression t (last.Name p n) h = ap is_expression h
last_is_expression t (last.List p xs) h = ap is_expression h
last_is_expression t (last.Property f p n) h = ap is_expression h
last_is_expression t (last.Index f p i) h = ap is_expression h
last_is_expression t (last.Call f p xs) h = ap is_expression h
last_is_expression t (last.With f c) h = ap is_expression h
last_is_expression t (last.Pipe f p e) h = ap is_expression h
last_is_expression t (last.Conditional p c a b) h = ap is_expression h
last_is_expression t last.Other h = other_is t h

-- ---- by its form

abbrev pub is_closure_form : FormTree → Bool
is_closure_form (form.closure t) = true
is_closure_form _ = false

if_no : (b : Bool) (x y : FormTree) → is_closure_form x ≡ false → is_closure_form y ≡ false → is_closure_form (if b then x else y) ≡ false
if_no true x y h k = h
if_no false x y h k = k

two_no : (b : Bool) (x y : FormTree) → is_closure_form (of_two b x y) ≡ false
two_no b (form.name p m) (form.name q n) = if_no b (total m n) other refl refl
two_no b (form.name p m) _ = refl
two_no b _ y = refl

member_no : (x : FormTree) (n : List ℕ) → is_closure_form (member_form x n) ≡ false
member_no (form.name p m) n = if_no (bytes_eq m (codes "Math") && is_extreme n) extreme other refl refl
member_no _ n = refl

pair_no : (x : FormTree) → is_closure_form (pair_form x) ≡ false
pair_no (row x (row y other)) = two_no true x y
pair_no _ = refl

called_no : (x y : FormTree) → is_closure_form (called_form x y) ≡ false
called_no extreme y = pair_no y
called_no _ y = refl

no_closure : (f : FormTree) (u : Tree) → is_closure_form f ≡ false → f ≡ form.closure u → ⊥
no_closure f u isnt h = false≢true (sym isnt ∙ ap is_closure_form h)

pub closure_of : (t u : Tree) → form_of t ≡ form.closure u → t ≡ u
closure_of (tree.closure p ps b) u h = let e : form.closure (tree.closure p ps b) ≡ form.closure u = h in cc
closure_of (tree.name p n) u h = absurd (let e : form.name p n ≡ form.closure u = h in cc)
closure_of (tree.binary p k a b) u h = absurd (no_closure (form_of (tree.binary p k a b)) u (two_no (adds_up k) (form_of a) (form_of b)) h)
closure_of (tree.property e n) u h = absurd (no_closure (form_of (tree.property e n)) u (member_no (form_of e) (name_in n)) h)
closure_of (tree.call p f xs) u h = absurd (no_closure (form_of (tree.call p f xs)) u (called_no (form_of f) (form_of xs)) h)
closure_of t u h = absurd (no_closure (form_of t) u refl h)

pub other_than_closure : (t : Tree) (f : FormTree) → f ≡ form_of t → is_closure_form f ≡ false → is_closure t ≡ false
other_than_closure (tree.closure p ps b) f h isnt = absurd (false≢true (sym isnt ∙ ap is_closure_form h))
other_than_closure _ f h isnt = refl
