-- Expressions by their forms: names, and totals of two names.
use Rattle.std.proofs.Common.{◌≡◌, ◌∙◌, ℕ, Bool, true, false, List, [], ◌∷◌, refl, sym, ap}
use Rattle.std.proofs.lemmas.Bool.{false≢true}
use Rattle.std.specs.Prelude.{if◌then◌else◌, codes, ◌&&◌, bytes_eq}
use Rattle.nf_value.specs.declared.place.Place.{Place}
use Rattle.nf_ast.specs.Tree as tree
use Rattle.nf_ast.specs.Tree.{Tree, cons, empty}
use Rattle.nf_ast.specs.View.{trees}
use Rattle.nf_placed.specs.Body.{name_in}
use Rattle.nf_slips.specs.Forms as form
use Rattle.nf_slips.specs.Forms.{FormTree, form_of, of_two, adds_up, member_form, called_form, pair_form, is_extreme}

abbrev pub is_total : FormTree → Bool
is_total (form.total m n) = true
is_total _ = false

abbrev is_named : FormTree → Bool
is_named (form.name p n) = true
is_named _ = false

abbrev is_extreme_form : FormTree → Bool
is_extreme_form form.extreme = true
is_extreme_form _ = false

abbrev left_in : FormTree → List ℕ
left_in (form.total m n) = m
left_in _ = []

abbrev right_in : FormTree → List ℕ
right_in (form.total m n) = n
right_in _ = []

-- ---- names

if_unnamed : (b : Bool) (x y : FormTree) → is_named x ≡ false → is_named y ≡ false → is_named (if b then x else y) ≡ false
if_unnamed true x y h k = h
if_unnamed false x y h k = k

two_unnamed : (b : Bool) (x y : FormTree) → is_named (of_two b x y) ≡ false
two_unnamed b (form.name p m) (form.name q n) = if_unnamed b (form.total m n) form.other refl refl
two_unnamed b (form.name p m) _ = refl
two_unnamed b _ y = refl

member_unnamed : (x : FormTree) (n : List ℕ) → is_named (member_form x n) ≡ false
member_unnamed (form.name p m) n = if_unnamed (bytes_eq m (codes "Math") && is_extreme n) form.extreme form.other refl refl
member_unnamed _ n = refl

pair_unnamed : (x : FormTree) → is_named (pair_form x) ≡ false
pair_unnamed (form.row x (form.row y form.other)) = two_unnamed true x y
pair_unnamed _ = refl

called_unnamed : (x y : FormTree) → is_named (called_form x y) ≡ false
called_unnamed form.extreme y = pair_unnamed y
called_unnamed _ y = refl

other_name : (f : FormTree) (p : Place) (n : List ℕ) → is_named f ≡ false → f ≡ form.name p n → ⊥
other_name f p n other h = false≢true (sym other ∙ ap is_named h)

pub name_of : (t : Tree) (p : Place) (n : List ℕ) → form_of t ≡ form.name p n → t ≡ tree.name p n
name_of (tree.name q m) p n h = let e : form.name q m ≡ form.name p n = h in let same : tree.name q m ≡ tree.name p n = cc in same
name_of (tree.closure q ps b) p n h = absurd (other_name (form_of (tree.closure q ps b)) p n refl h)
name_of (tree.binary q k a b) p n h = absurd (other_name (form_of (tree.binary q k a b)) p n (two_unnamed (adds_up k) (form_of a) (form_of b)) h)
name_of (tree.property e m) p n h = absurd (other_name (form_of (tree.property e m)) p n (member_unnamed (form_of e) (name_in m)) h)
name_of (tree.call q f xs) p n h = absurd (other_name (form_of (tree.call q f xs)) p n (called_unnamed (form_of f) (form_of xs)) h)
name_of t p n h = absurd (other_name (form_of t) p n refl h)

-- ---- two names

pub record TwoNames (b : Bool) (x y : FormTree) (l r : List ℕ) : Type 0 where
  pub adds : b ≡ true
  pub first : Place
  pub second : Place
  pub left : x ≡ form.name first l
  pub right : y ≡ form.name second r

pub two_names : (b : Bool) (x y : FormTree) (l r : List ℕ) → of_two b x y ≡ form.total l r → TwoNames b x y l r
two_names true (form.name p m) (form.name q n) l r h = record { adds = refl; first = p; second = q; left = ap (form.name p) (ap left_in h); right = ap (form.name q) (ap right_in h) }
two_names false (form.name p m) (form.name q n) l r h = absurd (false≢true (ap is_total h))
two_names b (form.name p m) _ l r h = absurd (false≢true (ap is_total h))
two_names b _ y l r h = absurd (false≢true (ap is_total h))

-- two arguments
pub record TwoArgs (ys : List Tree) (l r : List ℕ) : Type 0 where
  pub one : Tree
  pub other : Tree
  pub are : ys ≡ one ∷ other ∷ []
  pub names : TwoNames true (form_of one) (form_of other) l r

pub two_args : (ys : List Tree) (l r : List ℕ) → pair_form (form_of (trees ys)) ≡ form.total l r → TwoArgs ys l r
two_args [] l r h = absurd (false≢true (ap is_total h))
two_args (a ∷ []) l r h = absurd (false≢true (ap is_total h))
two_args (a ∷ b ∷ []) l r h = record { one = a; other = b; are = refl; names = two_names true (form_of a) (form_of b) l r h }
two_args (a ∷ b ∷ c ∷ ys) l r h = absurd (false≢true (ap is_total h))

-- ---- a function of `Math`

pub called_extreme : (x y : FormTree) (l r : List ℕ) → called_form x y ≡ form.total l r → (x ≡ form.extreme) × (pair_form y ≡ form.total l r)
called_extreme form.extreme y l r h = (refl, h)
called_extreme _ y l r h = absurd (false≢true (ap is_total h))

pub record IsOfMath (x : FormTree) : Type 0 where
  pub place : Place
  pub word : List ℕ
  pub name : x ≡ form.name place word
  pub math : bytes_eq word (codes "Math") ≡ true

if_extreme : (b : Bool) → (if b then form.extreme else form.other) ≡ form.extreme → b ≡ true
if_extreme true h = refl
if_extreme false h = absurd (false≢true (ap is_extreme_form h))

both_left : (a b : Bool) → (a && b) ≡ true → a ≡ true
both_left true b h = refl
both_left false b h = absurd (false≢true h)

pub member_extreme : (x : FormTree) (n : List ℕ) → member_form x n ≡ form.extreme → IsOfMath x
member_extreme (form.name p m) n h = record {
  place = p;
  word = m;
  name = refl;
  math = both_left (bytes_eq m (codes "Math")) (is_extreme n) (if_extreme (bytes_eq m (codes "Math") && is_extreme n) h);
}
member_extreme _ n h = absurd (false≢true (ap is_extreme_form h))

-- ---- only properties are functions of `Math`, and only calls and operators are totals

if_plain : (b : Bool) (x y : FormTree) → is_extreme_form x ≡ false → is_extreme_form y ≡ false → is_extreme_form (if b then x else y) ≡ false
if_plain true x y h k = h
if_plain false x y h k = k

two_plain : (b : Bool) (x y : FormTree) → is_extreme_form (of_two b x y) ≡ false
two_plain b (form.name p m) (form.name q n) = if_plain b (form.total m n) form.other refl refl
two_plain b (form.name p m) _ = refl
two_plain b _ y = refl

pair_plain : (x : FormTree) → is_extreme_form (pair_form x) ≡ false
pair_plain (form.row x (form.row y form.other)) = two_plain true x y
pair_plain _ = refl

called_plain : (x y : FormTree) → is_extreme_form (called_form x y) ≡ false
called_plain form.extreme y = pair_plain y
called_plain _ y = refl

pub no_property : (t : Tree) → ((e n : Tree) → t ≡ tree.property e n → ⊥) → form_of t ≡ form.extreme → ⊥
no_property (tree.property e n) apart h = apart e n refl
no_property (tree.binary p k a b) apart h = false≢true (sym (two_plain (adds_up k) (form_of a) (form_of b)) ∙ ap is_extreme_form h)
no_property (tree.call p f xs) apart h = false≢true (sym (called_plain (form_of f) (form_of xs)) ∙ ap is_extreme_form h)
no_property _ apart h = false≢true (ap is_extreme_form h)

if_part : (b : Bool) (x y : FormTree) → is_total x ≡ false → is_total y ≡ false → is_total (if b then x else y) ≡ false
if_part true x y h k = h
if_part false x y h k = k

pub member_part : (x : FormTree) (n : List ℕ) → is_total (member_form x n) ≡ false
member_part (form.name p m) n = if_part (bytes_eq m (codes "Math") && is_extreme n) form.extreme form.other refl refl
member_part _ n = refl
