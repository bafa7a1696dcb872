-- Totals of two names, by what stands between them.
use Rattle.std.proofs.Common.{◌≡◌, ◌∙◌, ℕ, Bool, true, false, List, Option, Some, None, ◌⊎◌, inl, inr, refl, sym, ap, ap₂}
use Rattle.std.proofs.lemmas.Bool.{false≢true, true≢false}
use Rattle.std.specs.Prelude.{if◌then◌else◌, codes, ◌&&◌, ◌||◌, not, bytes_eq}
use Rattle.nf_value.specs.declared.place.Place.{Place}
use Rattle.nf_bag.specs.declared.options.Total.{Total}
use Rattle.nf_bag.specs.declared.options.Total.TheVariants.{Sum, Least, Greatest, All, Any}
use Rattle.nf_ast.specs.declared.operators.InfixOperator.{InfixOperator}
use Rattle.nf_ast.specs.declared.operators.InfixOperator.TheVariants as infix_operator
use Rattle.nf_ast.specs.Tree as tree
use Rattle.nf_ast.specs.Tree.{Tree, cons, empty}
use Rattle.nf_ast.specs.View.{trees}
use Rattle.nf_placed.specs.Body.{name_in, is_math}
use Rattle.nf_meaning.specs.Totals.{folding, folding_in, by_mark, by_word, by_math, by_args, total_over, is_name}
use Rattle.nf_slips.specs.Forms as form
use Rattle.nf_slips.specs.Forms.{FormTree, form_of, of_two, adds_up, member_form, called_form, pair_form, is_extreme}
use Rattle.nf_totals.specs.Totals.{are_both}
use Rattle.nf_totals.specs.Marks.{IsCallOf, IsMarkOf, IsSignOf, callee_total, if_both, is_call, name_total, sign_total}
use Rattle.nf_totals.proofs.Named.{TwoNames, IsOfMath, is_total, name_of, two_names, two_args, called_extreme, member_extreme, member_part, no_property}

if_none : (b : Bool) → ◌≡◌ {A = Option Total} None (if b then None else None)
if_none true = refl
if_none false = refl

module _ (m n : List ℕ) where
  -- ---- operators

  by_sign : (o : InfixOperator) (p q : Place) (l r : List ℕ) → adds_up o ≡ true → total_over m n (by_mark o (tree.name p l) (tree.name q r)) ≡ if_both m n l r (sign_total o)
  by_sign infix_operator.Plus p q l r h = refl
  by_sign infix_operator.And p q l r h = refl
  by_sign infix_operator.Or p q l r h = refl
  by_sign _ p q l r h = absurd (false≢true h)

  sum_is : (p : Place) (o : InfixOperator) (a b : Tree) (l r : List ℕ) → form_of (tree.binary p o a b) ≡ form.total l r → total_over m n (by_mark o a b) ≡ if_both m n l r (sign_total o)
  sum_is p o a b l r h =
      let w = two_names (adds_up o) (form_of a) (form_of b) l r h in
      ap₂ (λ x y. total_over m n (by_mark o x y)) (name_of a w.first l w.left) (name_of b w.second r w.right)
      ∙ by_sign o w.first w.second l r w.adds

  -- ---- functions of `Math`

  by_words : (c d : Bool) (p q : Place) (l r : List ℕ)
      → total_over m n (if c then folding Least (tree.name p l) (tree.name q r) else if d then folding Greatest (tree.name p l) (tree.name q r) else None)
      ≡ if_both m n l r (if c then Some Least else if d then Some Greatest else None)
  by_words true d p q l r = refl
  by_words false true p q l r = refl
  by_words false false p q l r = if_none (are_both m n l r)

  math_is : (e w a b : Tree) (l r : List ℕ) → IsOfMath (form_of e) → TwoNames true (form_of a) (form_of b) l r → total_over m n (by_math e (name_in w) a b) ≡ if_both m n l r (name_total (name_in w))
  math_is e w a b l r x names =
      let is : is_math e ≡ true = ap is_math (name_of e x.place x.word x.name) ∙ x.math in
      ap (λ c. total_over m n (if c then by_word (name_in w) a b else None)) is
      ∙ ap₂ (λ y z. total_over m n (by_word (name_in w) y z)) (name_of a names.first l names.left) (name_of b names.second r names.right)
      ∙ by_words (bytes_eq (name_in w) (codes "min")) (bytes_eq (name_in w) (codes "max")) names.first names.second l r

  member_call : (p : Place) (e w : Tree) (ys : List Tree) (l r : List ℕ) → form_of (tree.call p (tree.property e w) (trees ys)) ≡ form.total l r
      → total_over m n (by_args e (name_in w) (trees ys)) ≡ if_both m n l r (name_total (name_in w))
  member_call p e w ys l r h =
      let x = called_extreme (member_form (form_of e) (name_in w)) (form_of (trees ys)) l r h in
      let y = two_args ys l r x.1 in
      ap (λ zs. total_over m n (by_args e (name_in w) (trees zs))) y.are
      ∙ math_is e w y.one y.other l r (member_extreme (form_of e) (name_in w) x.0) y.names

  call_is : (p : Place) (f : Tree) (ys : List Tree) (l r : List ℕ) → form_of (tree.call p f (trees ys)) ≡ form.total l r
      → total_over m n (folding_in (tree.call p f (trees ys))) ≡ if_both m n l r (callee_total f)
  call_is p (tree.property e w) ys l r h = member_call p e w ys l r h
  call_is p (tree.binary q k a b) ys l r h = absurd (no_property (tree.binary q k a b) (λ e w is. let no : tree.binary q k a b ≡ tree.property e w = is in cc) (called_extreme (form_of (tree.binary q k a b)) (form_of (trees ys)) l r h).0)
  call_is p (tree.call q g xs) ys l r h = absurd (no_property (tree.call q g xs) (λ e w is. let no : tree.call q g xs ≡ tree.property e w = is in cc) (called_extreme (form_of (tree.call q g xs)) (form_of (trees ys)) l r h).0)
  call_is p _ ys l r h = absurd (false≢true (ap is_total h))

-- ---- what an expression is

pub of_call : (t f : Tree) (k : Option Total) → IsCallOf t f → k ≡ callee_total f → IsMarkOf t k
of_call t f k c is m n l r h =
    ap (λ u. total_over m n (folding_in u)) c.is
    ∙ call_is m n c.place f c.args l r (sym (ap form_of c.is) ∙ h)
    ∙ ap (if_both m n l r) (sym is)

pub of_sign : (t : Tree) (k : Option Total) → is_call t ≡ false → IsSignOf t k → IsMarkOf t k
of_sign (tree.binary p o a b) k uncalled sign m n l r h = sum_is m n p o a b l r h ∙ ap (if_both m n l r) (sym (sign p o a b refl))
of_sign (tree.call p f xs) k uncalled sign m n l r h = absurd (true≢false uncalled)
of_sign (tree.property e w) k uncalled sign m n l r h = absurd (false≢true (sym (member_part (form_of e) (name_in w)) ∙ ap is_total h))
of_sign _ k uncalled sign m n l r h = absurd (false≢true (ap is_total h))

-- ---- where there is no total

-- a name, or no name
record Named (t : Tree) : Type 0 where
  pub place : Place
  pub word : List ℕ
  pub is : t ≡ tree.name place word

abbrev Unnamed : Tree → Type 0
Unnamed t = (w : List ℕ) → is_name w t ≡ false

named : (t : Tree) → Named t ⊎ Unnamed t
named (tree.name p w) = inl (record { place = p; word = w; is = refl })
named _ = inr (λ w. refl)

module _ (m n : List ℕ) where
  no_first : (u c d : Bool) (k : Total) → (if u && ((false && c) || (false && d)) then Some k else None) ≡ None
  no_first true c d k = refl
  no_first false c d k = refl

  no_second : (u c d : Bool) (k : Total) → (if u && ((c && false) || (d && false)) then Some k else None) ≡ None
  no_second false c d k = refl
  no_second true true true k = refl
  no_second true true false k = refl
  no_second true false true k = refl
  no_second true false false k = refl

  apart : (a b : Tree) (k : Total) → is_total (of_two true (form_of a) (form_of b)) ≡ false → total_over m n (folding k a b) ≡ None
  apart a b k h = elim (named a) [
    | inr other ↦ ap₂ (λ x y. if not (bytes_eq m n) && ((x && is_name n b) || (y && is_name m b)) then Some k else None) (other m) (other n)
        ∙ no_first (not (bytes_eq m n)) (is_name n b) (is_name m b) k
    | inl first ↦ elim (named b) [
      | inr other ↦ ap₂ (λ x y. if not (bytes_eq m n) && ((is_name m a && x) || (is_name n a && y)) then Some k else None) (other n) (other m)
          ∙ no_second (not (bytes_eq m n)) (is_name m a) (is_name n a) k
      | inl also ↦ absurd (true≢false (sym (ap₂ (λ x y. is_total (of_two true (form_of x) (form_of y))) first.is also.is) ∙ h))
    ]
  ]

  words_none : (c d : Bool) (a b : Tree) → ((c || d) ≡ true → is_total (of_two true (form_of a) (form_of b)) ≡ false)
      → total_over m n (if c then folding Least a b else if d then folding Greatest a b else None) ≡ None
  words_none true d a b h = apart a b Least (h refl)
  words_none false true a b h = apart a b Greatest (h refl)
  words_none false false a b h = refl

  math_none : (e w a b : Tree) → is_total (called_form (member_form (form_of e) (name_in w)) (form.row (form_of a) (form.row (form_of b) form.other))) ≡ false
      → total_over m n (by_math e (name_in w) a b) ≡ None
  math_none (tree.name p v) w a b h = by (bytes_eq v (codes "Math")) refl
    where
      two : bytes_eq v (codes "Math") ≡ true → is_extreme (name_in w) ≡ true → is_total (of_two true (form_of a) (form_of b)) ≡ false
      two is extreme =
          sym (ap₂ (λ x y. is_total (called_form (if x && y then form.extreme else form.other) (form.row (form_of a) (form.row (form_of b) form.other)))) is extreme) ∙ h

      by : (c : Bool) → bytes_eq v (codes "Math") ≡ c → total_over m n (if c then by_word (name_in w) a b else None) ≡ None
      by true is = words_none (bytes_eq (name_in w) (codes "min")) (bytes_eq (name_in w) (codes "max")) a b (two is)
      by false is = refl
  math_none _ w a b h = refl

  pub none_over : (t : Tree) → is_total (form_of t) ≡ false → total_over m n (folding_in t) ≡ None
  none_over (tree.binary p infix_operator.Plus a b) h = apart a b Sum h
  none_over (tree.binary p infix_operator.And a b) h = apart a b All h
  none_over (tree.binary p infix_operator.Or a b) h = apart a b Any h
  none_over (tree.call p (tree.property e w) (cons a (cons b empty))) h = math_none e w a b h
  none_over _ h = refl

  -- a total of two names
  pub total_if : (t : Tree) (l r : List ℕ) (k x : Option Total) (b : Bool) → form.total l r ≡ form_of t → IsMarkOf t k → b ≡ are_both m n l r → x ≡ (if b then k else None)
      → x ≡ total_over m n (folding_in t)
  total_if t l r k x b h mark is same = same ∙ ap (λ c. if c then k else None) is ∙ sym (mark m n l r (sym h))
