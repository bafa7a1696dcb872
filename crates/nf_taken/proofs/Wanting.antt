-- What is wanted of an argument without a name.
use Rattle.std.proofs.Common.{◌≡◌, ◌∙◌, ℕ, Bool, true, false, List, [], ◌∷◌, Option, Some, None, Ok, Err, refl, sym, ap, subst, true≢false}
use Rattle.std.proofs.lemmas.Bool.{false≢true}
use Rattle.std.specs.Borrow.{Bor}
use Rattle.nf_value.specs.Plain.{null}
use Rattle.nf_value.specs.declared.place.Place.{Place}
use Rattle.nf_ast.specs.Tree as tree
use Rattle.nf_ast.specs.Tree.{Tree}
use Rattle.nf_bag.specs.declared.rows.Row.{Row}
use Rattle.nf_bag.specs.declared.rows.Row.TheVariants as row
use Rattle.nf_eval.specs.Evaluation.{apply_of}
use Rattle.nf_meaning.specs.Arguments.{Arg, is_closure, value_arg}
use Rattle.nf_meaning.specs.Closures.{closure_arg}
use Rattle.nf_meaning.specs.Lowered.{Lowered, known}
use Rattle.nf_meaning.specs.Names.{before_run, in_run}
use Rattle.nf_meaning.specs.Taken as meaning
use Rattle.nf_meaning.specs.Taken.{args_ports}
use Rattle.nf_meaning.specs.Walk.{Around, State, Walk, ◌>>=◌, gives, lifted, then_by}
use Rattle.nf_optable.specs.declared.rows.Args.{Args}
use Rattle.nf_optable.specs.declared.rows.ClosureUse.TheVariants as closure
use Rattle.nf_taken.specs.declared.wanted.Alone.{Alone}
use Rattle.nf_taken.specs.declared.wanted.Alone.TheVariants as alone
use Rattle.nf_taken.specs.declared.wanted.Wanted.{Wanted}
use Rattle.nf_taken.specs.Shapes.{is_pattern}
use Rattle.nf_taken.specs.Taken.{with_closure, with_literal, with_pattern, with_start}
use Rattle.nf_taken.specs.Wanted.{FitsAlone, FitsWanted, IsLastOrPlain, alone_walk, ports_in, wanted_walk}

one_after : {A B C : Type 0} (f : A → Walk B) (g : B → Walk C) (a : Around) (v : Lowered (A × State)) → then_by a (λ x. f x >>= g) v ≡ then_by a g (then_by a f v)
one_after f g a (Ok x) = refl
one_after f g a (Err e) = refl

-- ---- `ifEmpty`

filled_by : (e : Tree) (x : Arg) → is_closure e ≡ true
    → meaning.filling e x ≡ λ t. (closure_arg before_run e >>= λ c. lifted (known (apply_of c (null ∷ [])))) >>= λ v. gives (with_start v t)
filled_by (tree.closure p ps b) x h =
    λ i t a s. one_after (λ c. lifted (known (apply_of c (null ∷ [])))) (λ v. gives (with_start v t)) a (closure_arg before_run (tree.closure p ps b) a s) i
filled_by _ x h = absurd (false≢true h)

pub filled : (x : Arg) → is_closure x.tree ≡ true → meaning.filling x.tree x ≡ alone_walk alone.Filling x
filled x h = filled_by x.tree x h

valued_by : (e : Tree) (x : Arg) → is_closure e ≡ false → meaning.filling e x ≡ λ t. value_arg x >>= λ v. gives (with_start v t)
valued_by (tree.closure p ps b) x h = absurd (true≢false h)
valued_by _ x h = refl

pub valued : (x : Arg) → is_closure x.tree ≡ false → meaning.filling x.tree x ≡ λ t. value_arg x >>= λ v. gives (with_start v t)
valued x h = valued_by x.tree x h

-- ---- `filter`

applied_by : (e : Tree) (x : Arg) → is_closure e ≡ true → meaning.filtering e x ≡ λ t. closure_arg in_run e >>= λ c. gives (with_closure c t)
applied_by (tree.closure p ps b) x h = refl
applied_by _ x h = absurd (false≢true h)

pub applied : (x : Arg) → is_closure x.tree ≡ true → meaning.filtering x.tree x ≡ alone_walk alone.Closure x
applied x h = applied_by x.tree x h

pub matched : (x : Arg) (p : Place) (s : Bor (List ℕ)) → x.tree ≡ tree.pattern p s.now → meaning.filtering x.tree x ≡ alone_walk (alone.Pattern p s) x
matched x p s is = ap (λ e. meaning.filtering e x) is

compared_by : (e : Tree) (x : Arg) → is_closure e ≡ false → is_pattern e ≡ false → meaning.filtering e x ≡ λ t. value_arg x >>= λ v. gives (with_literal v t)
compared_by (tree.closure p ps b) x h k = absurd (true≢false h)
compared_by (tree.pattern p s) x h k = absurd (true≢false k)
compared_by _ x h k = refl

pub compared : (x : Arg) → is_closure x.tree ≡ false → is_pattern x.tree ≡ false → meaning.filtering x.tree x ≡ λ t. value_arg x >>= λ v. gives (with_literal v t)
compared x h k = compared_by x.tree x h k

-- ---- by the operator

pub other_place : (r : Row) (x : Arg) → (r ≡ row.IfEmpty → ⊥) → meaning.in_place r x ≡ meaning.filtering x.tree x
other_place row.IfEmpty x h = absurd (h refl)
other_place _ x h = refl

-- ---- the last argument

module _ (last : Alone) (k : Args) where
  pub last_ports : (l : Bool) (w : Wanted) → IsLastOrPlain l last k w → 0 ≡ args_ports k 1 → ports_in w ≡ args_ports k 1
  last_ports true w h none = ap ports_in h ∙ none
  last_ports false w h none = h.ports

  pub last_fits : (l : Bool) (w : Wanted) (r : Row) → IsLastOrPlain l last k w → FitsAlone r last → FitsWanted r w
  last_fits true w r h fits = subst (λ v. FitsWanted r v) (sym h) fits
  last_fits false w r h fits = h.fits r

module _ (r : Row) (k : Args) (x : Arg) where
  pub must_walk : (l : Bool) (w : Wanted) → IsLastOrPlain l alone.Closure k w → meaning.with_unnamed closure.Must r k l x ≡ wanted_walk w x
  must_walk true w h = ap (λ v. wanted_walk v x) (sym h)
  must_walk false w h = h.walk x

  pub total_walk : (l : Bool) (w : Wanted) → IsLastOrPlain l alone.Total k w → meaning.with_unnamed closure.Total r k l x ≡ wanted_walk w x
  total_walk true w h = ap (λ v. wanted_walk v x) (sym h)
  total_walk false w h = h.walk x
