-- The arguments of `publishDir`.
use Rattle.std.proofs.Common.{◌≡◌, ℕ, ◌+◌, ◌<◌, ◌≤◌, true, List, [], ◌∷◌, ◌++◌, Bool, false, length, get_or, Ok, Err, refl, ap, subst, sym, ◌∙◌, append_assoc, append-nil, rules}
use Rattle.std.specs.Prelude.{if◌then◌else◌, Option, Some, None, IsSome, is_some, option_map, bytes_eq, codes}
use Rattle.nf_value.specs.declared.place.Place.{Place}
use Rattle.nf_ast.specs.declared.expr.Arg.{Arg}
use Rattle.nf_ast.specs.View.{view_arg, with_name}
use Rattle.std.proofs.lemmas.Bool.{true≢false}
use Rattle.nf_ast.specs.Tree as tree
use Rattle.nf_ast.specs.Tree.{Tree, cons, empty}
use Rattle.nf_builtins.specs.Natives.{is_among}
use Rattle.nf_eval.specs.declared.closures.Closure.{Closure}
use Rattle.nf_tasks.specs.Meaning.{Formula, PublishMeaning}
use Rattle.nf_tasks.specs.Memory.{Program}
use Rattle.nf_tasks.specs.Memory.{formula_of as formula_in}
use Rattle.nf_tasks.specs.declared.process.Publish.{Publish}
use Rattle.nf_meaning.specs.declared.fault.LowerFault.{LowerFault}
use Rattle.nf_meaning.specs.declared.fault.LowerFault.TheVariants.{BadOption}
use Rattle.nf_meaning.specs.Lowered.{Lowered, ◌>>=◌}
use Rattle.nf_meaning.specs.Directives.{Inside, expression, expression_wanted, folder_in, folders, formula_of, publish, with_arg, with_args, with_option}
use Rattle.nf_lowered.specs.Given.{HasFault, HasValue}
use Rattle.nf_lowered.proofs.Joining.{fault_on}
use Rattle.nf_called.specs.declared.publishing.PublishParts.{PublishParts}
use Rattle.nf_called.specs.Formulas.{IsFormula}
use Rattle.nf_called.specs.Leaves.{is_alone}
use Rattle.nf_called.specs.Publishing.{IsFolder, IsOneOf, IsPublish, IsSoFar, Lacks, and_folder}
use Rattle.nf_called.proofs.Steps.{fault_as, joined, mapped, then_gives, value_as}
use Rattle.nf_called.proofs.Turns.{next, over, rest}

pub folders_step : (a more : Tree) → folders (cons a more) ≡ and_folder a (folders more)
folders_step (tree.named n e) more = refl
folders_step _ more = refl

pub folder_is : (x : Inside) (e : Tree) (d : PublishMeaning) → is_alone e ≡ true → with_arg x e d ≡ (expression x e >>= λ f. Ok (record d { folder = f }))
folder_is x (tree.named n e) d h = absurd (true≢false (sym h))
folder_is x _ d h = refl

pub alone_folder : (e : Tree) (later : List Tree) → is_alone e ≡ true → and_folder e later ≡ e ∷ later
alone_folder (tree.named n e) later h = absurd (true≢false (sym h))
alone_folder _ later h = refl

-- an argument with a name is no folder
pub named_none : (o : Option (Place × List ℕ)) (e : Tree) (later : List Tree) → is_some o ≡ true → and_folder (with_name o e) later ≡ later
named_none (Some n) e later h = refl
named_none None e later h = absurd (true≢false (sym h))

before_later : (a : Tree) (later : List Tree) → and_folder a later ≡ and_folder a [] ++ later
before_later (tree.named n e) later = refl
before_later _ later = refl

-- ---- exactly one folder

pub folder_turn : (xs : List Arg) (i : ℕ) (x : Arg) (old new all : List Tree) → i < length xs → x ≡ get_or xs i x → new ≡ old ++ and_folder (view_arg x) []
    → old ++ folders (rest view_arg xs i) ≡ all → new ++ folders (rest view_arg xs (i + 1)) ≡ all
folder_turn xs i x old new all l is h inv =
    let more = folders (rest view_arg xs (i + 1)) in
    ap (λ ys. ys ++ more) h ∙ append_assoc old (and_folder (view_arg x) []) more ∙ ap (λ ys. old ++ ys) (sym (before_later (view_arg x) more))
    ∙ ap (λ ys. old ++ ys) (sym (folders_step (view_arg x) (rest view_arg xs (i + 1)))) ∙ ap (λ t. old ++ folders t) (sym (next view_arg xs i x l is)) ∙ inv

pub folder_fault : (p : Place) (xs : List Arg) (i : ℕ) (x : Arg) (old all : List Tree) (e : LowerFault) → i < length xs → x ≡ get_or xs i x
    → ((later : List Tree) → folder_in p (old ++ and_folder (view_arg x) later) ≡ Err e) → old ++ folders (rest view_arg xs i) ≡ all → folder_in p all ≡ Err e
folder_fault p xs i x old all e l is h inv =
    ap (folder_in p) (sym inv ∙ ap (λ t. old ++ folders t) (next view_arg xs i x l is) ∙ ap (λ ys. old ++ ys) (folders_step (view_arg x) (rest view_arg xs (i + 1))))
    ∙ h (folders (rest view_arg xs (i + 1)))

pub folder_end : (xs : List Arg) (i : ℕ) (old all : List Tree) → length xs ≤ i → old ++ folders (rest view_arg xs i) ≡ all → all ≡ old
folder_end xs i old all h inv = sym inv ∙ ap (λ t. old ++ folders t) (over view_arg xs i h) ∙ append-nil old

-- ---- arguments, one after another

pub args_step : (x : Inside) (a more : Tree) (d : PublishMeaning) → with_args x (cons a more) d ≡ (with_arg x a d >>= with_args x more)
args_step x a more d = refl

-- what is known of a directive before its arguments
abbrev pub first_publish : Inside → Place → Tree → PublishMeaning
first_publish x p e = record { place = p; folder = formula_of x p (cons e empty); pattern = None }

-- ---- the whole directive

module _ (x : Inside) (p : Place) (xs : Tree) (v e : Tree) (known : folder_in p (folders xs) ≡ Ok v) (found : folders xs ≡ v ∷ []) (same : folders xs ≡ e ∷ []) where
  from_folder : Tree → Lowered PublishMeaning
  from_folder t = with_args x xs (first_publish x p t)

  goes : publish x p xs ≡ with_args x xs (first_publish x p e)
  unfolding from_folder
  goes = let is : v ≡ e = cc in ap (λ w. w >>= from_folder) known ∙ ap from_folder is

  pub publish_fault : (f : LowerFault) → HasFault (with_args x xs (first_publish x p e)) f → HasFault (publish x p xs) f
  publish_fault f h = fault_as (publish x p xs) (with_args x xs (first_publish x p e)) f goes h

  pub publish_given : (n : Program) (so_far : PublishParts) (c : Closure) (m : PublishMeaning) (all : Publish) → IsSoFar n so_far m → so_far.folder ≡ Some c
      → with_args x xs (first_publish x p e) ≡ Ok m → all.place ≡ so_far.place → all.folder ≡ c → all.pattern ≡ so_far.pattern → HasValue (publish x p xs) (IsPublish n all)
  publish_given n so_far c m all so is h place folder pattern =
      let formula : formula_in n c ≡ m.folder = subst (λ o. IsFolder n o m.folder) is so.folder in
      record {
        value = m;
        is = goes ∙ h;
        fits = λ i. record {
          place = (place ∙ so.place) i;
          folder = (ap (formula_in n) folder ∙ formula) i;
          pattern = (ap (option_map (formula_in n)) pattern ∙ so.pattern) i;
        };
      }

-- once no argument is left, the folder is known
pub folder_there : (o : Option Closure) (xs : List Arg) (i : ℕ) → length xs ≤ i → Lacks o (folders (rest view_arg xs i)) → IsSome o
folder_there None xs i h lacks = absurd (subst (λ t. IsOneOf (folders t)) (over view_arg xs i h) lacks)
folder_there (Some c) xs i h lacks = search rules

-- ---- one argument

module _ (n : Program) (x : Inside) (d : PublishMeaning) (old : PublishParts) (so : IsSoFar n old d) where
  pub folder_given : (e : Tree) (c : Closure) → is_alone e ≡ true → HasValue (expression x e) (IsFormula n c) → HasValue (with_arg x e d) (IsSoFar n (record old { folder = Some c }))
  folder_given e c alone v =
      value_as (IsSoFar n (record old { folder = Some c })) (with_arg x e d) _ (folder_is x e d alone)
      (mapped (IsFormula n c) (IsSoFar n (record old { folder = Some c })) (expression x e) (λ f. record d { folder = f }) v (λ f is. record { place = so.place; folder = is; pattern = so.pattern }))

  pub folder_refused : (e : Tree) (f : LowerFault) → is_alone e ≡ true → HasFault (expression x e) f → HasFault (with_arg x e d) f
  folder_refused e f alone h = fault_as (with_arg x e d) _ f (folder_is x e d alone) (fault_on (expression x e) (λ y. Ok (record d { folder = y })) f h)

  pattern_in : (p : Place) (w : List ℕ) (e : Tree) → bytes_eq w (codes "pattern") ≡ true
      → with_option x p w e d ≡ (expression_wanted p e >>= expression x >>= λ f. Ok (record d { pattern = Some f }))
  pattern_in p w e h = ap (λ b. if b then (expression_wanted p e >>= expression x >>= λ f. Ok (record d { pattern = Some f })) else if is_among w (codes "mode" ∷ codes "overwrite" ∷ []) then Ok d else Err (BadOption p)) h

  pub pattern_given : (p : Place) (w : List ℕ) (e : Tree) (c : Closure) → bytes_eq w (codes "pattern") ≡ true → HasValue (expression_wanted p e) (λ t. t ≡ e) → HasValue (expression x e) (IsFormula n c)
      → HasValue (with_option x p w e d) (IsSoFar n (record old { pattern = Some c }))
  pattern_given p w e c h is v =
      value_as (IsSoFar n (record old { pattern = Some c })) (with_option x p w e d) _ (pattern_in p w e h)
      (mapped (IsFormula n c) (IsSoFar n (record old { pattern = Some c })) (expression_wanted p e >>= expression x) (λ f. record d { pattern = Some f })
      (joined (λ t. t ≡ e) (IsFormula n c) (expression_wanted p e) (expression x) is (subst (λ t. HasValue (expression x t) (IsFormula n c)) (sym is.fits) v))
      (λ f same. record { place = so.place; folder = so.folder; pattern = ap (λ z. Some z) same }))

  pub pattern_refused : (p : Place) (w : List ℕ) (e : Tree) (f : LowerFault) → bytes_eq w (codes "pattern") ≡ true → HasFault (expression_wanted p e) f → HasFault (with_option x p w e d) f
  pattern_refused p w e f h k =
      fault_as (with_option x p w e d) _ f (pattern_in p w e h) (fault_on (expression_wanted p e >>= expression x) (λ y. Ok (record d { pattern = Some y })) f (fault_on (expression_wanted p e) (expression x) f k))

  pub pattern_unknown : (p : Place) (w : List ℕ) (e : Tree) (f : LowerFault) → bytes_eq w (codes "pattern") ≡ true → HasValue (expression_wanted p e) (λ t. t ≡ e) → HasFault (expression x e) f
      → HasFault (with_option x p w e d) f
  pattern_unknown p w e f h is k =
      fault_as (with_option x p w e d) _ f (pattern_in p w e h) (fault_on (expression_wanted p e >>= expression x) (λ y. Ok (record d { pattern = Some y })) f
      (then_gives {C = Formula} (λ t. t ≡ e) (λ _ _. Unit {0}) (expression_wanted p e) (expression x) (Err f) is (λ t same. subst (λ u. HasFault (expression x u) f) (sym same) k)))

  others : (p : Place) (w : List ℕ) (e : Tree) (b : Bool) → bytes_eq w (codes "pattern") ≡ false → is_among w (codes "mode" ∷ codes "overwrite" ∷ []) ≡ b
      → with_option x p w e d ≡ (if b then Ok d else Err (BadOption p))
  others p w e b h k = λ i. if h i then (expression_wanted p e >>= expression x >>= λ f. Ok (record d { pattern = Some f })) else if k i then Ok d else Err (BadOption p)

  pub other_given : (p : Place) (w : List ℕ) (e : Tree) → bytes_eq w (codes "pattern") ≡ false → is_among w (codes "mode" ∷ codes "overwrite" ∷ []) ≡ true → HasValue (with_option x p w e d) (IsSoFar n old)
  other_given p w e h k = record { value = d; is = others p w e true h k; fits = so }

  pub other_refused : (p : Place) (w : List ℕ) (e : Tree) → bytes_eq w (codes "pattern") ≡ false → is_among w (codes "mode" ∷ codes "overwrite" ∷ []) ≡ false → with_option x p w e d ≡ Err (BadOption p)
  other_refused p w e h k = others p w e false h k
