-- Directives, by their names, and what their arguments are.
use Rattle.std.proofs.Common.{◌≡◌, ℕ, pos, negsuc, Bool, true, false, List, [], ◌∷◌, ◌++◌, Ok, Err, refl, sym, ap, ◌∙◌}
use Rattle.std.specs.Prelude.{if◌then◌else◌, Option, Some, None, is_some, nat_le, bytes_eq, codes}
use Rattle.std.proofs.lemmas.Bool.{true≢false}
use Rattle.nf_value.specs.declared.place.Place.{Place}
use Rattle.nf_builtins.specs.Natives.{is_among}
use Rattle.nf_ast.specs.Tree as tree
use Rattle.nf_ast.specs.Tree.{Tree, empty, cons}
use Rattle.nf_ast.specs.View.{with_name}
use Rattle.nf_meaning.specs.declared.fault.LowerFault.TheVariants.{BadOption}
use Rattle.nf_meaning.specs.Lowered.{Lowered, ◌>>=◌, wanted}
use Rattle.nf_meaning.specs.Directives as meaning
use Rattle.nf_meaning.specs.Directives.{Inside, directives_in, expression, expression_wanted, is_expression, only_arg, publish, retries_in, strategy_in, with_directive, without_effect, word_in}
use Rattle.nf_called.specs.declared.directives.DirectiveKind.{DirectiveKind}
use Rattle.nf_called.specs.declared.directives.DirectiveKind.TheVariants as kind
use Rattle.nf_called.specs.Directives.{directive_step, kind_of, with_kind}
use Rattle.nf_called.specs.Leaves.{is_alone, is_closure, leaf_count, leaf_of, leaf_word}

assoc : {A B C : Type 0} (w : Lowered A) (f : A → Lowered B) (g : B → Lowered C) → (w >>= λ a. f a >>= g) ≡ ((w >>= f) >>= g)
assoc (Ok a) f g = refl
assoc (Err e) f g = refl

-- ---- the directive of a name

module _ (x : Inside) (p : Place) (xs : Tree) (d : meaning.Directives) where
  kinds : (a b c k m n : Bool)
      → (if a then (only_arg p xs >>= expression x >>= λ f. Ok (record d { cpus = Some f }))
      else if b then (only_arg p xs >>= expression x >>= λ f. Ok (record d { tag = Some f }))
      else if c then (only_arg p xs >>= λ e. strategy_in p (word_in e) >>= λ w. Ok (record d { strategy = w }))
      else if k then (only_arg p xs >>= retries_in p >>= λ r. Ok (record d { retries = r }))
      else if m then (publish x p xs >>= λ y. Ok (record d { publishes = d.publishes ++ y ∷ [] }))
      else if n then Ok d
      else Err (BadOption p))
      ≡ with_kind x p (if a then kind.Cpus else if b then kind.Tag else if c then kind.Strategy else if k then kind.Retries else if m then kind.Publish else if n then kind.WithoutEffect else kind.Unknown) xs d
  kinds true b c k m n = refl
  kinds false true c k m n = refl
  kinds false false true k m n = assoc (only_arg p xs) (λ e. strategy_in p (word_in e)) (λ w. Ok (record d { strategy = w }))
  kinds false false false true m n = refl
  kinds false false false false true n = refl
  kinds false false false false false true = refl
  kinds false false false false false false = refl

pub directive_is : (x : Inside) (p : Place) (n : List ℕ) (xs : Tree) (d : meaning.Directives) → with_directive x p n xs d ≡ with_kind x p (kind_of n) xs d
directive_is x p n xs d =
    kinds x p xs d (bytes_eq n (codes "cpus")) (bytes_eq n (codes "tag")) (bytes_eq n (codes "errorStrategy")) (bytes_eq n (codes "maxRetries"))
    (bytes_eq n (codes "publishDir")) (is_among n without_effect)

pub kind_is : (x : Inside) (p : Place) (n : List ℕ) (xs : Tree) (d : meaning.Directives) (k : DirectiveKind) → kind_of n ≡ k → with_directive x p n xs d ≡ with_kind x p k xs d
kind_is x p n xs d k h = directive_is x p n xs d ∙ ap (λ z. with_kind x p z xs d) h

pub directives_step : (x : Inside) (a more : Tree) (d : meaning.Directives) → directives_in x (cons a more) d ≡ (directive_step x a d >>= directives_in x more)
directives_step x (tree.directive n xs) more d = refl
directives_step x _ more d = refl

-- ---- arguments

pub word_is : (e : Tree) → word_in e ≡ leaf_word (leaf_of e)
word_is (tree.text p k s) = refl
word_is (tree.template p k (cons (tree.piece q s) empty)) = refl
word_is _ = refl

within : (p : Place) (k : ℕ) (b : Bool) → (if b then Ok k else Err (BadOption p)) ≡ wanted (if b then Some k else None) (BadOption p)
within p k true = refl
within p k false = refl

pub count_is : (p : Place) (e : Tree) → retries_in p e ≡ leaf_count p (leaf_of e)
count_is p (tree.number q (pos k)) = within p k (nat_le k 100)
count_is p (tree.number q (negsuc k)) = refl
count_is p (tree.template q k (cons (tree.piece r s) empty)) = refl
count_is p _ = refl

alone_is : (e : Tree) → is_alone e ≡ true → is_expression e ≡ (if is_closure (leaf_of e) then false else true)
alone_is (tree.named n e) h = absurd (true≢false (sym h))
alone_is (tree.closure p ps b) h = refl
alone_is (tree.template q k (cons (tree.piece r s) empty)) h = refl
alone_is _ h = refl

wanted_by : (p : Place) (e : Tree) (b : Bool) → is_expression e ≡ (if b then false else true) → expression_wanted p e ≡ (if b then Err (BadOption p) else Ok e)
wanted_by p e true h = ap (λ t. if t then Ok e else Err (BadOption p)) h
wanted_by p e false h = ap (λ t. if t then Ok e else Err (BadOption p)) h

-- an expression is wanted, and no closure
pub wanted_is : (p : Place) (e : Tree) → is_alone e ≡ true → expression_wanted p e ≡ (if is_closure (leaf_of e) then Err (BadOption p) else Ok e)
wanted_is p e h = wanted_by p e (is_closure (leaf_of e)) (alone_is e h)

-- by what was asked of it
pub wanted_as : (p : Place) (e : Tree) (r b : Bool) → is_alone e ≡ true → r ≡ is_closure (leaf_of e) → r ≡ b → expression_wanted p e ≡ (if b then Err (BadOption p) else Ok e)
wanted_as p e r b alone h is = wanted_is p e alone ∙ ap (λ t. if t then Err (BadOption p) else Ok e) (sym h ∙ is)

-- an argument with a name, and one without
pub named_arg : (p : Place) (o : Option (Place × List ℕ)) (e : Tree) → is_some o ≡ true → expression_wanted p (with_name o e) ≡ Err (BadOption p)
named_arg p (Some n) e h = refl
named_arg p None e h = absurd (true≢false (sym h))

pub plain_arg : (o : Option (Place × List ℕ)) (e : Tree) → is_some o ≡ false → with_name o e ≡ e
plain_arg (Some n) e h = absurd (true≢false h)
plain_arg None e h = refl
