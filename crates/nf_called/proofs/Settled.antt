-- What a directive adds to those before it.
use Rattle.std.proofs.Common.{◌≡◌, ℕ, List, [], ◌∷◌, ◌++◌, map, Result, refl, ap, subst, sym, ◌∙◌}
use Rattle.std.specs.Prelude.{if◌then◌else◌, Some, bytes_eq, codes}
use Rattle.std.specs.Global.{Vec}
use Rattle.std.proofs.lemmas.List.{map_push}
use Rattle.nf_value.specs.declared.place.Place.{Place}
use Rattle.nf_ast.specs.declared.expr.Arg.{Arg}
use Rattle.nf_ast.specs.Tree.{Tree}
use Rattle.nf_ast.specs.View.{trees, view_arg}
use Rattle.nf_eval.specs.declared.closures.Closure.{Closure}
use Rattle.nf_tasks.specs.Memory.{Program, publish_of}
use Rattle.nf_tasks.specs.declared.process.Publish.{Publish}
use Rattle.nf_tasks.specs.declared.process.ErrorStrategy.{ErrorStrategy}
use Rattle.nf_tasks.specs.declared.process.ErrorStrategy.TheVariants as failing
use Rattle.nf_meaning.specs.declared.fault.LowerFault.{LowerFault}
use Rattle.nf_meaning.specs.Directives as meaning
use Rattle.nf_meaning.specs.Directives.{Inside, publish, strategy_of, with_directive}
use Rattle.nf_lowered.specs.Given.{Gives, HasValue}
use Rattle.nf_called.specs.declared.directives.Settings.{Settings}
use Rattle.nf_called.specs.declared.directives.Strategy.{Strategy}
use Rattle.nf_called.specs.declared.directives.Strategy.TheVariants as strategy
use Rattle.nf_called.specs.declared.directives.DirectiveKind.TheVariants as kind
use Rattle.nf_called.specs.Directives.{AreSettings, kind_of, only_expression, retries_arg, strategy_arg, with_kind, word_of}
use Rattle.nf_called.specs.Formulas.{IsFormula}
use Rattle.nf_called.specs.Publishing.{IsPublish}
use Rattle.nf_called.proofs.ByName.{kind_is}
use Rattle.nf_called.proofs.Steps.{mapped, value_as}

-- ---- what becomes of a task that fails

abbrev pub strategy_with : Strategy → ℕ → ErrorStrategy
strategy_with strategy.Terminate k = failing.Terminate
strategy_with strategy.Ignore k = failing.Ignore
strategy_with strategy.Retry k = failing.Retry k

by_word : List ℕ → ℕ → ErrorStrategy
by_word w k = if bytes_eq w (codes "ignore") then failing.Ignore else if bytes_eq w (codes "retry") then failing.Retry k else failing.Terminate

word_with : (s : Strategy) (k : ℕ) → strategy_with s k ≡ by_word (word_of s) k
unfolding by_word
word_with strategy.Terminate k = refl
word_with strategy.Ignore k = refl
word_with strategy.Retry k = refl

pub strategy_is : (n : Program) (x : Settings) (m : meaning.Directives) (s : Strategy) → x.strategy ≡ s → AreSettings n x m → strategy_with s x.retries ≡ strategy_of m
unfolding by_word
strategy_is n x m s is are = ap (λ z. strategy_with z x.retries) (sym is) ∙ word_with x.strategy x.retries ∙ (λ i. by_word (are.strategy i) (are.retries i))

-- ---- one directive more

-- the same of an equal name and equal arguments
pub named_step : {C : Type 0} (x : Inside) (p : Place) (m : meaning.Directives) (stands : C → meaning.Directives → Type 0) (r : Result C LowerFault) (n k : List ℕ) (xs ys : List Arg) → n ≡ k → xs ≡ ys
    → Gives stands (with_directive x p n (trees (map view_arg xs)) m) r → Gives stands (with_directive x p k (trees (map view_arg ys)) m) r
named_step x p m stands r n k xs ys e f h = subst (λ w. Gives stands w r) (λ i. with_directive x p (e i) (trees (map view_arg (f i))) m) h

module _ (x : Inside) (p : Place) (n : List ℕ) (xs : Tree) (m : meaning.Directives) (g : Program) (old : Settings) (are : AreSettings g old m) where
  pub cpus_step : kind_of n ≡ kind.Cpus → (c : Closure) → HasValue (only_expression x p xs) (IsFormula g c) → HasValue (with_directive x p n xs m) (AreSettings g (record old { cpus = Some c }))
  cpus_step h c a =
      value_as (AreSettings g (record old { cpus = Some c })) (with_directive x p n xs m) (with_kind x p kind.Cpus xs m) (kind_is x p n xs m kind.Cpus h)
      (mapped (IsFormula g c) (AreSettings g (record old { cpus = Some c })) (only_expression x p xs) (λ f. record m { cpus = Some f }) a (λ f is. record { cpus = ap (λ z. Some z) is; tag = are.tag; strategy = are.strategy; retries = are.retries; publishes = are.publishes }))

  pub tag_step : kind_of n ≡ kind.Tag → (c : Closure) → HasValue (only_expression x p xs) (IsFormula g c) → HasValue (with_directive x p n xs m) (AreSettings g (record old { tag = Some c }))
  tag_step h c a =
      value_as (AreSettings g (record old { tag = Some c })) (with_directive x p n xs m) (with_kind x p kind.Tag xs m) (kind_is x p n xs m kind.Tag h)
      (mapped (IsFormula g c) (AreSettings g (record old { tag = Some c })) (only_expression x p xs) (λ f. record m { tag = Some f }) a (λ f is. record { cpus = are.cpus; tag = ap (λ z. Some z) is; strategy = are.strategy; retries = are.retries; publishes = are.publishes }))

  pub strategy_step : kind_of n ≡ kind.Strategy → (s : Strategy) → HasValue (strategy_arg p xs) (λ w. word_of s ≡ w) → HasValue (with_directive x p n xs m) (AreSettings g (record old { strategy = s }))
  strategy_step h s a =
      value_as (AreSettings g (record old { strategy = s })) (with_directive x p n xs m) (with_kind x p kind.Strategy xs m) (kind_is x p n xs m kind.Strategy h)
      (mapped (λ w. word_of s ≡ w) (AreSettings g (record old { strategy = s })) (strategy_arg p xs) (λ w. record m { strategy = w }) a (λ w is. record { cpus = are.cpus; tag = are.tag; strategy = is; retries = are.retries; publishes = are.publishes }))

  pub retries_step : kind_of n ≡ kind.Retries → (k : ℕ) → HasValue (retries_arg p xs) (λ r. k ≡ r) → HasValue (with_directive x p n xs m) (AreSettings g (record old { retries = k }))
  retries_step h k a =
      value_as (AreSettings g (record old { retries = k })) (with_directive x p n xs m) (with_kind x p kind.Retries xs m) (kind_is x p n xs m kind.Retries h)
      (mapped (λ r. k ≡ r) (AreSettings g (record old { retries = k })) (retries_arg p xs) (λ r. record m { retries = r }) a (λ r is. record { cpus = are.cpus; tag = are.tag; strategy = are.strategy; retries = is; publishes = are.publishes }))

  pub publish_step : kind_of n ≡ kind.Publish → (y : Publish) (ys : Vec Publish) → ys.items ≡ old.publishes.items ++ y ∷ [] → HasValue (publish x p xs) (IsPublish g y)
      → HasValue (with_directive x p n xs m) (AreSettings g (record old { publishes = ys }))
  publish_step h y ys pushed a =
      value_as (AreSettings g (record old { publishes = ys })) (with_directive x p n xs m) (with_kind x p kind.Publish xs m) (kind_is x p n xs m kind.Publish h)
      (mapped (IsPublish g y) (AreSettings g (record old { publishes = ys })) (publish x p xs) (λ z. record m { publishes = m.publishes ++ z ∷ [] }) a (λ z is. record {
        cpus = are.cpus;
        tag = are.tag;
        strategy = are.strategy;
        retries = are.retries;
        publishes = ap (map (publish_of g)) pushed ∙ map_push (publish_of g) old.publishes.items y ∙ (λ i. are.publishes i ++ is i ∷ []);
      }))

  pub same_step : kind_of n ≡ kind.WithoutEffect → HasValue (with_directive x p n xs m) (AreSettings g old)
  same_step h = record { value = m; is = kind_is x p n xs m kind.WithoutEffect h; fits = are }
