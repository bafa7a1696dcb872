-- The directives of a process in memory.
use Rattle.std.specs.Prelude.{◌≡◌, ℕ, List, [], ◌∷◌, ◌++◌, map, codes, bytes_eq, if◌then◌else◌, Some, option_map, Result, Ok, Err}
use Rattle.nf_value.specs.declared.place.Place.{Place}
use Rattle.nf_builtins.specs.Natives.{is_among}
use Rattle.nf_ast.specs.Tree as tree
use Rattle.nf_ast.specs.Tree.{Tree, place_of}
use Rattle.nf_placed.specs.Body.{name_in}
use Rattle.nf_tasks.specs.Meaning.{Formula}
use Rattle.nf_tasks.specs.Memory.{Program, formula_of, publish_of}
use Rattle.nf_meaning.specs.declared.fault.LowerFault.{LowerFault}
use Rattle.nf_meaning.specs.declared.fault.LowerFault.TheVariants.{BadOption}
use Rattle.nf_meaning.specs.Lowered.{Lowered, ◌>>=◌}
use Rattle.nf_meaning.specs.Directives as meaning
use Rattle.nf_meaning.specs.Directives.{Inside, expression, only_arg, word_in, strategy_in, retries_in, publish, with_directive, without_effect}
use Rattle.nf_lowered.specs.Given.{Gives}
use Rattle.nf_called.specs.declared.directives.Settings.{Settings}
use Rattle.nf_called.specs.declared.directives.Strategy.{Strategy}
use Rattle.nf_called.specs.declared.directives.Strategy.TheVariants as strategy
use Rattle.nf_called.specs.declared.directives.DirectiveKind.{DirectiveKind}
use Rattle.nf_called.specs.declared.directives.DirectiveKind.TheVariants as kind

abbrev pub word_of : Strategy → List ℕ
word_of strategy.Terminate = codes "terminate"
word_of strategy.Ignore = codes "ignore"
word_of strategy.Retry = codes "retry"

pub record AreSettings (n : Program) (x : Settings) (d : meaning.Directives) : Type 0 where
  pub cpus : option_map (formula_of n) x.cpus ≡ d.cpus
  pub tag : option_map (formula_of n) x.tag ≡ d.tag
  pub strategy : word_of x.strategy ≡ d.strategy
  pub retries : x.retries ≡ d.retries
  pub publishes : map (publish_of n) x.publishes.items ≡ d.publishes

-- whatever the directives before say, those with what comes next are what is due of them
abbrev pub SettingsGo : Program → Settings → (meaning.Directives → Lowered meaning.Directives) → Settings → Result (Unit {0}) LowerFault → Type 0
SettingsGo n old due new r = (m : meaning.Directives) → AreSettings n old m → Gives (λ _ d. AreSettings n new d) (due m) r

-- ---- the directive of a name

abbrev pub kind_of : List ℕ → DirectiveKind
kind_of n =
    if bytes_eq n (codes "cpus") then kind.Cpus
    else if bytes_eq n (codes "tag") then kind.Tag
    else if bytes_eq n (codes "errorStrategy") then kind.Strategy
    else if bytes_eq n (codes "maxRetries") then kind.Retries
    else if bytes_eq n (codes "publishDir") then kind.Publish
    else if is_among n without_effect then kind.WithoutEffect
    else kind.Unknown

abbrev pub only_expression : Inside → Place → Tree → Lowered Formula
only_expression x p xs = only_arg p xs >>= expression x

abbrev pub strategy_arg : Place → Tree → Lowered (List ℕ)
strategy_arg p xs = only_arg p xs >>= λ e. strategy_in p (word_in e)

abbrev pub retries_arg : Place → Tree → Lowered ℕ
retries_arg p xs = only_arg p xs >>= retries_in p

abbrev pub with_kind : Inside → Place → DirectiveKind → Tree → meaning.Directives → Lowered meaning.Directives
with_kind x p kind.Cpus xs d = only_expression x p xs >>= λ f. Ok (record d { cpus = Some f })
with_kind x p kind.Tag xs d = only_expression x p xs >>= λ f. Ok (record d { tag = Some f })
with_kind x p kind.Strategy xs d = strategy_arg p xs >>= λ w. Ok (record d { strategy = w })
with_kind x p kind.Retries xs d = retries_arg p xs >>= λ k. Ok (record d { retries = k })
with_kind x p kind.Publish xs d = publish x p xs >>= λ y. Ok (record d { publishes = d.publishes ++ y ∷ [] })
with_kind x p kind.WithoutEffect xs d = Ok d
with_kind x p kind.Unknown xs d = Err (BadOption p)

-- one directive
abbrev pub directive_step : Inside → Tree → meaning.Directives → Lowered meaning.Directives
directive_step x (tree.directive n xs) d = with_directive x (place_of n) (name_in n) xs d
directive_step x e d = Ok d
