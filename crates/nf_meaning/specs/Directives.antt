-- The directives of a process.
use Rattle.std.specs.Prelude.{ℕ, pos, nat_le, Bool, true, false, List, [], ◌∷◌, ◌++◌, map, codes, bytes_eq, if◌then◌else◌, Option, Some, None, Ok, Err}
use Rattle.nf_value.specs.declared.place.Place.{Place}
use Rattle.nf_names_used.specs.Natives.{is_among}
use Rattle.nf_ast.specs.Tree as tree
use Rattle.nf_ast.specs.Tree.{Tree, empty, cons, place_of}
use Rattle.nf_ast.specs.View.{names}
use Rattle.nf_names_used.specs.Scope.{Env}
use Rattle.nf_names_used.specs.Body.{name_in}
use Rattle.nf_tasks.specs.Evaluation.{apply_of}
use Rattle.nf_tasks.specs.declared.process.ErrorStrategy.{ErrorStrategy}
use Rattle.nf_tasks.specs.declared.process.ErrorStrategy.TheVariants.{Terminate, Ignore, Retry}
use Rattle.nf_tasks.specs.Meaning.{Formula, PublishMeaning}
use Rattle.nf_meaning.specs.declared.fault.LowerFault.{LowerFault}
use Rattle.nf_meaning.specs.declared.fault.LowerFault.TheVariants.{BadOption}
use Rattle.nf_meaning.specs.Lowered.{Lowered, ◌>>=◌, unless}
use Rattle.nf_meaning.specs.Places.{begins_at}
use Rattle.nf_meaning.specs.Names.{in_run}
use Rattle.nf_meaning.specs.Functions.{names_fault}
use Rattle.nf_meaning.specs.Walk.{Around, env_with}

-- ---- expressions of a process

-- what they see: the names of the inputs and of the task, and an environment; and what is wrong with an expression's
-- names
pub record Inside : Type 0 where
  pub seen : List (List ℕ)
  pub env : Env
  pub fault : Tree → Option LowerFault

abbrev pub seen_fault : Around → List (List ℕ) → Tree → Option LowerFault
seen_fault a seen e =
    names_fault a.given a.definitions (record { things = []; everywhere = map (λ b. b.0) a.everywhere }) in_run e
    (record { captured = []; own = seen; body = [] })

-- in a process with these names
abbrev pub inside : Around → List (List ℕ) → Inside
inside a seen = record { seen = seen; env = env_with a [] true; fault = seen_fault a seen }

-- statements, or an expression as the one statement, for the values of the names that they see
abbrev pub formula_of : Inside → Place → Tree → Formula
formula_of x p body =
    λ vs. apply_of (record {
      place = p;
      params = tree.params (names (map (λ n. (p, n)) x.seen));
      body = body;
      env = x.env;
    }) vs

-- the same, once all names stand for something
abbrev pub formula : Inside → Place → Tree → Lowered Formula
formula x p body = unless (x.fault body) (Ok (formula_of x p body))

abbrev pub expression : Inside → Tree → Lowered Formula
expression x e = formula x (begins_at e) (cons e empty)

-- ---- what directives say

pub record Directives : Type 0 where
  pub cpus : Option Formula
  pub tag : Option Formula
  -- the word of `errorStrategy`
  pub strategy : List ℕ
  pub retries : ℕ
  pub publishes : List PublishMeaning

abbrev pub no_directives : Directives
no_directives = record { cpus = None; tag = None; strategy = codes "terminate"; retries = 1; publishes = [] }

-- `maxRetries` counts only with `'retry'`
abbrev pub strategy_of : Directives → ErrorStrategy
strategy_of d =
    if bytes_eq d.strategy (codes "ignore") then Ignore
    else if bytes_eq d.strategy (codes "retry") then Retry d.retries
    else Terminate

-- ---- their arguments: what is wrong with one stands at the directive's name

-- an expression without a name that is no closure
abbrev pub is_expression : Tree → Bool
is_expression (tree.named n e) = false
is_expression (tree.closure p ps b) = false
is_expression _ = true

abbrev pub expression_wanted : Place → Tree → Lowered Tree
expression_wanted p e = if is_expression e then Ok e else Err (BadOption p)

-- the only argument
abbrev pub only_arg : Place → Tree → Lowered Tree
only_arg p (cons e empty) = expression_wanted p e
only_arg p _ = Err (BadOption p)

abbrev pub strategies : List (List ℕ)
strategies = codes "terminate" ∷ codes "ignore" ∷ codes "retry" ∷ []

-- a plain string, or a template without a hole
abbrev pub word_in : Tree → Option (List ℕ)
word_in (tree.text p k s) = Some s
word_in (tree.template p k (cons (tree.piece q s) empty)) = Some s
word_in _ = None

abbrev pub strategy_in : Place → Option (List ℕ) → Lowered (List ℕ)
strategy_in p (Some w) = if is_among w strategies then Ok w else Err (BadOption p)
strategy_in p None = Err (BadOption p)

abbrev pub retries_in : Place → Tree → Lowered ℕ
retries_in p (tree.number q (pos k)) = if nat_le k 100 then Ok k else Err (BadOption p)
retries_in p _ = Err (BadOption p)

-- ---- `publishDir`

-- its arguments without a name
abbrev pub folders : Tree → List Tree
folders (cons (tree.named n e) more) = folders more
folders (cons e more) = e ∷ folders more
folders _ = []

abbrev pub folder_in : Place → List Tree → Lowered Tree
folder_in p (e ∷ []) = expression_wanted p e
folder_in p [] = Err (BadOption p)
folder_in p (e ∷ f ∷ more) = Err (BadOption p)

-- one more argument: only the folder and `pattern` have an effect
abbrev pub with_option : Inside → Place → List ℕ → Tree → PublishMeaning → Lowered PublishMeaning
with_option x p n e d =
    if bytes_eq n (codes "pattern") then (expression_wanted p e >>= expression x >>= λ f. Ok (record d { pattern = Some f }))
    else if is_among n (codes "mode" ∷ codes "overwrite" ∷ []) then Ok d
    else Err (BadOption p)

abbrev pub with_arg : Inside → Tree → PublishMeaning → Lowered PublishMeaning
with_arg x (tree.named n e) d = with_option x (place_of n) (name_in n) e d
with_arg x e d = expression x e >>= λ f. Ok (record d { folder = f })

abbrev pub with_args : Inside → Tree → PublishMeaning → Lowered PublishMeaning
with_args x (cons a more) d = with_arg x a d >>= with_args x more
with_args x _ d = Ok d

abbrev pub publish : Inside → Place → Tree → Lowered PublishMeaning
publish x p xs =
    folder_in p (folders xs) >>= λ e.
    with_args x xs (record { place = p; folder = formula_of x p (cons e empty); pattern = None })

-- ---- all directives

-- directives that are read, and have no effect
abbrev pub without_effect : List (List ℕ)
without_effect =
    codes "memory" ∷ codes "time" ∷ codes "disk" ∷ codes "container" ∷ codes "label" ∷ codes "conda"
    ∷ codes "module" ∷ codes "queue" ∷ codes "maxForks" ∷ []

-- one more directive; of two with one name the later counts, but each `publishDir` publishes
abbrev pub with_directive : Inside → Place → List ℕ → Tree → Directives → Lowered Directives
with_directive x p n xs d =
    if bytes_eq n (codes "cpus") then (only_arg p xs >>= expression x >>= λ f. Ok (record d { cpus = Some f }))
    else if bytes_eq n (codes "tag") then (only_arg p xs >>= expression x >>= λ f. Ok (record d { tag = Some f }))
    else if bytes_eq n (codes "errorStrategy") then
    (only_arg p xs >>= λ e. strategy_in p (word_in e) >>= λ w. Ok (record d { strategy = w }))
    else if bytes_eq n (codes "maxRetries") then (only_arg p xs >>= retries_in p >>= λ k. Ok (record d { retries = k }))
    else if bytes_eq n (codes "publishDir") then
    (publish x p xs >>= λ y. Ok (record d { publishes = d.publishes ++ y ∷ [] }))
    else if is_among n without_effect then Ok d
    else Err (BadOption p)

abbrev pub directives_in : Inside → Tree → Directives → Lowered Directives
directives_in x (cons (tree.directive n xs) more) d =
    with_directive x (place_of n) (name_in n) xs d >>= directives_in x more
directives_in x (cons e more) d = directives_in x more d
directives_in x _ d = Ok d
