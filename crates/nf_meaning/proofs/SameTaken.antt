-- What operators take from their arguments is alike in two runs.
use Rattle.std.proofs.Common.{◌≡◌, ◌+◌, ◌≤◌, ℕ, List, [], ◌∷◌, ◌++◌, length, Bool, Option, Some, None, pos, negsuc, refl, ap, sym, subst, arith, length-append}
use Rattle.std.specs.Prelude.{codes}
use Rattle.std.specs.Str.{bytes_eq}
use Rattle.nf_value.specs.Plain.{Plain, null, truth, int, text, file, list, table}
use Rattle.nf_value.specs.declared.place.Place.{Place}
use Rattle.nf_names_used.specs.Natives.{is_among}
use Rattle.nf_ast.specs.Tree as tree
use Rattle.nf_ast.specs.Tree.{Tree, empty, cons, place_of}
use Rattle.nf_tasks.specs.Evaluation.{Closing, apply_of}
use Rattle.nf_names_used.specs.Uses.{no_names, entered, params_of, params_uses}
use Rattle.nf_bag.specs.declared.options.OpOpts.{OpOpts}
use Rattle.nf_bag.specs.declared.rows.Row.{Row}
use Rattle.nf_bag.specs.declared.rows.Row.TheVariants as row
use Rattle.nf_optable.specs.declared.rows.OpRow.{OpRow}
use Rattle.nf_optable.specs.declared.rows.Options.{Options}
use Rattle.nf_optable.specs.declared.rows.Args.{Args as Wanted}
use Rattle.nf_optable.specs.declared.rows.Args.TheVariants as args
use Rattle.nf_optable.specs.declared.rows.ClosureUse.{ClosureUse}
use Rattle.nf_optable.specs.declared.rows.ClosureUse.TheVariants as closure
use Rattle.nf_optable.specs.Rows.{option_names}
use Rattle.nf_meaning.specs.declared.fault.LowerFault.{LowerFault}
use Rattle.nf_meaning.specs.declared.fault.LowerFault.TheVariants.{BadOption}
use Rattle.nf_meaning.specs.Lowered.{known}
use Rattle.nf_meaning.specs.Places.{begins_at}
use Rattle.nf_meaning.specs.Things.{Thing, Channel}
use Rattle.nf_meaning.specs.Names.{Reading, before_run, in_run, unread, pattern_fault, uses_fault}
use Rattle.nf_meaning.specs.Functions.{names_fault}
use Rattle.nf_meaning.specs.Walk.{Walk, Around, Scope, State, ◌>>=◌, gives, refused, unless_fault, known_in, env_in}
use Rattle.nf_meaning.specs.Totals.{total_of}
use Rattle.nf_meaning.specs.Options.{allows_key, with_key, key_in, with_flag, with_value, with_option}
use Rattle.nf_meaning.specs.Arguments.{Arg, is_unnamed}
use Rattle.nf_meaning.specs.Closures.{env_for, closing_in, bare_fault, no_closure, statements_closure, has_labels, without_labels, closure_arg, labels_fault, labels_closure, labels_arg, labels_in, word_arg}
use Rattle.nf_meaning.specs.Taken.{Taken, nothing_taken, args_ports, and_channel, and_start, and_closing, with_args, filtering, filling, in_place, total_wanted, total_arg, with_unnamed, take_arg}
use Rattle.nf_meaning.proofs.Widened.{Alike}
use Rattle.nf_meaning.proofs.Twins.{Channels, AllChannels, Things, Scopes, States, Ends, Arounds, Twin, Same, on, on_same, given, given_same, refusal, lifting, judged, judging, choosing, wanting}
use Rattle.nf_meaning.proofs.SameNames.{name_here, env_alike, knowns_of, names_here, uses_here, givens_of, pattern_fault_alike}
use Rattle.nf_meaning.proofs.SameArgs.{Any, Args, arg, by_arg, option_values, value_args, channel_arg_alike, flags_in}

-- ---- options

-- which other options stand there doesn't matter
keys_with : (r : Options) (p : Place) (k : ℕ) (o q : OpOpts) → Twin Any (with_key r p k o) (with_key r p k q)
keys_with r p k o q = choosing (allows_key r k) (given (record o { by = Some k }) (record q { by = Some k }) tt) (refusal (BadOption p))

keys_in : (r : Options) (p : Place) (v : Plain) (o q : OpOpts) → Twin Any (key_in r p v o) (key_in r p v q)
keys_in r p (int (pos k)) o q = keys_with r p k o q
keys_in r p (int (negsuc k)) o q = refusal (BadOption p)
keys_in r p null o q = refusal (BadOption p)
keys_in r p (truth b) o q = refusal (BadOption p)
keys_in r p (text t) o q = refusal (BadOption p)
keys_in r p (file n d l) o q = refusal (BadOption p)
keys_in r p (list vs) o q = refusal (BadOption p)
keys_in r p (table ps) o q = refusal (BadOption p)

values_with : (r : Options) (p : Place) (n : List ℕ) (v : Plain) (o q : OpOpts) → Twin Any (with_value r p n v o) (with_value r p n v q)
values_with r p n v o q = choosing (bytes_eq n (codes "by")) (keys_in r p v o q) (on_same (flags_in p v) (λ b. given (with_flag n b o) (with_flag n b q) tt))

options_with : (r : Options) (n : Place × List ℕ) (o q : OpOpts) (x y : Arg) → Args x y → Twin Any (with_option r n x o) (with_option r n y q)
options_with r n o q = by_arg (λ x y. Twin Any (with_option r n x o) (with_option r n y q))
    (λ l t w v k. choosing (is_among n.1 (option_names r)) (on_same (option_values n.0 t) (λ z. values_with r n.0 n.1 z o q)) (refusal (BadOption n.0)))

-- ---- closures

-- a step that is judged, and then gives something
judged_then : {A : Type 0} (P : A → A → Type 0) (s u : State) (a b : Around) (f g : Option LowerFault) → f ≡ g → Arounds a b → States s u → (w v : Walk A) → Twin P w v
    → Ends P a.definitions s ((unless_fault f >>= λ _. w) a s) ((unless_fault g >>= λ _. v) b u)
judged_then P s u a b f g i h e w v t = subst (λ z. Ends P a.definitions s ((unless_fault f >>= λ _. w) a s) ((unless_fault z >>= λ _. v) b u)) i (of_one f)
  where
    of_one : (f : Option LowerFault) → Ends P a.definitions s ((unless_fault f >>= λ _. w) a s) ((unless_fault f >>= λ _. v) b u)
    of_one None = t.at a b h s u e
    of_one (Some g) = refl

-- closures with the same labels; before the run they are the same
abbrev Closings : Reading → Closing → Closing → Type 0
Closings before_run c d = c ≡ d
Closings in_run c d = c.body ≡ d.body
Closings unread c d = c.body ≡ d.body

closings_alike : (r : Reading) (a b : Around) → Arounds a b → (x y : Scope) → Scopes x y → (p : Place) (ps body : Tree)
    → Closings r (closing_in (env_for r a x) p ps body) (closing_in (env_for r b y) p ps body)
closings_alike before_run a b h x y e p ps body = ap (λ z. closing_in z p ps body) (env_alike a b h x y e)
closings_alike in_run a b h x y e p ps body = refl
closings_alike unread a b h x y e p ps body = refl

statements : (r : Reading) (p : Place) (ps b : Tree) → Twin (Closings r) (statements_closure r p ps b) (statements_closure r p ps b)
statements r p ps body = record {
  at = λ a b h s u e. judged_then (Closings r) s u a b
      (names_fault a.given a.definitions (known_in a s.scope) r (tree.closure p ps body) no_names)
      (names_fault b.given b.definitions (known_in b u.scope) r (tree.closure p ps body) no_names)
      (names_here a b h (known_in a s.scope) (known_in b u.scope) (knowns_of a b h s.scope u.scope e.scope) r (tree.closure p ps body) no_names) h e
      (gives (closing_in (env_for r a s.scope) p ps body)) (gives (closing_in (env_for r b u.scope) p ps body))
      (given _ _ (closings_alike r a b h s.scope u.scope e.scope p ps body));
}

pub no_labels : (r : Reading) (p : Place) (ps b : Tree) → Twin (Closings r) (without_labels r p ps b) (without_labels r p ps b)
no_labels r p ps b = choosing (has_labels b) (refusal (BadOption p)) (statements r p ps b)

bare_alike : (a b : Around) → Arounds a b → (x y : Scope) → Scopes x y → (t : Tree) → bare_fault a x t ≡ bare_fault b y t
bare_alike a b h x y e (tree.name p n) = name_here a b h x y e unread p n
bare_alike a b h x y e _ = refl

-- where there is no closure
none_here : {A : Type 0} (P : A → A → Type 0) (t : Tree) → Twin P (no_closure t) (no_closure t)
none_here P t = record {
  at = λ a b h s u e.
      judged_then P s u a b (bare_fault a s.scope t) (bare_fault b u.scope t) (bare_alike a b h s.scope u.scope e.scope t) h e
      (refused (BadOption (begins_at t))) (refused (BadOption (begins_at t))) (refusal (BadOption (begins_at t)));
}

closure_args : (r : Reading) (t : Tree) → Twin (Closings r) (closure_arg r t) (closure_arg r t)
closure_args r (tree.closure p ps b) = no_labels r p ps b
closure_args r t = none_here (Closings r) t

labels_alike : (i j : Tree → Option LowerFault) → ((t : Tree) → i t ≡ j t) → (before : List (List ℕ)) (t : Tree) → labels_fault i before t ≡ labels_fault j before t
labels_alike i j h before t = ap (λ f. labels_fault f before t) (λ k z. h z k)

abbrev labels_here : Around → State → Tree → Tree → Option LowerFault
labels_here a s ps body = labels_fault (λ t. names_fault a.given a.definitions (known_in a s.scope) in_run t (entered (params_of ps) no_names)) [] body

labels_same : (a b : Around) → Arounds a b → (s u : State) → States s u → (ps body : Tree) → labels_here a s ps body ≡ labels_here b u ps body
labels_same a b h s u e ps body =
    labels_alike (λ t. names_fault a.given a.definitions (known_in a s.scope) in_run t (entered (params_of ps) no_names)) (λ t. names_fault b.given b.definitions (known_in b u.scope) in_run t (entered (params_of ps) no_names))
    (λ t. names_here a b h (known_in a s.scope) (known_in b u.scope) (knowns_of a b h s.scope u.scope e.scope) in_run t (entered (params_of ps) no_names)) [] body

judging_alike : (f g : Option LowerFault) → f ≡ g → Twin Same (unless_fault f) (unless_fault g)
judging_alike f g i = subst (λ z. Twin Same (unless_fault f) (unless_fault z)) i (judging f)

labels_step : (p : Place) (ps b : Tree) → Twin (Closings in_run) (labels_closure p ps b) (labels_closure p ps b)
labels_step p ps body = record {
  at = λ a b h s u e.
      judged_then (Closings in_run) s u a b
      (uses_fault a.given a.definitions (known_in a s.scope) in_run (params_uses ps)) (uses_fault b.given b.definitions (known_in b u.scope) in_run (params_uses ps))
      (uses_here a b h (known_in a s.scope) (known_in b u.scope) (knowns_of a b h s.scope u.scope e.scope) in_run (params_uses ps)) h e
      (unless_fault (labels_here a s ps body) >>= λ _. gives (closing_in (env_in a s.scope) p ps body))
      (unless_fault (labels_here b u ps body) >>= λ _. gives (closing_in (env_in b u.scope) p ps body))
      (on_same (judging_alike (labels_here a s ps body) (labels_here b u ps body) (labels_same a b h s u e ps body))
      (λ x. given (closing_in (env_in a s.scope) p ps body) (closing_in (env_in b u.scope) p ps body) refl));
}

labels_args : (t : Tree) → Twin (Closings in_run) (labels_arg t) (labels_arg t)
labels_args (tree.closure p ps b) = choosing (has_labels b) (labels_step p ps b) (refusal (BadOption p))
labels_args t = none_here (Closings in_run) t

words_here : (t : Tree) → Twin Same (word_arg t) (word_arg t)
words_here (tree.closure p empty (cons (tree.name q n) empty)) = given_same n
words_here (tree.closure p ps b) = refusal (BadOption p)
words_here t = none_here Same t

totals_here : (t : Tree) → Twin Same (total_wanted t) (total_wanted t)
totals_here (tree.closure p ps b) = wanting (total_of (tree.closure p ps b)) (BadOption p)
totals_here t = none_here Same t

-- ---- what is taken

-- all that a script's text depends on
pub record Takens (t u : Taken) : Type 0 where
  pub channels : AllChannels t.channels u.channels
  pub labels : t.labels ≡ u.labels
  pub word : t.word ≡ u.word

-- at most n channels more
pub record Adds (before : Taken) (n : ℕ) (t u : Taken) : Type 0 where
  pub alike : Takens t u
  pub few : length t.channels ≤ length before.channels + n

pub nothing_alike : Takens nothing_taken nothing_taken
nothing_alike = record { channels = tt; labels = refl; word = refl }

both_channels : (cs ds es fs : List Channel) → AllChannels cs ds → AllChannels es fs → AllChannels (cs ++ es) (ds ++ fs)
both_channels [] [] es fs h k = k
both_channels (c ∷ cs) (d ∷ ds) es fs h k = (h.0, both_channels cs ds es fs h.1 k)
both_channels [] (d ∷ ds) es fs h k = absurd h
both_channels (c ∷ cs) [] es fs h k = absurd h

channel_taken : (t u : Taken) → Takens t u → (c d : Channel) → Channels c d → Twin (Adds t 1) (and_channel t c) (and_channel u d)
channel_taken t u h c d k = given _ _ (record {
  alike = record { channels = both_channels t.channels u.channels (c ∷ []) (d ∷ []) h.channels (k, tt); labels = h.labels; word = h.word };
  few = omega (arith, length-append t.channels (c ∷ []));
})

-- what has the same channels, labels and word as before
taken_so : (n : ℕ) (t u : Taken) → Takens t u → (v w : Taken) → v.channels ≡ t.channels → w.channels ≡ u.channels → v.labels ≡ w.labels → v.word ≡ w.word
    → Twin (Adds t n) (gives v) (gives w)
taken_so n t u h v w e f l k = given v w (record {
  alike = record { channels = subst (λ z. AllChannels z w.channels) (sym e) (subst (λ z. AllChannels t.channels z) (sym f) h.channels); labels = l; word = k };
  few = subst (λ z. length z ≤ length t.channels + n) (sym e) (omega arith);
})

start_taken : (n : ℕ) (t u : Taken) → Takens t u → (x y : Plain) → Alike x y → Twin (Adds t n) (and_start t x) (and_start u y)
start_taken n t u h x y e = taken_so n t u h (record t { start = Some x }) (record u { start = Some y }) refl refl h.labels h.word

closing_taken : (n : ℕ) (t u : Taken) → Takens t u → (c d : Closing) → c.body ≡ d.body → Twin (Adds t n) (and_closing t c) (and_closing u d)
closing_taken n t u h c d e = taken_so n t u h (record t { closing = Some c }) (record u { closing = Some d }) refl refl h.labels h.word

args_taken : (k : Wanted) (x y : Arg) → Args x y → (t u : Taken) → Takens t u → Twin (Adds t (args_ports k 1)) (with_args k x t) (with_args k y u)
args_taken args.Channel x y h t u e = on (channel_arg_alike x y h) (channel_taken t u e)
args_taken args.Channels x y h t u e = on (channel_arg_alike x y h) (channel_taken t u e)
args_taken args.Value x y h t u e = on (value_args x y h) (start_taken 0 t u e)
args_taken args.MaybeValue x y h t u e = on (value_args x y h) (start_taken 0 t u e)
args_taken args.Values x y h t u e = on (value_args x y h) (start_taken 0 t u e)
args_taken args.Nothing x y h t u e = subst (λ z. Twin (Adds t 0) (refused (BadOption (begins_at x.tree))) (refused (BadOption (begins_at z)))) h.tree (refusal (BadOption (begins_at x.tree)))

patterns_judged : (p : Place) (s : List ℕ) → Twin Same (λ a. unless_fault (pattern_fault a.given p s) a) (λ a. unless_fault (pattern_fault a.given p s) a)
patterns_judged p s = record { at = λ a b h x y e. judged x y a b (pattern_fault a.given p s) (pattern_fault b.given p s) (pattern_fault_alike a.given b.given p s (givens_of a b h)) e }

filters : (n : ℕ) (e : Tree) (x y : Arg) → Args x y → (t u : Taken) → Takens t u → Twin (Adds t n) (filtering e x t) (filtering e y u)
filters n (tree.closure p ps b) x y h t u e = on (no_labels in_run p ps b) (closing_taken n t u e)
filters n (tree.pattern p s) x y h t u e =
    on_same (patterns_judged p s) (λ z. taken_so n t u e (record t { pattern = Some s }) (record u { pattern = Some s }) refl refl e.labels e.word)
filters n _ x y h t u e =
    on (value_args x y h) (λ v w i. taken_so n t u e (record t { literal = Some v }) (record u { literal = Some w }) refl refl e.labels e.word)

fills : (n : ℕ) (e : Tree) (x y : Arg) → Args x y → (t u : Taken) → Takens t u → Twin (Adds t n) (filling e x t) (filling e y u)
fills n (tree.closure p ps b) x y h t u e =
    on_same (no_labels before_run p ps b) (λ c. on_same (lifting (known (apply_of c (null ∷ [])))) (λ v. start_taken n t u e v v refl))
fills n _ x y h t u e = on (value_args x y h) (start_taken n t u e)

places_taken : (n : ℕ) (r : Row) (x y : Arg) → Args x y → (t u : Taken) → Takens t u → Twin (Adds t n) (in_place r x t) (in_place r y u)
places_taken n row.IfEmpty x y h t u e = subst (λ z. Twin (Adds t n) (filling x.tree x t) (filling z y u)) h.tree (fills n x.tree x y h t u e)
places_taken n _ x y h t u e = subst (λ z. Twin (Adds t n) (filtering x.tree x t) (filtering z y u)) h.tree (filters n x.tree x y h t u e)

options_taken : (n : ℕ) (t u : Taken) → Takens t u → (o q : OpOpts) → Twin (Adds t n) (gives (record t { options = o })) (gives (record u { options = q }))
options_taken n t u h o q = taken_so n t u h (record t { options = o }) (record u { options = q }) refl refl h.labels h.word

totals_taken : (n : ℕ) (x y : Arg) → Args x y → (t u : Taken) → Takens t u → Twin (Adds t n) (total_arg x t) (total_arg y u)
totals_taken n x y h t u e = by_arg (λ x y. Twin (Adds t n) (total_arg x t) (total_arg y u)) (λ l i w v k.
    on_same (totals_here i) (λ z. options_taken n t u e (record t.options { total = z }) (record u.options { total = z }))) x y h

labels_taken : (n : ℕ) (t u : Taken) → Takens t u → (c d : Closing) → c.body ≡ d.body
    → Twin (Adds t n) (gives (record t { closing = Some c; labels = labels_in c.body; options = record t.options { outs = length (labels_in c.body) } }))
    (gives (record u { closing = Some d; labels = labels_in d.body; options = record u.options { outs = length (labels_in d.body) } }))
labels_taken n t u h c d e =
    taken_so n t u h (record t { closing = Some c; labels = labels_in c.body; options = record t.options { outs = length (labels_in c.body) } })
    (record u { closing = Some d; labels = labels_in d.body; options = record u.options { outs = length (labels_in d.body) } }) refl refl (ap labels_in e) h.word

word_taken : (n : ℕ) (t u : Taken) → Takens t u → (w : List ℕ) → Twin (Adds t n) (gives (record t { word = w })) (gives (record u { word = w }))
word_taken n t u h w = taken_so n t u h (record t { word = w }) (record u { word = w }) refl refl h.labels refl

-- the closure of an argument, for any use of it
closure_tree : (P : Taken → Taken → Type 0) (x y : Arg) → Args x y → (f g : Closing → Walk Taken) → ((c d : Closing) → c.body ≡ d.body → Twin P (f c) (g d))
    → (w : Tree → Walk Closing) → ((t : Tree) → Twin (Closings in_run) (w t) (w t)) → Twin P (w x.tree >>= f) (w y.tree >>= g)
closure_tree P x y h f g k w i = subst (λ z. Twin P (w x.tree >>= f) (w z >>= g)) h.tree (on (i x.tree) k)

unnamed_taken : (c : ClosureUse) (r : Row) (k : Wanted) (last : Bool) (x y : Arg) → Args x y → (t u : Taken) → Takens t u
    → Twin (Adds t (args_ports k 1)) (with_unnamed c r k last x t) (with_unnamed c r k last y u)
unnamed_taken closure.Never r k last x y h t u e = args_taken k x y h t u e
unnamed_taken closure.May r k last x y h t u e =
    closure_tree (Adds t (args_ports k 1)) x y h (and_closing t) (and_closing u) (closing_taken (args_ports k 1) t u e) (closure_arg in_run) (closure_args in_run)
unnamed_taken closure.Must r k last x y h t u e =
    choosing last (closure_tree (Adds t (args_ports k 1)) x y h (and_closing t) (and_closing u) (closing_taken (args_ports k 1) t u e) (closure_arg in_run) (closure_args in_run))
    (args_taken k x y h t u e)
unnamed_taken closure.Labels r k last x y h t u e = closure_tree (Adds t (args_ports k 1)) x y h _ _ (labels_taken (args_ports k 1) t u e) labels_arg labels_args
unnamed_taken closure.Name r k last x y h t u e =
    subst (λ z. Twin (Adds t (args_ports k 1)) (word_arg x.tree >>= λ n. gives (record t { word = n })) (word_arg z >>= λ n. gives (record u { word = n }))) h.tree
    (on_same (words_here x.tree) (word_taken (args_ports k 1) t u e))
unnamed_taken closure.Total r k last x y h t u e = choosing last (totals_taken (args_ports k 1) x y h t u e) (args_taken k x y h t u e)
unnamed_taken closure.InPlace r k last x y h t u e = places_taken (args_ports k 1) r x y h t u e
unnamed_taken closure.Refused r k last x y h t u e =
    subst (λ z. Twin (Adds t (args_ports k 1)) (refused (BadOption (begins_at x.tree))) (refused (BadOption (begins_at z)))) h.tree (refusal (BadOption (begins_at x.tree)))

-- so many channels does an argument add
more_ports : (k : Wanted) (n : ℕ) → args_ports k (1 + n) ≡ args_ports k 1 + args_ports k n
more_ports args.Channel n = omega arith
more_ports args.Channels n = omega arith
more_ports args.Nothing n = refl
more_ports args.Value n = refl
more_ports args.MaybeValue n = refl
more_ports args.Values n = refl

pub no_ports : (k : Wanted) → args_ports k 0 ≡ 0
no_ports args.Channel = refl
no_ports args.Channels = refl
no_ports args.Nothing = refl
no_ports args.Value = refl
no_ports args.MaybeValue = refl
no_ports args.Values = refl

pub one_taken : (k : OpRow) (r : Row) (last : Bool) (x y : Arg) → Args x y → (t u : Taken) → Takens t u
    → Twin (Adds t (args_ports k.args (is_unnamed x.label))) (take_arg k r last x.label x t) (take_arg k r last y.label y u)
one_taken k r last x y h t u e = by_arg (λ x y. Twin (Adds t (args_ports k.args (is_unnamed x.label))) (take_arg k r last x.label x t) (take_arg k r last y.label y u)) one x y h
  where
    one : (l : Option (Place × List ℕ)) (i : Tree) (w v : Walk Thing) → Twin Things w v
        → Twin (Adds t (args_ports k.args (is_unnamed l))) (take_arg k r last l (arg l i w) t) (take_arg k r last l (arg l i v) u)
    one None i w v m = unnamed_taken k.closure r k.args last (arg None i w) (arg None i v) (record { label = refl; tree = refl; thing = m }) t u e
    one (Some n) i w v m =
        on (options_with k.options n t.options u.options (arg (Some n) i w) (arg (Some n) i v) (record { label = refl; tree = refl; thing = m }))
        (λ o q j. options_taken (args_ports k.args 0) t u e o q)

pub adds_more : (t : Taken) (k : Wanted) (l m : ℕ) (x y : Taken) (z w : Taken) → Adds t (args_ports k l) x y → l ≤ 1 → Adds x (args_ports k m) z w → Adds t (args_ports k (l + m)) z w
adds_more t k l m x y z w h b i = record { alike = i.alike; few = omega (arith, h.few, i.few, ports_add k l m b) }
  where
    ports_add : (k : Wanted) (l m : ℕ) → l ≤ 1 → args_ports k (l + m) ≡ args_ports k l + args_ports k m
    ports_add args.Channel l m b = refl
    ports_add args.Channels l m b = refl
    ports_add args.Nothing l m b = refl
    ports_add args.Value l m b = refl
    ports_add args.MaybeValue l m b = refl
    ports_add args.Values l m b = refl
