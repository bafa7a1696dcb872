-- Values, arguments and sources go the same way in two runs.
use Rattle.std.proofs.Common.{◌≡◌, ◌+◌, ℕ, suc, List, [], ◌∷◌, ◌++◌, map, length, Bool, true, false, Option, Some, None, Ok, Err, refl, ap, sym, subst, ◌∙◌, if◌then◌else◌, arith, length-append}
use Rattle.std.specs.Prelude.{codes, ◌==◌}
use Rattle.std.specs.Str.{chars, bytes_eq}
use Rattle.std.proofs.lemmas.Bool.Decides.{nat_tests}
use Rattle.std.proofs.lemmas.List.{length-map}
use Rattle.nf_value.specs.Plain.{Plain, truth, text, file, list}
use Rattle.nf_value.specs.declared.place.Place.{Place}
use Rattle.nf_value.specs.declared.file.FileRef.{FileRef}
use Rattle.nf_job.specs.JobText.{file_plain}
use Rattle.nf_pattern.specs.Literal.{is_literal_path}
use Rattle.nf_ast.specs.Tree.{Tree}
use Rattle.nf_tasks.specs.Evaluation.{eval_of}
use Rattle.nf_names_used.specs.Uses.{no_names}
use Rattle.nf_meaning.specs.declared.fault.LowerFault.TheVariants.{BadOption, TooManyNodes, UnknownName, WrongArity}
use Rattle.nf_meaning.specs.Lowered.{known, unless, fault_if}
use Rattle.nf_meaning.specs.Places.{begins_at}
use Rattle.nf_meaning.specs.Things.{Thing, a_value, a_channel, outputs, Output, value_channel, queue, only_one, widened}
use Rattle.nf_meaning.specs.Given.{Definitions}
use Rattle.nf_meaning.specs.Names.{before_run, unread}
use Rattle.nf_meaning.specs.Functions.{names_fault}
use Rattle.nf_meaning.specs.Walk.{Walk, State, ◌>>=◌, gives, refused, unless_fault, known_in, env_before_run}
use Rattle.nf_meaning.specs.Sizes.{counted, grown, is_within_limits}
use Rattle.nf_meaning.specs.Expressions.{value_of, only_read, value_wanted, one_channel, channel_wanted, not_tied_to_file, closure_fault, file_fault}
use Rattle.nf_meaning.specs.Arguments.{Arg, unnamed, is_unnamed, is_closure, unless_closure, value_arg, channel_arg, unnamed_channel, channel_args, option_value, flag_in, flag_arg}
use Rattle.nf_paths.specs.Paths.{is_source_path}
use Rattle.nf_paths.specs.Pairs.{is_pair_path, pairs_of}
use Rattle.nf_meaning.specs.Sources.{Source, of, from_list, of_value, of_nothing, from_path, from_pairs, source_named, takes, list_wanted, is_range, items_by, item_arg, item_args, only_value, only_values, list_items, PathArgs, path_wanted, path_arg, path_args, no_path, the_files, files_of, source, source_within, source_by, source_call, first_file, file_name, file_call}
use Rattle.nf_meaning.proofs.Widened.{Alike, holds_alike, is_list, is_text, lists_alike, texts_alike, same_text}
use Rattle.nf_meaning.proofs.Growth.{same_calls}
use Rattle.nf_meaning.proofs.Twins.{Channels, AllChannels, Outputs, Things, States, Ends, Twin, Same, on, on_same, given, given_same, refusal, settled, judged, judging, wanting_files}
use Rattle.nf_meaning.proofs.SameNames.{env_alike, knowns_of, names_here}

-- any two results
abbrev pub Any : {A : Type 0} → A → A → Type 0
Any x y = Unit {0}

-- ---- counts

pub counting : (p : Place) (ports : ℕ) → Twin Same (counted p ports) (counted p ports)
counting p ports = record { at = λ a b h s u e. by a.definitions s u e (is_within_limits (grown ports s.sizes)) (is_within_limits (grown ports u.sizes)) (ap (λ z. is_within_limits (grown ports z)) e.sizes) }
  where
    by : (d : Definitions) (s u : State) → States s u → (c f : Bool) → c ≡ f
        → Ends Same d s (if c then Ok (tt {0}, record s { sizes = grown ports s.sizes }) else Err (TooManyNodes p)) (if f then Ok (tt {0}, record u { sizes = grown ports u.sizes }) else Err (TooManyNodes p))
    by d s u e true true i = (
      refl,
      record { scope = e.scope; sizes = ap (grown ports) e.sizes; wants = e.wants; paths = e.paths },
      λ k. same_calls s (record s { sizes = grown ports s.sizes }) refl refl refl refl,
    )
    by d s u e false false i = refl
    by d s u e true false i = absurd cc
    by d s u e false true i = absurd cc

-- ---- values

pub valuing : (t : Tree) → Twin Same (value_of t) (value_of t)
valuing t = record {
  at = λ a b h s u e. settled a.definitions s u
      (unless (closure_fault t) (unless (names_fault a.given a.definitions (known_in a s.scope) before_run t no_names) (known (eval_of t (env_before_run a s.scope)))))
      (unless (closure_fault t) (unless (names_fault b.given b.definitions (known_in b u.scope) before_run t no_names) (known (eval_of t (env_before_run b u.scope)))))
      (ap (λ f. unless (closure_fault t) (unless f (known (eval_of t (env_before_run a s.scope)))))
      (names_here a b h (known_in a s.scope) (known_in b u.scope) (knowns_of a b h s.scope u.scope e.scope) before_run t no_names)
      ∙ ap (λ v. unless (closure_fault t) (unless (names_fault b.given b.definitions (known_in b u.scope) before_run t no_names) (known (eval_of t v))))
      (env_alike a b h s.scope u.scope e.scope)) e;
}

pub reading : (t : Tree) → Twin Same (only_read t) (only_read t)
reading t = record {
  at = λ a b h s u e. judged s u a b
      (names_fault a.given a.definitions (known_in a s.scope) unread t no_names) (names_fault b.given b.definitions (known_in b u.scope) unread t no_names)
      (names_here a b h (known_in a s.scope) (known_in b u.scope) (knowns_of a b h s.scope u.scope e.scope) unread t no_names) e;
}

pub value_due : (p : Place) (t u : Thing) → Things t u → Twin Alike (value_wanted p t) (value_wanted p u)
value_due p (a_value v) (a_value w) h = given v w h
value_due p (a_channel c) (a_channel d) h = refusal (BadOption p)
value_due p (outputs os) (outputs qs) h = refusal (BadOption p)
value_due p (a_value v) (a_channel d) h = absurd h
value_due p (a_value v) (outputs qs) h = absurd h
value_due p (a_channel c) (a_value w) h = absurd h
value_due p (a_channel c) (outputs qs) h = absurd h
value_due p (outputs os) (a_value w) h = absurd h
value_due p (outputs os) (a_channel d) h = absurd h

one_due : (p : Place) (os qs : List Output) → Outputs os qs → Twin Channels (one_channel p (only_one os)) (one_channel p (only_one qs))
one_due p [] [] h = refusal (BadOption p)
one_due p (o ∷ []) (q ∷ []) h = given o.channel q.channel h.0.channel
one_due p (o ∷ o2 ∷ os) (q ∷ q2 ∷ qs) h = refusal (BadOption p)
one_due p [] (q ∷ qs) h = absurd h
one_due p (o ∷ os) [] h = absurd h
one_due p (o ∷ []) (q ∷ q2 ∷ qs) h = absurd h.1
one_due p (o ∷ o2 ∷ os) (q ∷ []) h = absurd h.1

pub value_channels : (v w : Plain) → Channels (value_channel v) (value_channel w)
value_channels v w = record { kind = refl; few = λ e. omega arith }

pub queues : (vs ws : List Plain) → Channels (queue vs) (queue ws)
queues vs ws = record { kind = refl; few = λ e. absurd (let f : false ≡ true = e in cc) }

pub channel_due : (p : Place) (t u : Thing) → Things t u → Twin Channels (channel_wanted p t) (channel_wanted p u)
channel_due p (a_value v) (a_value w) h = on_same (counting p 0) (λ x. given (value_channel v) (value_channel w) (value_channels v w))
channel_due p (a_channel c) (a_channel d) h = given c d h
channel_due p (outputs os) (outputs qs) h = one_due p os qs h
channel_due p (a_value v) (a_channel d) h = absurd h
channel_due p (a_value v) (outputs qs) h = absurd h
channel_due p (a_channel c) (a_value w) h = absurd h
channel_due p (a_channel c) (outputs qs) h = absurd h
channel_due p (outputs os) (a_value w) h = absurd h
channel_due p (outputs os) (a_channel d) h = absurd h

pub no_file_due : (p : Place) (t u : Thing) → Things t u → Twin Same (not_tied_to_file p t) (not_tied_to_file p u)
no_file_due p (a_value v) (a_value w) h =
    subst (λ z. Twin Same (not_tied_to_file p (a_value v)) (unless_fault (fault_if z (BadOption p)))) (holds_alike v w h) (judging (file_fault p v))
no_file_due p (a_channel c) (a_channel d) h = given_same tt
no_file_due p (outputs os) (outputs qs) h = given_same tt
no_file_due p (a_value v) (a_channel d) h = absurd h
no_file_due p (a_value v) (outputs qs) h = absurd h
no_file_due p (a_channel c) (a_value w) h = absurd h
no_file_due p (a_channel c) (outputs qs) h = absurd h
no_file_due p (outputs os) (a_value w) h = absurd h
no_file_due p (outputs os) (a_channel d) h = absurd h

-- ---- arguments

pub record Args (x y : Arg) : Type 0 where
  pub label : x.label ≡ y.label
  pub tree : x.tree ≡ y.tree
  pub thing : Twin Things x.thing y.thing

abbrev pub AllArgs : List Arg → List Arg → Type 0
AllArgs [] [] = Unit {0}
AllArgs (x ∷ xs) (y ∷ ys) = Args x y × AllArgs xs ys
AllArgs [] (y ∷ ys) = ⊥
AllArgs (x ∷ xs) [] = ⊥

abbrev pub arg : Option (Place × List ℕ) → Tree → Walk Thing → Arg
arg l t w = record { label = l; tree = t; thing = w }

-- what holds of two arguments of one label and one tree
pub by_arg : (R : Arg → Arg → Type 0) → ((l : Option (Place × List ℕ)) (t : Tree) (w v : Walk Thing) → Twin Things w v → R (arg l t w) (arg l t v))
    → (x y : Arg) → Args x y → R x y
by_arg R k x y h =
    subst (λ l. R x (arg l y.tree y.thing)) h.label (subst (λ t. R x (arg x.label t y.thing)) h.tree (k x.label x.tree x.thing y.thing h.thing))

pub unnamed_alike : (xs ys : List Arg) → AllArgs xs ys → unnamed xs ≡ unnamed ys
unnamed_alike [] [] h = refl
unnamed_alike (x ∷ xs) (y ∷ ys) h = ap (λ l. is_unnamed l + unnamed xs) h.0.label ∙ ap (λ k. is_unnamed y.label + k) (unnamed_alike xs ys h.1)
unnamed_alike [] (y ∷ ys) h = absurd h
unnamed_alike (x ∷ xs) [] h = absurd h

pub length_alike : (xs ys : List Arg) → AllArgs xs ys → length xs ≡ length ys
length_alike [] [] h = refl
length_alike (x ∷ xs) (y ∷ ys) h = ap suc (length_alike xs ys h.1)
length_alike [] (y ∷ ys) h = absurd h
length_alike (x ∷ xs) [] h = absurd h

no_closure : {A : Type 0} {P : A → A → Type 0} (c : Bool) (p : Place) {w v : Walk A} → Twin P w v → Twin P (unless_closure c p w) (unless_closure c p v)
no_closure true p t = refusal (BadOption p)
no_closure false p t = t

pub value_args : (x y : Arg) → Args x y → Twin Alike (value_arg x) (value_arg y)
value_args = by_arg (λ x y. Twin Alike (value_arg x) (value_arg y)) (λ l t w v k. no_closure (is_closure t) (begins_at t) (on k (value_due (begins_at t))))

pub channel_arg_alike : (x y : Arg) → Args x y → Twin Channels (channel_arg x) (channel_arg y)
channel_arg_alike = by_arg (λ x y. Twin Channels (channel_arg x) (channel_arg y)) (λ l t w v k. no_closure (is_closure t) (begins_at t) (on k (channel_due (begins_at t))))

unnamed_channels : (x y : Arg) → Args x y → Twin Channels (unnamed_channel x.label x) (unnamed_channel y.label y)
unnamed_channels x y h = by_arg (λ x y. Twin Channels (unnamed_channel x.label x) (unnamed_channel y.label y)) one x y h
  where
    one : (l : Option (Place × List ℕ)) (t : Tree) (w v : Walk Thing) → Twin Things w v → Twin Channels (unnamed_channel l (arg l t w)) (unnamed_channel l (arg l t v))
    one None t w v k = channel_arg_alike (arg None t w) (arg None t v) (record { label = refl; tree = refl; thing = k })
    one (Some n) t w v k = refusal (BadOption n.0)

pub channel_args_alike : (xs ys : List Arg) → AllArgs xs ys → Twin AllChannels (channel_args xs) (channel_args ys)
channel_args_alike [] [] h = given [] [] tt
channel_args_alike (x ∷ xs) (y ∷ ys) h =
    on (unnamed_channels x y h.0) (λ c d k. on (channel_args_alike xs ys h.1) (λ cs ds ks. given (c ∷ cs) (d ∷ ds) (k, ks)))
channel_args_alike [] (y ∷ ys) h = absurd h
channel_args_alike (x ∷ xs) [] h = absurd h

pub flags_in : (p : Place) (v : Plain) → Twin Same (flag_in p v) (flag_in p v)
flags_in p (truth b) = given_same b
flags_in p _ = refusal (BadOption p)

pub option_values : (p : Place) (t : Tree) → Twin Same (option_value p t) (option_value p t)
option_values p t = no_closure (is_closure t) p (valuing t)

pub flag_args : (p : Place) (x y : Arg) → Args x y → Twin Same (flag_arg p x) (flag_arg p y)
flag_args p = by_arg (λ x y. Twin Same (flag_arg p x) (flag_arg p y)) (λ l t w v k. on_same (option_values p t) (flags_in p))

-- ---- sources

-- lists of any items
list_if : (p : Place) (v w : Plain) → is_list v ≡ is_list w → Twin Any (list_wanted p v) (list_wanted p w)
list_if p (list vs) (list ws) h = given _ _ tt
list_if p (list vs) _ h = absurd (let f : true ≡ false = h in cc)
list_if p _ (list ws) h = absurd (let f : false ≡ true = h in cc)
list_if p _ _ h = refusal (BadOption p)

lists_due : (p : Place) (v w : Plain) → Alike v w → Twin Any (list_wanted p v) (list_wanted p w)
lists_due p v w h = list_if p v w (lists_alike v w h)

items_alike : (c : Bool) (l : Option (Place × List ℕ)) (t : Tree) (w v : Walk Thing) → Twin Things w v → Twin Any (items_by c (arg l t w)) (items_by c (arg l t v))
items_alike true l t w v k = on_same (valuing t) (λ x. lists_due (begins_at t) x x refl)
items_alike false l t w v k = on (value_args (arg l t w) (arg l t v) (record { label = refl; tree = refl; thing = k })) (λ x y e. given (x ∷ []) (y ∷ []) tt)

item_arg_alike : (x y : Arg) → Args x y → Twin Any (item_arg x.label x) (item_arg y.label y)
item_arg_alike x y h = by_arg (λ x y. Twin Any (item_arg x.label x) (item_arg y.label y)) one x y h
  where
    one : (l : Option (Place × List ℕ)) (t : Tree) (w v : Walk Thing) → Twin Things w v → Twin Any (item_arg l (arg l t w)) (item_arg l (arg l t v))
    one None t w v k = items_alike (is_range t) None t w v k
    one (Some n) t w v k = refusal (BadOption n.0)

item_args_alike : (xs ys : List Arg) → AllArgs xs ys → Twin Any (item_args xs) (item_args ys)
item_args_alike [] [] h = given [] [] tt
item_args_alike (x ∷ xs) (y ∷ ys) h = on (item_arg_alike x y h.0) (λ vs us e. on (item_args_alike xs ys h.1) (λ ws zs i. given (vs ++ ws) (us ++ zs) tt))
item_args_alike [] (y ∷ ys) h = absurd h
item_args_alike (x ∷ xs) [] h = absurd h

-- values with their places, one by one
abbrev Placed : List (Place × Plain) → List (Place × Plain) → Type 0
Placed [] [] = Unit {0}
Placed (v ∷ vs) (w ∷ ws) = ((v.0 ≡ w.0) × Alike v.1 w.1) × Placed vs ws
Placed [] (w ∷ ws) = ⊥
Placed (v ∷ vs) [] = ⊥

-- so many
record PlacedSo (n : ℕ) (vs ws : List (Place × Plain)) : Type 0 where
  alike : Placed vs ws
  first : length vs ≡ n

both_placed : (vs ws us zs : List (Place × Plain)) → Placed vs ws → Placed us zs → Placed (vs ++ us) (ws ++ zs)
both_placed [] [] us zs h k = k
both_placed (v ∷ vs) (w ∷ ws) us zs h k = (h.0, both_placed vs ws us zs h.1 k)
both_placed [] (w ∷ ws) us zs h k = absurd h
both_placed (v ∷ vs) [] us zs h k = absurd h

only_value_alike : (x y : Arg) → Args x y → Twin (PlacedSo (is_unnamed x.label)) (only_value x.label x) (only_value y.label y)
only_value_alike x y h = by_arg (λ x y. Twin (PlacedSo (is_unnamed x.label)) (only_value x.label x) (only_value y.label y)) one x y h
  where
    one : (l : Option (Place × List ℕ)) (t : Tree) (w v : Walk Thing) → Twin Things w v → Twin (PlacedSo (is_unnamed l)) (only_value l (arg l t w)) (only_value l (arg l t v))
    one None t w v k =
        on (value_args (arg None t w) (arg None t v) (record { label = refl; tree = refl; thing = k }))
        (λ i j e. given ((begins_at t, i) ∷ []) ((begins_at t, j) ∷ []) (record { alike = ((refl, e), tt); first = refl }))
    one (Some n) t w v k = refusal (BadOption n.0)

only_values_alike : (xs ys : List Arg) → AllArgs xs ys → Twin (PlacedSo (unnamed xs)) (only_values xs) (only_values ys)
only_values_alike [] [] h = given [] [] (record { alike = tt; first = refl })
only_values_alike (x ∷ xs) (y ∷ ys) h =
    on (only_value_alike x y h.0) (λ vs ws k. on (only_values_alike xs ys h.1) (λ more others i. given (vs ++ more) (ws ++ others) (record {
      alike = both_placed vs ws more others k.alike i.alike;
      first = length-append vs more ∙ omega (arith, k.first, i.first);
    })))
only_values_alike [] (y ∷ ys) h = absurd h
only_values_alike (x ∷ xs) [] h = absurd h

list_items_due : (vs ws : List (Place × Plain)) → Placed vs ws → Twin Any (list_items vs) (list_items ws)
list_items_due [] [] h = given [] [] tt
list_items_due (v ∷ []) (w ∷ []) h = subst (λ p. Twin Any (list_wanted v.0 v.1) (list_wanted p w.1)) h.0.0 (lists_due v.0 v.1 w.1 h.0.1)
list_items_due (v ∷ u ∷ more) (w ∷ z ∷ others) h = given [] [] tt
list_items_due [] (w ∷ ws) h = absurd h
list_items_due (v ∷ vs) [] h = absurd h
list_items_due (v ∷ []) (w ∷ z ∷ others) h = absurd h.1
list_items_due (v ∷ u ∷ more) (w ∷ []) h = absurd h.1

-- paths, which keep Q
module _ (fits : List ℕ → Bool) (Q : PathArgs → Type 0) (by_path : (x : PathArgs) (t : List ℕ) → fits (chars t) ≡ true → Q (record x { path = t }))
    (by_must : (x : PathArgs) (b : Bool) → Q x → Q (record x { must = b })) where
  abbrev Kept : PathArgs → PathArgs → Type 0
  Kept x y = (x ≡ y) × Q x

  abbrev Fitting : List ℕ → List ℕ → Type 0
  Fitting t u = (t ≡ u) × (fits (chars t) ≡ true)

  fitting_if : (c : Bool) (p : Place) (t : List ℕ) → fits (chars t) ≡ c → Twin Fitting (if c then gives t else refused (BadOption p)) (if c then gives t else refused (BadOption p))
  fitting_if true p t e = given t t (refl, e)
  fitting_if false p t e = refusal (BadOption p)

  text_due : (p : Place) (v w : Plain) → Alike v w → is_text v ≡ is_text w → Twin Fitting (path_wanted fits p v) (path_wanted fits p w)
  text_due p (text t) (text u) e h = subst (λ z. Twin Fitting (path_wanted fits p (text t)) (path_wanted fits p (text z))) (same_text t u e) (fitting_if (fits (chars t)) p t refl)
  text_due p (text t) _ e h = absurd (let f : true ≡ false = h in cc)
  text_due p _ (text u) e h = absurd (let f : false ≡ true = h in cc)
  text_due p _ _ e h = refusal (BadOption p)

  path_due : (p : Place) (v w : Plain) → Alike v w → Twin Fitting (path_wanted fits p v) (path_wanted fits p w)
  path_due p v w e = text_due p v w e (texts_alike v w e)

  must_if : (c : Bool) (n : Place × List ℕ) (x y : Arg) → Args x y → (z : PathArgs) → Q z
      → Twin Kept (if c then (flag_arg n.0 x >>= λ b. gives (record z { must = b })) else refused (BadOption n.0)) (if c then (flag_arg n.0 y >>= λ b. gives (record z { must = b })) else refused (BadOption n.0))
  must_if true n x y h z q = on_same (flag_args n.0 x y h) (λ b. given _ _ (refl, by_must z b q))
  must_if false n x y h z q = refusal (BadOption n.0)

  path_arg_alike : (z : PathArgs) → Q z → (x y : Arg) → Args x y → Twin Kept (path_arg fits x.label x z) (path_arg fits y.label y z)
  path_arg_alike z q x y h = by_arg (λ x y. Twin Kept (path_arg fits x.label x z) (path_arg fits y.label y z)) one x y h
    where
      one : (l : Option (Place × List ℕ)) (t : Tree) (w v : Walk Thing) → Twin Things w v → Twin Kept (path_arg fits l (arg l t w) z) (path_arg fits l (arg l t v) z)
      one None t w v k =
          on (on (value_args (arg None t w) (arg None t v) (record { label = refl; tree = refl; thing = k })) (path_due (begins_at t)))
          (λ i j m. given (record z { path = i }) (record z { path = j }) (ap (λ k. record z { path = k }) m.0, by_path z i m.1))
      one (Some n) t w v k = must_if (bytes_eq n.1 (codes "checkIfExists")) n (arg (Some n) t w) (arg (Some n) t v) (record { label = refl; tree = refl; thing = k }) z q

  pub path_args_alike : (xs ys : List Arg) → AllArgs xs ys → (z : PathArgs) → Q z → Twin Kept (path_args fits xs z) (path_args fits ys z)
  path_args_alike [] [] h z q = given z z (refl, q)
  path_args_alike (x ∷ xs) (y ∷ ys) h z q =
      on (path_arg_alike z q x y h.0) (λ i j m. subst (λ k. Twin Kept (path_args fits xs i) (path_args fits ys k)) m.0 (path_args_alike xs ys h.1 i m.1))
  path_args_alike [] (y ∷ ys) h z q = absurd h
  path_args_alike (x ∷ xs) [] h z q = absurd h

-- files aren't the same
files_here : (path : List ℕ) → Twin Any (the_files path) (the_files path)
files_here path = record { at = λ a b h s u e. (tt, e, λ k. same_calls s s refl refl refl refl) }

source_alike : (x : Source) (xs ys : List Arg) → AllArgs xs ys → takes x (unnamed xs) ≡ true → Twin Channels (source x xs) (source x ys)
source_alike of xs ys h k = on (item_args_alike xs ys h) (λ vs ws e. given _ _ (queues vs ws))
source_alike from_list xs ys h k = on (on (only_values_alike xs ys h) (λ vs ws e. list_items_due vs ws e.alike)) (λ i j e. given _ _ (queues i j))
source_alike of_value xs ys h k = on (only_values_alike xs ys h) (λ vs ws e. given _ _ (record {
  kind = refl;
  few = λ i. (let n : unnamed xs ≡ 1 = grind (arith, nat_tests) in omega (arith, length-map vs (λ (v : Place × Plain). v.1), e.first, n));
}))
source_alike of_nothing xs ys h k = on (only_values_alike xs ys h) (λ vs ws e. given _ _ (queues [] []))
source_alike from_path xs ys h k = on (path_args_alike is_source_path (λ x. Unit {0}) (λ x t e. tt) (λ x b q. tt) xs ys h no_path tt) (λ i j m.
    subst (λ z. Twin Channels (files_of false i >>= λ fs. gives (queue (map file_plain fs))) (files_of false z >>= λ fs. gives (queue (map file_plain fs)))) m.0
    (on (on_same (wanting_files _) (λ u. files_here i.path)) (λ fs gs u. given _ _ (queues (map file_plain fs) (map file_plain gs)))))
source_alike from_pairs xs ys h k = on (path_args_alike is_pair_path (λ x. Unit {0}) (λ x t e. tt) (λ x b q. tt) xs ys h no_path tt) (λ i j m.
    subst (λ z. Twin Channels (files_of true i >>= λ fs. gives (queue (pairs_of (chars i.path) fs))) (files_of true z >>= λ fs. gives (queue (pairs_of (chars z.path) fs)))) m.0
    (on (on_same (wanting_files _) (λ u. files_here i.path)) (λ fs gs u. given _ _ (queues (pairs_of (chars i.path) fs) (pairs_of (chars i.path) gs)))))

source_if : (c : Bool) (p : Place) (x : Source) (xs ys : List Arg) → AllArgs xs ys → takes x (unnamed xs) ≡ c
    → Twin Things (if c then (counted p 0 >>= λ _. source x xs >>= λ i. gives (a_channel i)) else refused (WrongArity p))
    (if c then (counted p 0 >>= λ _. source x ys >>= λ i. gives (a_channel i)) else refused (WrongArity p))
source_if true p x xs ys h e = on_same (counting p 0) (λ u. on (source_alike x xs ys h e) (λ c d k. given (a_channel c) (a_channel d) k))
source_if false p x xs ys h e = refusal (WrongArity p)

sources_within : (p : Place) (x : Source) (xs ys : List Arg) → AllArgs xs ys → Twin Things (source_within p x xs) (source_within p x ys)
sources_within p x xs ys h =
    subst (λ n. Twin Things (source_within p x xs) (if takes x n then (counted p 0 >>= λ _. source x ys >>= λ i. gives (a_channel i)) else refused (WrongArity p))) (unnamed_alike xs ys h)
    (source_if (takes x (unnamed xs)) p x xs ys h refl)

sources_by : (p : Place) (x : Option Source) (xs ys : List Arg) → AllArgs xs ys → Twin Things (source_by p x xs) (source_by p x ys)
sources_by p (Some x) xs ys h = sources_within p x xs ys h
sources_by p None xs ys h = refusal (UnknownName p)

pub source_calls : (p : Place) (n : List ℕ) (xs ys : List Arg) → AllArgs xs ys → Twin Things (source_call p n xs) (source_call p n ys)
source_calls p n xs ys h = sources_by p (source_named n) xs ys h

first_widened : (path : List ℕ) (fs : List FileRef) → widened (first_file path fs) ≡ widened (file (file_name path) [] 0)
first_widened path [] = refl
first_widened path (f ∷ fs) = refl

file_if : (c : Bool) (p : Place) (xs ys : List Arg) → AllArgs xs ys
    → Twin Things (if c then (path_args is_literal_path xs no_path >>= λ x. files_of false x >>= λ fs. gives (a_value (first_file x.path fs))) else refused (WrongArity p))
    (if c then (path_args is_literal_path ys no_path >>= λ x. files_of false x >>= λ fs. gives (a_value (first_file x.path fs))) else refused (WrongArity p))
file_if true p xs ys h = on (path_args_alike is_literal_path (λ x. Unit {0}) (λ x t e. tt) (λ x b q. tt) xs ys h no_path tt) (λ i j m.
    subst (λ z. Twin Things (files_of false i >>= λ fs. gives (a_value (first_file i.path fs))) (files_of false z >>= λ fs. gives (a_value (first_file z.path fs)))) m.0
    (on (on_same (wanting_files _) (λ u. files_here i.path)) (λ fs gs e. given (a_value (first_file i.path fs)) (a_value (first_file i.path gs)) (first_widened i.path fs ∙ sym (first_widened i.path gs)))))
file_if false p xs ys h = refusal (WrongArity p)

pub file_calls : (p : Place) (xs ys : List Arg) → AllArgs xs ys → Twin Things (file_call p xs) (file_call p ys)
file_calls p xs ys h =
    subst (λ n. Twin Things (file_call p xs) (if n == 1 then (path_args is_literal_path ys no_path >>= λ x. files_of false x >>= λ fs. gives (a_value (first_file x.path fs))) else refused (WrongArity p))) (unnamed_alike xs ys h)
    (file_if (unnamed xs == 1) p xs ys h)
