-- A script goes the same way in two runs, and what follows from that.
use Rattle.std.proofs.Common.{◌≡◌, ℕ, zero, suc, List, [], ◌∷◌, ◌++◌, length, Bool, true, false, Option, Some, None, Ok, Err, refl, ap, sym, subst, ◌∙◌, if◌then◌else◌, ◌≤◌, arith}
use Rattle.std.specs.Prelude.{count_by}
use Rattle.std.specs.List.{IsDistinct}
use Rattle.std.specs.Str.{bytes_eq}
use Rattle.nf_value.specs.Plain.{Plain}
use Rattle.nf_value.specs.declared.place.Place.{Place}
use Rattle.nf_names_used.specs.Natives.{is_among}
use Rattle.nf_ast.specs.Tree as tree
use Rattle.nf_ast.specs.Tree.{Tree, empty, cons, place_of}
use Rattle.nf_names_used.specs.Body.{name_in}
use Rattle.nf_meaning.specs.declared.fault.LowerFault.TheVariants.{TwiceDefined, NoEntry}
use Rattle.nf_meaning.specs.Lowered.{Lowered, goes_on}
use Rattle.nf_meaning.specs.Places.{begins_at, first_place}
use Rattle.nf_meaning.specs.Things.{Thing, a_value, a_channel, outputs, Channel, Output}
use Rattle.nf_meaning.specs.Given.{Given, Definitions, Found, Outcomes}
use Rattle.nf_meaning.specs.Meaning.{ScriptMeaning}
use Rattle.nf_meaning.specs.Walk.{Around, Scope, State}
use Rattle.nf_meaning.specs.Expressions.{value_of, only_read}
use Rattle.nf_meaning.specs.Calls.{names_taken}
use Rattle.nf_meaning.specs.Workflow.{logged}
use Rattle.nf_meaning.specs.Script.{emit_label, emit_value, label_fault, label_of, and_label, emitted, emits_of, taken_twice, statements_in, workflow_walk, body_in, take_in, bound, inner_scope, back_in, enter_in, around_at, definitions_of, around, opening, Read, only, with_param, parameter, after, top_read, tops_read, entry_in, first_take, entry_walk, state_of, begun, entry_around, ending, meaning_of, wants_of, paths_of}
use Rattle.nf_meaning.specs.Few.{OutputsFew, ThingFew, NamedFew, ScopeFew, WalkFew}
use Rattle.nf_graph.proofs.Tally.{passes, count_is_passes}
use Rattle.nf_meaning.specs.CallPaths.{NamesArePlain, MadeBy, is_same_task, EachOnce}
use Rattle.nf_meaning.specs.Outside.{in_run, fault_of}
use Rattle.nf_meaning.proofs.Growth.{Grows, inside_grows, made_still}
use Rattle.nf_meaning.proofs.Twins.{Channels, AllChannels, Outputs, Things, Named, Scopes, States, Ends, EndsInside, Arounds, Twin, Same, on, on_same, given, refusal, judging}
use Rattle.nf_meaning.proofs.SameNames.{both_named}
use Rattle.nf_meaning.proofs.SameArgs.{valuing, reading, channel_due, no_file_due}
use Rattle.nf_meaning.proofs.SameParts.{parts, logs}

-- ---- the bodies of workflows

emitted_alike : (q : Place) (t u : Thing) → Things t u → Twin Channels (emitted q t) (emitted q u)
emitted_alike q t u h = on_same (no_file_due q t u h) (λ x. channel_due q t u h)

emits : (before : List (List ℕ)) (t : Tree) → Twin Outputs (emits_of before t) (emits_of before t)
emits before (tree.section p xs) = emits before xs
emits before (cons x more) =
    on_same (judging (label_fault before (emit_label x))) (λ i.
    on (on (parts (emit_value x)).thing (emitted_alike (begins_at (emit_value x)))) (λ c d k.
    on (emits (and_label (emit_label x) before) more) (λ os qs ks. given (record { label = label_of (emit_label x); channel = c } ∷ os) (record { label = label_of (emit_label x); channel = d } ∷ qs) (record { label = refl; channel = k }, ks))))
emits before _ = given [] [] tt

walks : (t : Tree) → Twin Outputs (workflow_walk t) (workflow_walk t)
walks (tree.parts take main emit) =
    on_same (judging (taken_twice [] (names_taken take))) (λ i. on_same (parts (statements_in main)).body (λ j. emits [] emit))
walks t = on_same (parts t).body (λ i. given [] [] tt)

-- ---- calls of workflows

bound_alike : (ns : List Tree) (cs ds : List Channel) → AllChannels cs ds → Named (bound ns cs) (bound ns ds)
bound_alike [] cs ds h = tt
bound_alike (n ∷ ns) [] [] h = tt
bound_alike (n ∷ ns) (c ∷ cs) (d ∷ ds) h =
    both_named (bound ns cs) (bound ns ds) ((name_in n, a_channel c) ∷ []) ((name_in n, a_channel d) ∷ []) (bound_alike ns cs ds h.1) ((refl, h.0), tt)
bound_alike (n ∷ ns) [] (d ∷ ds) h = absurd h
bound_alike (n ∷ ns) (c ∷ cs) [] h = absurd h

inner_alike : (n : List ℕ) (t : Tree) (cs ds : List Channel) → AllChannels cs ds → (x y : Scope) → Scopes x y → Scopes (inner_scope n t cs x) (inner_scope n t ds y)
inner_alike n t cs ds h x y e = record {
  path = ap (λ z. z ++ n ++ (58 ∷ [])) e.path;
  within = ap (λ z. n ∷ z) e.within;
  own = tt;
  defined = refl;
  names = bound_alike (take_in t) cs ds h;
  called = refl;
  calls = tt;
}

back : (n : List ℕ) (d : Definitions) (s u : State) (t : Tree) (cs : List Channel) → States s u → (m k : Lowered (List Output × State))
    → Ends Outputs d (record s { scope = inner_scope n t cs s.scope }) m k → EndsInside n d s (back_in s.scope m) (back_in u.scope k)
back n d s u t cs e (Ok x) (Ok y) h = (
  h.0,
  record { scope = e.scope; sizes = h.1.sizes; wants = h.1.wants; paths = h.1.paths },
  λ k. inside_grows n s (record s { scope = inner_scope n t cs s.scope }) x.1 (record x.1 { scope = s.scope }) refl refl refl (h.2 k) refl refl refl refl,
)
back n d s u t cs e (Err f) (Err g) h = h
back n d s u t cs e (Ok x) (Err g) h = h
back n d s u t cs e (Err f) (Ok y) h = h

entered : (a b : Around) → Arounds a b → (p : Place) (n : List ℕ) (t : Tree) (cs ds : List Channel) (s u : State) → AllChannels cs ds → States s u
    → EndsInside n a.definitions s (enter_in a p n t cs s) (enter_in b p n t ds u)
entered a b h p n t cs ds s u k e =
    back n a.definitions s u (body_in t) cs e _ _
    ((walks (body_in t)).at a b h (record s { scope = inner_scope n (body_in t) cs s.scope }) (record u { scope = inner_scope n (body_in t) ds u.scope })
    (record { scope = inner_alike n (body_in t) cs ds k s.scope u.scope e.scope; sizes = e.sizes; wants = e.wants; paths = e.paths }))

same_definitions : (a : Around) (k : ℕ) → (around_at a k).definitions ≡ a.definitions
same_definitions a zero = refl
same_definitions a (suc k) = refl

arounds_at : (k : ℕ) (a b : Around) → Arounds a b → Arounds (around_at a k) (around_at b k)
arounds_at zero a b h = h
arounds_at (suc k) a b h = record {
  patterns = h.patterns;
  large = h.large;
  program = h.program;
  definitions = h.definitions;
  everywhere = h.everywhere;
  functions = h.functions;
  enter = λ p n t cs ds s u i e. subst (λ z. EndsInside n z s (enter_in (around_at a k) p n t cs s) (enter_in (around_at b k) p n t ds u)) (same_definitions a k)
      (entered (around_at a k) (around_at b k) (arounds_at k a b h) p n t cs ds s u i e);
}

-- ---- two runs of a script

first_around : (g : Given) (found : List Found) (o : Outcomes) (params : List (List ℕ × Plain))
    → Arounds (around g params) (around (in_run g found o) params)
first_around g found o params = record {
  patterns = refl;
  large = refl;
  program = refl;
  definitions = refl;
  everywhere = refl;
  functions = refl;
  enter = λ p n t cs ds s u i e. refl;
}

at_opening : States opening opening
at_opening = record {
  scope = record { path = refl; within = refl; own = tt; defined = refl; names = tt; called = refl; calls = tt };
  sizes = refl;
  wants = refl;
  paths = refl;
}

only_alike : {A : Type 0} (d : Definitions) (s : State) (m n : Lowered (A × State)) → Ends Same d s m n → only m ≡ only n
only_alike d s (Ok x) (Ok y) h = ap Ok h.0
only_alike d s (Err f) (Err g) h = ap Err h
only_alike d s (Ok x) (Err g) h = absurd h
only_alike d s (Err f) (Ok y) h = absurd h

next_alike : {A B : Type 0} (m n : Lowered A) (f k : A → Lowered B) → m ≡ n → ((x : A) → f x ≡ k x) → goes_on m f ≡ goes_on n k
next_alike m n f k e h = subst (λ z. goes_on m f ≡ goes_on z k) e (of_one m)
  where
    of_one : (m : Lowered _) → goes_on m f ≡ goes_on m k
    of_one (Ok x) = h x
    of_one (Err i) = refl

module _ (g : Given) (found : List Found) (o : Outcomes) where
  abbrev other : Given
  other = in_run g found o

  values_at_top : (e : Tree) (params : List (List ℕ × Plain)) → only (value_of e (around g params) opening) ≡ only (value_of e (around other params) opening)
  values_at_top e params =
      only_alike (definitions_of g.tops) opening (value_of e (around g params) opening) (value_of e (around other params) opening)
      ((valuing e).at (around g params) (around other params) (first_around g found o params) opening opening at_opening)

  read_at_top : (e : Tree) (params : List (List ℕ × Plain)) → only (only_read e (around g params) opening) ≡ only (only_read e (around other params) opening)
  read_at_top e params =
      only_alike (definitions_of g.tops) opening (only_read e (around g params) opening) (only_read e (around other params) opening)
      ((reading e).at (around g params) (around other params) (first_around g found o params) opening opening at_opening)

  logged_at_top : (p : Place) (n : List ℕ) (e : Tree) (params : List (List ℕ × Plain)) → only (logged p n e (around g params) opening) ≡ only (logged p n e (around other params) opening)
  logged_at_top p n e params =
      only_alike (definitions_of g.tops) opening (logged p n e (around g params) opening) (logged p n e (around other params) opening)
      ((logs p n e).at (around g params) (around other params) (first_around g found o params) opening opening at_opening)

  parameter_alike : (n e : Tree) (r : Read) → parameter g n e r ≡ parameter other n e r
  parameter_alike n e r = by (is_among (name_in n) r.set)
    where
      by : (c : Bool) → (if c then Err (TwiceDefined (place_of n)) else goes_on (only (value_of e (around g r.params) opening)) (λ v. Ok (with_param g (name_in n) r v)))
          ≡ (if c then Err (TwiceDefined (place_of n)) else goes_on (only (value_of e (around other r.params) opening)) (λ v. Ok (with_param other (name_in n) r v)))
      by true = refl
      by false = ap (λ z. goes_on z (λ v. Ok (with_param g (name_in n) r v))) (values_at_top e r.params)

  top_alike : (t : Tree) (r : Read) → top_read g t r ≡ top_read other t r
  top_alike (tree.parameter p n e) r = parameter_alike n e r
  top_alike (tree.println p e) r = ap (after r) (read_at_top e r.params)
  top_alike (tree.log p n e) r = ap (after r) (logged_at_top (place_of n) (name_in n) e r.params)
  top_alike (tree.workflow p empty body) r = refl
  top_alike (tree.workflow p n body) r = refl
  top_alike _ r = refl

  tops_alike : (t : Tree) (r : Read) → tops_read g t r ≡ tops_read other t r
  tops_alike (cons x more) r = next_alike (top_read g x r) (top_read other x r) (tops_read g more) (tops_read other more) (top_alike x r) (tops_alike more)
  tops_alike _ r = refl

  entry_alike : (t : Option Tree) → Twin Outputs (entry_walk t) (entry_walk t)
  entry_alike None = refusal (NoEntry first_place)
  entry_alike (Some body) = on_same (judging (first_take (take_in body))) (λ i. walks body)

  -- where the two runs end
  abbrev Both : Lowered State → Lowered State → Type 0
  Both (Ok s) (Ok t) = States s t × (NamesArePlain (definitions_of g.tops) → Grows opening s)
  Both (Err e) (Err f) = e ≡ f
  Both (Ok s) (Err f) = ⊥
  Both (Err e) (Ok t) = ⊥

  both_states : (m n : Lowered (List Output × State)) → Ends Outputs (definitions_of g.tops) opening m n → Both (state_of m) (state_of n)
  both_states (Ok x) (Ok y) h = (h.1, h.2)
  both_states (Err e) (Err f) h = h
  both_states (Ok x) (Err f) h = h
  both_states (Err e) (Ok y) h = h

  entries : (k : ℕ) (params : List (List ℕ × Plain)) (t : Option Tree)
      → Both (state_of (entry_walk t (around_at (around g params) k) opening)) (state_of (entry_walk t (around_at (around other params) k) opening))
  entries k params t =
      both_states (entry_walk t (around_at (around g params) k) opening) (entry_walk t (around_at (around other params) k) opening)
      (subst (λ z. Ends Outputs z opening (entry_walk t (around_at (around g params) k) opening) (entry_walk t (around_at (around other params) k) opening)) (same_definitions (around g params) k)
      ((entry_alike t).at (around_at (around g params) k) (around_at (around other params) k) (arounds_at k (around g params) (around other params) (first_around g found o params)) opening opening at_opening))

  after_tops : (m : Lowered Read) → (f k : Read → Lowered State) → ((r : Read) → Both (f r) (k r)) → Both (goes_on m f) (goes_on m k)
  after_tops (Ok r) f k h = h r
  after_tops (Err e) f k h = refl

  pub endings : Both (ending g) (ending other)
  endings =
      subst (λ z. Both (ending g) (goes_on z (λ r. state_of (entry_walk (entry_in g.tops) (entry_around other r.params) opening)))) (tops_alike g.tops (begun g))
      (after_tops (tops_read g g.tops (begun g)) (λ r. state_of (entry_walk (entry_in g.tops) (entry_around g r.params) opening)) (λ r. state_of (entry_walk (entry_in g.tops) (entry_around other r.params) opening))
      (λ r. entries (length (definitions_of g.tops).workflows) r.params (entry_in g.tops)))

-- ---- laws

faults_of_both : (g : Given) (found : List Found) (o : Outcomes) (m n : Lowered State) → Both g found o m n
    → fault_of (goes_on n (λ s. Ok s.meant)) ≡ fault_of (goes_on m (λ s. Ok s.meant))
faults_of_both g found o (Ok s) (Ok t) h = refl
faults_of_both g found o (Err e) (Err f) h = ap Some (sym h)
faults_of_both g found o (Ok s) (Err f) h = absurd h
faults_of_both g found o (Err e) (Ok t) h = absurd h

pub same_fault : (g : Given) (found : List Found) (o : Outcomes) → fault_of (meaning_of (in_run g found o)) ≡ fault_of (meaning_of g)
same_fault g found o = faults_of_both g found o (ending g) (ending (in_run g found o)) (endings g found o)

wants_of_both : (g : Given) (found : List Found) (o : Outcomes) (m n : Lowered State) → Both g found o m n
    → goes_on n (λ s. Ok s.wants) ≡ goes_on m (λ s. Ok s.wants)
wants_of_both g found o (Ok s) (Ok t) h = ap Ok (sym h.0.wants)
wants_of_both g found o (Err e) (Err f) h = ap Err (sym h)
wants_of_both g found o (Ok s) (Err f) h = absurd h
wants_of_both g found o (Err e) (Ok t) h = absurd h

pub same_wants : (g : Given) (found : List Found) (o : Outcomes) → wants_of (in_run g found o) ≡ wants_of g
same_wants g found o = wants_of_both g found o (ending g) (ending (in_run g found o)) (endings g found o)

paths_of_both : (g : Given) (found : List Found) (o : Outcomes) (m n : Lowered State) → Both g found o m n
    → goes_on n (λ s. Ok s.paths) ≡ goes_on m (λ s. Ok s.paths)
paths_of_both g found o (Ok s) (Ok t) h = ap Ok (sym h.0.paths)
paths_of_both g found o (Err e) (Err f) h = ap Err (sym h)
paths_of_both g found o (Ok s) (Err f) h = absurd h
paths_of_both g found o (Err e) (Ok t) h = absurd h

pub same_paths : (g : Given) (found : List Found) (o : Outcomes) → paths_of (in_run g found o) ≡ paths_of g
same_paths g found o = paths_of_both g found o (ending g) (ending (in_run g found o)) (endings g found o)

distinct_at_end : (g : Given) (m : Lowered State) (ps : List (List ℕ)) → Both g g.found g.outcomes m m → NamesArePlain (definitions_of g.tops)
    → goes_on m (λ s. Ok s.paths) ≡ Ok ps → IsDistinct bytes_eq ps
distinct_at_end g (Ok s) ps h plain e =
    let grown = h.1 plain in
    let is : s.paths ≡ ps = cc in
    subst (IsDistinct bytes_eq) (sym grown.paths ∙ is) grown.apart
distinct_at_end g (Err f) ps h plain e = absurd cc

pub paths_distinct : (g : Given) (ps : List (List ℕ)) → NamesArePlain (definitions_of g.tops) → paths_of g ≡ Ok ps → IsDistinct bytes_eq ps
paths_distinct g ps plain e = distinct_at_end g (ending g) ps (endings g g.found g.outcomes) plain e

made_at_end : (g : Given) (m : Lowered State) (n : ScriptMeaning) (ps : List (List ℕ)) → Both g g.found g.outcomes m m → NamesArePlain (definitions_of g.tops)
    → goes_on m (λ s. Ok s.meant) ≡ Ok n → goes_on m (λ s. Ok s.paths) ≡ Ok ps → MadeBy ps n.instances
made_at_end g (Ok s) n ps h plain e f =
    let here : s.paths ≡ ps = cc in
    let meant : s.meant ≡ n = cc in
    subst (λ z. MadeBy z n.instances) here (subst (λ (z : ScriptMeaning). MadeBy s.paths z.instances) meant
    (made_still (h.1 plain).added s.paths (h.1 plain).new.tasks s.meant.instances (h.1 plain).paths (h.1 plain).new.meant (h.1 plain).new.of))
made_at_end g (Err i) n ps h plain e f = absurd cc

pub made_by_paths : (g : Given) (m : ScriptMeaning) (ps : List (List ℕ)) → NamesArePlain (definitions_of g.tops) → meaning_of g ≡ Ok m → paths_of g ≡ Ok ps → MadeBy ps m.instances
made_by_paths g m ps plain e f = made_at_end g (ending g) m ps (endings g g.found g.outcomes) plain e f

once_at_end : (g : Given) (m : Lowered State) (n : ScriptMeaning) → Both g g.found g.outcomes m m → NamesArePlain (definitions_of g.tops)
    → goes_on m (λ s. Ok s.meant) ≡ Ok n → EachOnce n.instances
once_at_end g (Ok s) n h plain e z =
    let meant : s.meant ≡ n = cc in
    let counted : passes (is_same_task z) s.meant.instances ≤ 1 = subst (λ zs. passes (is_same_task z) zs ≤ 1) (sym (h.1 plain).new.meant) ((h.1 plain).new.once z) in
    subst (λ (x : ScriptMeaning). count_by (is_same_task z) x.instances ≤ 1) meant (omega (arith, count_is_passes (is_same_task z) s.meant.instances, counted))
once_at_end g (Err i) n h plain e z = absurd cc

pub each_once : (g : Given) (m : ScriptMeaning) → NamesArePlain (definitions_of g.tops) → meaning_of g ≡ Ok m → EachOnce m.instances
each_once g m plain e = once_at_end g (ending g) m (endings g g.found g.outcomes) plain e

-- ---- value channels

outputs_twice : (os : List Output) → OutputsFew os → Outputs os os
outputs_twice [] h = tt
outputs_twice (o ∷ os) h = (record { label = refl; channel = record { kind = refl; few = h.0 } }, outputs_twice os h.1)

things_twice : (t : Thing) → ThingFew t → Things t t
things_twice (a_value v) h = refl
things_twice (a_channel c) h = record { kind = refl; few = h }
things_twice (outputs os) h = outputs_twice os h

named_twice : (xs : List (List ℕ × Thing)) → NamedFew xs → Named xs xs
named_twice [] h = tt
named_twice (x ∷ xs) h = ((refl, things_twice x.1 h.0), named_twice xs h.1)

state_twice : (s : State) → ScopeFew s.scope → States s s
state_twice s h = record {
  scope = record {
    path = refl;
    within = refl;
    own = named_twice s.scope.own h.own;
    defined = refl;
    names = named_twice s.scope.names h.names;
    called = refl;
    calls = named_twice s.scope.calls h.calls;
  };
  sizes = refl;
  wants = refl;
  paths = refl;
}

outputs_few : (os qs : List Output) → Outputs os qs → OutputsFew os
outputs_few [] [] h = tt
outputs_few (o ∷ os) (q ∷ qs) h = (h.0.channel.few, outputs_few os qs h.1)
outputs_few [] (q ∷ qs) h = absurd h
outputs_few (o ∷ os) [] h = absurd h

thing_few : (t u : Thing) → Things t u → ThingFew t
thing_few (a_value v) (a_value w) h = tt
thing_few (a_channel c) (a_channel d) h = h.few
thing_few (outputs os) (outputs qs) h = outputs_few os qs h
thing_few (a_value v) (a_channel d) h = absurd h
thing_few (a_value v) (outputs qs) h = absurd h
thing_few (a_channel c) (a_value w) h = absurd h
thing_few (a_channel c) (outputs qs) h = absurd h
thing_few (outputs os) (a_value w) h = absurd h
thing_few (outputs os) (a_channel d) h = absurd h

named_few : (xs ys : List (List ℕ × Thing)) → Named xs ys → NamedFew xs
named_few [] [] h = tt
named_few (x ∷ xs) (y ∷ ys) h = (thing_few x.1 y.1 h.0.1, named_few xs ys h.1)
named_few [] (y ∷ ys) h = absurd h
named_few (x ∷ xs) [] h = absurd h

few_after : (d : Definitions) (s : State) (m : Lowered (List Output × State)) → Ends Outputs d s m m → WalkFew m
few_after d s (Ok x) h = (
  outputs_few x.0 x.0 h.0,
  record { own = named_few x.1.scope.own x.1.scope.own h.1.scope.own; names = named_few x.1.scope.names x.1.scope.names h.1.scope.names; calls = named_few x.1.scope.calls x.1.scope.calls h.1.scope.calls },
)
few_after d s (Err f) h = tt

pub few_in_walk : (g : Given) (params : List (List ℕ × Plain)) (k : ℕ) (t : Tree) (s : State) → ScopeFew s.scope → WalkFew (workflow_walk t (around_at (around g params) k) s)
few_in_walk g params k t s h =
    few_after (around_at (around g params) k).definitions s (workflow_walk t (around_at (around g params) k) s)
    ((walks t).at (around_at (around g params) k) (around_at (around g params) k) (arounds_at k (around g params) (around g params) (first_around g g.found g.outcomes params)) s s (state_twice s h))
