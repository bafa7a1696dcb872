-- Two walks through the same text, in two runs: they end with the same fault, or with what is alike.
use Rattle.std.proofs.Common.{◌≡◌, ℕ, List, [], ◌∷◌, ◌++◌, Bool, true, false, Option, Some, None, Ok, Err, refl, ap, subst, ◌∙◌, if◌then◌else◌}
use Rattle.std.proofs.lemmas.List.{append-nil}
use Rattle.nf_value.specs.declared.place.Place.{Place}
use Rattle.nf_ast.specs.Tree.{Tree}
use Rattle.nf_meaning.specs.declared.fault.LowerFault.{LowerFault}
use Rattle.nf_meaning.specs.Lowered.{Lowered}
use Rattle.nf_meaning.specs.Things.{Thing, a_value, a_channel, outputs, Channel, Output}
use Rattle.nf_meaning.specs.Given.{Definitions}
use Rattle.nf_meaning.specs.Meaning.{ScriptMeaning, and_meant}
use Rattle.nf_meaning.specs.Walk.{Walk, Around, Scope, State, Want, then_by, ◌>>=◌, gives, refused, at_state, lifted, unless_fault, wanted, means, wants, with_scope, the_scope}
use Rattle.nf_meaning.specs.Few.{HoldsFew}
use Rattle.nf_meaning.specs.CallPaths.{NamesArePlain}
use Rattle.nf_meaning.proofs.Widened.{Alike}
use Rattle.nf_meaning.proofs.Growth.{Grows, GrowsInside, grows_none, grows_on, same_calls}

-- ---- what is alike

pub record Channels (c d : Channel) : Type 0 where
  pub kind : c.is_value ≡ d.is_value
  pub few : HoldsFew c

abbrev pub AllChannels : List Channel → List Channel → Type 0
AllChannels [] [] = Unit {0}
AllChannels (c ∷ cs) (d ∷ ds) = Channels c d × AllChannels cs ds
AllChannels [] (d ∷ ds) = ⊥
AllChannels (c ∷ cs) [] = ⊥

pub record OneOutput (o q : Output) : Type 0 where
  pub label : o.label ≡ q.label
  pub channel : Channels o.channel q.channel

abbrev pub Outputs : List Output → List Output → Type 0
Outputs [] [] = Unit {0}
Outputs (o ∷ os) (q ∷ qs) = OneOutput o q × Outputs os qs
Outputs [] (q ∷ qs) = ⊥
Outputs (o ∷ os) [] = ⊥

abbrev pub Things : Thing → Thing → Type 0
Things (a_value v) (a_value w) = Alike v w
Things (a_channel c) (a_channel d) = Channels c d
Things (outputs os) (outputs qs) = Outputs os qs
Things (a_value v) (a_channel d) = ⊥
Things (a_value v) (outputs qs) = ⊥
Things (a_channel c) (a_value w) = ⊥
Things (a_channel c) (outputs qs) = ⊥
Things (outputs os) (a_value w) = ⊥
Things (outputs os) (a_channel d) = ⊥

abbrev pub Named : List (List ℕ × Thing) → List (List ℕ × Thing) → Type 0
Named [] [] = Unit {0}
Named (x ∷ xs) (y ∷ ys) = ((x.0 ≡ y.0) × Things x.1 y.1) × Named xs ys
Named [] (y ∷ ys) = ⊥
Named (x ∷ xs) [] = ⊥

pub record Scopes (x y : Scope) : Type 0 where
  pub path : x.path ≡ y.path
  pub within : x.within ≡ y.within
  pub own : Named x.own y.own
  pub defined : x.defined ≡ y.defined
  pub names : Named x.names y.names
  pub called : x.called ≡ y.called
  pub calls : Named x.calls y.calls

pub record States (s t : State) : Type 0 where
  pub scope : Scopes s.scope t.scope
  pub sizes : s.sizes ≡ t.sizes
  pub wants : s.wants ≡ t.wants
  pub paths : s.paths ≡ t.paths

-- ---- what two walks end with

abbrev pub Ends : {A : Type 0} → (A → A → Type 0) → Definitions → State → Lowered (A × State) → Lowered (A × State) → Type 0
Ends P d s (Ok x) (Ok y) = P x.0 y.0 × States x.1 y.1 × (NamesArePlain d → Grows s x.1)
Ends P d s (Err f) (Err g) = f ≡ g
Ends P d s (Ok x) (Err g) = ⊥
Ends P d s (Err f) (Ok y) = ⊥

-- what the call of a workflow ends with
abbrev pub EndsInside : List ℕ → Definitions → State → Lowered (List Output × State) → Lowered (List Output × State) → Type 0
EndsInside n d s (Ok x) (Ok y) = Outputs x.0 y.0 × States x.1 y.1 × (NamesArePlain d → GrowsInside n s x.1)
EndsInside n d s (Err f) (Err g) = f ≡ g
EndsInside n d s (Ok x) (Err g) = ⊥
EndsInside n d s (Err f) (Ok y) = ⊥

-- what the two runs of a script have around its bodies
pub record Arounds (a b : Around) : Type 0 where
  pub patterns : a.given.patterns ≡ b.given.patterns
  pub large : a.given.large ≡ b.given.large
  pub program : a.given.program ≡ b.given.program
  pub definitions : a.definitions ≡ b.definitions
  pub everywhere : a.everywhere ≡ b.everywhere
  pub functions : a.functions ≡ b.functions
  pub enter : (p : Place) (n : List ℕ) (t : Tree) (cs ds : List Channel) (s u : State) → AllChannels cs ds → States s u
      → EndsInside n a.definitions s (a.enter p n t cs s) (b.enter p n t ds u)

pub record Twin {A : Type 0} (P : A → A → Type 0) (w v : Walk A) : Type 0 where
  pub at : (a b : Around) → Arounds a b → (s u : State) → States s u → Ends P a.definitions s (w a s) (v b u)

-- equal results
abbrev pub Same : {A : Type 0} → A → A → Type 0
Same x y = x ≡ y

-- ---- steps

pub ends_on : {A : Type 0} (P : A → A → Type 0) (d : Definitions) (s t : State) (m n : Lowered (A × State)) → (NamesArePlain d → Grows s t) → Ends P d t m n → Ends P d s m n
ends_on P d s t (Ok x) (Ok y) g e = (e.0, e.1, λ k. grows_on s t x.1 (g k) (e.2 k))
ends_on P d s t (Err f) (Err h) g e = e
ends_on P d s t (Ok x) (Err h) g e = e
ends_on P d s t (Err f) (Ok y) g e = e

pub goes_on : {A B : Type 0} (P : A → A → Type 0) (Q : B → B → Type 0) (f g : A → Walk B) → ((x y : A) → P x y → Twin Q (f x) (g y)) → (a b : Around) → Arounds a b
    → (s : State) (m n : Lowered (A × State)) → Ends P a.definitions s m n → Ends Q a.definitions s (then_by a f m) (then_by b g n)
goes_on P Q f g k a b h s (Ok x) (Ok y) e = ends_on Q a.definitions s x.1 (f x.0 a x.1) (g y.0 b y.1) e.2 ((k x.0 y.0 e.0).at a b h x.1 y.1 e.1)
goes_on P Q f g k a b h s (Err i) (Err j) e = e
goes_on P Q f g k a b h s (Ok x) (Err j) e = absurd e
goes_on P Q f g k a b h s (Err i) (Ok y) e = absurd e

pub on : {A B : Type 0} {P : A → A → Type 0} {Q : B → B → Type 0} {w v : Walk A} {f g : A → Walk B} → Twin P w v → ((x y : A) → P x y → Twin Q (f x) (g y))
    → Twin Q (w >>= f) (v >>= g)
on {P = P} {Q = Q} {w = w} {v = v} {f = f} {g = g} t k = record { at = λ a b h s u e. goes_on P Q f g k a b h s (w a s) (v b u) (t.at a b h s u e) }

-- the same where the first steps give equal results
pub on_same : {A B : Type 0} {Q : B → B → Type 0} {w v : Walk A} {f g : A → Walk B} → Twin Same w v → ((x : A) → Twin Q (f x) (g x)) → Twin Q (w >>= f) (v >>= g)
on_same {Q = Q} {f = f} {g = g} t k = on t (λ x y e. subst (λ z. Twin Q (f x) (g z)) e (k x))

pub given : {A : Type 0} {P : A → A → Type 0} (x y : A) → P x y → Twin P (gives x) (gives y)
given x y p = record { at = λ a b h s u e. (p, e, λ k. grows_none s) }

pub weaker : {A : Type 0} {P Q : A → A → Type 0} {w v : Walk A} → ((x y : A) → P x y → Q x y) → Twin P w v → Twin Q w v
weaker {A = A} {P = P} {Q = Q} {w = w} {v = v} f t = record { at = λ a b h s u e. by a.definitions s (w a s) (v b u) (t.at a b h s u e) }
  where
    by : (d : Definitions) (s : State) (m n : Lowered (A × State)) → Ends P d s m n → Ends Q d s m n
    by d s (Ok x) (Ok y) e = (f x.0 y.0 e.0, e.1, e.2)
    by d s (Err f) (Err h) e = e
    by d s (Ok x) (Err h) e = e
    by d s (Err f) (Ok y) e = e

pub given_same : {A : Type 0} (x : A) → Twin Same (gives x) (gives x)
given_same x = given x x refl

pub refusal : {A : Type 0} {P : A → A → Type 0} (f : LowerFault) → Twin P (refused f) (refused f)
refusal f = record { at = λ a b h s u e. refl }

-- what the two runs judge alike
pub settled : {A : Type 0} (d : Definitions) (s u : State) (m n : Lowered A) → m ≡ n → States s u → Ends Same d s (at_state s m) (at_state u n)
settled {A = A} d s u m n i e = subst (λ z. Ends Same d s (at_state s m) (at_state u z)) i (of_one m)
  where
    of_one : (m : Lowered A) → Ends Same d s (at_state s m) (at_state u m)
    of_one (Ok x) = (refl, e, λ k. grows_none s)
    of_one (Err f) = refl

pub lifting : {A : Type 0} (m : Lowered A) → Twin Same (lifted m) (lifted m)
lifting m = record { at = λ a b h s u e. settled a.definitions s u m m refl e }

pub judged : (s u : State) (a b : Around) (f g : Option LowerFault) → f ≡ g → States s u → Ends Same a.definitions s (unless_fault f a s) (unless_fault g b u)
judged s u a b f g i e = subst (λ z. Ends Same a.definitions s (unless_fault f a s) (unless_fault z b u)) i (of_one f)
  where
    of_one : (f : Option LowerFault) → Ends Same a.definitions s (unless_fault f a s) (unless_fault f b u)
    of_one None = (refl, e, λ k. grows_none s)
    of_one (Some g) = refl

pub judging : (f : Option LowerFault) → Twin Same (unless_fault f) (unless_fault f)
judging f = record { at = λ a b h s u e. judged s u a b f f refl e }

pub wanting : {A : Type 0} (x : Option A) (f : LowerFault) → Twin Same (wanted x f) (wanted x f)
wanting (Some x) f = given_same x
wanting None f = refusal f

pub choosing : {A : Type 0} {P : A → A → Type 0} {w v x y : Walk A} (c : Bool) → Twin P w v → Twin P x y → Twin P (if c then w else x) (if c then v else y)
choosing true t k = t
choosing false t k = k

pub meaning : (m n : ScriptMeaning) → m.instances ≡ [] → Twin Same (means m) (means n)
meaning m n i = record {
  at = λ a b h s u e. (
    refl,
    record { scope = e.scope; sizes = e.sizes; wants = e.wants; paths = e.paths },
    λ k. same_calls s (record s { meant = and_meant s.meant m }) refl refl refl (ap (λ z. s.meant.instances ++ z) i ∙ append-nil s.meant.instances),
  );
}

pub wanting_files : (x : Want) → Twin Same (wants x) (wants x)
wanting_files x = record {
  at = λ a b h s u e. (
    refl,
    record { scope = e.scope; sizes = e.sizes; wants = ap (λ z. z ++ x ∷ []) e.wants; paths = e.paths },
    λ k. same_calls s (record s { wants = s.wants ++ x ∷ [] }) refl refl refl refl,
  );
}

pub in_scope : (f g : Scope → Scope) → ((x y : Scope) → Scopes x y → Scopes (f x) (g y)) → ((x : Scope) → ((f x).path ≡ x.path) × ((f x).called ≡ x.called))
    → Twin Same (with_scope f) (with_scope g)
in_scope f g k c = record {
  at = λ a b h s u e. (
    refl,
    record { scope = k s.scope u.scope e.scope; sizes = e.sizes; wants = e.wants; paths = e.paths },
    λ k. same_calls s (record s { scope = f s.scope }) (c s.scope).0 (c s.scope).1 refl refl,
  );
}

pub scope_here : Twin Scopes the_scope the_scope
scope_here = record { at = λ a b h s u e. (e.scope, e, λ k. grows_none s) }
