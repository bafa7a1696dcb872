-- Where what may be, as it is known before a run, fits what is in the run.
use Rattle.std.specs.Prelude.{◌≡◌, ℕ, true, false, List, [], ◌∷◌, Option, Some, None, IfSome, IsSomeAnd, slice_get}
use Rattle.nf_kinds.specs.declared.kinds.Kinds.{Kinds}
use Rattle.nf_kinds.specs.declared.kinds.Key.{Key}
use Rattle.nf_kinds.specs.declared.kinds.Key.TheVariants as key
use Rattle.nf_kinds.specs.declared.kinds.Output as kinds
use Rattle.nf_kinds.specs.declared.args.Given.{Given}
use Rattle.nf_kinds.specs.Kinds.{Shaped, is_channel, output_in}
use Rattle.nf_kinds.specs.Scope as order
use Rattle.nf_kinds.specs.Scope.{Bindings, shape_in, is_bound, is_named}
use Rattle.nf_meaning.specs.Things.{Thing, a_value, a_channel, outputs, Channel, Output, channels_of, only_one, output_named, thing_named}
use Rattle.nf_meaning.specs.Walk.{Scope}

-- ---- things

-- it may be a plain value
pub record MayBeValue (k : Kinds) : Type 0 where
  pub known : k.unknown ≡ false
  pub plain : k.plain ≡ true

-- it may be a queue, if this channel is one
pub record MayFlow (k : Kinds) (c : Channel) : Type 0 where
  pub known : k.unknown ≡ false
  pub queue : c.is_value ≡ false → k.queue ≡ true

-- it may be this channel
pub record MayBeChannel (k : Kinds) (c : Channel) : Type 0 where
  pub flows : MayFlow k c
  pub channel : is_channel k ≡ true

-- the output of a call at a place, or of a name
abbrev pub output_by : Key → List Output → Option Channel
output_by (key.At i) os = slice_get (channels_of os) i
output_by (key.Called n) os = output_named n os

-- each output may be what it is
abbrev pub OutputsFit : List kinds.Output → List Output → Type 0
OutputsFit ks os = (k : Key) → IfSome (output_by k os) (λ c. MayBeChannel (output_in k ks) c)

abbrev pub ResultFits : Option (List kinds.Output) → List Output → Type 0
ResultFits None os = ⊥
ResultFits (Some ks) os = OutputsFit ks os

-- it may be what a call gave; of one output it may be that channel
pub record MayBeResult (s : Shaped) (os : List Output) : Type 0 where
  pub known : s.kinds.unknown ≡ false
  pub each : ResultFits s.outputs os
  pub whole : IfSome (only_one os) (λ c. MayBeChannel s.kinds c)

abbrev pub Fits : Shaped → Thing → Type 0
Fits s (a_value v) = MayBeValue s.kinds
Fits s (a_channel c) = MayBeChannel s.kinds c
Fits s (outputs os) = MayBeResult s os

-- ---- names

-- each name that stands for something may be that
abbrev pub NamesFit : Bindings → List (List ℕ × Thing) → Type 0
NamesFit ks xs = (n : List ℕ) → IfSome (thing_named n xs) (λ t. IsSomeAnd (shape_in n ks) (λ s. Fits s t))

-- a name that is bound before a run, and that nothing binds in the run, is one that one arm of an `if` alone bound
abbrev pub UnboundFit : Bindings → List (List ℕ) → List (List ℕ × Thing) → Type 0
UnboundFit ks half xs = (n : List ℕ) → is_bound n ks ≡ true → thing_named n xs ≡ None → is_named n half ≡ true

-- the same, of names in the same order
abbrev pub InOrderFit : Bindings → List (List ℕ × Thing) → Type 0
InOrderFit [] [] = Unit {0}
InOrderFit (k ∷ ks) (x ∷ xs) = (k.0 ≡ x.0) × (Fits k.1 x.1 × InOrderFit ks xs)
InOrderFit [] (x ∷ xs) = ⊥
InOrderFit (k ∷ ks) [] = ⊥

-- the same names in the same order, as both arms of an `if` have them of those that `def` bound before it
abbrev pub SameNames : Bindings → Bindings → Type 0
SameNames [] [] = Unit {0}
SameNames (a ∷ xs) (b ∷ bs) = (a.0 ≡ b.0) × SameNames xs bs
SameNames [] (b ∷ bs) = ⊥
SameNames (a ∷ xs) [] = ⊥

-- what is known of a body fits what its names stand for
pub record ScopeFits (o : order.Scope) (x : Scope) : Type 0 where
  pub locals : InOrderFit o.locals x.own
  pub names : NamesFit o.names x.names
  pub unbound : UnboundFit o.names o.half_bound x.names
  pub calls : NamesFit o.calls x.calls

-- ---- arguments

-- what arguments may be fits the channels that they are where channels are due
abbrev pub ArgsFit : List Given → List Channel → Type 0
ArgsFit [] [] = Unit {0}
ArgsFit (g ∷ gs) (c ∷ cs) = MayFlow g.shape.kinds c × ArgsFit gs cs
ArgsFit [] (c ∷ cs) = ⊥
ArgsFit (g ∷ gs) [] = ⊥
