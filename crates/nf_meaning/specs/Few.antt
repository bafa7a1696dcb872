-- Value channels hold at most one item.
use Rattle.std.specs.Prelude.{◌≡◌, ◌≤◌, ℕ, List, [], ◌∷◌, true, length, Ok, Err}
use Rattle.nf_meaning.specs.Things.{Thing, a_value, a_channel, outputs, Channel, Output}
use Rattle.nf_meaning.specs.Lowered.{Lowered}
use Rattle.nf_meaning.specs.Walk.{Scope, State}

-- if it is a value channel, it has at most one item
abbrev pub HoldsFew : Channel → Type 0
HoldsFew c = c.is_value ≡ true → length c.bag ≤ 1

abbrev pub OutputsFew : List Output → Type 0
OutputsFew [] = Unit {0}
OutputsFew (o ∷ os) = HoldsFew o.channel × OutputsFew os

abbrev pub ThingFew : Thing → Type 0
ThingFew (a_value v) = Unit {0}
ThingFew (a_channel c) = HoldsFew c
ThingFew (outputs os) = OutputsFew os

abbrev pub NamedFew : List (List ℕ × Thing) → Type 0
NamedFew [] = Unit {0}
NamedFew (b ∷ bs) = ThingFew b.1 × NamedFew bs

-- so do all value channels that a body knows
pub record ScopeFew (x : Scope) : Type 0 where
  pub own : NamedFew x.own
  pub names : NamedFew x.names
  pub calls : NamedFew x.calls

-- where a body's walk ends, and what it emits
abbrev pub WalkFew : Lowered (List Output × State) → Type 0
WalkFew (Ok r) = OutputsFew r.0 × ScopeFew r.1.scope
WalkFew (Err f) = Unit {0}
