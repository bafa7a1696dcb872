-- Sources of channels.
use Rattle.std.specs.Prelude.{◌≡◌, ℕ, true, List, Result, Ok, Err}
use Rattle.nf_value.specs.declared.place.Place.{Place}
use Rattle.nf_opargs.specs.Sources.{source_of}
use Rattle.nf_opargs.specs.declared.sources.Source.{Source}
use Rattle.nf_meaning.specs.declared.fault.LowerFault.{LowerFault}
use Rattle.nf_meaning.specs.Arguments.{Arg, unnamed}
use Rattle.nf_meaning.specs.Sizes.{counted}
use Rattle.nf_meaning.specs.Sources as meaning
use Rattle.nf_meaning.specs.Sources.{source_call, source_within}
use Rattle.nf_meaning.specs.Things.{Thing, a_channel}
use Rattle.nf_meaning.specs.Walk.{Walk, ◌>>=◌, gives, refused}

-- a call of a source that takes so many arguments: it is counted, and then its channel is made
abbrev pub made_by : Place → Source → List Arg → Walk Thing
made_by p x xs = counted p 0 >>= λ _. meaning.source (source_of x) xs >>= λ c. gives (a_channel c)

-- a walk over arguments is that of a source, or is refused, where so many have no name
pub record IsMadeBy (walk : List Arg → Walk Thing) (p : Place) (count : ℕ) (x : Source) : Type 0 where
  pub takes_it : meaning.takes (source_of x) count ≡ true
  pub goes_on : (xs : List Arg) → unnamed xs ≡ count → walk xs ≡ made_by p x xs

abbrev pub IsRefused : (List Arg → Walk Thing) → ℕ → LowerFault → Type 0
IsRefused walk count e = (xs : List Arg) → unnamed xs ≡ count → walk xs ≡ refused e

abbrev pub IsSourceWanted : Place → List ℕ → ℕ → Result Source LowerFault → Type 0
IsSourceWanted p n count (Ok x) = IsMadeBy (source_call p n) p count x
IsSourceWanted p n count (Err e) = IsRefused (source_call p n) count e

abbrev pub IsTaking : Place → Source → ℕ → Result Source LowerFault → Type 0
IsTaking p x count (Ok y) = IsMadeBy (source_within p (source_of x)) p count y
IsTaking p x count (Err e) = IsRefused (source_within p (source_of x)) count e
