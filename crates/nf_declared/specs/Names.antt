-- The names at the top of a script, in memory and in its meaning.
use Rattle.std.specs.Prelude.{◌≡◌, ◌||◌, ℕ, List, String, Result}
use Rattle.std.specs.Global.{Global}
use Rattle.std.specs.HashSet.{HashSet, contains_text}
use Rattle.std.specs.Str.{bytes_eq}
use Rattle.nf_builtins.specs.Natives.{is_among}
use Rattle.nf_lowered.specs.Given.{Gives}
use Rattle.nf_meaning.specs.declared.fault.LowerFault.{LowerFault}
use Rattle.nf_meaning.specs.Lowered.{Lowered}
use Rattle.nf_meaning.specs.Script.{Read}
use Rattle.nf_declared.specs.declared.names.TopNames.{TopNames}

-- a set that has one name more
abbrev pub HasAlso : {S : Type 0} → List ℕ → HashSet (String Global) S → HashSet (String Global) S → Type 0
HasAlso n old new = (m : List ℕ) → contains_text new m ≡ (bytes_eq n m || contains_text old m)

-- the names so far, whether there is an entry, and the parameters that the script set
pub record NamesRead (x : TopNames) (q : Read) : Type 0 where
  pub names : (n : List ℕ) → contains_text x.names n ≡ is_among n q.names
  pub entry : x.has_entry ≡ q.has_entry
  pub set : (n : List ℕ) → contains_text x.set n ≡ is_among n q.set

-- one name more; the parameters stay
pub record NamesKept (new : TopNames) (q k : Read) : Type 0 where
  pub read : NamesRead new k
  pub params : k.params ≡ q.params

-- reading goes on as the meaning does, from whatever names were read before
abbrev pub NamesGoOn : (Read → Lowered Read) → TopNames → TopNames → Result (Unit {0}) LowerFault → Type 0
NamesGoOn w old new r = (q : Read) → NamesRead old q → Gives (λ u k. NamesKept new q k) (w q) r
