-- The last of several tables that has a name.
use Rattle.std.specs.Prelude.{◌≡◌, ◌<◌, ℕ, suc, List, [], length, drop, get_or, is_some, true}
use Rattle.nf_scopes.specs.Tables.{Table, held, NoneHas}

pub record IsLast (key : List ℕ) (i : ℕ) (ess : List Table) : Type 0 where
  pub place : i < length ess
  pub here : is_some (held key (get_or ess i [])) ≡ true
  pub later : NoneHas key (drop (suc i) ess)
