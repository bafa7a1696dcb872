use Rattle.std.proofs.Common.{[], refl, sym, subst}
use Rattle.nf_meaning.specs.Script.{opening}
use Rattle.nf_scopes.specs.Tables.{Table, TableStands}
use Rattle.nf_declared.proofs.values.no_names.Goals as goal

pub returns : goal.returns
returns c =
    let P : Table → Type 0 = λ es. TableStands (λ i j. []) es [] in
    record {
      bags = λ i j. [];
      braces = [];
      stand = c.new.ensures.stands (λ i j. []) opening.scope refl refl (subst P (sym c.new-none.ensures.empty) (λ n. tt));
    }
