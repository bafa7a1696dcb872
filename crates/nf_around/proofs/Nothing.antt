-- A body without names.
use Rattle.std.proofs.Common.{◌≡◌, ℕ, List, [], Option, None, refl, sym, subst}
use Rattle.nf_value.specs.Plain.{Plain}
use Rattle.nf_graph.specs.Meaning.{Bags}
use Rattle.nf_meaning.specs.Walk as walk
use Rattle.nf_scopes.specs.Standing.{NamesStand}
use Rattle.nf_scopes.specs.Tables.{FoundStands, Table, TableStands, held}
use Rattle.nf_scopes.specs.declared.names.BodyNames.{BodyNames}
use Rattle.nf_around.specs.declared.surroundings.Surroundings.{Surroundings}
use Rattle.nf_around.specs.Around.{IsAround, IsBody}

abbrev pub nothing : walk.Scope
nothing = record { path = []; within = []; own = []; defined = []; names = []; called = []; calls = [] }

abbrev pub no_bags : Bags
no_bags i k = []

pub no_table : (es : Table) → es ≡ [] → TableStands no_bags es []
no_table es h = λ n. subst (λ xs. FoundStands no_bags (held n xs) None) (sym h) tt

pub in_nothing : {N : Type 0} (titles_of : N → List (List ℕ)) (answer_of : N → ℕ → List Plain → Option Plain) (x : Surroundings N) (names : BodyNames) (a : walk.Around)
    → IsAround titles_of answer_of x a → NamesStand no_bags [] names nothing → IsBody titles_of answer_of x names a nothing
in_nothing titles_of answer_of x names a h stand = record { around = h; seen = record { bags = no_bags; braces = []; stand = stand } }
