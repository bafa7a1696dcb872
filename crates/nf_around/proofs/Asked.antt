-- What is asked of an expression of a body.
use Rattle.std.proofs.Common.{◌≡◌, ℕ, List, map, Option, refl, sym, ap, subst}
use Rattle.std.specs.Borrow.{Bor}
use Rattle.nf_value.specs.Plain.{Plain}
use Rattle.nf_ast.specs.Tree.{Tree}
use Rattle.nf_names_used.specs.Uses.{no_names}
use Rattle.nf_meaning.specs.Functions.{names_fault}
use Rattle.nf_meaning.specs.Names.{Reading}
use Rattle.nf_meaning.specs.Walk as walk
use Rattle.nf_meaning.specs.Walk.{known_in}
use Rattle.nf_scopes.specs.declared.names.BodyNames.{BodyNames}
use Rattle.nf_known.specs.declared.around.Around.TheVariants as around
use Rattle.nf_known.specs.Known.{IsAsked, wrong_with}
use Rattle.nf_around.specs.declared.surroundings.Surroundings.{Surroundings}
use Rattle.nf_around.specs.declared.view.View.{View}
use Rattle.nf_around.specs.Around.{IsBody, IsEverywhere, NamesSeen, Sees, asked_in}

module _ {N : Type 0} (titles_of : N → List (List ℕ)) (answer_of : N → ℕ → List Plain → Option Plain) (x : Surroundings N) (b : Bor BodyNames) (a : walk.Around) (s : walk.Scope) where
  pub asked : IsBody titles_of answer_of x b.now a s → IsAsked titles_of x.known (around.Body b) (asked_in a s)
  asked h = record {
    script = h.around.script;
    names = record {
      bags = h.seen.bags;
      around = h.seen.braces;
      scope = s;
      stand = h.seen.stand;
      things = refl;
      everywhere = ap (map (λ b. b.0)) h.around.everywhere.values;
    };
  }

  pub wrong : IsBody titles_of answer_of x b.now a s → (r : Reading) (t : Tree) → wrong_with (asked_in a s) r t ≡ names_fault a.given a.definitions (known_in a s) r t no_names
  wrong h r t = ap (λ d. names_fault a.given d (known_in a s) r t no_names) (sym h.around.definitions)

-- what is seen in every body
module _ {N : Type 0} (titles_of : N → List (List ℕ)) (answer_of : N → ℕ → List Plain → Option Plain) (x : Surroundings N) (names : BodyNames) (a : walk.Around) (s : walk.Scope) where
  pub seen : (v : View) → v.everywhere.now ≡ x.everywhere → v.names.now ≡ names → IsBody titles_of answer_of x names a s → Sees v a.given.program a s
  seen v everywhere same h = record {
    everywhere = subst (λ y. IsEverywhere y a.given.program a) (sym everywhere) (subst (λ n. IsEverywhere x.everywhere n a) (sym h.around.everywhere.program) h.around.everywhere);
    names = subst (λ y. NamesSeen y s) (sym same) h.seen;
  }
