-- The closures of a process's expressions, as `Formulas` asks for them.
use Rattle.std.proofs.Common.{◌≡◌, ◌∙◌, ℕ, List, Option, Result, map, [], ◌∷◌, refl, sym, ap, ap₂, subst}
use Rattle.nf_value.specs.Plain.{Plain}
use Rattle.nf_value.specs.declared.place.Place.{Place}
use Rattle.nf_ast.specs.Tree.{Tree, cons, empty}
use Rattle.nf_called.specs.Formulas.{IsFormula}
use Rattle.nf_eval.specs.declared.closures.Closure.{Closure}
use Rattle.nf_lowered.specs.Given.{Gives}
use Rattle.nf_meaning.specs.declared.fault.LowerFault.{LowerFault}
use Rattle.nf_meaning.specs.Directives.{formula, inside}
use Rattle.nf_meaning.specs.Walk as walk
use Rattle.nf_tasks.specs.Memory.{program}
use Rattle.nf_around.specs.declared.surroundings.Surroundings.{Surroundings}
use Rattle.nf_around.specs.Around.{IsAround}
use Rattle.nf_around.specs.Processes.{inside_of}
use Rattle.nf_around.proofs.Insides.{same_inside}

module _ {N : Type 0} (titles_of : N → List (List ℕ)) (answer_of : N → ℕ → List Plain → Option Plain) (x : Surroundings N) (seen : List (List ℕ)) where
  pub formed : (a : walk.Around) → IsAround titles_of answer_of x a → (p q : Place) (b c : Tree) (r : Result Closure LowerFault) → p ≡ q → b ≡ c
      → Gives (IsFormula a.given.program) (formula (inside a seen) p b) r
      → Gives (IsFormula (program (titles_of x.natives.now) (answer_of x.natives.now))) (formula (inside_of titles_of answer_of x seen) q c) r
  formed a h p q b c r place body g =
      subst (λ n. Gives (IsFormula n) (formula (inside_of titles_of answer_of x seen) q c) r) h.everywhere.program
      (subst (λ i. Gives (IsFormula a.given.program) (formula i q c) r) (sym (same_inside titles_of answer_of x a h seen))
      (subst (λ t. Gives (IsFormula a.given.program) (formula (inside a seen) q t) r) body
      (subst (λ y. Gives (IsFormula a.given.program) (formula (inside a seen) y b) r) place g)))
