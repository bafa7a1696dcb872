-- Surroundings that are made, and then have other parameters.
use Rattle.std.proofs.Common.{◌≡◌, ◌∙◌, ℕ, List, [], ◌∷◌, Option, refl, sym, ap}
use Rattle.std.specs.Prelude.{codes}
use Rattle.nf_value.specs.Plain.{Plain, table, text, plain_pairs_of}
use Rattle.nf_value.specs.View.{plain_of}
use Rattle.nf_value.specs.declared.value.Value.{Value}
use Rattle.nf_placed.specs.Scope.{value_in}
use Rattle.nf_eval.specs.Evaluation.{functions_of}
use Rattle.nf_eval.specs.Memory.{patterns_of}
use Rattle.nf_meaning.specs.Given.{Given}
use Rattle.nf_meaning.specs.Script.{around, everywhere}
use Rattle.nf_tasks.specs.Memory.{program}
use Rattle.nf_known.specs.declared.names.KnownScript.{KnownScript}
use Rattle.nf_around.specs.declared.everywhere.Everywhere.{Everywhere}
use Rattle.nf_around.specs.declared.surroundings.Surroundings.{Surroundings}
use Rattle.nf_around.specs.Around.{HasFolders, HasGiven, IsAround, IsEverywhere}
use Rattle.nf_around.specs.Values.{values_of}

module _ {N : Type 0} (titles_of : N → List (List ℕ)) (answer_of : N → ℕ → List Plain → Option Plain) (x : Surroundings N) (g : Given) where
  values : (ps : List (List ℕ × Plain)) → HasFolders x.everywhere.params x.everywhere.folder x.everywhere.launch g ps → everywhere g ps ≡ values_of x.everywhere
  values ps h = λ i.
      (codes "params", sym h.set i) ∷ (codes "projectDir", sym h.script i) ∷ (codes "baseDir", sym h.script i) ∷ (codes "launchDir", sym h.run i) ∷ []

  pub made : (ps : List (List ℕ × Plain)) → HasGiven titles_of answer_of x.known x.natives.now x.everywhere.library.value g
      → HasFolders x.everywhere.params x.everywhere.folder x.everywhere.launch g ps → IsAround titles_of answer_of x (around g ps)
  made ps h f = record {
    script = h.script;
    everywhere = record {
      program = h.program;
      patterns = h.patterns;
      functions = λ i. functions_of (sym h.functions i) (h.patterns i) (h.program i).titles (h.program i).answer;
      values = values ps f;
    };
    definitions = refl;
  }

-- the same surroundings with other parameters
module _ {N : Type 0} (titles_of : N → List (List ℕ)) (answer_of : N → ℕ → List Plain → Option Plain) (x : Surroundings N) (params : Value) (g : Given) (ps qs : List (List ℕ × Plain)) where
  pub changed : IsAround titles_of answer_of x (around g ps) → plain_of params ≡ table (plain_pairs_of qs) → IsAround titles_of answer_of (record x { everywhere = record x.everywhere { params = params } }) (around g qs)
  changed h set =
      let script : text g.folder ≡ plain_of x.everywhere.folder = ap (value_in (codes "projectDir")) h.everywhere.values in
      let run : text (codes ".") ≡ plain_of x.everywhere.launch = ap (value_in (codes "launchDir")) h.everywhere.values in
      record {
        script = h.script;
        everywhere = record {
          program = h.everywhere.program;
          patterns = h.everywhere.patterns;
          functions = h.everywhere.functions;
          values = λ i. (codes "params", sym set i) ∷ (codes "projectDir", script i) ∷ (codes "baseDir", script i) ∷ (codes "launchDir", run i) ∷ [];
        };
        definitions = h.definitions;
      }
