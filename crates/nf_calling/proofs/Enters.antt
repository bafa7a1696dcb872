-- What is around all bodies, where the walk begins.
use Rattle.std.proofs.Common.{◌≡◌, ◌∙◌, ℕ, zero, suc, List, map, length, Option, refl, sym, ap, subst}
use Rattle.nf_value.specs.Plain.{Plain}
use Rattle.nf_ast.specs.Tops.{view_top}
use Rattle.nf_ast.specs.View.{trees}
use Rattle.nf_ast.specs.declared.tops.Top.{Top}
use Rattle.nf_callees.specs.Found.{defined_in}
use Rattle.nf_known.specs.Known.{IsKnownScript}
use Rattle.nf_meaning.specs.CallPaths.{NamesArePlain}
use Rattle.nf_meaning.specs.Given.{Given, files_at}
use Rattle.nf_meaning.specs.Script as script
use Rattle.nf_meaning.specs.Script.{around, around_at, entry_around}
use Rattle.nf_meaning.specs.Walk.{Around}
use Rattle.nf_plan.specs.Runs.{Run}
use Rattle.nf_around.specs.Around.{IsAround}
use Rattle.nf_around.specs.declared.surroundings.Surroundings.{Surroundings}
use Rattle.nf_lowering.specs.State.{IsLowering}
use Rattle.nf_lowering.specs.declared.state.Lowering.{Lowering}
use Rattle.nf_walked.specs.Around.{CanCall, CanWalk, Knows}
use Rattle.nf_walked.specs.declared.walker.Walker.{Walker}
use Rattle.nf_calling.specs.Entries.{IsRunOf, StandsAround}

module _ {N : Type 0} (titles_of : N → List (List ℕ)) (answer_of : N → ℕ → List Plain → Option Plain) where
  -- whether workflows may be called tells nothing of expressions
  same_around : (s : Surroundings N) (a : Around) (left : ℕ) → IsAround titles_of answer_of s a → IsAround titles_of answer_of s (around_at a left)
  same_around s a zero h = h
  same_around s a (suc k) h = record {
    script = h.script;
    everywhere = record { program = h.everywhere.program; patterns = h.everywhere.patterns; functions = h.everywhere.functions; values = h.everywhere.values };
    definitions = h.definitions;
  }

  given_at : (a : Around) (left : ℕ) → (around_at a left).given ≡ a.given
  given_at a zero = refl
  given_at a (suc k) = refl

  definitions_at : (a : Around) (left : ℕ) → (around_at a left).definitions ≡ a.definitions
  definitions_at a zero = refl
  definitions_at a (suc k) = refl

  can_call : (g : Given) (ps : List (List ℕ × Plain)) (left : ℕ) → left ≡ length (script.definitions_of g.tops).workflows → CanCall left (entry_around g ps)
  can_call g ps left same = record {
    outermost = around g ps;
    is = ap (around_at (around g ps)) (sym same);
    none = λ p n t cs s. refl;
  }

  module _ (tops : List Top) (x : Walker N) where
    abbrev HasScript : Type 0
    HasScript = (g : Given) → IsKnownScript titles_of x.around.now.known g → g.tops ≡ trees (map view_top x.definitions.now)

    same_definitions : HasScript → (g : Given) (ps : List (List ℕ × Plain)) → IsAround titles_of answer_of x.around.now (around g ps) → script.definitions_of g.tops ≡ defined_in x.definitions.now
    same_definitions has g ps h = ap script.definitions_of (has g h.script)

    pub knows : HasScript → x.left ≡ length (defined_in tops).workflows → (g : Given) (ps : List (List ℕ × Plain)) (r : Run) → IsRunOf tops x.found.now.entries g r
        → IsAround titles_of answer_of x.around.now (around g ps) → Knows titles_of answer_of x r (entry_around g ps)
    knows has count g ps r run h =
        let left = length (script.definitions_of g.tops).workflows in
        let a = around g ps in
        record {
          around = same_around x.around.now a left h;
          definitions = definitions_at a left ∙ same_definitions has g ps h;
          program = run.program ∙ ap (λ (f : Given). f.program) (sym (given_at a left));
          outcomes = run.outcomes ∙ ap (λ (f : Given). f.outcomes) (sym (given_at a left));
          found = λ path. run.files path ∙ ap (λ (f : Given). files_at path f.found) (sym (given_at a left));
          calls = can_call g ps x.left (count ∙ ap (λ t. length (script.definitions_of t).workflows) (sym run.tree));
        }

    pub walks : (keeps_of : N → Type 0) → HasScript → (z : Lowering) → keeps_of x.around.now.natives.now → StandsAround titles_of answer_of tops x.around.now → NamesArePlain (defined_in tops) → IsLowering z
        → CanWalk titles_of answer_of keeps_of x z
    walks keeps_of has z natives some plain keeps = record {
      natives = natives;
      somewhere = (around some.given some.set, some.is);
      plain = subst NamesArePlain (ap script.definitions_of (sym some.tree) ∙ same_definitions has some.given some.set some.is) plain;
      lowering = keeps;
    }
