-- From a script with what stands outside of it to what stands around its bodies.
use Rattle.std.proofs.Common.{◌≡◌, ◌∙◌, ℕ, List, map, Option, Result, sym, ap, subst}
use Rattle.std.specs.Prelude.{codes}
use Rattle.nf_value.specs.Plain.{Plain, plain_pairs_of, table, text}
use Rattle.nf_value.specs.View.{plain_of}
use Rattle.nf_value.specs.declared.value.Value.{Value}
use Rattle.nf_ast.specs.Tops.{view_top}
use Rattle.nf_ast.specs.View.{trees}
use Rattle.nf_callees.specs.Found.{defined_in}
use Rattle.nf_eval.specs.Memory.{definitions_of}
use Rattle.nf_eval.specs.declared.library.Library.{Library}
use Rattle.nf_known.specs.Known.{IsKnownScript}
use Rattle.nf_known.specs.Script.{IsScript}
use Rattle.nf_known.specs.declared.names.KnownScript.{KnownScript}
use Rattle.nf_lowered.specs.Given.{Gives}
use Rattle.nf_meaning.specs.declared.fault.LowerFault.{LowerFault}
use Rattle.nf_meaning.specs.Functions.{in_order}
use Rattle.nf_meaning.specs.Given.{Given}
use Rattle.nf_meaning.specs.Script as script
use Rattle.nf_meaning.specs.Script.{around, begun, tops_read}
use Rattle.nf_tasks.specs.Memory.{Program}
use Rattle.nf_around.specs.Around.{HasFolders, HasGiven, IsAround}
use Rattle.nf_around.specs.declared.surroundings.Surroundings.{Surroundings}
use Rattle.nf_calling.specs.declared.setting.Setting.{Setting}
use Rattle.nf_calling.specs.Settings.{IsSettingOf}

module _ {N : Type 0} (titles_of : N → List (List ℕ)) (answer_of : N → ℕ → List Plain → Option Plain) (x : Setting N) (l : Library) (g : Given) (h : IsSettingOf titles_of answer_of x l g) where
  is_script : IsScript x.tops.now (titles_of x.natives.now) x.texts.now g
  is_script = record { tops = h.tops; titles = ap (λ (p : Program). p.titles) h.program; patterns = h.texts }

  pub has_given : (k : KnownScript N) → ((f : Given) → IsScript x.tops.now (titles_of x.natives.now) x.texts.now f → IsKnownScript titles_of k f)
      → definitions_of l ≡ in_order (defined_in x.tops.now).functions → HasGiven titles_of answer_of k x.natives.now l g
  has_given k known functions = record {
    script = known g is_script;
    program = h.program;
    patterns = h.patterns;
    functions = functions ∙ ap (λ t. in_order (script.definitions_of t).functions) (sym h.tops);
  }

  pub has_folders : (params folder launch : Value) → plain_of params ≡ table (plain_pairs_of x.params.now) → plain_of folder ≡ text x.folder.now → plain_of launch ≡ text (codes ".")
      → HasFolders params folder launch g g.params
  has_folders params folder launch set own run = record {
    set = set ∙ ap (λ ps. table (plain_pairs_of ps)) h.params;
    script = own ∙ ap text (sym h.folder);
    run = run;
  }

  -- what is read at the top, from the tree that the meaning has
  pub reads_tops : (before : Surroundings N) (r : Result (Surroundings N) LowerFault)
      → ((f : Given) → x.params.now ≡ f.params → IsAround titles_of answer_of before (around f f.params)
      → Gives (λ (s : Surroundings N) q. IsAround titles_of answer_of s (around f q.params)) (tops_read f (trees (map view_top x.tops.now)) (begun f)) r)
      → IsAround titles_of answer_of before (around g g.params) → Gives (λ (s : Surroundings N) q. IsAround titles_of answer_of s (around g q.params)) (tops_read g g.tops (begun g)) r
  reads_tops before r reads stands =
      subst (λ t. Gives (λ (s : Surroundings N) q. IsAround titles_of answer_of s (around g q.params)) (tops_read g t (begun g)) r) (sym h.tops) (reads g h.params stands)
