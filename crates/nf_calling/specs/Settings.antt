-- What the meaning of a script rests on, where lowering begins.
use Rattle.std.specs.Prelude.{◌≡◌, ℕ, List, map, Option}
use Rattle.nf_value.specs.Plain.{Plain}
use Rattle.nf_ast.specs.Tops.{view_top}
use Rattle.nf_ast.specs.View.{trees}
use Rattle.nf_eval.specs.Memory.{patterns_of}
use Rattle.nf_eval.specs.declared.library.Library.{Library}
use Rattle.nf_known.specs.Patterns.{HasPatterns}
use Rattle.nf_meaning.specs.Given.{Given}
use Rattle.nf_tasks.specs.Memory.{program}
use Rattle.nf_calling.specs.declared.setting.Setting.{Setting}

-- The setting and the library are those of a meaning, whatever files were found and whatever comes of its tasks. `titles_of` and
-- `answer_of` say what the program's functions are
pub record IsSettingOf {N : Type 0} (titles_of : N → List (List ℕ)) (answer_of : N → ℕ → List Plain → Option Plain)
    (x : Setting N) (library : Library) (g : Given) : Type 0 where
  pub tops : g.tops ≡ trees (map view_top x.tops.now)
  pub params : x.params.now ≡ g.params
  pub folder : g.folder ≡ x.folder.now
  pub program : g.program ≡ program (titles_of x.natives.now) (answer_of x.natives.now)
  pub texts : HasPatterns x.texts.now g
  pub patterns : g.patterns ≡ patterns_of library
