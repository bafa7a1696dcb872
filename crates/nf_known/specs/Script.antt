-- What the names of a script stand for at its top.
use Rattle.std.specs.Prelude.{◌≡◌, ℕ, List, map}
use Rattle.nf_ast.specs.declared.tops.Top.{Top}
use Rattle.nf_ast.specs.Tops.{view_top}
use Rattle.nf_ast.specs.View.{trees}
use Rattle.nf_meaning.specs.Given.{Given}
use Rattle.nf_known.specs.declared.patterns.PatternTexts.{PatternTexts}
use Rattle.nf_known.specs.declared.uses.TopNames.{TopNames}
use Rattle.nf_known.specs.Patterns.{HasPatterns}

-- a script, the names of the program's functions, and the patterns
pub record IsScript (script : List Top) (program : List (List ℕ)) (texts : PatternTexts) (g : Given) : Type 0 where
  pub tops : g.tops ≡ trees (map view_top script)
  pub titles : g.program.titles ≡ program
  pub patterns : HasPatterns texts g

-- the last two
pub record HasProgram {N : Type 0} (titles_of : N → List (List ℕ)) (x : TopNames N) (g : Given) : Type 0 where
  pub titles : g.program.titles ≡ titles_of x.natives.now
  pub patterns : HasPatterns x.patterns.now g
