-- What holds of every tree that a rule of the grammar makes of fit tokens.
use Rattle.std.specs.Prelude.{List}
use Rattle.nf_token.specs.declared.token.Lexeme.{Lexeme}
use Rattle.nf_ast.specs.Tree.{Tree}
use Rattle.nf_exprs.specs.Level as level
use Rattle.nf_exprs.specs.Level.{Level}
use Rattle.fmt_tokens.specs.Fits.{Fits}
use Rattle.fmt_trees.specs.Shape.{Sort, Shaped}
use Rattle.fmt_trees.specs.Shape as sort
use Rattle.fmt_spellable.specs.Fit.{AreFit}

-- the tree has this shape, and some text can spell its names, numbers and strings
pub record Made (s : Sort) (x : Tree) : Type 0 where
  pub shaped : Shaped s x
  pub fits : Fits x

-- the sort of tree that each rule makes
abbrev pub sort_of : Level → Sort
sort_of (level.Args d) = sort.row sort.arg
sort_of (level.Arg d) = sort.arg
sort_of (level.Pair d) = sort.pair
sort_of (level.Closure d p) = sort.closure
sort_of (level.Body d) = sort.row sort.statement
sort_of (level.Stmt d) = sort.statement
sort_of (level.Choice d n) = sort.choice
sort_of level.Script = sort.row sort.top
sort_of level.Top = sort.top
sort_of level.Process = sort.top
sort_of level.Directive = sort.directive
sort_of level.Input = sort.input
sort_of level.Inputs = sort.section (sort.row sort.inputs)
sort_of level.Output = sort.output
sort_of level.Outputs = sort.section (sort.row sort.output)
sort_of level.Task = sort.task
sort_of level.Workflow = sort.top
sort_of level.Parts = sort.inside
sort_of level.Function = sort.top
sort_of _ = sort.expr

-- the tree is so made, and the tokens after it are fit
abbrev pub Makes : Sort → Tree → List Lexeme → Type 0
Makes s v r = Made s v × AreFit r
