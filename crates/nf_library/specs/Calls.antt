-- The functions that statements call.
use Rattle.std.specs.Prelude.{ℕ, Bool, not, ◌||◌, List, [], ◌∷◌, ◌++◌, String}
use Rattle.std.specs.Global.{Global}
use Rattle.std.specs.List.{list_all}
use Rattle.nf_ast.specs.declared.expr.Stmt.{Stmt}
use Rattle.nf_ast.specs.View.{view_stmts}
use Rattle.nf_eval.specs.Evaluation.{Definition}
use Rattle.nf_known.specs.Patterns.{has_text}
use Rattle.nf_names_used.specs.declared.uses.Use.{Use}
use Rattle.nf_names_used.specs.declared.uses.UseKind.{UseKind}
use Rattle.nf_names_used.specs.declared.uses.UseKind.TheVariants as kind
use Rattle.nf_names_used.specs.Uses.{no_names, uses}

abbrev pub kind_calls : UseKind → List ℕ → List (List ℕ)
kind_calls kind.Function n = n ∷ []
kind_calls kind.Name n = []
kind_calls kind.Assigned n = []
kind_calls kind.Again n = []
kind_calls kind.Pattern n = []

abbrev pub use_calls : Use → List (List ℕ)
use_calls u = kind_calls u.kind u.text

-- the names that uses call, in the order of the text
abbrev pub uses_call : List Use → List (List ℕ)
uses_call [] = []
uses_call (u ∷ us) = use_calls u ++ uses_call us

abbrev pub calls_in : List Stmt → List (List ℕ)
calls_in ss = uses_call (uses (view_stmts ss) no_names)

-- whether a name is none of a function, or of one that is placed: `all` and `done` are the keys of sets
abbrev pub is_placed : List (String Global) → List (String Global) → List ℕ → Bool
is_placed all done n = not (has_text n all) || has_text n done

-- whether a function calls none but those that are placed
abbrev pub is_ready : List (String Global) → List (String Global) → Definition → Bool
is_ready all done d = list_all (is_placed all done) (uses_call (uses d.body no_names))
