-- What a closure in memory means.
use Rattle.std.specs.Prelude.{ℕ, List, Option}
use Rattle.nf_value.specs.Plain.{Plain}
use Rattle.nf_ast.specs.View.{view_closure}
use Rattle.nf_eval.specs.declared.closures.Closure.{Closure}
use Rattle.nf_eval.specs.Evaluation.{Closing}
use Rattle.nf_eval.specs.Memory.{env_of, closing}

abbrev pub closing_of : Closure → List (List ℕ) → (ℕ → List Plain → Option Plain) → Closing
closing_of c titles answer = closing (view_closure c.code) (env_of c.env titles answer)
