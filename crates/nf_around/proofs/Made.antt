-- Closures in memory that keep the names that stand in them alone.
use Rattle.std.proofs.Common.{◌≡◌, ◌∙◌, ℕ, List, refl, sym, ap}
use Rattle.nf_value.specs.Plain.{Plain}
use Rattle.nf_value.specs.declared.place.Place.{Place}
use Rattle.nf_ast.specs.Tree as tree
use Rattle.nf_ast.specs.Tree.{Tree}
use Rattle.nf_ast.specs.View.{view_body, view_closure}
use Rattle.nf_ast.specs.declared.expr.ClosureExpr.{ClosureExpr}
use Rattle.nf_placed.specs.Scope.{Env}
use Rattle.nf_relevant.specs.Reads.{Reads, AreAlike}
use Rattle.nf_bodies.specs.Means.{GivesAs}
use Rattle.nf_eval.specs.Closing.{closing_of}
use Rattle.nf_eval.specs.Evaluation.{Closing, apply_of}
use Rattle.nf_eval.specs.Memory.{closing, in_a_process}
use Rattle.nf_eval.specs.declared.closures.Closure.{Closure}
use Rattle.nf_tasks.specs.Memory.{Program, formula_of}
use Rattle.nf_around.specs.Labels.{params_in}
use Rattle.nf_around.proofs.Layers.{closure_is}

-- a closure depends on the names that stand in it
abbrev pub ByItsNames : Type 0
ByItsNames = (among : List (List ℕ)) (c : Closing) (other : Env) (vs : List Plain) → Reads among c.body → AreAlike among c.env other → apply_of c vs ≡ apply_of (record c { env = other }) vs

pub gives_as : ByItsNames → (n : Program) (stored : Closure) (code copy : ClosureExpr) (among : List (List ℕ)) (one other : Env)
    → closing_of stored n.titles n.answer ≡ closing (view_closure copy) one → view_closure copy ≡ view_closure code → Reads among (view_body code.body) → AreAlike among one other
    → GivesAs n stored (closing (view_closure code) other)
unfolding formula_of
gives_as law n stored code copy among one other made same reads alike = λ vs.
    ap (λ c. apply_of c vs) (made ∙ ap (λ t. closing t one) (same ∙ closure_is code))
    ∙ law among (record { place = code.place; params = params_in code.params; body = view_body code.body; env = one }) other vs reads alike
    ∙ sym (ap (λ t. apply_of (closing t other) vs) (closure_is code))

pub alike_in_process : (among : List (List ℕ)) (one other : Env) → AreAlike among one other → AreAlike among (in_a_process one) (in_a_process other)
alike_in_process among one other h = record {
  names = h.names;
  captured = h.captured;
  functions = h.functions;
  patterns = h.patterns;
  titles = h.titles;
  answer = h.answer;
  in_process = refl;
}
