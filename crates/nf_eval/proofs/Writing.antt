-- The text of a template, part by part.
use Rattle.std.proofs.Common.{◌≡◌, ◌∙◌, ℕ, List, ◌∷◌, ◌++◌, Ok, Err, refl, sym, ap, append_assoc}
use Rattle.nf_ast.specs.Tree.{Tree}
use Rattle.nf_ast.specs.View.{trees}
use Rattle.nf_placed.specs.Placed.{Placed, ◌>>=◌}
use Rattle.nf_placed.specs.Scope.{Env}
use Rattle.nf_eval.specs.Evaluation.{meaning_of}

written_after : (r : Placed (List ℕ)) (t s : List ℕ) → ((r >>= λ u. Ok (s ++ u)) >>= λ u. Ok (t ++ u)) ≡ (r >>= λ u. Ok ((t ++ s) ++ u))
written_after (Ok u) t s = ap (λ (l : List ℕ). Ok l) (sym (append_assoc t s u))
written_after (Err e) t s = refl

-- a part that has this text, after those that were written before it
pub writes_on : (x : Tree) (xs : List Tree) (env : Env) (t s : List ℕ) (all : Placed (List ℕ)) → (meaning_of x).written env ≡ Ok s → ((meaning_of (trees (x ∷ xs))).text env >>= λ u. Ok (t ++ u)) ≡ all → ((meaning_of (trees xs)).text env >>= λ u. Ok ((t ++ s) ++ u)) ≡ all
writes_on x xs env t s all h is = sym (ap (λ (r : Placed (List ℕ)). (r >>= λ w. (meaning_of (trees xs)).text env >>= λ u. Ok (w ++ u)) >>= λ u. Ok (t ++ u)) h ∙ written_after ((meaning_of (trees xs)).text env) t s) ∙ is
