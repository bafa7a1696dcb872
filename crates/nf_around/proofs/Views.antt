-- The environment of a view, name by name.
use Rattle.std.proofs.Common.{◌≡◌, ℕ, Bool, true, false, List, [], ◌∷◌, ◌++◌, map, Option, Some, None, refl, sym, ◌∙◌, ap, subst}
use Rattle.std.proofs.lemmas.Bool.{false≢true}
use Rattle.nf_value.specs.Plain.{Plain}
use Rattle.nf_builtins.specs.Natives.{is_among}
use Rattle.nf_placed.specs.Scope.{Env, value_in, names_in_scope}
use Rattle.nf_ast.specs.Tree as tree
use Rattle.nf_ast.specs.Tree.{Tree}
use Rattle.nf_eval.specs.Evaluation.{Closing, apply_of}
use Rattle.nf_eval.specs.Memory.{env_of, env_over, IsOver, IsChangedBy, with_name, closing}
use Rattle.nf_eval.specs.declared.environment.Env.{Env as Stored}
use Rattle.nf_eval.specs.declared.library.Library.{Library}
use Rattle.nf_meaning.specs.Closures.{env_for}
use Rattle.nf_meaning.specs.Names.{Reading, before_run, in_run, unread}
use Rattle.nf_meaning.specs.Walk as walk
use Rattle.nf_tasks.specs.Memory.{Program}
use Rattle.nf_around.specs.declared.everywhere.Everywhere.{Everywhere}
use Rattle.nf_around.specs.Around.{IsEverywhere}
use Rattle.nf_around.specs.Kept.{KeepsNames}
use Rattle.nf_around.proofs.Captured.{one_more, no_more}

module _ (x : Everywhere) (n : Program) (a : walk.Around) (s : walk.Scope) where
  over : (r : Reading) → IsEverywhere x n a → KeepsNames [] (env_over x.library.value n.titles n.answer) (env_for r a s)
  over before_run h = record { keeps = tt; has = λ m p. absurd (false≢true p); names = refl; functions = sym h.functions; patterns = sym h.patterns; titles = ap (λ p. p.titles) (sym h.program); answer = ap (λ p. p.answer) (sym h.program); in_process = refl }
  over in_run h = record { keeps = tt; has = λ m p. absurd (false≢true p); names = refl; functions = sym h.functions; patterns = sym h.patterns; titles = ap (λ p. p.titles) (sym h.program); answer = ap (λ p. p.answer) (sym h.program); in_process = refl }
  over unread h = record { keeps = tt; has = λ m p. absurd (false≢true p); names = refl; functions = sym h.functions; patterns = sym h.patterns; titles = ap (λ p. p.titles) (sym h.program); answer = ap (λ p. p.answer) (sym h.program); in_process = refl }

  -- no name yet
  pub none_kept : (r : Reading) (e : Stored) → IsEverywhere x n a → IsOver x.library.value e → KeepsNames [] (env_of e n.titles n.answer) (env_for r a s)
  none_kept r e h is = subst (λ z. KeepsNames [] z (env_for r a s)) (sym (is n.titles n.answer)) (over r h)

-- a name that is bound now
pub bound_now : (titles : List (List ℕ)) (answer : ℕ → List Plain → Option Plain) (all : Env) (ns : List (List ℕ)) (m : List ℕ) (v : Plain) (old new : Stored)
    → value_in m all.captured ≡ v → IsChangedBy (with_name m v) old new → KeepsNames ns (env_of old titles answer) all → KeepsNames (ns ++ m ∷ []) (env_of new titles answer) all
bound_now titles answer all ns m v old new is changed h =
    subst (λ z. KeepsNames (ns ++ m ∷ []) z all) (sym (changed titles answer)) (one_more ns m v (env_of old titles answer) all is h)

-- a name that was bound before
pub bound_before : (titles : List (List ℕ)) (answer : ℕ → List Plain → Option Plain) (all : Env) (ns : List (List ℕ)) (m : List ℕ) (e : Stored)
    → is_among m (names_in_scope (env_of e titles answer)) ≡ true → KeepsNames ns (env_of e titles answer) all → KeepsNames (ns ++ m ∷ []) (env_of e titles answer) all
bound_before titles answer all ns m e p h = no_more ns m (env_of e titles answer) all p h
