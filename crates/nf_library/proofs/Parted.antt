-- Parts that stand alone where a row of them may stand.
use Rattle.std.proofs.Common.{◌≡◌, ℕ, true, List, [], ◌∷◌, Option, Some, None, refl, sym, ap, subst}
use Rattle.std.proofs.lemmas.Bool.{false≢true}
use Rattle.nf_value.specs.declared.place.Place.{Place}
use Rattle.nf_ast.specs.declared.tops.OutputPart.{OutputPart}
use Rattle.nf_ast.specs.declared.tops.OutputPart.TheVariants as output_part
use Rattle.nf_ast.specs.Tops.{view_output_part}
use Rattle.nf_ast.specs.Tree as tree
use Rattle.nf_ast.specs.Tree.{Tree}
use Rattle.nf_ast.specs.View.{trees, with_name}
use Rattle.nf_fronts.specs.Lasts.{IsLast, is_other}
use Rattle.nf_fronts.specs.declared.last.Last.{Last}
use Rattle.nf_fronts.specs.declared.last.Last.TheVariants as last
use Rattle.nf_meaning.specs.Script.{statements_in}
use Rattle.nf_library.specs.Patterns.{part_patterns, patterns_in, value_patterns, workflow_patterns}

pub workflow_alone : (ts : List Tree) → workflow_patterns (trees ts) ≡ patterns_in (trees ts)
workflow_alone [] = refl
workflow_alone (t ∷ ts) = refl

pub value_alone : (x : OutputPart) → value_patterns (view_output_part x) ≡ part_patterns (view_output_part x)
value_alone (output_part.Val p e) = refl
value_alone (output_part.Path p e) = refl
value_alone (output_part.Stdout p) = refl

pub arg_alone : (n : Option (Place × List ℕ)) (e : Tree) → patterns_in (with_name n e) ≡ patterns_in e
arg_alone None e = refl
arg_alone (Some n) e = refl

-- an expression is no section
other_alone : (t : Tree) → is_other t ≡ true → statements_in t ≡ t
other_alone (tree.section p xs) h = absurd (false≢true h)
other_alone _ h = refl

last_alone : (t : Tree) (x : Last) → IsLast t x → statements_in t ≡ t
last_alone t (last.Name p n) is = subst (λ u. statements_in u ≡ u) (sym is) refl
last_alone t (last.List p xs) is = subst (λ u. statements_in u ≡ u) (sym is) refl
last_alone t (last.Property f p n) is = subst (λ u. statements_in u ≡ u) (sym is) refl
last_alone t (last.Index f p i) is = subst (λ u. statements_in u ≡ u) (sym is) refl
last_alone t (last.Call f p xs) is = subst (λ u. statements_in u ≡ u) (sym is) refl
last_alone t (last.With f c) is = subst (λ u. statements_in u ≡ u) (sym is) refl
last_alone t (last.Pipe f p e) is = subst (λ u. statements_in u ≡ u) (sym is) refl
last_alone t (last.Conditional p c a b) is = subst (λ u. statements_in u ≡ u) (sym is) refl
last_alone t last.Other is = other_alone t is

pub text_alone : (t : Tree) (x : Last) → IsLast t x → patterns_in (statements_in t) ≡ patterns_in t
text_alone t x is = ap patterns_in (last_alone t x is)
