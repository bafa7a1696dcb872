-- A closure as an argument.
use Rattle.std.proofs.Common.{◌≡◌, ◌∙◌, sym, ap, rules}
use Rattle.std.specs.Prelude.{None, option_map}
use Rattle.std.specs.Borrow.{Bor}
use Rattle.nf_value.specs.declared.place.Place.{Place}
use Rattle.nf_ast.specs.declared.expr.ClosureExpr.{ClosureExpr, the_lemmas}
use Rattle.nf_ast.specs.Tree as tree
use Rattle.nf_ast.specs.Tree.{Tree}
use Rattle.nf_ast.specs.View.{params_tree, view_body, view_closure}
use Rattle.nf_meaning.specs.Arguments.{is_closure}
use Rattle.nf_meaning.specs.Places.{begins_at}
use Rattle.nf_meaning.specs.Workflow.{part_of}
use Rattle.nf_arguments.specs.declared.written.Written.{Written}
use Rattle.nf_arguments.specs.declared.written.Written.TheVariants as written
use Rattle.nf_arguments.specs.Args.{written_arg}
use Rattle.nf_arguments.specs.Written.{IsTheClosure, closure_arg}

abbrev IsClosure : Tree → Place → Type 0
IsClosure t p = (ps : Tree) × (b : Tree) × (t ≡ tree.closure p ps b)

view_is : (c : ClosureExpr) → IsClosure (view_closure c) c.place
view_is c = (params_tree (option_map (λ v. v.items) c.params), view_body c.body, search (rules, the_lemmas))

-- an expression that is a closure
pub the_closure : (e : Tree) (c : ClosureExpr) → e ≡ view_closure c → IsTheClosure e c
the_closure e c is =
    let v = view_is c in
    record { is = is; closure = ap is_closure (is ∙ v.2); place = ap begins_at (is ∙ v.2) }

pub closure_label : (c : ClosureExpr) → (closure_arg c).label ≡ None
closure_label c = let v = view_is c in ap (λ t. (part_of t).argument.label) v.2

pub closure_tree : (c : ClosureExpr) → (closure_arg c).tree ≡ view_closure c
closure_tree c = let v = view_is c in ap (λ t. (part_of t).argument.tree) v.2 ∙ sym v.2

-- one that is written is this closure
module _ (w : Written) (c : Bor ClosureExpr) (is : w ≡ written.Closure c) where
  pub written_label : None ≡ (written_arg w).label
  written_label = sym (ap (λ v. (written_arg v).label) is ∙ closure_label c.now)

  tree_is : (written_arg w).tree ≡ view_closure c.now
  tree_is = ap (λ v. (written_arg v).tree) is ∙ closure_tree c.now

  pub written_place : c.now.place ≡ begins_at (written_arg w).tree
  written_place = sym (the_closure (written_arg w).tree c.now tree_is).place

  pub written_closure : IsTheClosure (written_arg w).tree c.now
  written_closure = the_closure (written_arg w).tree c.now tree_is
