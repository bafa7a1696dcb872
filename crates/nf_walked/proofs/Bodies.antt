-- The statements of a body, one after the other.
use Rattle.std.proofs.Common.{◌≡◌, ◌<◌, ◌≤◌, ◌+◌, ℕ, Ok, Err, List, length, get_or, drop, ap, ◌∙◌}
use Rattle.std.proofs.lemmas.List.{drop_all}
use Rattle.nf_ast.specs.View.{view_stmt, view_stmts}
use Rattle.nf_ast.specs.declared.expr.Stmt.{Stmt}
use Rattle.nf_meaning.specs.declared.fault.LowerFault.{LowerFault}
use Rattle.nf_meaning.specs.Walk.{◌>>=◌, Walk, then_by}
use Rattle.nf_meaning.specs.Workflow.{part_of}
use Rattle.nf_lowering.specs.declared.state.Lowering.{Lowering}
use Rattle.nf_lowering.specs.State.{IsLowering}
use Rattle.nf_walked.specs.Forms.{nothing}
use Rattle.nf_walked.specs.Steps.{Known, Walked, due}
use Rattle.nf_walked.proofs.Leads.{Ins, Leads, begins, fails, goes_further, is_given}
use Rattle.nf_walked.proofs.Rows.{left}

-- what is left of a body, after so many of its statements
abbrev pub NoIn : Ins (Unit {0})
NoIn p z y = Unit {0}

abbrev pub rest_of : List Stmt → ℕ → Unit {0} → Walk (Unit {0})
rest_of xs i y = (part_of (view_stmts (drop i xs))).body

abbrev pub BodyLeads : Known → List Stmt → ℕ → Lowering → Lowering → Type 0
BodyLeads K xs i old now = Leads K NoIn (rest_of xs 0) NoIn (rest_of xs i) old now

module _ (K : Known) (xs : List Stmt) (old : Lowering) where
  pub body_begins : IsLowering old → BodyLeads K xs 0 old old
  body_begins keeps = begins K NoIn (rest_of xs 0) old keeps

  split : (i : ℕ) (x : Stmt) → i < length xs → x ≡ get_or xs i x → (y : Unit {0}) → rest_of xs i y ≡ ((part_of (view_stmt x)).done >>= λ v. rest_of xs (i + 1) tt)
  split i x h is y = ap (λ ys. (part_of (view_stmts ys)).body) (left xs i x h is)

  pub body_goes : (i : ℕ) (x : Stmt) (mid new : Lowering) (m : Unit {0}) → i < length xs → x ≡ get_or xs i x → BodyLeads K xs i old mid → Walked K (due nothing (part_of (view_stmt x)).done) mid new (Ok m)
      → BodyLeads K xs (i + 1) old new
  body_goes i x mid new m h is so_far step =
      goes_further K NoIn (rest_of xs 0) NoIn (rest_of xs i) old mid (due nothing (part_of (view_stmt x)).done) NoIn (rest_of xs (i + 1)) new m so_far step
      (λ p j stands it. record {
        first = tt;
        stands = tt;
        goes = λ y s there out came.
            (tt, tt, ap (λ w. w p.around p.state) (split i x h is j) ∙ ap (then_by p.around (λ v. rest_of xs (i + 1) tt)) came);
      })

  pub body_fails : (i : ℕ) (x : Stmt) (mid new : Lowering) (e : LowerFault) → i < length xs → x ≡ get_or xs i x → BodyLeads K xs i old mid → Walked K (due nothing (part_of (view_stmt x)).done) mid new (Err e)
      → Walked K (due nothing (part_of (view_stmts xs)).body) old new (Err e)
  body_fails i x mid new e h is so_far step =
      fails K NoIn (rest_of xs 0) NoIn (rest_of xs i) old mid (due nothing (part_of (view_stmt x)).done) nothing new e so_far step
      (λ p j stands it. record { first = tt; stands = tt; rest = λ v. rest_of xs (i + 1) tt; same = ap (λ w. w p.around p.state) (split i x h is j) })

  pub body_ends : (i : ℕ) (now : Lowering) → length xs ≤ i → BodyLeads K xs i old now → Walked K (due nothing (part_of (view_stmts xs)).body) old now (Ok tt)
  body_ends i now h so_far =
      is_given K NoIn (rest_of xs 0) NoIn (rest_of xs i) old now nothing tt tt so_far
      (λ p j stands it. (tt, tt, ap (λ ys. (part_of (view_stmts ys)).body p.around p.state) (drop_all i xs h)))
