-- The arms of an `if`, one after the other.
use Rattle.std.proofs.Common.{◌≡◌, ◌<◌, ◌≤◌, ◌+◌, ℕ, Bool, true, false, Result, Ok, Err, Option, Some, None, List, ◌∷◌, map, length, get_or, drop, refl, sym, ap, ◌∙◌}
use Rattle.std.specs.Prelude.{if◌then◌else◌, option_map}
use Rattle.std.specs.Global.{Vec}
use Rattle.std.proofs.lemmas.List.{drop_all}
use Rattle.nf_value.specs.Truth.{truth_of}
use Rattle.nf_value.specs.View.{plain_of}
use Rattle.nf_value.specs.declared.value.Value.{Value}
use Rattle.nf_ast.specs.View.{ArmTree, choice, last_arm, view, view_arm, view_stmt, view_stmts}
use Rattle.nf_ast.specs.declared.expr.Arm.{Arm}
use Rattle.nf_ast.specs.declared.expr.Stmt.{Stmt}
use Rattle.nf_meaning.specs.declared.fault.LowerFault.{LowerFault}
use Rattle.nf_meaning.specs.Expressions.{value_of}
use Rattle.nf_meaning.specs.Walk.{◌>>=◌, Walk, in_braces, then_by}
use Rattle.nf_meaning.specs.Workflow.{chosen, part_of}
use Rattle.nf_lowering.specs.declared.state.Lowering.{Lowering}
use Rattle.nf_lowering.specs.State.{IsLowering}
use Rattle.nf_walked.specs.Forms.{a_value, nothing}
use Rattle.nf_walked.specs.Parts.{choice_of}
use Rattle.nf_walked.specs.Steps.{Known, Walked, due}
use Rattle.nf_walked.proofs.Bodies.{NoIn}
use Rattle.nf_walked.proofs.Leads.{Leads, begins, ends, fails, goes_further, is_given}
use Rattle.nf_walked.proofs.Rows.{left}

abbrev pub arms_from : List Arm → Option (Vec Stmt) → ℕ → Unit {0} → Walk (Unit {0})
arms_from xs last i y = (part_of (choice_of (drop i xs) last)).done

abbrev pub ChoiceLeads : Known → List Arm → Option (Vec Stmt) → ℕ → Lowering → Lowering → Type 0
ChoiceLeads K xs last i old now = Leads K NoIn (arms_from xs last 0) NoIn (arms_from xs last i) old now

-- an arm as it lies in memory
abbrev pub arm_of : Arm → ArmTree
arm_of x = record { place = x.place; condition = view x.condition; body = view_stmts x.body.items }

abbrev pub block_walk : List Stmt → Walk (Unit {0})
block_walk ss = in_braces (part_of (view_stmts ss)).body

module _ (K : Known) (xs : List Arm) (last : Option (Vec Stmt)) (old : Lowering) where
  pub choice_begins : IsLowering old → ChoiceLeads K xs last 0 old old
  choice_begins keeps = begins K NoIn (arms_from xs last 0) old keeps

  split : (i : ℕ) (x : Arm) → i < length xs → x ≡ get_or xs i x → view_arm x ≡ arm_of x → (y : Unit {0})
      → arms_from xs last i y ≡ (value_of (view x.condition) >>= chosen (block_walk x.body.items) (arms_from xs last (i + 1) tt))
  split i x h is seen y =
      ap (λ ys. (part_of (choice_of ys last)).done) (left xs i x h is)
      ∙ ap (λ (a : ArmTree). (part_of (choice (a ∷ map view_arm (drop (i + 1) xs)) (last_arm (option_map (λ v. map view_stmt v.items) last)))).done) seen

  pub choice_goes : (i : ℕ) (x : Arm) (mid : Lowering) (v : Value) → i < length xs → x ≡ get_or xs i x → view_arm x ≡ arm_of x → truth_of (plain_of v) ≡ false
      → ChoiceLeads K xs last i old mid → Walked K (due a_value (value_of (view x.condition))) mid mid (Ok v) → ChoiceLeads K xs last (i + 1) old mid
  choice_goes i x mid v h is seen is_not so_far step =
      goes_further K NoIn (arms_from xs last 0) NoIn (arms_from xs last i) old mid (due a_value (value_of (view x.condition))) NoIn (arms_from xs last (i + 1)) mid v so_far step
      (λ p j stands it. record {
        first = tt;
        stands = tt;
        goes = λ y s there out came. (
          tt,
          tt,
          ap (λ w. w p.around p.state) (split i x h is seen j)
              ∙ ap (then_by p.around (chosen (block_walk x.body.items) (arms_from xs last (i + 1) tt))) came
              ∙ ap (λ (b : Bool). (if b then block_walk x.body.items else arms_from xs last (i + 1) tt) p.around s) (ap truth_of (sym out) ∙ is_not),
        );
      })

  pub choice_fails : (i : ℕ) (x : Arm) (mid : Lowering) (e : LowerFault) → i < length xs → x ≡ get_or xs i x → view_arm x ≡ arm_of x
      → ChoiceLeads K xs last i old mid → Walked K (due a_value (value_of (view x.condition))) mid mid (Err e) → Walked K (due nothing (part_of (choice_of xs last)).done) old mid (Err e)
  choice_fails i x mid e h is seen so_far step =
      fails K NoIn (arms_from xs last 0) NoIn (arms_from xs last i) old mid (due a_value (value_of (view x.condition))) nothing mid e so_far step
      (λ p j stands it. record {
        first = tt;
        stands = tt;
        rest = chosen (block_walk x.body.items) (arms_from xs last (i + 1) tt);
        same = ap (λ w. w p.around p.state) (split i x h is seen j);
      })

  -- the arm that counts
  pub choice_takes : (i : ℕ) (x : Arm) (mid new : Lowering) (v : Value) (r : Result (Unit {0}) LowerFault) → i < length xs → x ≡ get_or xs i x → view_arm x ≡ arm_of x
      → truth_of (plain_of v) ≡ true → ChoiceLeads K xs last i old mid → Walked K (due a_value (value_of (view x.condition))) mid mid (Ok v)
      → Walked K (due nothing (block_walk x.body.items)) mid new r → Walked K (due nothing (part_of (choice_of xs last)).done) old new r
  choice_takes i x mid new v r h is seen is_so so_far step body =
      ends K NoIn (arms_from xs last 0) NoIn (λ y. block_walk x.body.items) old mid (due nothing (block_walk x.body.items)) new r
      (goes_further K NoIn (arms_from xs last 0) NoIn (arms_from xs last i) old mid (due a_value (value_of (view x.condition))) NoIn (λ y. block_walk x.body.items) mid v so_far step
      (λ p j stands it. record {
        first = tt;
        stands = tt;
        goes = λ y s there out came. (
          tt,
          tt,
          ap (λ w. w p.around p.state) (split i x h is seen j)
              ∙ ap (then_by p.around (chosen (block_walk x.body.items) (arms_from xs last (i + 1) tt))) came
              ∙ ap (λ (b : Bool). (if b then block_walk x.body.items else arms_from xs last (i + 1) tt) p.around s) (ap truth_of (sym out) ∙ is_so),
        );
      }))
      body (λ p j stands it. record { first = tt; stands = tt; same = refl })

  at_end : (i : ℕ) → length xs ≤ i → (y : Unit {0}) → arms_from xs last i y ≡ (part_of (last_arm (option_map (λ v. map view_stmt v.items) last))).done
  at_end i h y = ap (λ ys. (part_of (choice_of ys last)).done) (drop_all i xs h)

  pub choice_else : (i : ℕ) (ss : Vec Stmt) (mid new : Lowering) (r : Result (Unit {0}) LowerFault) → length xs ≤ i → last ≡ Some ss → ChoiceLeads K xs last i old mid
      → Walked K (due nothing (block_walk ss.items)) mid new r → Walked K (due nothing (part_of (choice_of xs last)).done) old new r
  choice_else i ss mid new r h some so_far body =
      ends K NoIn (arms_from xs last 0) NoIn (arms_from xs last i) old mid (due nothing (block_walk ss.items)) new r so_far body
      (λ p j stands it. record {
        first = tt;
        stands = tt;
        same = ap (λ w. w p.around p.state) (at_end i h j ∙ ap (λ (o : Option (Vec Stmt)). (part_of (last_arm (option_map (λ v. map view_stmt v.items) o))).done) some);
      })

  pub choice_ends : (i : ℕ) (mid : Lowering) → length xs ≤ i → last ≡ None → ChoiceLeads K xs last i old mid → Walked K (due nothing (part_of (choice_of xs last)).done) old mid (Ok tt)
  choice_ends i mid h none so_far =
      is_given K NoIn (arms_from xs last 0) NoIn (arms_from xs last i) old mid nothing tt tt so_far
      (λ p j stands it. (
        tt,
        tt,
        ap (λ w. w p.around p.state) (at_end i h j ∙ ap (λ (o : Option (Vec Stmt)). (part_of (last_arm (option_map (λ v. map view_stmt v.items) o))).done) none),
      ))
