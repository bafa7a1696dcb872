-- Conditional expressions.
use Rattle.std.proofs.Common.{◌≡◌, Bool, false, Result, Ok, Err, refl, sym, ap, ◌∙◌}
use Rattle.std.specs.Prelude.{None, if◌then◌else◌}
use Rattle.nf_value.specs.Truth.{truth_of}
use Rattle.nf_value.specs.View.{plain_of}
use Rattle.nf_value.specs.declared.value.Value.{Value}
use Rattle.nf_fronts.specs.Lasts.{maybe_tree}
use Rattle.nf_ast.specs.Tree.{Tree}
use Rattle.nf_meaning.specs.declared.fault.LowerFault.{LowerFault}
use Rattle.nf_meaning.specs.Expressions.{value_of}
use Rattle.nf_meaning.specs.Things as meaning
use Rattle.nf_meaning.specs.Walk.{Walk, then_by}
use Rattle.nf_meaning.specs.Workflow.{part_of}
use Rattle.nf_scopes.specs.declared.things.Thing.{Thing}
use Rattle.nf_lowering.specs.declared.state.Lowering.{Lowering}
use Rattle.nf_lowering.specs.State.{IsLowering}
use Rattle.nf_walked.specs.Forms.{a_thing, a_value}
use Rattle.nf_walked.specs.Parts.{no_arm, turn_of}
use Rattle.nf_walked.specs.Steps.{Known, Walked, due}
use Rattle.nf_walked.proofs.Bodies.{NoIn}
use Rattle.nf_walked.proofs.Leads.{begins, ends, fails, goes_further}
use Rattle.nf_walked.proofs.Stills.{refused_here}

module _ (K : Known) (c a b : Tree) (old new : Lowering) where
  abbrev arm : Bool → Walk meaning.Thing
  arm t = if t then (part_of a).thing else (part_of b).thing

  -- the arm that a condition chooses
  pub turned_by : (t : Bool) (v : Value) (r : Result Thing LowerFault) → IsLowering old → truth_of (plain_of v) ≡ t → Walked K (due a_value (value_of c)) old old (Ok v)
      → Walked K (due a_thing (arm t)) old new r → Walked K (due a_thing (turn_of c a b)) old new r
  turned_by t v r keeps is one two =
      ends K NoIn (λ y. turn_of c a b) NoIn (λ y. arm t) old old (due a_thing (arm t)) new r
      (goes_further K NoIn (λ y. turn_of c a b) NoIn (λ y. turn_of c a b) old old (due a_value (value_of c)) NoIn (λ y. arm t) old v (begins K NoIn (λ y. turn_of c a b) old keeps) one
      (λ p j stands it. record {
        first = tt;
        stands = tt;
        goes = λ y s there out came. (tt, tt, ap (then_by p.around (λ x. arm (truth_of x))) came ∙ ap (λ x. arm x p.around s) (ap truth_of (sym out) ∙ is));
      }))
      two (λ p j stands it. record { first = tt; stands = tt; same = refl })

  pub turn_fails : (e : LowerFault) → IsLowering old → Walked K (due a_value (value_of c)) old new (Err e) → Walked K (due a_thing (turn_of c a b)) old new (Err e)
  turn_fails e keeps one =
      fails K NoIn (λ y. turn_of c a b) NoIn (λ y. turn_of c a b) old old (due a_value (value_of c)) a_thing new e (begins K NoIn (λ y. turn_of c a b) old keeps) one
      (λ p j stands it. record { first = tt; stands = tt; rest = λ x. arm (truth_of x); same = refl })

-- where no arm stands
pub turned_none : (K : Known) (c a : Tree) (old : Lowering) (v : Value) → IsLowering old → truth_of (plain_of v) ≡ false → Walked K (due a_value (value_of c)) old old (Ok v)
    → Walked K (due a_thing (turn_of c a (maybe_tree None))) old old (Err no_arm)
turned_none K c a old v keeps is one =
    turned_by K c a (maybe_tree None) old old false v (Err no_arm) keeps is one
    (refused_here K (due a_thing (part_of (maybe_tree None)).thing) old no_arm keeps (λ p y stands is. refl))
