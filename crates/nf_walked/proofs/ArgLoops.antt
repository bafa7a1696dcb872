-- Loops over the arguments of a call.
use Rattle.std.proofs.Common.{◌≡◌, ◌∙◌, List, [], ◌∷◌, Ok, Err, refl, sym, ap, subst}
use Rattle.std.specs.Prelude.{Option, None}
use Rattle.nf_graph.specs.Meaning.{Bags}
use Rattle.nf_meaning.specs.declared.fault.LowerFault.{LowerFault}
use Rattle.nf_meaning.specs.Arguments as meaning
use Rattle.nf_meaning.specs.Walk.{Around, State, Walk, then_by}
use Rattle.nf_plan.specs.Runs.{bags_of}
use Rattle.nf_lowering.specs.declared.state.Lowering.{Lowering}
use Rattle.nf_lowering.specs.State.{IsLowering}
use Rattle.nf_arguments.specs.declared.args.Args.{Args}
use Rattle.nf_arguments.specs.declared.args.Before.{Before}
use Rattle.nf_arguments.specs.declared.one.One.{One}
use Rattle.nf_arguments.specs.Args.{AreArgs, AreBefore, HasFirst}
use Rattle.nf_walked.specs.Arguing.{of_step}
use Rattle.nf_walked.specs.Steps.{Form, Known, Point, StandsAt, Walked}
use Rattle.nf_walked.proofs.Goings.{goes_same, later_same}
use Rattle.nf_walked.proofs.Leads.{Ins, Leads, fails, goes_further, is_given}

-- arguments that are all written are the same in any bags
pub moved : (one two : Bags) (x : Args) (ys : List meaning.Arg) → x.before ≡ None → AreArgs one x ys → AreArgs two x ys
moved one two x ys none h =
    let P : Option Before → Type 0 = λ o. AreBefore one o h.before in
    let Q : Option Before → Type 0 = λ o. AreBefore two o h.before in
    record { before = h.before; flows = subst Q (sym none) (subst P none h.flows); all = h.all }

-- `all` goes through arguments in a row, and makes something of what was made before each
module _ {S B : Type 0} (K : Known) (f : Form S B) (all : List meaning.Arg → B → Walk B) where
  -- what was made so far, and the arguments that are left
  abbrev pub SoFar : S → Args → Ins (B × List meaning.Arg)
  SoFar made x p z j = f.Stands p.run z.plan made j.0 × AreArgs (bags_of p.run z.plan) x j.1

  abbrev pub rest : B × List meaning.Arg → Walk B
  rest j = all j.1 j.0

  -- the whole loop, from what is made of no arguments
  pub loop_begins : (x : Args) (z : Lowering) (made : S) (b : B) → IsLowering z → ((p : Point) → StandsAt K p z → f.Stands p.run z.plan made b)
      → Leads K (λ p y ys. AreArgs (bags_of p.run y.plan) x ys) (λ ys. all ys b) (SoFar made x) rest z z
  loop_begins x z made b keeps stands = record {
    later = later_same z.plan;
    goes = goes_same z keeps;
    left = λ p ys runs here is. record { state = p.state; stands = here; item = (b, ys); is = (stands p here, is); same = refl };
  }

  module _ {L : Type 0} (In : Ins L) (w : L → Walk B) (old mid : Lowering) (x : One) (args left : Args) (made : S) (one : meaning.Arg → B → Walk B) (first : HasFirst x args left)
      (steps : (bags : Bags) (y : meaning.Arg) (ys : List meaning.Arg) → AreArgs bags left ys → (b : B) (a : Around) (s : State) → all (y ∷ ys) b a s ≡ then_by a (all ys) (one y b a s))
      (so_far : Leads K In w (SoFar made args) rest old mid) where
    -- one argument more
    pub loop_goes : (new : Lowering) (more : S) → Walked K (of_step x made f one) mid new (Ok more) → Leads K In w (SoFar more left) rest old new
    loop_goes new more step =
        goes_further K In w (SoFar made args) rest old mid (of_step x made f one) (SoFar more left) rest new more so_far step
        (λ p j stands is.
        (let bags = bags_of p.run mid.plan in
        let it = first.splits bags j.1 is.1 in
        record {
          first = (j.0, it.0);
          stands = (is.0, it.3);
          goes = λ b s there out came. (
            (b, it.1),
            (out, moved bags (bags_of p.run new.plan) left it.1 first.left it.4),
            ap (λ ys. all ys j.0 p.around p.state) it.2 ∙ steps bags it.0 it.1 it.4 j.0 p.around p.state ∙ ap (then_by p.around (all it.1)) came,
          );
        }))

    -- a fault of one
    pub loop_fails : (new : Lowering) (e : LowerFault) → Walked K (of_step x made f one) mid new (Err e) → Walked K (record { In = In; walk = w; form = f }) old new (Err e)
    loop_fails new e step =
        fails K In w (SoFar made args) rest old mid (of_step x made f one) f new e so_far step
        (λ p j stands is.
        (let bags = bags_of p.run mid.plan in
        let it = first.splits bags j.1 is.1 in
        record {
          first = (j.0, it.0);
          stands = (is.0, it.3);
          rest = all it.1;
          same = ap (λ ys. all ys j.0 p.around p.state) it.2 ∙ steps bags it.0 it.1 it.4 j.0 p.around p.state;
        }))

  -- no argument is left
  pub loop_ends : {L : Type 0} (In : Ins L) (w : L → Walk B) (old mid : Lowering) (args : Args) (made : S) → ((bags : Bags) (ys : List meaning.Arg) → AreArgs bags args ys → ys ≡ [])
      → ((b : B) (a : Around) (s : State) → all [] b a s ≡ Ok (b, s)) → f.Fits mid.plan made → Leads K In w (SoFar made args) rest old mid
      → Walked K (record { In = In; walk = w; form = f }) old mid (Ok made)
  loop_ends In w old mid args made none ends fits so_far =
      is_given K In w (SoFar made args) rest old mid f made fits so_far
      (λ p j stands is.
      (j.0, is.0, ap (λ ys. all ys j.0 p.around p.state) (none (bags_of p.run mid.plan) j.1 is.1) ∙ ends j.0 p.around p.state))
