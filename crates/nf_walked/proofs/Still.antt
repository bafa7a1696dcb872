-- Steps that change nothing, and steps of equal walks.
use Rattle.std.proofs.Common.{◌≡◌, Result, Ok, Err, IfOk, sym, subst}
use Rattle.nf_graph.specs.Meaning.{Bags}
use Rattle.nf_meaning.specs.declared.fault.LowerFault.{LowerFault}
use Rattle.nf_meaning.specs.declared.fault.LowerFault.TheVariants.{Mem}
use Rattle.nf_meaning.specs.Things.{Thing}
use Rattle.nf_meaning.specs.Walk.{Around, State, Walk}
use Rattle.nf_lowered.specs.Given.{Gives}
use Rattle.nf_scopes.specs.declared.things.Thing as memory
use Rattle.nf_plan.specs.Runs.{Run, bags_of}
use Rattle.nf_lowering.specs.declared.state.Lowering.{Lowering}
use Rattle.nf_lowering.specs.State.{IsLowering}
use Rattle.nf_leading.specs.Wanted.{AnswersFor}
use Rattle.nf_walked.specs.Forms.{a_thing}
use Rattle.nf_walked.specs.Steps.{Came, Due, Form, Known, StandsAt, Walked, at, from}
use Rattle.nf_walked.proofs.Goings.{goes_same, later_same}
use Rattle.nf_walked.proofs.Leads.{Ins}

module _ {I A B : Type 0} (K : Known) (f : Form A B) (In : Ins I) (w u : I → Walk B) (old new : Lowering) (r : Result A LowerFault) where
  -- one walk for another that comes to the same
  pub by_walk : ((j : I) (a : Around) (s : State) → u j a s ≡ w j a s) → Walked K (record { In = In; walk = w; form = f }) old new r
      → Walked K (record { In = In; walk = u; form = f }) old new r
  by_walk same h = record {
    later = h.later;
    goes = h.goes;
    fits = h.fits;
    follows = λ p y runs stands is. subst (λ v. Gives (Came K f p new) v r) (sym (same y p.around p.state)) (h.follows p y runs stands is);
  }

-- want of memory before any step
pub nothing_done : {I A B : Type 0} (K : Known) (d : Due I A B) (z : Lowering) → Walked K d z z (Err Mem)
nothing_done K d z = record { later = later_same z.plan; goes = tt; fits = tt; follows = λ p y runs stands is. tt }

-- an answer on a thing alone
module _ {C D : Type 0} (K : Known) (t : memory.Thing) (f : Form C D) (stands : Bags → C → D → Type 0) (w : Thing → Walk D) (z : Lowering) (keeps : IsLowering z)
    (fits_as : (x : Run) (v : C) (y : D) → stands (bags_of x z.plan) v y → f.Stands x z.plan v y) where
  pub still_from : (r : Result C LowerFault) → IfOk r (f.Fits z.plan) → AnswersFor t stands w r → Walked K (from a_thing t f w) z z r
  still_from (Ok v) fits h = record {
    later = later_same z.plan;
    goes = goes_same z keeps;
    fits = fits;
    follows = λ p y runs here is.
        (let it = h (bags_of p.run z.plan) y is p.around p.state in
        let P : State → Type 0 = λ s. StandsAt K (at s p) z in
        record { value = it.value; is = it.is; fits = record { stands = subst P (sym it.fits.1) here; out = fits_as p.run v it.value.0 it.fits.0 } });
  }
  still_from (Err e) fits h = record {
    later = later_same z.plan;
    goes = tt;
    fits = tt;
    follows = λ p y runs here is. h (bags_of p.run z.plan) y is p.around p.state;
  }
