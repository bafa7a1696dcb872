-- Statements between braces of their own.
use Rattle.std.proofs.Common.{◌≡◌, ◌++◌, ◌∷◌, [], ℕ, List, Ok, Err, ap}
use Rattle.nf_meaning.specs.declared.fault.LowerFault.{LowerFault}
use Rattle.nf_meaning.specs.Walk.{Scope, State, Walk, entering, in_braces, leaving, then_by, with_scope}
use Rattle.nf_lowered.proofs.Joining.{fault_by}
use Rattle.nf_scopes.specs.Standing.{HasBound}
use Rattle.nf_plan.specs.Runs.{Run}
use Rattle.nf_lowering.specs.declared.state.Lowering.{Lowering}
use Rattle.nf_lowering.specs.State.{IsLowering, StandsIn, calls_in}
use Rattle.nf_walked.specs.Forms.{nothing}
use Rattle.nf_walked.specs.Steps.{Goes, Known, Later, Point, StandsAt, Walked, due}
use Rattle.nf_walked.proofs.Goings.{goes_on, later_again}
use Rattle.nf_walked.proofs.Stepping.{goes_as, later_as}

-- what stands where braces begin, and where they end
abbrev pub Enters : Lowering → Lowering → Type 0
Enters old new =
    (braces : List (List (List ℕ))) (x : Run) (s : State) → StandsIn braces x old s
    → StandsIn (braces ++ s.scope.defined ∷ []) x new (record s { scope = entering s.scope }) × HasBound braces s.scope

abbrev pub Leaves : Lowering → Lowering → Type 0
Leaves old new =
    (braces : List (List (List ℕ))) (x : Run) (before : Scope) (s : State) → HasBound braces before → StandsIn (braces ++ before.defined ∷ []) x old s
    → StandsIn braces x new (record s { scope = leaving before s.scope })

-- nothing but the names of the body changes
pub record IsSame (old new : Lowering) : Type 0 where
  pub keeps : IsLowering new
  pub plan : new.plan ≡ old.plan
  pub calls : calls_in new ≡ calls_in old
  pub within : new.within ≡ old.within

same_later : (old new : Lowering) → IsSame old new → Later old.plan new.plan
same_later old new s = later_as old.plan new.plan s.plan

same_goes : (old new : Lowering) → IsSame old new → Goes old new
same_goes old new s = goes_as old new s.keeps s.calls s.plan s.within

module _ (K : Known) (w : Walk (Unit {0})) (old one two : Lowering) where
  -- the walk in the braces
  abbrev inner : Point → Point
  inner p = record p { braces = p.braces ++ p.state.scope.defined ∷ []; state = record p.state { scope = entering p.state.scope } }

  entered : Enters old one → (p : Point) → StandsAt K p old → StandsAt K (inner p) one
  entered enters p stands = record { body = (enters p.braces p.run p.state stands.body).0; around = stands.around }

  abbrev back : Scope → Walk (Unit {0})
  back x = with_scope (leaving x)

  pub braced : (new : Lowering) → Enters old one → IsSame old one → Walked K (due nothing w) one two (Ok tt) → Leaves two new → IsSame two new
      → Walked K (due nothing (in_braces w)) old new (Ok tt)
  braced new enters first body leaves last = record {
    later = later_again old.plan one.plan new.plan (same_later old one first) (later_again one.plan two.plan new.plan body.later (same_later two new last));
    goes = goes_on old one new (same_goes old one first) (goes_on one two new body.goes (same_goes two new last));
    fits = tt;
    follows = λ p y runs stands is.
        (let at_first = enters p.braces p.run p.state stands.body in
        let it = body.follows (inner p) tt ((same_later two new last).runs p.run runs) (entered enters p stands) tt in
        let s = it.value.1 in
        record {
          value = (tt, record s { scope = leaving p.state.scope s.scope });
          is = ap (then_by p.around (λ v. back p.state.scope)) it.is;
          fits = record {
            stands = record {
              body = leaves p.braces p.run p.state.scope s at_first.1 it.fits.stands.body;
              around = stands.around;
            };
            out = tt;
          };
        });
  }

  pub braces_fail : (e : LowerFault) → Enters old one → IsSame old one → Walked K (due nothing w) one two (Err e) → Walked K (due nothing (in_braces w)) old two (Err e)
  braces_fail e enters first body = record {
    later = later_again old.plan one.plan two.plan (same_later old one first) body.later;
    goes = tt;
    fits = tt;
    follows = λ p y runs stands is.
        fault_by (w p.around (inner p).state) (in_braces w p.around p.state) e (λ k. ap (then_by p.around (λ v. back p.state.scope)) k)
        (body.follows (inner p) tt runs (entered enters p stands) tt);
  }
