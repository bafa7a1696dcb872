-- How steps of lowering join, as walks do.
use Rattle.std.proofs.Common.{Result, Ok, Err, refl, ap, sym, subst}
use Rattle.nf_meaning.specs.declared.fault.LowerFault.{LowerFault}
use Rattle.nf_meaning.specs.Lowered.{Lowered}
use Rattle.nf_meaning.specs.Walk.{◌>>=◌, Walk, Around, State, gives, then_by}
use Rattle.nf_lowered.specs.Given.{Gives}
use Rattle.nf_plan.specs.declared.builder.PlanBuilder.{PlanBuilder}
use Rattle.nf_plan.specs.Runs.{Run}
use Rattle.nf_follows.specs.Lowers.{Kind, Owed, Gave, Lowers, Lasts}
use Rattle.nf_follows.proofs.Growth.{extends_same, extends_again, runs_first}
use Rattle.nf_follows.proofs.Steps.{fault_on}

module _ {S I A B C D : Type 0} (k : Kind S) (o : Owed I A B) (Out : Run → PlanBuilder → C → D → Type 0) (old mid : S) where
  -- both steps
  abbrev pub both : (I → B → Walk D) → Owed I C D
  both rest = record { In = o.In; walk = λ y. o.walk y >>= rest y; Out = Out }

  -- the second step, of what the first came to and of what the first was of
  abbrev pub second : (I → B → Walk D) → A → Owed (I × B) C D
  second rest m = record { In = λ x b p. o.In x b p.0 × o.Out x b m p.1; walk = λ p. rest p.0 p.1; Out = Out }

  -- what the second step gave, the whole gives
  as_whole : (rest : I → B → Walk D) (x : Run) (a : Around) (new : S) (m : A) (w : Lowered (D × State)) (r : Result C LowerFault) → Gives (Gave k (second rest m) x a new) w r
      → Gives (Gave k (both rest) x a new) w r
  as_whole rest x a new m w (Ok v) h = record { value = h.value; is = h.is; fits = record { stands = h.fits.stands; out = h.fits.out } }
  as_whole rest x a new m w (Err e) h = h

  -- one step after another
  pub then_step : (rest : I → B → Walk D) (new : S) (m : A) (r : Result C LowerFault) → Lasts o.In → Lowers k o old mid (Ok m) → Lowers k (second rest m) mid new r
      → Lowers k (both rest) old new r
  then_step rest new m r lasts one two = record {
    extends = extends_again (k.plan old) (k.plan mid) (k.plan new) one.extends two.extends;
    follows = λ x a s y runs stands is.
        (let first = one.follows x a s y (runs_first x (k.plan mid) (k.plan new) two.extends runs) stands is in
        let t = first.value.1 in
        let z = first.value.0 in
        let next = two.follows x a t (y, z) runs first.fits.stands (lasts x (k.plan old) (k.plan mid) y one.extends is, first.fits.out) in
        subst (λ w. Gives (Gave k (both rest) x a new) w r) (sym (ap (then_by a (rest y)) first.is)) (as_whole rest x a new m (rest y z a t) r next));
  }

  -- a fault of the first step is one of both
  pub then_fault : (rest : I → B → Walk D) (e : LowerFault) → Lowers k o old mid (Err e) → Lowers k (both rest) old mid (Err e)
  then_fault rest e one = record {
    extends = one.extends;
    follows = λ x a s y runs stands is. fault_on (o.walk y) (rest y) a s e (one.follows x a s y runs stands is);
  }

-- what needs no step
pub gives_step : {S I A B : Type 0} (k : Kind S) (In : Run → PlanBuilder → I → Type 0) (f : I → B) (Out : Run → PlanBuilder → A → B → Type 0) (old : S) (v : A)
    → ((x : Run) (y : I) → In x (k.plan old) y → Out x (k.plan old) v (f y)) → Lowers k (record { In = In; walk = λ y. gives (f y); Out = Out }) old old (Ok v)
gives_step k In f Out old v h = record {
  extends = extends_same (k.plan old);
  follows = λ x a s y runs stands is. record { value = (f y, s); is = refl; fits = record { stands = stands; out = h x y is } };
}
